use Rattle.std.proofs.Common.{get_or, sym}
use Rattle.strkw_text.proofs.Laws.{starts_one}
use Rattle.strkw_mail.specs.Scan.{is_class_char}
use Rattle.strkw_mail.proofs.Scans.{first_and_rest}
use Rattle.strkw_mail.proofs.scan.after_one.Goals as goal

pub returns-in-len1-up-clause-cases : goal.returns-in-len1-up-clause-cases
returns-in-len1-up-clause-cases c = starts_one (is_class_char c.args.class) (get_or c.args.bytes.now 0 0) _ _ (sym c.if-contains.ensures)
    (first_and_rest c.args.bytes.now c.in-len1-up.len_at_least)
