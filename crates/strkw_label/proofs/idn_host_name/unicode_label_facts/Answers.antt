use Rattle.std.proofs.Common.{arith, sym, ◌∙◌}
use Rattle.std.proofs.lemmas.Bool.{false≢true}
use Rattle.strkw_label.proofs.IdnLabels.{form_past_ascii, too_long, length_past_ascii}
use Rattle.strkw_label.proofs.idn_host_name.unicode_label_facts.Goals as goal

pub returns-then-not-branch-clause-none : goal.returns-then-not-branch-clause-none
returns-then-not-branch-clause-none c = λ form s.
    let h = form_past_ascii c.args.label.now form c.requires.beyond_ascii s in
    false≢true (sym c.if-not-branch.true ∙ c.in_ok-is_unicode_label.ensures.1 h.0)

pub returns-then-encoded_length-gt-LONGEST_LABEL-clause-none : goal.returns-then-encoded_length-gt-LONGEST_LABEL-clause-none
returns-then-encoded_length-gt-LONGEST_LABEL-clause-none c = λ form s.
    too_long c.args.label.now form c.requires.beyond_ascii (omega (arith, c.in_ok-encoded_length.ensures, c.if-encoded_length-gt-LONGEST_LABEL.true)) s

pub of-requires : goal.of-requires
of-requires c = c.in_ok-encoded_length.ensures ∙ length_past_ascii c.args.label.now c.requires.beyond_ascii
