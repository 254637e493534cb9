use Rattle.strkw_text.proofs.Equivalences.{carry, iff_trans}
use Rattle.std.specs.Char.{is_ascii_digit}
use Rattle.strkw_text.specs.Abnf.{OneOf}
use Rattle.strkw_text.proofs.Optionals.{optional_then_at}
use Rattle.strkw_text.proofs.Runs.{run_then, OneOf-free}
use Rattle.strkw_uri.specs.Uri.{Port}
use Rattle.strkw_uri.specs.Scan.{alphabet, PathAndTail}
use Rattle.strkw_uri.proofs.Delimiters.{path_no_colon, path_no_digit}
use Rattle.strkw_uri.proofs.authority.is_port_and_tail.Goals as goal

pub returns-in-Some : goal.returns-in-Some
returns-in-Some c =
    let K = alphabet c.args.syntax in
    carry c.is_path_and_tail.ensures
    (iff_trans (optional_then_at 58 Port (PathAndTail K) _ _ c.in-Some.ensures.cases (λ h. path_no_colon K _ h _ c.in-Some.ensures.cases))
    (run_then (OneOf is_ascii_digit) (PathAndTail K) _ _ (OneOf-free is_ascii_digit) (path_no_digit K) c.skip_class.ensures))
