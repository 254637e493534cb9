use Rattle.strkw_text.proofs.Equivalences.{carry}
use Rattle.strkw_text.proofs.Optionals.{repeat_then_off}
use Rattle.strkw_uri.specs.Characters.{is_pchar}
use Rattle.strkw_uri.specs.Uri.{QueryAndFragment, Segment}
use Rattle.strkw_uri.specs.Scan.{alphabet}
use Rattle.strkw_uri.proofs.Delimiters.{tail_no_slash}
use Rattle.strkw_uri.proofs.Paths.{slashes_at}
use Rattle.strkw_uri.proofs.path.is_path_and_tail.Goals as goal

pub returns-in-Some : goal.returns-in-Some
returns-in-Some c =
    let K = alphabet c.args.syntax in
    carry c.is_in_path_and_tail.ensures (slashes_at (is_pchar K) (QueryAndFragment K) _ _ c.in-Some.ensures.cases
    (λ h. tail_no_slash K _ h _ c.in-Some.ensures.cases))

pub returns-in-None : goal.returns-in-None
returns-in-None c =
    let K = alphabet c.args.syntax in
    carry c.is_query_and_fragment.ensures (repeat_then_off 47 (Segment K) (QueryAndFragment K) _ c.in-None.ensures.cases)
