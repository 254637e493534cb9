use Rattle.strkw_text.proofs.Equivalences.{carry, only_first, only_second}
use Rattle.strkw_text.proofs.Laws.{literal_at, literal_not}
use Rattle.strkw_uri.specs.Scan.{alphabet, AuthorityAndTail}
use Rattle.strkw_uri.proofs.uri.is_behind_slash.Goals as goal

pub returns-in-Some : goal.returns-in-Some
returns-in-Some c =
    let K = alphabet c.args.syntax in
    carry c.is_authority_and_tail.ensures (only_first (λ q. q.0 _ c.in-Some.ensures.cases) (literal_at (AuthorityAndTail K) 47 _ _ c.in-Some.ensures.cases))

pub returns-in-None : goal.returns-in-None
returns-in-None c =
    let K = alphabet c.args.syntax in
    carry c.is_in_path_and_tail.ensures (only_second (literal_not (AuthorityAndTail K) 47 _ c.in-None.ensures.cases)
    (λ q. q.1, λ h. (c.in-None.ensures.cases, h)))
