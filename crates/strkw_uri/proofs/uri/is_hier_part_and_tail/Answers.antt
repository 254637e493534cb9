use Rattle.strkw_text.proofs.Equivalences.{carry, iff_trans}
use Rattle.strkw_text.specs.Abnf.{◌⨾◌}
use Rattle.strkw_uri.specs.Characters.{is_pchar}
use Rattle.strkw_uri.specs.Uri.{Authority, PathAbempty, QueryAndFragment}
use Rattle.strkw_uri.specs.Scan.{alphabet, AuthorityAndTail}
use Rattle.strkw_uri.proofs.Authorities.{authority_regroup}
use Rattle.strkw_uri.proofs.Delimiters.{tail_no_slash}
use Rattle.strkw_uri.proofs.Hier.{hier_slash, hier_none}
use Rattle.strkw_uri.proofs.Parts.{no_slash_in_segment}
use Rattle.strkw_uri.proofs.Paths.{segments_then}
use Rattle.strkw_uri.proofs.uri.is_hier_part_and_tail.Goals as goal

pub returns-in-Some : goal.returns-in-Some
returns-in-Some c =
    let s = c.args.syntax in
    let K = alphabet s in
    carry c.is_behind_slash.ensures
    (hier_slash (Authority K ⨾ PathAbempty K) (QueryAndFragment K) (is_pchar K) (is_pchar K) (no_slash_in_segment s) (no_slash_in_segment s) (tail_no_slash K)
    (AuthorityAndTail K) (authority_regroup K) _ _ c.in-Some.ensures.cases)

pub returns-in-None : goal.returns-in-None
returns-in-None c =
    let s = c.args.syntax in
    let K = alphabet s in
    carry c.is_in_path_and_tail.ensures
    (iff_trans (hier_none (Authority K ⨾ PathAbempty K) (QueryAndFragment K) (is_pchar K) (is_pchar K) (no_slash_in_segment s) (no_slash_in_segment s)
    (tail_no_slash K) _ c.in-None.ensures.cases)
    (segments_then (is_pchar K) (QueryAndFragment K) _))
