use Rattle.strkw_text.proofs.Equivalences.{carry, iff_trans}
use Rattle.strkw_text.specs.Abnf.{◌⨾◌}
use Rattle.strkw_text.proofs.Runs.{run_then}
use Rattle.strkw_uri.specs.Characters.{is_pchar, is_nc_char}
use Rattle.strkw_uri.specs.Uri.{Encoded, Authority, PathAbempty, QueryAndFragment}
use Rattle.strkw_uri.specs.Scan.{alphabet, PathAndTail, AuthorityAndTail}
use Rattle.strkw_uri.specs.declared.part.Part.TheVariants.{SegmentNcChar}
use Rattle.strkw_uri.proofs.Authorities.{authority_regroup}
use Rattle.strkw_uri.proofs.Delimiters.{tail_no_slash, path_stops_nc}
use Rattle.strkw_uri.proofs.Encodings.{encoded_free}
use Rattle.strkw_uri.proofs.Hier.{hier_slash, hier_none}
use Rattle.strkw_uri.proofs.Parts.{no_percent, no_slash_in_segment, no_slash_in_nc}
use Rattle.strkw_uri.proofs.uri.is_relative_ref.Goals as goal

pub returns-in-Some : goal.returns-in-Some
returns-in-Some c =
    let s = c.args.syntax in
    let K = alphabet s in
    carry c.is_behind_slash.ensures
    (hier_slash (Authority K ⨾ PathAbempty K) (QueryAndFragment K) (is_nc_char K) (is_pchar K) (no_slash_in_nc s) (no_slash_in_segment s) (tail_no_slash K)
    (AuthorityAndTail K) (authority_regroup K) _ _ c.in-Some.ensures.cases)

pub returns-in-None : goal.returns-in-None
returns-in-None c =
    let s = c.args.syntax in
    let K = alphabet s in
    carry c.is_path_and_tail.ensures
    (iff_trans (hier_none (Authority K ⨾ PathAbempty K) (QueryAndFragment K) (is_nc_char K) (is_pchar K) (no_slash_in_nc s) (no_slash_in_segment s)
    (tail_no_slash K) _ c.in-None.ensures.cases)
    (run_then (Encoded (is_nc_char K)) (PathAndTail K) _ _ (encoded_free (is_nc_char K) (no_percent s SegmentNcChar)) (path_stops_nc s) c.skip.ensures))
