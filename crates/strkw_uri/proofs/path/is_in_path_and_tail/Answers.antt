use Rattle.strkw_text.proofs.Equivalences.{carry}
use Rattle.strkw_text.proofs.Runs.{run_then}
use Rattle.strkw_uri.specs.Characters.{is_pchar}
use Rattle.strkw_uri.specs.Uri.{Encoded, QueryAndFragment}
use Rattle.strkw_uri.specs.Scan.{alphabet, or_slash}
use Rattle.strkw_uri.specs.declared.part.Part.TheVariants.{PathChar}
use Rattle.strkw_uri.proofs.Delimiters.{tail_stops_path}
use Rattle.strkw_uri.proofs.Encodings.{encoded_free}
use Rattle.strkw_uri.proofs.Parts.{no_percent}
use Rattle.strkw_uri.proofs.path.is_in_path_and_tail.Goals as goal

pub returns : goal.returns
returns c =
    let K = alphabet c.args.syntax in
    let class = or_slash (is_pchar K) in
    carry c.is_query_and_fragment.ensures
    (run_then (Encoded class) (QueryAndFragment K) _ _ (encoded_free class (no_percent c.args.syntax PathChar)) (tail_stops_path c.args.syntax) c.skip.ensures)
