use Rattle.std.proofs.Common.{refl}
use Rattle.strkw_text.proofs.Equivalences.{carry}
use Rattle.strkw_text.proofs.Runs.{run_whole}
use Rattle.strkw_uri.specs.Characters.{is_fragment_char}
use Rattle.strkw_uri.specs.Uri.{Encoded}
use Rattle.strkw_uri.specs.Scan.{alphabet}
use Rattle.strkw_uri.specs.declared.part.Part.TheVariants.{FragmentChar}
use Rattle.strkw_uri.proofs.Encodings.{encoded_free, nothing_stops}
use Rattle.strkw_uri.proofs.Parts.{no_percent}
use Rattle.strkw_uri.proofs.tail.is_fragment.Goals as goal

pub returns : goal.returns
returns c =
    let class = is_fragment_char (alphabet c.args.syntax) in
    carry c.is_end.ensures (run_whole (Encoded class) _ _ (encoded_free class (no_percent c.args.syntax FragmentChar)) (nothing_stops class _ refl)
    c.skip.ensures)
