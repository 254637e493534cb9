use Rattle.std.proofs.Common.{refl}
use Rattle.std.specs.Str.{chars}
use Rattle.strkw_text.proofs.Equivalences.{carry}
use Rattle.strkw_uri.specs.Characters.{is_query_char}
use Rattle.strkw_uri.specs.Uri.{Fragment}
use Rattle.strkw_uri.specs.Scan.{alphabet}
use Rattle.strkw_uri.specs.declared.part.Part.TheVariants.{QueryChar}
use Rattle.strkw_uri.proofs.Encodings.{read_part, optional_not, optional_stops}
use Rattle.strkw_uri.proofs.Parts.{no_percent, no_hash_in_query}
use Rattle.strkw_uri.proofs.tail.is_query_and_fragment.Goals as goal

pub returns-in-Some : goal.returns-in-Some
returns-in-Some c =
    let K = alphabet c.args.syntax in
    carry c.is_optional_fragment.ensures
    (read_part 63 (is_query_char K) _ _ (chars c.in-Some.rest.now) _ c.in-Some.ensures.cases (optional_not 35 (Fragment K) 63 _ _ c.in-Some.ensures.cases refl)
    (no_percent c.args.syntax QueryChar) (optional_stops (is_query_char K) 35 (Fragment K) (no_hash_in_query c.args.syntax) refl) c.skip.ensures)
