-- What the text of a key reads as.
use Rattle.std.proofs.Common.{◌≡◌, ℕ, List, false, Option, refl}
use Rattle.std.specs.Option.{option_map_or}
use Rattle.std.specs.Prelude.{option_and_then}
use Rattle.std.specs.Str.{bytes_eq}
use Rattle.serde_json.specs.Find.{as_str}
use Rattle.serde_json.specs.Read.{read}
use Rattle.neldrafi_position.specs.Places.{names}

pub names_as : (key name : List ℕ) (o : Option (List ℕ)) → o ≡ option_and_then as_str (read key) → names key name ≡ option_map_or (bytes_eq name) o false
unfolding names
names_as key name o e = rw e refl
