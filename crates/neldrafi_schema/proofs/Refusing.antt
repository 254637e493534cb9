-- What a refusal says, by its kind.
use Rattle.std.proofs.Common.{◌≡◌, ◌++◌, List, ℕ, refl}
use Rattle.std.specs.Prelude.{codes}
use Rattle.neldrafi_schema.specs.declared.refusal.SchemaErrorKind.{SchemaErrorKind}
use Rattle.neldrafi_schema.specs.declared.refusal.SchemaErrorKind.TheVariants.{CircularReference, Memory, Text, UnknownDialect, UnresolvedReference, WrongType}
use Rattle.neldrafi_schema.specs.Explanations.{explanation, refusal_text}
use Rattle.neldrafi_schema.specs.machine.Problems.{reason_of}

pub placed_text : (kind : SchemaErrorKind) (uri location : List ℕ) → (kind ≡ Memory → ⊥)
    → codes "at " ++ uri ++ codes "#" ++ location ++ codes ": " ++ explanation (reason_of kind) ≡ refusal_text (reason_of kind) uri location
placed_text WrongType uri location other = refl
placed_text UnresolvedReference uri location other = refl
placed_text CircularReference uri location other = refl
placed_text UnknownDialect uri location other = refl
placed_text (Text refusal) uri location other = refl
placed_text Memory uri location other = absurd (other refl)
