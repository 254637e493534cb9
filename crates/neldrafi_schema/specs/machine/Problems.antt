-- Problems as the code keeps them: the first.
use Rattle.std.specs.Prelude.{◌≡◌, ◌++◌, ℕ, List, [], ◌∷◌, Option, Some, None}
use Rattle.strkw_report.specs.Refusals.{reason_of as text_reason_of}
use Rattle.neldrafi_schema.specs.declared.problem.Problem.{Problem}
use Rattle.neldrafi_schema.specs.declared.refusal.SchemaErrorKind.{SchemaErrorKind}
use Rattle.neldrafi_schema.specs.declared.refusal.SchemaErrorKind.TheVariants.{WrongType, UnresolvedReference}
use Rattle.neldrafi_schema.specs.declared.refusal.SchemaErrorKind.TheVariants.{CircularReference, Text}
use Rattle.neldrafi_schema.specs.declared.refusal.SchemaErrorKind.TheVariants.{UnknownDialect}
use Rattle.neldrafi_schema.specs.declared.refusal.SchemaErrorKind.TheVariants.{Memory}
use Rattle.neldrafi_schema.specs.Schemas.{Reason, wrong_type, unresolved_reference, circular_reference, unknown_dialect}
use Rattle.neldrafi_schema.specs.Schemas.{by_string_keyword, out_of_memory}
use Rattle.neldrafi_schema.specs.Refusals.{IsFirst, Problem as Refused}
use Rattle.neldrafi_schema.specs.Paths.{Path, key}
use Rattle.neldrafi_schema.specs.machine.Compiled.{path_of}

abbrev pub reason_of : SchemaErrorKind → Reason
reason_of WrongType = wrong_type
reason_of UnresolvedReference = unresolved_reference
reason_of CircularReference = circular_reference
reason_of UnknownDialect = unknown_dialect
reason_of (Text refusal) = by_string_keyword (text_reason_of refusal.kind)
reason_of Memory = out_of_memory

abbrev pub problem_of : Problem → Refused
problem_of p = (path_of p.path.items, reason_of p.kind)

-- of all problems, the first is kept
abbrev pub IsKept : List Refused → Option Problem → Type 0
IsKept all None = all ≡ []
IsKept all (Some p) = IsFirst all (problem_of p)

-- these problems were noted behind others
pub record Notes (added : List Refused) (old new : Option Problem) : Type 0 where
  pub kept : (all : List Refused) → IsKept all old → IsKept (all ++ added) new

-- the problem of a reference of this name, in the schema at a path
abbrev pub endless_at : Path → Option (List ℕ) → List Refused
endless_at path None = []
endless_at path (Some name) = (path ++ key name ∷ [], circular_reference) ∷ []
