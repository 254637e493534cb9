-- On what stands for a built-in format.
use Rattle.std.proofs.Common.{◌≡◌, ℕ, List, [], ◌∷◌, true, Some, None, refl, Ok}
use Rattle.serde_json.specs.Data.{Data, string}
use Rattle.serde_json.specs.Find.{as_str}
use Rattle.strkw_pattern.specs.declared.engine.Outcome.{Outcome}
use Rattle.strkw_keywords.specs.declared.keyword.Keyword.TheVariants.{Format}
use Rattle.strkw_keywords.specs.declared.validator.Validator.{Validator}
use Rattle.strkw_keywords.specs.Meanings.{builtin, row_names, first_named}
use Rattle.strkw_keywords.specs.Demands.{is_format}
use Rattle.strkw_keywords.specs.Errors.{assertions_at}
use Rattle.strkw_keywords.specs.Remarks.{remark_at}
use Rattle.strkw_keywords.specs.Validators.{place_of, assertions_of, remark_made}
use Rattle.strkw_keywords.specs.Object.{Settings, gives, checks_formats, format_entry}
use Rattle.strkw_keywords.specs.Compiled.{single_entry, IsBuilt}
use Rattle.strkw_formats.specs.declared.builtin.BuiltinFormat.{BuiltinFormat}
use Rattle.strkw_formats.specs.Formats.{format_name, builtin_named}
use Rattle.strkw_formats.proofs.BuiltinNames.{named_so}

-- a checked built-in format that is no row's comes to its demand and a note of its name
format_given : (s : Settings) (d : Data) (name : List ℕ) (f : BuiltinFormat) → as_str d ≡ Some name → checks_formats s.options s.draft ≡ true
    → first_named name (row_names s.lists.formats) ≡ None → builtin_named s.draft name ≡ Some f
    → format_entry s d ≡ gives (is_format (builtin f) ∷ []) (Some (string name))
format_given s d name f is checks none known = rw (is, checks, none, known) refl

-- the validator of a built-in format stands for the format's entry
pub builtin_stands : {E : Type 0} (outcome : E → List ℕ → Outcome) (s : Settings) (d : Data) (name : List ℕ) (f : BuiltinFormat) (v : Validator E)
    → as_str d ≡ Some name → checks_formats s.options s.draft ≡ true → first_named name (row_names s.lists.formats) ≡ None → builtin_named s.draft name ≡ Some f
    → assertions_of outcome v ≡ assertions_at s.place (is_format (builtin f) ∷ []) → remark_made v ≡ Some
    (remark_at s.place.schema Format (string (format_name f)))
    → place_of v ≡ s.place → IsBuilt outcome s.place (single_entry Format (format_entry s d)) (Ok (Some v))
builtin_stands outcome s d name f v is checks none known asserts notes stands =
    let given = format_given s d name f is checks none known in
    record {
      answer = record {
        good = rw given refl;
        asserts = rw given asserts;
        notes = rw (given, notes, named_so s.draft name f known) refl;
        stands = stands;
      };
    }
