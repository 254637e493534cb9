-- On what stands for patterns.
use Rattle.std.proofs.Common.{◌≡◌, ◌⊎◌, ℕ, List, [], ◌∷◌, true, false, Some, None, refl, sym, ap, subst, inl, inr, Ok, Err}
use Rattle.std.specs.Str.{chars}
use Rattle.std.specs.Prelude.{MatchOption}
use Rattle.serde_json.specs.Data.{Data}
use Rattle.serde_json.specs.Find.{as_str}
use Rattle.strkw_pattern.specs.declared.engine.Outcome.{Outcome}
use Rattle.strkw_pattern.specs.Literal.{Literal, IsLiteral, IsWellFormed, spelling}
use Rattle.strkw_pattern.specs.Matcher.{IsSearch}
use Rattle.strkw_keywords.specs.declared.keyword.Keyword.TheVariants.{Pattern}
use Rattle.strkw_keywords.specs.Keywords.{keyword_name}
use Rattle.strkw_keywords.specs.Demands.{compares, matches}
use Rattle.strkw_keywords.specs.Errors.{assertions_at}
use Rattle.strkw_keywords.specs.Object.{Settings, Entry, malformed, gives, no_string, engine_entry, IsPatternEntry, IsPatternValue}
use Rattle.strkw_keywords.specs.Validators.{place_of, assertions_of, remark_made}
use Rattle.strkw_keywords.specs.declared.validator.Validator.{Validator}
use Rattle.strkw_report.specs.Paths.{path_below}
use Rattle.strkw_report.specs.Refusals.{regex}
use Rattle.strkw_keywords.specs.Places.{Place}
use Rattle.strkw_keywords.specs.declared.compile.Refused.{Refused}
use Rattle.strkw_keywords.specs.declared.compile.Refused.TheVariants.{Memory}
use Rattle.strkw_keywords.specs.Compiled.{refused_at, IsPatternBuilt}
use Rattle.strkw_keywords.proofs.Entries.{pattern_exists}
use Rattle.strkw_keywords.proofs.Refusals.{refused_value}

-- the entry of a pattern
text_entry : (s : Settings) (d : Data) (p : List ℕ) (e : Entry) → Some p ≡ as_str d → IsPatternEntry s p e → IsPatternValue s d e
text_entry s d p e is h = subst (λ o. MatchOption o (e ≡ malformed Pattern (no_string d)) (λ q. IsPatternEntry s q e)) is h

-- what an engine matches stands for a pattern that is no literal and that the builder takes
pub engine_stands : {E : Type 0} (outcome : E → List ℕ → Outcome) (s : Settings) (d : Data) (p : List ℕ) (v : Validator E) → Some p ≡ as_str d
    → (IsLiteral (chars p) → ⊥) → s.takes (chars p) ≡ true → assertions_of outcome v ≡ assertions_at s.place (matches p (s.outcome (chars p)) ∷ [])
    → remark_made v ≡ None → place_of v ≡ s.place → IsPatternBuilt outcome s d (Ok (Some v))
engine_stands outcome s d p v is unspelled taken asserts quiet stands =
    record {
      entry = engine_entry s p true;
      is_entry = text_entry s d p (engine_entry s p true) is (inr (unspelled, ap (engine_entry s p) (sym taken)));
      answer = record { answer = record { good = refl; asserts = asserts; notes = rw quiet refl; stands = stands } };
    }

-- what compares stands for a literal whose search it answers
pub literal_stands : {E : Type 0} (outcome : E → List ℕ → Outcome) (s : Settings) (d : Data) (p : List ℕ) (o : List ℕ → Outcome) (v : Validator E)
    → Some p ≡ as_str d → ((l : Literal) × IsWellFormed l × (chars p ≡ spelling l) × IsSearch l o)
    → assertions_of outcome v ≡ assertions_at s.place (compares p o ∷ []) → remark_made v ≡ None → place_of v ≡ s.place → IsPatternBuilt outcome s d
    (Ok (Some v))
literal_stands outcome s d p o v is h asserts quiet stands =
    record {
      entry = gives (compares p o ∷ []) None;
      is_entry = text_entry s d p (gives (compares p o ∷ []) None) is (inl (h.0, o, h.1, h.2, h.3, refl));
      answer = record { answer = record { good = refl; asserts = asserts; notes = rw quiet refl; stands = stands } };
    }

-- out of memory, whatever the entry is
pub out_of_memory_refused : {E : Type 0} (outcome : E → List ℕ → Outcome) (s : Settings) (d : Data) (r : Refused) → r ≡ Memory
    → IsPatternBuilt outcome s d (Err r)
out_of_memory_refused outcome s d r e = let p = pattern_exists s (Some d) in record { entry = p.0; is_entry = p.1; answer = record { answer = inl e } }

-- a value that is no string
pub string_refused : {E : Type 0} (outcome : E → List ℕ → Outcome) (s : Settings) (d : Data) (r : Refused) → None ≡ as_str d
    → (r ≡ Memory) ⊎ ((place : Place) → refused_at place r ≡ record { reason = no_string d; location = path_below place.schema (keyword_name Pattern) })
    → IsPatternBuilt outcome s d (Err r)
string_refused outcome s d r is h =
    record {
      entry = malformed Pattern (no_string d);
      is_entry = subst (λ o. MatchOption o (malformed Pattern (no_string d) ≡ malformed Pattern (no_string d))
          (λ q. IsPatternEntry s q (malformed Pattern (no_string d)))) is refl;
      answer = refused_value outcome s.place Pattern Pattern (malformed Pattern (no_string d)) (no_string d) r refl h;
    }

-- a pattern that the builder does not take
pub regex_refused : {E : Type 0} (outcome : E → List ℕ → Outcome) (s : Settings) (d : Data) (p : List ℕ) (r : Refused) → Some p ≡ as_str d
    → (IsLiteral (chars p) → ⊥) → s.takes (chars p) ≡ false
    → ((place : Place) → refused_at place r ≡ record { reason = regex p; location = path_below place.schema (keyword_name Pattern) })
    → IsPatternBuilt outcome s d (Err r)
regex_refused outcome s d p r is unspelled refused h =
    record {
      entry = engine_entry s p false;
      is_entry = text_entry s d p (engine_entry s p false) is (inr (unspelled, ap (engine_entry s p) (sym refused)));
      answer = refused_value outcome s.place Pattern Pattern (engine_entry s p false) (regex p) r refl (inr h);
    }
