-- Verdicts by a compiled object are those by its schema object.
use Rattle.std.proofs.Common.{◌≡◌, ◌≢◌, ◌⊎◌, ◌↔◌, ap, ℕ, List, [], ◌∷◌, inl, inr, Some, None, refl, subst}
use Rattle.serde_json.specs.Data.{Members}
use Rattle.strkw_report.specs.Refusals.{reason_of, refusal_of, out_of_memory}
use Rattle.strkw_report.specs.declared.draft.Draft.{Draft}
use Rattle.strkw_report.specs.declared.refusal.CompileError.{CompileError}
use Rattle.strkw_pattern.specs.declared.engine.Outcome.{Outcome}
use Rattle.strkw_keywords.specs.Compiled.{out_of_memory_refusal}
use Rattle.strkw_keywords.specs.Object.{Settings, FirstRefusal}
use Rattle.strkw_object.specs.declared.strings.StringKeywords.{StringKeywords}
use Rattle.strkw_report.specs.Drafts.{draft_numbered}
use Rattle.std.specs.Prelude.{Result, Ok, Err, IfOk}
use Rattle.strkw_object.specs.Compiled.{IsCompiledFrom}
use Rattle.strkw_c.specs.declared.schemas.Failure.{Failure}
use Rattle.strkw_c.specs.declared.schemas.Failure.TheVariants.{Refused}
use Rattle.strkw_c.specs.declared.settings.Choices.{Choices}
use Rattle.strkw_c.specs.Settings.{choices_of, settings_for, settings_of}
use Rattle.strkw_c.specs.Verdicts.{HasFirstRefusal, Fails, IsVerdict, AreVerdicts}

-- what holds of the same texts gives the same verdict on one
verdict_alike : (P Q : List ℕ → Type 0) → ((text : List ℕ) → P text ↔ Q text) → (text : List ℕ) (verdict : ℕ) → IsVerdict P text verdict
    → IsVerdict Q text verdict
verdict_alike P Q same text verdict (inl (is, utf8, valid)) = inl (is, utf8, (same text).0 valid)
verdict_alike P Q same text verdict (inr (inl (is, utf8, not_valid))) = inr (inl (is, utf8, λ valid. not_valid ((same text).1 valid)))
verdict_alike P Q same text verdict (inr (inr (is, not_utf8))) = inr (inr (is, not_utf8))

-- what holds of the same texts gives the same verdicts
pub verdicts_alike : (P Q : List ℕ → Type 0) → ((text : List ℕ) → P text ↔ Q text) → (texts : List (List ℕ)) (verdicts : List ℕ)
    → AreVerdicts P texts verdicts → AreVerdicts Q texts verdicts
verdicts_alike P Q same [] [] are = tt
verdicts_alike P Q same [] (v ∷ vs) are = absurd are
verdicts_alike P Q same (t ∷ ts) [] are = absurd are
verdicts_alike P Q same (t ∷ ts) (v ∷ vs) are = (verdict_alike P Q same t v are.0, verdicts_alike P Q same ts vs are.1)

-- an object that is refused, and not as out of memory, has this first refusal
pub first_refusal : (s : Settings) (object : Members) (e : CompileError) → (refusal_of e ≡ out_of_memory_refusal) ⊎ FirstRefusal s object (Some (refusal_of e))
    → reason_of e.kind ≢ out_of_memory → FirstRefusal s object (Some (refusal_of e))
first_refusal s object e (inl none) had = absurd (had (ap (λ r. r.reason) none))
first_refusal s object e (inr first) had = first

-- the settings of two numbers that are a draft and choices
pub settings_are : (draft bits : ℕ) (d : Draft) (o : Choices) → draft_numbered draft ≡ Some d → choices_of bits ≡ Some o
    → settings_of draft bits ≡ Some (settings_for d o)
settings_are draft bits d o is_draft are_options = rw (is_draft, are_options) refl

-- a failure that is a refusal, under the settings of two numbers, is the first of the bytes by what the numbers set
pub refused_under : (draft bits : ℕ) (d : Draft) (o : Choices) (failure : Failure) (why : CompileError) (bytes : List ℕ)
    → draft_numbered draft ≡ Some d → choices_of bits ≡ Some o → failure ≡ Refused why → Fails failure (settings_for d o) bytes
    → (settings_of draft bits ≡ Some (settings_for d o)) × HasFirstRefusal (settings_for d o) bytes (Some (refusal_of why))
refused_under draft bits d o failure why bytes is_draft are_options is failed =
    let refused = subst (λ f. Fails f (settings_for d o) bytes) is failed in (settings_are draft bits d o is_draft are_options, refused.0)

-- a compiled object is not refused
pub not_refused : {E : Type 0} (outcome : E → List ℕ → Outcome) (s : Settings) (object : Members) (k : StringKeywords E) → IsCompiledFrom outcome s object k
    → FirstRefusal s object None
not_refused outcome s object k of = (of.entries, of.are_entries, of.good)

-- what two facts tell of a result, where it is one
pub two_ok : {T E : Type 0} (r : Result T E) (P Q R : T → Type 0) → ((x : T) → P x → Q x → R x) → IfOk r P → IfOk r Q → IfOk r R
two_ok (Ok x) P Q R both p q = both x p q
two_ok (Err e) P Q R both p q = tt
