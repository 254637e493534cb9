-- String keywords, alone.
use Rattle.std.proofs.Common.{◌≡◌, ◌↔◌, ℕ, List, [], ◌∷◌, Bool, IsTrue, IfOk, Option, Result, map, refl, subst}
use Rattle.std.proofs.lemmas.Result.{IfOk-weaker}
use Rattle.strkw_report.specs.Kinds.{Report}
use Rattle.strkw_report.specs.declared.error.Site.{Site}
use Rattle.strkw_pattern.specs.declared.engine.Outcome.{Outcome}
use Rattle.strkw_keywords.specs.Errors.{Assertion, NodeReports}
use Rattle.strkw_keywords.specs.Meanings.{Lists}
use Rattle.strkw_keywords.specs.Validators.{assertions_of}
use Rattle.strkw_keywords.specs.declared.validator.Validator.{Validator}
use Rattle.neldrafi_schema.specs.Errors.{of_text}
use Rattle.neldrafi_schema.specs.Meaning.{TextReports}
use Rattle.neldrafi_schema.specs.Schemas.{Header}
use Rattle.neldrafi_schema.specs.machine.Closures.{IsTextVerdict}

pub no_reports : (at : List ℕ) (rs : List Report) → [] ≡ map (of_text at) rs → rs ≡ []
no_reports at [] e = refl
no_reports at (r ∷ rs) e = cc

-- a string keyword reports nothing of a schema just where it reports nothing of the text
nothing_alike : (lists : Lists) (asserted : List Assertion) (text : Option (List ℕ)) (b : Bool) → ((site : Site) → IsTrue b ↔ NodeReports asserted lists site text [])
    → (header : Header) (word : List ℕ) (site : Site) → IsTrue b ↔ TextReports lists header word asserted text site []
nothing_alike lists asserted text b h header word site = (
  λ t. ([], (h site).0 t, refl),
  λ (rs, reported, e). (h site).1 (subst (NodeReports asserted lists site text) (no_reports _ rs e) reported),
)

pub is_verdict : {E X : Type 0} (outcome : E → List ℕ → Outcome) (lists : Lists) (v : Validator E) (text : Option (List ℕ)) (r : Result Bool X)
    → IfOk r (λ b. (site : Site) → IsTrue b ↔ NodeReports (assertions_of outcome v) lists site text []) → IsTextVerdict outcome lists v text r
is_verdict outcome lists v text r = IfOk-weaker r _ _ (nothing_alike lists (assertions_of outcome v) text)
