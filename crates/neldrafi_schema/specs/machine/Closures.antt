-- The closures that call string keywords: when they may be called, and that what they answer is what
-- the keywords report by some lists.
use Rattle.std.specs.Prelude.{◌≡◌, ◌↔◌, ℕ, List, [], Bool, IsTrue, Result, IfOk, Option, option_map, Vec}
use Rattle.std.specs.Borrow.{Bor}
use Rattle.std.specs.Fn.{Shared}
use Rattle.std.specs.declared.alloc.Global.{Global}
use Rattle.strkw_report.specs.Kinds.{Report}
use Rattle.strkw_report.specs.declared.error.Site.{Site}
use Rattle.strkw_pattern.specs.declared.engine.Outcome.{Outcome}
use Rattle.strkw_keywords.specs.Meanings.{Lists}
use Rattle.strkw_keywords.specs.Validators.{assertions_of}
use Rattle.strkw_keywords.specs.declared.validator.Validator.{Validator}
use Rattle.strkw_keywords.specs.Errors.{NodeReports}
use Rattle.neldrafi_schema.specs.Meaning.{TextReports}
use Rattle.neldrafi_schema.specs.Schemas.{Header}

-- a text, or none, as it is handed to a closure
abbrev pub Handed : Type 0
Handed = Option (Bor (List ℕ))

abbrev pub text_in : Handed → Option (List ℕ)
text_in = option_map (λ s. s.now)

module _ {E X : Type 0} (outcome : E → List ℕ → Outcome) (lists : Lists) (v : Validator E)
    (text : Option (List ℕ)) where
  -- whether a text has no errors by a string keyword
  abbrev pub IsTextVerdict : Result Bool X → Type 0
  IsTextVerdict r = IfOk r (λ b. (header : Header) (word : List ℕ) (site : Site) → IsTrue b
      ↔ TextReports lists header word (assertions_of outcome v) text site [])

  -- its errors
  abbrev pub AreTextErrors : Site → Result (Vec Report Global) X → Type 0
  AreTextErrors site r = IfOk r (λ es. NodeReports (assertions_of outcome v) lists site text es.items)

module _ {E F X : Type 0} (call : Shared F (Bor (Validator E) × (Handed × Unit {0}))
    (Result Bool X)) (f : F) where
  abbrev pub MayTest : Validator E → Type 0
  MayTest v = (p : Bor (Validator E)) (x : Handed) → p.now ≡ v → call.pre f (p, (x, tt))

  abbrev pub Tests : (E → List ℕ → Outcome) → Lists → Type 0
  Tests outcome lists = (p : Bor (Validator E)) (x : Handed) (r : Result Bool X)
      → call.post f (p, (x, tt)) r → IsTextVerdict outcome lists p.now (text_in x) r

module _ {E F X : Type 0} (call : Shared F
    (Bor (Validator E) × (Handed × (Bor Site × Unit {0}))) (Result (Vec Report Global) X)) (f : F) where
  abbrev pub MayFind : Validator E → Type 0
  MayFind v = (p : Bor (Validator E)) (x : Handed) (site : Bor Site) → p.now ≡ v
      → call.pre f (p, (x, (site, tt)))

  abbrev pub Finds : (E → List ℕ → Outcome) → Lists → Type 0
  Finds outcome lists = (p : Bor (Validator E)) (x : Handed) (site : Bor Site)
      (r : Result (Vec Report Global) X) → call.post f (p, (x, (site, tt))) r
      → AreTextErrors outcome lists p.now (text_in x) site.now r
