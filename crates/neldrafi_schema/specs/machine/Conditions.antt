-- What is known of `if`, and what `then` and `else` lead to by it.
use Rattle.std.specs.Prelude.{◌≡◌, ◌↔◌, ◌∷◌, ℕ, List, [], Bool, true, false, Option, IfSome, IsTrue}
use Rattle.serde_json.specs.Data.{Data}
use Rattle.strkw_report.specs.declared.error.Site.{Site}
use Rattle.strkw_keywords.specs.Meanings.{Lists}
use Rattle.neldrafi_schema.specs.declared.conditions.Choice.{Choice}
use Rattle.neldrafi_schema.specs.declared.conditions.Choice.TheVariants.{Unknown, Passes, Leads}
use Rattle.neldrafi_schema.specs.Meaning.{Below, KeywordReports}
use Rattle.neldrafi_schema.specs.Schemas.{Branch, Keyword, Header, Schema}

-- an instance has errors by a schema or none, wherever it is
abbrev pub IsVerdict : Below → Data → ℕ → Bool → Type 0
IsVerdict below d n b = (site : Site) → IsTrue b ↔ below n d site []

-- of which schema a verdict is known, and which
abbrev pub IsKnown : Below → Data → Option (ℕ × Bool) → Type 0
IsKnown below d known = IfSome known (λ p. IsVerdict below d p.0 p.1)

-- of two schemas the first counts or not, and the second is the condition
pub record AreTwo (bs : List Branch) (number : ℕ) : Type 0 where
  pub first : Branch
  pub test : Branch
  pub are : bs ≡ first ∷ test ∷ []
  pub is : test.schema ≡ number

-- there is one schema, the condition
abbrev pub IsOnly : List Branch → ℕ → Type 0
IsOnly bs number = (test : Branch) × (bs ≡ test ∷ []) × (test.schema ≡ number)

abbrev pub ChoosesAlone : List Branch → ℕ → Choice → Type 0
ChoosesAlone bs number Unknown = Unit {0}
ChoosesAlone bs number Passes = IsOnly bs number
ChoosesAlone bs number (Leads n) = ⊥

abbrev pub Chooses : List Branch → ℕ → Bool → Choice → Type 0
Chooses bs number counts Unknown = Unit {0}
Chooses bs number counts Passes = AreTwo bs number × (counts ≡ false)
Chooses bs number counts (Leads n) =
    (two : AreTwo bs number) × (two.first.schema ≡ n) × (counts ≡ true)

-- it reports nothing, or just where the schema does
abbrev pub Means : List Schema → Below → Lists → Header → List Keyword → Keyword → Data → Site → Choice
    → Type 0
Means schemas below lists header beside k d site Unknown = Unit {0}
Means schemas below lists header beside k d site Passes =
    KeywordReports schemas below lists header beside k d site []
Means schemas below lists header beside k d site (Leads n) = (b : Bool) → IsVerdict below d n b
    → IsTrue b ↔ KeywordReports schemas below lists header beside k d site []

abbrev pub Ends : (ℕ → Bool) → Choice → Type 0
Ends end (Leads n) = end n ≡ true
Ends end other = Unit {0}
