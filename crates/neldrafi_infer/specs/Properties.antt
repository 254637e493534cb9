-- What is held of a property, by the values that were seen of it.
use Rattle.std.specs.Prelude.{◌≡◌, ◌⊎◌, ℕ, List, [], ◌∷◌, Bool, true, false, IsTrue, ◌==◌, ◌&&◌, ◌||◌, ◌-◌, ◌/◌, not, nat_le, nat_lt, All, count_by, filter, length, map}
use Rattle.std.specs.List.{list_all}
use Rattle.neldrafi_infer.specs.Kinds.{is_null, is_text}
use Rattle.neldrafi_infer.specs.Hypotheses.{Seen, is_about, is_of_type}
use Rattle.neldrafi_infer.specs.Tallies.{AreMisfits, IsTallied}
use Rattle.neldrafi_infer.specs.Words.{AreWords, distinct, times}
use Rattle.neldrafi_infer.specs.declared.hypotheses.Format.TheVariants.{Date, Time, DateTime, Duration, Uuid, Ipv4, Ipv6, Uri}
use Rattle.neldrafi_infer.specs.declared.hypotheses.ValueType.{ValueType}
use Rattle.neldrafi_infer.specs.declared.hypotheses.ValueType.TheVariants as of
use Rattle.neldrafi_infer.specs.declared.hypotheses.Hypothesis.{Hypothesis}
use Rattle.neldrafi_infer.specs.declared.hypotheses.Hypothesis.TheVariants.{OfType, OfFormat}
use Rattle.neldrafi_infer.specs.declared.property.Group.{Group}
use Rattle.neldrafi_infer.specs.declared.property.Group.TheVariants.{Types, Formats}
use Rattle.neldrafi_infer.specs.declared.property.Property.{Property}

-- the hypotheses, in the order in which the first that holds is held
abbrev pub hypotheses : List Hypothesis
hypotheses = OfType of.Boolean ∷ OfType of.Integer ∷ OfType of.Number ∷ OfType of.String
    ∷ OfType of.Array ∷ OfType of.Object ∷ OfFormat Date ∷ OfFormat Time ∷ OfFormat DateTime
    ∷ OfFormat Duration ∷ OfFormat Uuid ∷ OfFormat Ipv4 ∷ OfFormat Ipv6 ∷ OfFormat Uri ∷ []

abbrev pub is_in : Group → Hypothesis → Bool
is_in Types (OfType t) = true
is_in Types (OfFormat f) = false
is_in Formats (OfType t) = false
is_in Formats (OfFormat f) = true

-- how many of the values the hypothesis is about
abbrev pub about_count : Hypothesis → List Seen → ℕ
about_count h ss = count_by (λ s. is_about h s.kind) ss

-- there are n values, and none of them is a misfit, or at most one of 100 is and 50 fit
abbrev pub is_nearly : ℕ → ℕ → Bool
is_nearly misfits n =
    nat_lt 0 n && (misfits == 0 || (nat_le misfits (n / 100) && nat_le 50 (n - misfits)))

-- the hypothesis is about some of the values, and nearly all of these fit
abbrev pub Holds : List Seen → Hypothesis → Type 0
Holds ss h = (misfits : List Seen) × AreMisfits h ss misfits
    × IsTrue (is_nearly (length misfits) (about_count h ss))

-- one of the group holds
abbrev pub HoldsIn : Group → List Seen → Hypothesis → Type 0
HoldsIn g ss h = IsTrue (is_in g h) × Holds ss h

-- it is the first in the list of which this is said
abbrev pub IsFirst : (Hypothesis → Type 0) → List Hypothesis → Hypothesis → Type 0
IsFirst P [] h = ⊥
IsFirst P (x ∷ xs) h = (P x × (x ≡ h)) ⊎ ((P x → ⊥) × IsFirst P xs h)

-- how many values are of a type
abbrev pub type_count : ValueType → List Seen → ℕ
type_count t ss = count_by (λ s. is_of_type t s.kind) ss

-- the texts among the values
abbrev pub texts_of : List Seen → List (List ℕ)
texts_of ss = map (λ s. s.text) (filter (λ s. is_text s.kind) ss)

-- the texts are at least 50, and at most ten words, of which each comes at least twice
abbrev pub are_held : List (List ℕ) → Bool
are_held texts = nat_le 50 (length texts) && (not (nat_lt 10 (length (distinct texts)))
    && list_all (λ word. nat_le 2 (times word texts)) (distinct texts))

-- the property is that of which these values were seen
pub record IsPropertyOf (ss : List Seen) (p : Property) : Type 0 where
  pub total : p.total ≡ length ss
  pub values : p.values ≡ count_by (λ s. not (is_null s.kind)) ss
  pub texts : p.texts ≡ count_by (λ s. is_text s.kind) ss
  pub hypotheses : map (λ t. t.hypothesis) p.tallies.items ≡ hypotheses
  pub tallies : All (IsTallied ss) p.tallies.items
  pub words : AreWords (texts_of ss) p.words
