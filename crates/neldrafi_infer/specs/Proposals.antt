-- What is proposed for values that were seen.
use Rattle.std.specs.Prelude.{◌≡◌, ◌⊎◌, ℕ, List, Bool, IsTrue, ◌==◌, ◌&&◌, All, length, nat_lt}
use Rattle.neldrafi_infer.specs.Hypotheses.{Seen, is_of_type}
use Rattle.neldrafi_infer.specs.Kinds.{is_null}
use Rattle.neldrafi_infer.specs.Properties.{HoldsIn, IsFirst, hypotheses, type_count}
use Rattle.neldrafi_infer.specs.declared.hypotheses.ValueType.{ValueType}
use Rattle.neldrafi_infer.specs.declared.hypotheses.ValueType.TheVariants as of
use Rattle.neldrafi_infer.specs.declared.hypotheses.Hypothesis.TheVariants.{OfType}
use Rattle.neldrafi_infer.specs.declared.property.Group.TheVariants.{Types}

-- some values are of the type; numbers are integers if all of them are
abbrev pub has_some : List Seen → ValueType → Bool
has_some ss of.Integer = nat_lt 0 (type_count of.Integer ss)
    && (type_count of.Integer ss == type_count of.Number ss)
has_some ss of.Number = nat_lt (type_count of.Integer ss) (type_count of.Number ss)
has_some ss of.Boolean = nat_lt 0 (type_count of.Boolean ss)
has_some ss of.String = nat_lt 0 (type_count of.String ss)
has_some ss of.Array = nat_lt 0 (type_count of.Array ss)
has_some ss of.Object = nat_lt 0 (type_count of.Object ss)

-- a type is proposed: it is the first that nearly all values have, or there is no such type, and some have it
abbrev pub IsProposed : List Seen → ValueType → Type 0
IsProposed ss t = IsFirst (HoldsIn Types ss) hypotheses (OfType t)
    ⊎ (All (λ h. HoldsIn Types ss h → ⊥) hypotheses × IsTrue (has_some ss t))

-- a value is null, or of a type that is proposed
abbrev pub HasProposed : List Seen → Seen → Type 0
HasProposed ss s = IsTrue (is_null s.kind)
    ⊎ ((t : ValueType) × IsProposed ss t × IsTrue (is_of_type t s.kind))
