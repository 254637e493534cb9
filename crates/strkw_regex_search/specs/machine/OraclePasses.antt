-- What the lookaheads of a pattern look for, put aside one after the other.
use Rattle.std.specs.Prelude.{◌≡◌, ℕ, ◌≤◌, Bool, true, false, not, List, [], ◌∷◌, ◌++◌, slice_get}
use Rattle.std.specs.Prelude.{Option, Some, None}
use Rattle.strkw_regex_core.specs.machine.MarkedPattern.{MarkedPattern, cat, lookbehind, lookahead}
use Rattle.strkw_regex_core.specs.machine.Mirror.{mirror, mirror_if}
use Rattle.strkw_regex_core.specs.Size.{max_steps}
use Rattle.strkw_regex_core.specs.machine.ProgramSteps.{steps, spread}
use Rattle.strkw_regex_core.specs.machine.Positions.{is_unmarked}
use Rattle.strkw_regex_core.specs.machine.EquivalentPatterns.{EquivalentPatterns}
use Rattle.strkw_regex_search.specs.machine.Seeking.{Seeking}
use Rattle.strkw_regex_search.specs.machine.OracleMarks.{aside, spots}

-- a pattern that is looked for along a text, or from its end on
pub record OracleQuery : Type 0 where
  pub backward : Bool
  pub pattern : MarkedPattern

-- that of this number looks from the other end on for the mirror of what the lookahead does
abbrev pub IsToldAs : List OracleQuery → Bool → Option ℕ → Option MarkedPattern → Type 0
IsToldAs fs b None None = Unit {0}
IsToldAs fs b None (Some p) = ⊥
IsToldAs fs b (Some k) None = ⊥
IsToldAs fs b (Some k) (Some p) = (f : OracleQuery) × (slice_get fs k ≡ Some f)
    × (f.backward ≡ not b) × EquivalentPatterns f.pattern (mirror p)

-- and so of each
abbrev pub AreToldAs : List OracleQuery → Bool → List (Option ℕ) → List (Option MarkedPattern) → Type 0
AreToldAs fs b [] [] = Unit {0}
AreToldAs fs b [] (s ∷ ss) = ⊥
AreToldAs fs b (t ∷ ts) [] = ⊥
AreToldAs fs b (t ∷ ts) (s ∷ ss) = IsToldAs fs b t s × AreToldAs fs b ts ss

-- it is the quest with its lookaheads put aside, each of which is one of some quests
pub record IsAside (fs : List OracleQuery) (x : Seeking) (f : OracleQuery) : Type 0 where
  pub backward : x.backward ≡ f.backward
  pub bare : is_unmarked f.pattern ≡ true
  pub slotted : x.pattern ≡ aside f.pattern
  pub told : AreToldAs fs f.backward x.told (spots f.pattern)

-- each is one of the quests, whose lookaheads are among those before it
abbrev pub AreAsides : List OracleQuery → List Seeking → List OracleQuery → Type 0
AreAsides fs [] [] = Unit {0}
AreAsides fs [] (g ∷ gs) = ⊥
AreAsides fs (x ∷ xs) [] = ⊥
AreAsides fs (x ∷ xs) (g ∷ gs) = IsAside fs x g × AreAsides (fs ++ (g ∷ [])) xs gs

-- with a mark beside what its lookarounds look for, it takes no more steps than may be
abbrev pub IsSmall : MarkedPattern → Type 0
IsSmall p = steps (spread p) ≤ max_steps

-- and bears no mark, so that its lookaheads may be put aside
pub record MayBePut (p : MarkedPattern) : Type 0 where
  pub bare : is_unmarked p ≡ true
  pub small : IsSmall p

abbrev pub AreSmall : List OracleQuery → Type 0
AreSmall [] = Unit {0}
AreSmall (f ∷ fs) = IsSmall f.pattern × AreSmall fs

-- What putting the lookaheads of a pattern aside adds to quests and asides, and leaves of it. The
-- pattern that is `made` is like the one that is to be.
pub record Puts (b : Bool) (sought o : MarkedPattern) (fs : List OracleQuery) (xs : List Seeking)
    (old new : List (Option ℕ)) : Type 0 where
  pub added : List OracleQuery
  pub small : AreSmall added
  pub asides : AreAsides [] xs (fs ++ added)
  pub made : MarkedPattern
  pub alike : EquivalentPatterns made sought
  pub slotted : o ≡ aside made
  pub more : List (Option ℕ)
  pub numbers : new ≡ old ++ more
  pub told : AreToldAs (fs ++ added) b more (spots made)

-- of a pattern, or of its mirror
abbrev pub PutsAside : Bool → MarkedPattern → MarkedPattern → List OracleQuery → List Seeking
    → List (Option ℕ) → List (Option ℕ) → Type 0
PutsAside b p = Puts b (mirror_if b p)

-- of two, one behind the other, or of their mirrors
abbrev pub PutsBoth : Bool → MarkedPattern → MarkedPattern → MarkedPattern → List OracleQuery → List Seeking
    → List (Option ℕ) → List (Option ℕ) → Type 0
PutsBoth b p q = Puts b (cat (mirror_if b p) (mirror_if b q))

-- of a lookahead or a lookbehind for a pattern, or for its mirror
abbrev pub PutsLook : Bool → Bool → Bool → MarkedPattern → MarkedPattern → List OracleQuery → List Seeking
    → List (Option ℕ) → List (Option ℕ) → Type 0
PutsLook true n b p = Puts b (lookahead n (mirror_if b p))
PutsLook false n b p = Puts b (lookbehind n (mirror_if b p))

-- a pattern, or its mirror, is set aside
pub record SetsAside (b : Bool) (p : MarkedPattern) (x : Seeking) (fs : List OracleQuery)
    (xs : List Seeking) : Type 0 where
  pub added : List OracleQuery
  pub small : AreSmall added
  pub asides : AreAsides [] xs (fs ++ added)
  pub made : MarkedPattern
  pub alike : EquivalentPatterns made (mirror_if b p)
  pub made_small : IsSmall made
  pub is : IsAside (fs ++ added) x record { backward = b; pattern = made }

-- and has a number
pub record TellsAside (b : Bool) (p : MarkedPattern) (number : ℕ) (fs : List OracleQuery)
    (xs : List Seeking) : Type 0 where
  pub added : List OracleQuery
  pub small : AreSmall added
  pub asides : AreAsides [] xs (fs ++ added)
  pub made : MarkedPattern
  pub alike : EquivalentPatterns made (mirror_if b p)
  pub is : slice_get (fs ++ added) number ≡ Some record { backward = b; pattern = made }
