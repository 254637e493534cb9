-- What the code looks for of a pattern: each part along the text, or from its end on.
use Rattle.std.specs.Prelude.{◌≡◌, ℕ, ◌+◌, ◌≤◌, Bool, true, not, ◌&&◌, ◌||◌, List, [], ◌∷◌, Vec}
use Rattle.std.specs.Prelude.{Option, Some, None}
use Rattle.std.specs.declared.alloc.Global.{Global}
use Rattle.strkw_regex_core.specs.machine.MarkedPattern.{MarkedPattern}
use Rattle.strkw_charset.specs.Membership.{differ}
use Rattle.strkw_regex_core.specs.machine.OneCharLookahead.{are_told}
use Rattle.strkw_regex_core.specs.Size.{max_steps}
use Rattle.strkw_regex_core.specs.machine.ProgramSteps.{search_steps}
use Rattle.strkw_regex_core.specs.machine.Mirror.{along, is_backward, target}
use Rattle.strkw_regex_core.specs.machine.LeadingLookahead.{Part, parts, steps_of_parts}
use Rattle.strkw_regex_core.specs.machine.Positions.{is_unmarked}
use Rattle.strkw_regex_search.specs.machine.Search.{found_in}
use Rattle.strkw_regex_core.specs.machine.Shape.{outline_pattern}
use Rattle.strkw_regex_search.specs.declared.passes.Pass.{Pass as CodePass}
use Rattle.strkw_regex_core.specs.machine.EquivalentPatterns.{EquivalentPatterns}

-- a pattern that is to be found, or is not, along a text or from its end on
pub record Pass : Type 0 where
  pub negated : Bool
  pub backward : Bool
  pub pattern : MarkedPattern

abbrev pub are_passes_found : List Pass → List ℕ → Bool
are_passes_found [] text = true
are_passes_found (x ∷ xs) text =
    differ x.negated (found_in x.pattern (along x.backward text)) && are_passes_found xs text

abbrev pub are_passes_clean : List Pass → Bool
are_passes_clean [] = true
are_passes_clean (x ∷ xs) = is_unmarked x.pattern && are_passes_clean xs

-- only what is told from the end of the text on is looked for from there
abbrev pub are_passes_faced : List Pass → Bool
are_passes_faced [] = true
are_passes_faced (x ∷ xs) = (not x.backward || are_told x.pattern) && are_passes_faced xs

abbrev pub steps_of_passes : List Pass → ℕ
steps_of_passes [] = 0
steps_of_passes (x ∷ xs) = search_steps x.pattern + steps_of_passes xs

-- it looks for the part
pub record IsPass (x : Pass) (part : Part) : Type 0 where
  pub negated : x.negated ≡ part.negated
  pub backward : x.backward ≡ is_backward part.pattern
  pub alike : EquivalentPatterns x.pattern (target part.pattern)
  pub steps : search_steps x.pattern ≡ search_steps (target part.pattern)

-- one for each part
abbrev pub ArePasses : List Pass → List Part → Type 0
ArePasses [] [] = Unit {0}
ArePasses [] (y ∷ ys) = ⊥
ArePasses (x ∷ xs) [] = ⊥
ArePasses (x ∷ xs) (y ∷ ys) = IsPass x y × ArePasses xs ys

abbrev pub pass_of : CodePass → Pass
pass_of p =
    record { negated = p.negated; backward = p.is_backward; pattern = outline_pattern p.pattern }

abbrev pub passes_of : List CodePass → List Pass
passes_of [] = []
passes_of (p ∷ ps) = pass_of p ∷ passes_of ps

-- they look for the parts of a pattern, which is taken
pub record AreTaken (ps : List CodePass) (p : MarkedPattern) : Type 0 where
  pub passes : ArePasses (passes_of ps) (parts p)
  pub small : steps_of_parts (parts p) ≤ max_steps

abbrev pub ComesTo : Option (Vec CodePass Global) → Option MarkedPattern → Type 0
ComesTo None None = Unit {0}
ComesTo None (Some p) = ⊥
ComesTo (Some ps) None = ⊥
ComesTo (Some ps) (Some p) = AreTaken ps.items p
