-- Patterns that come to the same.
use Rattle.std.specs.Prelude.{◌≡◌, ◌↔◌, ℕ, true, List}
use Rattle.strkw_regex_core.specs.machine.MarkedPattern.{MarkedPattern}
use Rattle.strkw_regex_core.specs.machine.MarkedMeaning.{Matches}
use Rattle.strkw_regex_core.specs.machine.Program.{is_class, is_empty, glance, alternatives}
use Rattle.strkw_regex_core.specs.machine.OneCharLookahead.{is_glance, are_told}
use Rattle.strkw_regex_core.specs.machine.ProgramSteps.{steps_of, steps, spread}
use Rattle.strkw_regex_core.specs.machine.Positions.{is_unmarked}

-- Two patterns match the same, and a search for the one takes as many steps as one for the other.
pub record EquivalentPatterns (p q : MarkedPattern) : Type 0 where
  pub meaning : (text : List ℕ) (i j : ℕ) → Matches text p i j ↔ Matches text q i j
  pub nothing : is_empty p ≡ is_empty q
  pub class : is_class p ≡ is_class q
  pub sees : is_glance p ≡ is_glance q
  pub told : are_told p ≡ are_told q
  pub clean : is_unmarked p ≡ is_unmarked q
  pub apart : steps (spread p) ≡ steps (spread q)
  pub apart_beside : steps_of (alternatives (spread p)) ≡ steps_of (alternatives (spread q))
  pub steps : are_told q ≡ true → steps p ≡ steps q
  pub beside : are_told q ≡ true → steps_of (alternatives p) ≡ steps_of (alternatives q)
  pub glance_steps : is_glance q ≡ true → steps_of (glance p) ≡ steps_of (glance q)
