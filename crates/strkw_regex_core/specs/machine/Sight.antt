-- Whether what any lookahead looks for is there, as a function: a search for its mirror, from the
-- end of the text on, tells at which places it is. So do searches for those in it, in turn.
use Rattle.std.specs.Prelude.{ℕ, zero, suc, ◌-◌, max, Bool, true, false, ◌||◌, List, length}
use Rattle.std.specs.Prelude.{reverse, slice_get}
use Rattle.strkw_regex_core.specs.machine.MarkedPattern.{MarkedPattern, empty, class, look, cat}
use Rattle.strkw_regex_core.specs.machine.MarkedPattern.{alt, star, plus}
use Rattle.strkw_regex_core.specs.machine.MarkedPattern.{lookbehind, lookahead}
use Rattle.strkw_regex_core.specs.Meaning.{before}
use Rattle.strkw_regex_core.specs.machine.Mirror.{mirror}
use Rattle.strkw_regex_core.specs.machine.Positions.{leaves_by, step_by}

-- how many lookarounds lie in one another
abbrev pub depth : MarkedPattern → ℕ
depth empty = 0
depth (class m n rs) = 0
depth (look l) = 0
depth (cat p q) = max (depth p) (depth q)
depth (alt p q) = max (depth p) (depth q)
depth (star p) = depth p
depth (plus p) = depth p
depth (lookbehind n p) = suc (depth p)
depth (lookahead n p) = suc (depth p)

-- Here `see` says at each place of a lookahead whether what it looks for is there.
module _ (see : ℕ → MarkedPattern → Bool) (text : List ℕ) where
  -- the pattern with the marks at a place, where it is entered at each place before
  abbrev pub marked_at : MarkedPattern → ℕ → MarkedPattern
  marked_at p zero = p
  marked_at p (suc i) =
      step_by (see i) (before text i) (slice_get text i) (marked_at p i) true

  -- it matches up to a place
  abbrev pub ends_at : MarkedPattern → ℕ → Bool
  ends_at p i = leaves_by (see i) (before text i) (slice_get text i) (marked_at p i) true

  -- or up to one before it
  abbrev pub ends_by : MarkedPattern → ℕ → Bool
  ends_by p zero = ends_at p zero
  ends_by p (suc i) = ends_by p i || ends_at p (suc i)

-- it matches from a place on, where no more lookarounds than the first number lie in one another
abbrev pub begins_at : ℕ → List ℕ → ℕ → MarkedPattern → Bool
begins_at zero text i p = false
begins_at (suc n) text i p =
    ends_at (begins_at n (reverse text)) (reverse text) (mirror p) (length text - i)
