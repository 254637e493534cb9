-- How a search follows the program of a pattern between two characters of a text, with the marks of
-- its classes as a list.
use Rattle.std.specs.Prelude.{ℕ, Bool, true, false, ◌&&◌, ◌||◌, List, [], ◌∷◌, Option}
use Rattle.strkw_regex_core.specs.Meaning.{holds}
use Rattle.strkw_regex_core.specs.machine.Positions.{reads}
use Rattle.strkw_regex_core.specs.machine.Program.{Instruction, read, assert, peek, fork, other, join}
use Rattle.strkw_regex_core.specs.machine.Program.{star_begin, star_end, plus_begin, plus_end, look_begin}
use Rattle.strkw_regex_core.specs.machine.Program.{look_end}
use Rattle.strkw_charset.specs.Membership.{differ}

-- the first of a list, and the list behind it
abbrev pub first_or_false : List Bool → Bool
first_or_false [] = false
first_or_false (x ∷ xs) = x

abbrev pub below : List Bool → List Bool
below [] = []
below (x ∷ xs) = xs

-- What is known before an instruction by those behind it.
pub record Asked : Type 0 where
  -- whether a way that comes here ends behind the last of them with no character read
  pub ends : Bool
  -- whether a way goes on from a mark among them, and ends there
  pub goes_on : Bool
  -- the same of what lies around it
  pub around : List Bool
  -- for each loop that begins among them, whether a way goes on from a mark in its body, and ends
  -- behind the body
  pub again : List Bool

-- What a way through all instructions comes to: whether it ends behind the last, and the marks that
-- it leaves.
pub record Walked : Type 0 where
  pub leaves : Bool
  pub marks : List Bool

-- What is known before an instruction by those before it.
pub record Following : Type 0 where
  -- whether a way has come to here
  pub enters : Bool
  -- the same before the alternatives and loops around, and what has left the alternatives before
  pub around : List Bool
  -- `again` of the loops that are still to come
  pub again : List Bool

-- before the first instruction, which a way enters
abbrev pub start_following : List Bool → Following
start_following again = record { enters = true; around = []; again = again }

module _ (b a : Option ℕ) where
  -- one instruction, with the mark of a class
  abbrev pub back_over : Instruction → Bool → Asked → Asked
  back_over (read again optional n rs) m s =
      record {
        ends = s.ends && optional;
        goes_on = s.goes_on || (s.ends && m);
        around = s.around;
        again = s.again;
      }
  back_over (assert l) m s = record {
    ends = s.ends && holds l b a;
    goes_on = s.goes_on;
    around = s.around;
    again = s.again;
  }
  back_over (peek n rs) m s = record {
    ends = s.ends && reads a n rs;
    goes_on = s.goes_on;
    around = s.around;
    again = s.again;
  }
  back_over join m s = record {
    ends = s.ends;
    goes_on = s.goes_on;
    around = false ∷ s.ends ∷ s.around;
    again = s.again;
  }
  back_over other m s =
      record {
        ends = first_or_false (below s.around);
        goes_on = s.goes_on;
        around = (first_or_false s.around || s.ends)
            ∷ first_or_false (below s.around) ∷ below (below s.around);
        again =
            s.again;
      }
  back_over fork m s =
      record {
        ends = first_or_false s.around || s.ends;
        goes_on = s.goes_on;
        around = below (below s.around);
        again = s.again;
      }
  back_over star_end m s = record {
    ends = true;
    goes_on = false;
    around = s.goes_on ∷ s.ends ∷ s.around;
    again = s.again;
  }
  back_over star_begin m s =
      record {
        ends = first_or_false (below s.around);
        goes_on = first_or_false s.around || (first_or_false (below s.around) && s.goes_on);
        around = below (below s.around);
        again = s.goes_on ∷ s.again;
      }
  back_over plus_end m s = record {
    ends = true;
    goes_on = false;
    around = s.goes_on ∷ s.ends ∷ s.around;
    again = s.again;
  }
  back_over plus_begin m s =
      record {
        ends = first_or_false (below s.around) && s.ends;
        goes_on = first_or_false s.around || (first_or_false (below s.around) && s.goes_on);
        around = below (below s.around);
        again = s.goes_on ∷ s.again;
      }
  back_over (look_end n) m s = record {
    ends = true;
    goes_on = false;
    around = s.goes_on ∷ s.ends ∷ s.around;
    again = s.again;
  }
  back_over (look_begin n) m s =
      record {
        ends = first_or_false (below s.around) && differ n (s.goes_on || s.ends);
        goes_on = first_or_false s.around;
        around = below (below s.around);
        again = s.again;
      }

  -- the marks behind the instruction
  abbrev pub marks_behind : Instruction → List Bool → List Bool
  marks_behind (read again optional n rs) ms = below ms
  marks_behind (assert l) ms = ms
  marks_behind (peek n rs) ms = ms
  marks_behind fork ms = ms
  marks_behind other ms = ms
  marks_behind join ms = ms
  marks_behind star_begin ms = ms
  marks_behind star_end ms = ms
  marks_behind plus_begin ms = ms
  marks_behind plus_end ms = ms
  marks_behind (look_begin n) ms = ms
  marks_behind (look_end n) ms = ms

  -- backwards
  abbrev pub asked : List Instruction → List Bool → Asked
  asked [] ms = record { ends = true; goes_on = false; around = []; again = [] }
  asked (i ∷ is) ms = back_over i (first_or_false ms) (asked is (marks_behind i ms))

  -- Forwards, over the character behind them. One instruction, with the mark of a class: what is
  -- known behind it,
  abbrev pub over : Instruction → Bool → Following → Following
  over (read more optional n rs) m s =
      record { enters = (optional && s.enters) || m; around = s.around; again = s.again }
  over (assert l) m s = record {
    enters = s.enters && holds l b a;
    around = s.around;
    again = s.again;
  }
  over (peek n rs) m s = record {
    enters = s.enters && reads a n rs;
    around = s.around;
    again = s.again;
  }
  over fork m s = record {
    enters = s.enters;
    around = false ∷ s.enters ∷ s.around;
    again = s.again;
  }
  over other m s =
      record {
        enters = first_or_false (below s.around);
        around = (first_or_false s.around || s.enters)
            ∷ first_or_false (below s.around) ∷ below (below s.around);
        again = s.again;
      }
  over join m s = record {
    enters = first_or_false s.around || s.enters;
    around = below (below s.around);
    again = s.again;
  }
  over star_begin m s =
      record {
        enters = s.enters || first_or_false s.again;
        around = (s.enters || first_or_false s.again) ∷ s.around;
        again = below s.again;
      }
  over star_end m s =
      record { enters = first_or_false s.around; around = below s.around; again = s.again }
  over plus_begin m s = record {
    enters = s.enters || first_or_false s.again;
    around = s.around;
    again = below s.again;
  }
  over plus_end m s = s
  over (look_begin n) m s = record {
    enters = true;
    around = s.enters ∷ s.around;
    again = s.again;
  }
  over (look_end n) m s =
      record {
        enters = first_or_false s.around && differ n s.enters;
        around = below s.around;
        again = s.again;
      }

  -- and what is left of the walk, with the mark that a class gets
  abbrev pub left_by : Instruction → Bool → Following → Walked → Walked
  left_by (read more optional n rs) m s w =
      record { leaves = w.leaves; marks = ((s.enters || (more && m)) && reads a n rs) ∷ w.marks }
  left_by (assert l) m s w = w
  left_by (peek n rs) m s w = w
  left_by fork m s w = w
  left_by other m s w = w
  left_by join m s w = w
  left_by star_begin m s w = w
  left_by star_end m s w = w
  left_by plus_begin m s w = w
  left_by plus_end m s w = w
  left_by (look_begin n) m s w = w
  left_by (look_end n) m s w = w

  abbrev pub followed : List Instruction → Following → List Bool → Walked
  followed [] s ms = record { leaves = s.enters; marks = ms }
  followed (i ∷ is) s ms = left_by i (first_or_false ms) s
      (followed is (over i (first_or_false ms) s) (marks_behind i ms))

  -- both: a walk over the program, which is entered
  abbrev pub walked : List Instruction → List Bool → Walked
  walked is ms = followed is (start_following (asked is ms).again) ms
