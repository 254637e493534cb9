-- How a text is cut, character by character.
use Rattle.std.specs.Prelude.{ℕ, ◌-◌, ◌==◌, ◌||◌, List, [], Bool, ◌++◌, codes, drop, if◌then◌else◌, length, nat_le, nat_lt, take}
use Rattle.std.specs.List.{flat_map}
use Rattle.neldrafi_check.specs.Shown.{shown_char}

-- whether the character of a number is shown, of so many
abbrev pub is_kept : ℕ → ℕ → Bool
is_kept count index = nat_le count 300 || nat_lt index 200 || nat_le (count - 100) index

-- what is written of it
abbrev pub cut_step : ℕ → ℕ → ℕ → List ℕ
cut_step count index c = if is_kept count index then shown_char c else (if index == 200 then codes " .. " else [])

-- what is written of the first characters, of so many
abbrev pub cut_front : ℕ → List ℕ → List ℕ
cut_front count cs = if nat_le count 300 then flat_map shown_char cs
    else flat_map shown_char (take 200 cs) ++ (if nat_le (length cs) 200 then [] else codes " .. ")
    ++ flat_map shown_char (drop (count - 100) cs)
