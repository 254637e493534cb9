-- How a long text is shown in a message.
use Rattle.std.specs.Prelude.{ℕ, ◌-◌, List, ◌++◌, codes, drop, if◌then◌else◌, length, nat_le, take}
use Rattle.std.specs.List.{flat_map}
use Rattle.std.specs.Str.{chars}
use Rattle.neldrafi_check.specs.Shown.{shown_char}

-- characters as they are shown; of more than 300 the first 200 and the last 100
abbrev pub cut_chars : List ℕ → List ℕ
cut_chars cs = if nat_le (length cs) 300 then flat_map shown_char cs
    else flat_map shown_char (take 200 cs) ++ codes " .. " ++ flat_map shown_char (drop (length cs - 100) cs)

abbrev pub cut_text : List ℕ → List ℕ
cut_text text = cut_chars (chars text)
