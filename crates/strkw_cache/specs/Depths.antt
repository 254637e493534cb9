-- How deep the values of a line nest.
use Rattle.std.specs.Prelude.{ℕ}

-- a line nests one level deeper than the value of a member
abbrev pub member_depth : ℕ
member_depth = 126

-- and a value of its schema object nests one level less
abbrev pub value_depth : ℕ
value_depth = 125
