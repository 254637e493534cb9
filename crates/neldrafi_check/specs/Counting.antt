-- How many values were checked, and how many errors there are.
use Rattle.std.specs.Prelude.{ℕ, ◌+◌}
use Rattle.neldrafi_check.specs.declared.counts.Counts.{Counts}

abbrev pub of_nothing : Counts
of_nothing = record { values = 0; errors = 0 }

-- one value, with so many errors
abbrev pub of_value : ℕ → Counts
of_value n = record { values = 1; errors = n }

-- a line or a record that has no value, which is an error
abbrev pub of_no_value : Counts
of_no_value = record { values = 0; errors = 1 }

abbrev pub both : Counts → Counts → Counts
both a b = record { values = a.values + b.values; errors = a.errors + b.errors }
