-- Texts in which a delimiter does not stand: what the contracts of readers that cut at a delimiter
-- speak of.
use Rattle.std.specs.Prelude.{◌≢◌, ℕ}
use Rattle.std.specs.List.{AllByRecursion}
use Rattle.strkw_text.specs.Abnf.{Form}

-- no character of the text is this one
abbrev pub Without : ℕ → Form
Without c = AllByRecursion (λ d. d ≢ c)
