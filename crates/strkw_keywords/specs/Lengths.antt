-- How many characters a text may have by what keywords demand of it: limits, and the windows of
-- built-in formats.
use Rattle.std.specs.Prelude.{◌≡◌, ◌↔◌, ◌<◌, ℕ, List, [], ◌∷◌, Option, Some, None, unwrap_or, min}
use Rattle.std.specs.Prelude.{max, length}
use Rattle.std.specs.List.{AllByRecursion}
use Rattle.std.specs.Str.{chars, IsUtf8}
use Rattle.strkw_report.specs.declared.error.Site.{Site}
use Rattle.strkw_formats.specs.declared.builtin.BuiltinFormat.{BuiltinFormat}
use Rattle.strkw_keywords.specs.Meanings.{Lists, Choice, builtin, row}
use Rattle.strkw_formats.specs.Formats.{Window, window_of}
use Rattle.strkw_formats.specs.FormatLaws.{IsInside}
use Rattle.strkw_keywords.specs.Demands.{Demand, is_media_type, is_encoded, encodes_media_type}
use Rattle.strkw_keywords.specs.Demands.{is_format, at_least, at_most, compares, matches}
use Rattle.strkw_keywords.specs.Errors.{Assertion, AllReport, demands_asserted}

-- ---- windows

-- every length
abbrev pub any_length : Window
any_length = record { least = 0; greatest = None }

-- no length is inside
abbrev pub IsEmpty : Window → Type 0
IsEmpty w = (n : ℕ) → IsInside w n → ⊥

-- the lesser of two upper ends; an open one bounds nothing
abbrev pub lesser_end : Option ℕ → Option ℕ → Option ℕ
lesser_end None end = end
lesser_end (Some a) None = Some a
lesser_end (Some a) (Some b) = Some (min a b)

-- the lengths inside both
abbrev pub common : Window → Window → Window
common v w = record { least = max v.least w.least; greatest = lesser_end v.greatest w.greatest }

-- ---- demands

-- the window of a built-in format; the row of a caller has none
abbrev pub window_at : Choice BuiltinFormat → Option Window
window_at (builtin f) = window_of f
window_at (row at name) = None

-- the lengths that a demand leaves to a text
abbrev pub window_left : Demand → Window
window_left (is_media_type m) = any_length
window_left (is_encoded c) = any_length
window_left (encodes_media_type c m) = any_length
window_left (is_format f) = unwrap_or (window_at f) any_length
window_left (at_least n) = record { least = n; greatest = None }
window_left (at_most n) = record { least = 0; greatest = Some n }
window_left (compares p outcome) = any_length
window_left (matches p outcome) = any_length

-- the interval of several demands: the lengths that all of them leave
abbrev pub interval : List Demand → Window
interval [] = any_length
interval (d ∷ others) = common (window_left d) (interval others)

-- only the length of a text can fail the demand
abbrev pub IsLimit : Demand → Type 0
IsLimit (is_media_type m) = ⊥
IsLimit (is_encoded c) = ⊥
IsLimit (encodes_media_type c m) = ⊥
IsLimit (is_format f) = ⊥
IsLimit (at_least n) = Unit {0}
IsLimit (at_most n) = Unit {0}
IsLimit (compares p outcome) = ⊥
IsLimit (matches p outcome) = ⊥

abbrev pub AreLimits : List Demand → Type 0
AreLimits demands = AllByRecursion IsLimit demands

-- a text, in UTF-8, of so many characters
pub record IsTextOfLength (n : ℕ) (text : List ℕ) : Type 0 where
  pub utf8 : IsUtf8 text
  pub size : length (chars text) ≡ n

-- ---- what is so of them

-- a length is inside what two windows have in common exactly where it is inside each
abbrev pub CommonIsInBoth : Type 0
CommonIsInBoth = (v w : Window) (n : ℕ) → IsInside (common v w) n ↔ (IsInside v n × IsInside w n)

-- a window is empty exactly where its upper end is closed, below the lower one
abbrev pub EmptyByItsEnds : Type 0
EmptyByItsEnds = (w : Window) → IsEmpty w
    ↔ ((greatest : ℕ) × (w.greatest ≡ Some greatest) × (greatest < w.least))

-- a text of a length outside the interval has an error
abbrev pub OutsideIsAnError : Type 0
OutsideIsAnError = (assertions : List Assertion) (lists : Lists) (site : Site) (text : List ℕ)
    → (IsInside (interval (demands_asserted assertions)) (length (chars text)) → ⊥)
    → AllReport assertions lists site text [] → ⊥
