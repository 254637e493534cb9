-- What is so of the tables of the built-in formats.
use Rattle.std.specs.Prelude.{ℕ, ◌≡◌, ◌↔◌, ◌≤◌, List, true, length, Option, IfSome, Some, None}
use Rattle.std.specs.Str.{chars}
use Rattle.strkw_report.specs.declared.draft.Draft.{Draft}
use Rattle.strkw_formats.specs.declared.builtin.BuiltinFormat.{BuiltinFormat}
use Rattle.strkw_formats.specs.Formats.{IsOfBuiltin, format_name, is_known, builtin_named, Window}

-- the number is inside the window; an open end bounds nothing
pub record IsInside (w : Window) (n : ℕ) : Type 0 where
  pub long_enough : w.least ≤ n
  pub short_enough : IfSome w.greatest (λ greatest. n ≤ greatest)

-- the format derives the text, which has n characters
pub record IsOfLength (f : BuiltinFormat) (n : ℕ) (text : List ℕ) : Type 0 where
  pub derived : IsOfBuiltin f (chars text)
  pub size : length (chars text) ≡ n

-- both are there and stand in the relation, or neither is there
abbrev pub AreBoth : {A B : Type 0} → (A → B → Type 0) → Option A → Option B → Type 0
AreBoth R (Some a) (Some b) = R a b
AreBoth R None None = Unit {0}
AreBoth R (Some a) None = ⊥
AreBoth R None (Some b) = ⊥

-- a text of least length, and one of greatest exactly where that end is closed
abbrev pub AreTextsAtEnds : BuiltinFormat → Window → List ℕ × Option (List ℕ) → Type 0
AreTextsAtEnds f w (shortest, longest) = IsOfLength f w.least shortest
    × AreBoth (IsOfLength f) w.greatest longest

-- the built-in format of a name is the one that has the name and that the draft has: the order of
-- the list is no matter
abbrev pub BuiltinFormatOfName : Type 0
BuiltinFormatOfName = (draft : Draft) (name : List ℕ) (f : BuiltinFormat)
    → (builtin_named draft name ≡ Some f) ↔ ((format_name f ≡ name) × (is_known f draft ≡ true))
