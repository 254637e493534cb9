-- A strict form in the making.
use Rattle.std.specs.Prelude.{◌≡◌, ℕ, Bool, true, false, List, ◌++◌, String, string_bytes}
use Rattle.std.specs.Str.{chars}
use Rattle.std.specs.declared.alloc.Global.{Global}
use Rattle.strkw_ecma.specs.Lenient.{strict_from, strict_behind}
use Rattle.strkw_ecma.specs.declared.strict_form.Draft.{Draft}

-- what comes of the rest of the pattern
abbrev pub form_of_rest : Bool → Bool → List ℕ → List ℕ
form_of_rest in_class false rest = strict_from in_class rest
form_of_rest in_class true rest = strict_behind in_class rest

-- the text with this behind it
abbrev pub completed : Draft → List ℕ → List ℕ
completed d rest = chars (string_bytes d.text) ++ form_of_rest d.in_class d.is_escaped rest

-- these characters were appended
abbrev pub appends : String Global → String Global → List ℕ → Type 0
appends old new cs = chars (string_bytes new) ≡ chars (string_bytes old) ++ cs
