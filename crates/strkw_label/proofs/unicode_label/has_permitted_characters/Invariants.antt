use Rattle.std.proofs.Common.{take, All}
use Rattle.std.specs.Prelude.{IsTrue}
use Rattle.strkw_label.specs.DerivedProperty.{derived_property, is_permitted}
use Rattle.strkw_label.proofs.unicode_label.has_permitted_characters.Given as goal

-- the characters so far are permitted
abbrev pub invariant-loop-c : goal.invariant-loop-c
invariant-loop-c l = All (λ c. IsTrue (is_permitted (derived_property c))) (take l.c-index l.label)
