use Rattle.std.proofs.Common.{rules, ℕ, ◌==◌, sym, ap, ◌∙◌, eqb-true}
use denote.Enum.Bare.{same_true}
use Rattle.ucd_sets.specs.contracts.property.BinaryProperty.{the_type}
use Rattle.ucd_sets.specs.Property.{has_property as has_binary_property}
use Rattle.ucd_script.specs.Script.{script_number}
use Rattle.ucd_script.specs.ScriptExtensions.{script_extensions}
use Rattle.std.specs.List.{list_any}
use Rattle.strkw_charset.proofs.same_sets.is_same_property.Goals as goal

pub returns-in-Binary-Binary : goal.returns-in-Binary-Binary
returns-in-Binary-Binary c h c' =
    let same = same_true the_type (search rules) _ _ (sym c.eq.ensures ∙ h) in
    rw (c.in-Binary-Binary.is-0, c.in-Binary-Binary.is-1) (ap (λ p. has_binary_property p c') same)

pub returns-in-ScriptExtensions-ScriptExtensions : goal.returns-in-ScriptExtensions-ScriptExtensions
returns-in-ScriptExtensions-ScriptExtensions c h c' =
    let one = c.number-in-ScriptExtensions-ScriptExtensions in
    let other = c.number-in-ScriptExtensions-ScriptExtensions-2 in
    let same = sym one.ensures ∙ eqb-true one.result other.result h ∙ other.ensures in
    rw (c.in-ScriptExtensions-ScriptExtensions.is-0, c.in-ScriptExtensions-ScriptExtensions.is-1)
    (ap (λ (n : ℕ). list_any (λ x. script_number x == n) (script_extensions c')) same)
