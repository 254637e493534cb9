use Rattle.std.proofs.Common.{◌≡◌, List, length, ◌==◌, true, false, sym, ap, ap₂, ◌∙◌}
use Rattle.std.specs.List.{list_any}
use Rattle.ucd_script.specs.declared.Script.{Script}
use Rattle.ucd_script.specs.Script.{script, script_number, script_eq}
use Rattle.ucd_script.specs.ScriptExtensions.{listed_scripts, script_extensions}
use Rattle.strkw_charset.proofs.ScriptLists.{no_list, some_list}
use Rattle.strkw_charset.proofs.extensions.has_extension.Goals as goal

pub returns-then-is_empty : goal.returns-then-is_empty
unfolding script_extensions
returns-then-is_empty c =
    let own = script c.args.c in
    let empty : (length (listed_scripts c.args.c) == 0) ≡ true =
    ap (λ (l : List Script). length l == 0) (sym c.listed_scripts-listed.ensures) ∙ sym c.is_empty.ensures ∙ c.if-is_empty.true in
    ap₂ ◌==◌ (c.number.ensures ∙ ap script_number c.for_char.ensures) c.number-then-is_empty.ensures
    ∙ sym (no_list own c.args.script (listed_scripts c.args.c) empty)

pub returns : goal.returns
unfolding script_extensions
returns c =
    let own = script c.args.c in
    let listed : (length (listed_scripts c.args.c) == 0) ≡ false =
    ap (λ (l : List Script). length l == 0) (sym c.listed_scripts-listed.ensures) ∙ sym c.is_empty.ensures ∙ c.if-is_empty.false in
    c.is_among.ensures ∙ ap (λ (l : List Script). list_any (λ x. script_eq x c.args.script) l) c.listed_scripts-listed.ensures
    ∙ sym (some_list own c.args.script (listed_scripts c.args.c) listed)
