-- Each list of scripts that ScriptExtensions.txt has is found at its place.
use Rattle.std.proofs.Common.{◌≡◌, ℕ, suc, ◌+◌, ◌∷◌, [], List, map, Bool, true, false, ◌&&◌, ◌==◌, nat_le, nat_lt, length, slice_index}
use Rattle.std.proofs.Common.{arith, Option, Some, None, refl, sym, ap, ◌∙◌, if◌then◌else◌}
use Rattle.std.proofs.lemmas.Bool.{false≢true, eqb-true, leb-true, and_parts}
use Rattle.std.proofs.Math.Bool.{or-false}
use Rattle.std.specs.List.{list_any}
use Rattle.ucd_table.specs.Rows.{Row, value_in}
use Rattle.ucd_table.proofs.Stepped.{Stepped, map_stepped}
use Rattle.ucd_script.specs.declared.Script.{Script}
use Rattle.ucd_script.specs.ScriptExtensionRows.{script_extension_rows}
use Rattle.ucd_script.specs.Script.{script_eq}
use Rattle.ucd_script.specs.ScriptExtensions.{listed_scripts, or_script}
use Rattle.ucd_script.proofs.ScriptExtensionsLemmas.{listed_scripts_stepped}
use Rattle.strkw_charset.proofs.Lists.{some_same}
use Rattle.strkw_charset.specs.machine.ScriptLists.{place_in, with_lists, lists, list_number, list_scripts, starts_from, list_starts, list_numbered}
use Rattle.strkw_charset.specs.machine.ScriptLists.{HasList}

-- rows with what a function gives for the value of each
abbrev rows_of : {V W : Type 0} → (V → W) → List (Row V) → List (Row W)
rows_of f rows = map (λ row. (row.0, row.1, f row.2)) rows

-- one of two values, of what the function gives for each
turned : {V W : Type 0} (f : V → W) (v u : V) (w : W) (b : Bool) → f u ≡ w
    → f (if b then v else u) ≡ (if b then f v else w)
turned f v u w true same = refl
turned f v u w false same = same

-- their value at a code point is what it gives for the value there
value_of_rows : {V W : Type 0} (f : V → W) (d : V) (rows : List (Row V)) (c : ℕ)
    → f (value_in d rows c) ≡ value_in (f d) (rows_of f rows) c
unfolding value_in
value_of_rows f d [] c = refl
value_of_rows f d (row ∷ rows) c =
    turned f row.2 (value_in d rows c) (value_in (f d) (rows_of f rows) c) (nat_le row.0 c && nat_le c row.1) (value_of_rows f d rows c)

-- whether there is a list with a number
abbrev has_list : ℕ → Bool
has_list n =
    nat_lt (n + 1) (length list_starts) && nat_le (slice_index list_starts n) (slice_index list_starts (n + 1))
    && nat_le (slice_index list_starts (n + 1)) (length list_scripts)

-- that list, where there is one
abbrev some_numbered : ℕ → Option (List Script)
some_numbered n = if has_list n then Some (list_numbered n) else None

-- with the place of a list as the number, that list
abbrev at_place : List Script → Option (List Script)
at_place list = some_numbered (place_in lists list)

-- so it is for each list that the table has
each_at_place : rows_of at_place script_extension_rows ≡ rows_of Some script_extension_rows
unfolding script_extension_rows lists with_lists place_in list_scripts list_starts starts_from
each_at_place = refl

-- and for the list of a code point
found_at_place : (c : ℕ) → some_numbered (list_number c) ≡ Some (listed_scripts c)
unfolding listed_scripts list_number lists with_lists place_in value_in script_extension_rows list_scripts list_starts starts_from
found_at_place c =
    value_of_rows at_place [] script_extension_rows c
    ∙ ap (λ (rows : List (Row (Option (List Script)))). value_in (Some []) rows c) each_at_place
    ∙ sym (value_of_rows Some [] script_extension_rows c)

-- code points whose lists stand at the same place have the same list
pub same_list : (c d : ℕ) → list_number d ≡ list_number c → listed_scripts d ≡ listed_scripts c
same_list c d same = some_same _ _ (sym (found_at_place d) ∙ ap some_numbered same ∙ found_at_place c)

-- the place of a code point's list, by steps
unfoldable pub list_number_stepped : Stepped list_number
unfolding list_number listed_scripts_stepped
list_number_stepped = map_stepped (place_in lists) listed_scripts listed_scripts_stepped

-- where something is chosen, the test holds
chosen : (b : Bool) (x y : List Script) → (if b then Some x else None) ≡ Some y → (b ≡ true) × (x ≡ y)
chosen true x y e = (refl, some_same x y e)
chosen false x y e = cc

-- the list of a code point is the one with its number
pub found_list : (c : ℕ) → HasList (list_number c) × (list_numbered (list_number c) ≡ listed_scripts c)
found_list c =
    let here = chosen (has_list (list_number c)) _ (listed_scripts c) (found_at_place c) in
    let parts = and_parts _ _ here.0 in
    let firsts = and_parts _ _ parts.0 in (
      record { listed = leb-true (suc (list_number c + 1)) _ firsts.0; ordered = leb-true _ _ firsts.1; within = leb-true _ _ parts.1 },
      here.1,
    )

-- where a list is empty, the scripts are the one alone, and else they are those of the list
pub no_list : (own s : Script) (list : List Script) → (length list == 0) ≡ true
    → list_any (λ x. script_eq x s) (or_script own list) ≡ script_eq own s
no_list own s [] empty = or-false (script_eq own s)
no_list own s (x ∷ list) empty = absurd (omega (arith, eqb-true (length (x ∷ list)) 0 empty))

pub some_list : (own s : Script) (list : List Script) → (length list == 0) ≡ false
    → list_any (λ x. script_eq x s) (or_script own list) ≡ list_any (λ x. script_eq x s) list
some_list own s [] empty = absurd (false≢true (sym empty))
some_list own s (x ∷ list) empty = refl
