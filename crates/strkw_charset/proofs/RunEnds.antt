-- Code points that the runs of Unicode's tables, sets and classes have alike.
use Rattle.std.proofs.Common.{◌≡◌, ℕ, ◌+◌, ◌*◌, ◌/◌, ◌%◌, ◌<◌, ◌||◌, Bool, List, ◌∷◌, Vec, Global, length, drop, get_or, map, slice_index, sym, ap}
use Rattle.std.proofs.Common.{subst, ◌∙◌, if◌then◌else◌}
use Rattle.std.proofs.lemmas.List.{drop_more}
use Rattle.ucd_table.specs.Steps.{run_value, unpack}
use Rattle.ucd_table.proofs.StepsLemmas.{step_value-here, run_value-drop}
use Rattle.ucd_category.specs.GeneralCategory.{general_category, general_category_number, general_category_from_number}
use Rattle.ucd_category.proofs.GeneralCategoryLemmas.{general_category_from_number-general_category_number}
use Rattle.ucd_script.specs.Script.{script, script_number, script_from_number}
use Rattle.ucd_script.proofs.ScriptLemmas.{script_from_number-script_number}
use Rattle.strkw_charset.specs.Membership.{in_set, in_sets}
use Rattle.strkw_charset.specs.machine.CharClasses.{answers}
use Rattle.strkw_charset.specs.declared.tree.CharSet.{CharSet}

-- a code point before the end of a run, and behind those before it, has the value of the run
pub in_run : (runs : List ℕ) (i d : ℕ) → i < length runs → run_value runs d ≡ run_value (drop i runs) d → d < slice_index runs i / 2048
    → run_value runs d ≡ slice_index runs i % 2048
in_run runs i d within behind before =
    behind ∙ run_value-drop runs i d within ∙ step_value-here 0 (unpack (slice_index runs i)) (map unpack (drop (i + 1) runs)) d before

-- code points whose categories have the same number have the same category
pub same_category : (c d : ℕ) → general_category_number (general_category d) ≡ general_category_number (general_category c)
    → general_category d ≡ general_category c
same_category c d same =
    sym (general_category_from_number-general_category_number (general_category d)) ∙ ap general_category_from_number same
    ∙ general_category_from_number-general_category_number (general_category c)

-- and so have scripts
pub same_script : (c d : ℕ) → script_number (script d) ≡ script_number (script c) → script d ≡ script c
same_script c d same =
    sym (script_from_number-script_number (script d)) ∙ ap script_from_number same ∙ script_from_number-script_number (script c)

-- one more set has both code points or neither, and so have all that are left
pub set_passed : (sets : List CharSet) (i : ℕ) (none : CharSet) (c d : ℕ) → i < length sets
    → in_set (get_or sets i none) d ≡ in_set (get_or sets i none) c
    → (in_sets (drop i sets) d ≡ in_sets (drop i sets) c → in_sets sets d ≡ in_sets sets c) → in_sets (drop (i + 1) sets) d ≡ in_sets (drop (i + 1) sets) c
    → in_sets sets d ≡ in_sets sets c
set_passed sets i none c d within same so_far rest =
    let set = get_or sets i none in
    so_far
    (subst (λ (l : List CharSet). in_sets l d ≡ in_sets l c) (sym (drop_more sets i none within))
    (ap (λ (b : Bool). b || in_sets (drop (i + 1) sets) d) same ∙ ap (λ (b : Bool). in_set set c || b) rest))

-- one more class has both code points or neither, and so have all that are left
pub class_passed : (classes : List (Vec CharSet Global)) (i : ℕ) (class : Vec CharSet Global) (c d : ℕ) → i < length classes
    → class ≡ get_or classes i class → in_sets class.items d ≡ in_sets class.items c
    → (((n : ℕ) → answers n (drop i classes) d ≡ answers n (drop i classes) c) → (n : ℕ) → answers n classes d ≡ answers n classes c)
    → ((n : ℕ) → answers n (drop (i + 1) classes) d ≡ answers n (drop (i + 1) classes) c) → (n : ℕ) → answers n classes d ≡ answers n classes c
class_passed classes i class c d within is same so_far rest =
    let dropped : drop i classes ≡ class ∷ drop (i + 1) classes =
    drop_more classes i class within ∙ ap (λ (k : Vec CharSet Global). k ∷ drop (i + 1) classes) (sym is) in
    so_far
    (subst (λ (l : List (Vec CharSet Global)). (n : ℕ) → answers n l d ≡ answers n l c) (sym dropped)
    (λ n. ap (λ (b : Bool). answers (2 * n + (if b then 1 else 0)) (drop (i + 1) classes) d) same ∙ rest (2 * n + (if in_sets class.items c then 1 else 0))))
