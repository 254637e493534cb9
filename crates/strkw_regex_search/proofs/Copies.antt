-- What is repeated, and the programs of what is repeated and of alternatives.
use Rattle.std.proofs.Common.{◌≡◌, ℕ, zero, suc, ◌-◌, true, false, List, [], ◌∷◌, ◌++◌, drop, Result, IfOk, Box, refl, sym, ap, subst, ◌∙◌}
use Rattle.std.proofs.lemmas.Result.{IfOk-weaker}
use Rattle.std.specs.Vec.{vec_len}
use Rattle.std.specs.declared.alloc.Global.{Global}
use Rattle.strkw_regex_core.specs.machine.MarkedPattern.{MarkedPattern, empty, alt}
use Rattle.strkw_regex_core.specs.machine.Times.{repetition}
use Rattle.strkw_regex_core.specs.machine.Program.{Instruction, fork, other, join, is_empty, program, alternatives, concat_copies}
use Rattle.strkw_regex_search.specs.machine.Machine.{instructions_of, Writes}
use Rattle.strkw_regex_core.specs.machine.Shape.{outline_pattern, outline_node}
use Rattle.strkw_regex_search.specs.declared.code.Code.{Code}
use Rattle.strkw_regex_core.specs.declared.counted_regex.Quantifier.{Quantifier}
use Rattle.strkw_regex_core.specs.declared.counted_regex.CountedRegex.{CountedRegex}
use Rattle.strkw_regex_core.specs.declared.counted_regex.CountedRegex.TheOpen.{CountedRegex-F}
use Rattle.strkw_regex_core.specs.declared.counted_regex.CountedRegex.TheViews.{roll-CountedRegex}
use Rattle.strkw_regex_core.specs.declared.counted_regex.CountedRegex.TheFolds.{fold-roll-CountedRegex, ind-CountedRegex}
use Rattle.strkw_regex_core.specs.declared.counted_regex.CountedRegex.TheVariants.{Or, Repeated, rolls-Or, rolls-Repeated}
use Rattle.strkw_regex_core.proofs.Options.{by_option}
use Rattle.strkw_regex_search.proofs.Written.{repeats_written}

-- it stands among alternatives as it stands alone
pub repeated_beside : (n : ℕ) (p : MarkedPattern) → alternatives (repetition n p) ≡ program (repetition n p)
repeated_beside zero p = refl
repeated_beside (suc n) p = refl

-- a pattern stands among alternatives as it stands alone
abbrev IsAlone : MarkedPattern → Type 0
IsAlone p = alternatives p ≡ program p

-- one node does that is neither a choice nor repeated
node_alone : (x : CountedRegex-F CountedRegex) → ((a b : Box CountedRegex Global) → roll-CountedRegex x ≡ Or a b → ⊥)
    → ((q : Quantifier) (b : Box CountedRegex Global) → roll-CountedRegex x ≡ Repeated q b → ⊥) → IsAlone (outline_pattern (roll-CountedRegex x))
node_alone CountedRegex-F.Empty no_choice not_repeated = subst IsAlone (sym (fold-roll-CountedRegex MarkedPattern outline_node CountedRegex-F.Empty)) refl
node_alone (CountedRegex-F.Class n s) no_choice not_repeated = subst IsAlone (sym (fold-roll-CountedRegex MarkedPattern outline_node (CountedRegex-F.Class n s))) refl
node_alone CountedRegex-F.Start no_choice not_repeated = subst IsAlone (sym (fold-roll-CountedRegex MarkedPattern outline_node CountedRegex-F.Start)) refl
node_alone CountedRegex-F.End no_choice not_repeated = subst IsAlone (sym (fold-roll-CountedRegex MarkedPattern outline_node CountedRegex-F.End)) refl
node_alone CountedRegex-F.Boundary no_choice not_repeated = subst IsAlone (sym (fold-roll-CountedRegex MarkedPattern outline_node CountedRegex-F.Boundary)) refl
node_alone CountedRegex-F.NoBoundary no_choice not_repeated = subst IsAlone (sym (fold-roll-CountedRegex MarkedPattern outline_node CountedRegex-F.NoBoundary)) refl
node_alone (CountedRegex-F.Then a b) no_choice not_repeated = subst IsAlone (sym (fold-roll-CountedRegex MarkedPattern outline_node (CountedRegex-F.Then a b))) refl
node_alone (CountedRegex-F.Or a b) no_choice not_repeated = absurd (no_choice a b (rolls-Or a b))
node_alone (CountedRegex-F.Repeated q b) no_choice not_repeated = absurd (not_repeated q b (rolls-Repeated q b))
node_alone (CountedRegex-F.Behind n b) no_choice not_repeated = subst IsAlone (sym (fold-roll-CountedRegex MarkedPattern outline_node (CountedRegex-F.Behind n b))) refl
node_alone (CountedRegex-F.Ahead n b) no_choice not_repeated = subst IsAlone (sym (fold-roll-CountedRegex MarkedPattern outline_node (CountedRegex-F.Ahead n b))) refl

-- an outline does that is neither a choice nor repeated
pub alone_beside : (o : CountedRegex) → ((a b : Box CountedRegex Global) → o ≡ Or a b → ⊥) → ((q : Quantifier) (b : Box CountedRegex Global) → o ≡ Repeated q b → ⊥)
    → IsAlone (outline_pattern o)
alone_beside =
    ind-CountedRegex
    (λ o. ((a b : Box CountedRegex Global) → o ≡ Or a b → ⊥) → ((q : Quantifier) (b : Box CountedRegex Global) → o ≡ Repeated q b → ⊥) → IsAlone (outline_pattern o))
    (λ x y is. node_alone x)

-- the program of what is repeated is so many copies of its program
pub program_repeated : (n : ℕ) (p : MarkedPattern) → program (repetition n p) ≡ concat_copies n (program p)
program_repeated zero p = refl
program_repeated (suc n) p = ap (λ (is : List Instruction). program p ++ is) (program_repeated n p)

-- what a call says that copies what was written first
pub repeats_program : {A E : Type 0} (r : Result A E) (p : MarkedPattern) (old mid new : Code) (from count : ℕ)
    → from ≡ vec_len old.instructions → (count ≡ 0 → ⊥)
    → Writes old mid (program p) → IfOk r (λ _. Writes mid new (concat_copies (count - 1) (drop from (instructions_of mid))))
    → IfOk r (λ _. Writes old new (program (repetition count p)))
repeats_program r p old mid new from count begins some one more =
    rw program_repeated
    (IfOk-weaker r _ _ (λ _. repeats_written old mid new _ from count (begins ∙ old.instructions.ok.0) some one) more)

-- alternatives of which the first is not nothing
pub program_choice : (p q : MarkedPattern) → is_empty p ≡ false
    → program (alt p q) ≡ fork ∷ (alternatives p ++ (other ∷ (program q ++ (join ∷ []))))
program_choice p q h =
    by_option (λ (is : List Instruction). is ≡ fork ∷ (alternatives p ++ (other ∷ (program q ++ (join ∷ [])))))
    p q _ _ (λ m n rs e f. absurd (not_both e)) refl
  where
    -- the first is not the empty pattern
    not_both : p ≡ empty → ⊥
    not_both e = let nothing : is_empty p ≡ true = ap is_empty e in cc
