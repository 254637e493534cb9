-- How the code finds the chain of a program.
use Rattle.std.proofs.Common.{◌≡◌, ℕ, zero, suc, ◌+◌, ◌<◌, ◌≤◌, nat_lt, Bool, true, false, List, [], ◌∷◌, ◌++◌, length, drop, replicate, get_or}
use Rattle.std.proofs.Common.{Option, Some, refl, sym, ap, ◌∙◌, set, ne_of_lt, drop-cons, drop_of_length-le, get_or-set_same, get_or-set_other}
use Rattle.std.proofs.Common.{append-nil, arith}
use Rattle.std.proofs.lemmas.List.{append_assoc}
use Rattle.strkw_ecma.specs.machine.Chains.{once, repeated, AreChained}
use Rattle.strkw_ecma.specs.machine.Links.{are_below}
use Rattle.strkw_regex_search.specs.machine.Machine.{class_reads}
use Rattle.strkw_regex_search.specs.machine.Instructions.{are_within}
use Rattle.strkw_ecma.specs.declared.links.Often.{Often}
use Rattle.strkw_ecma.specs.declared.links.Often.TheVariants.{AtMost, AnyTimes, SomeTimes}
use Rattle.strkw_regex_search.specs.declared.code.Class.{Class}
use Rattle.strkw_regex_search.specs.declared.code.Instruction.{Instruction as CodeInstruction}
use Rattle.strkw_regex_search.specs.declared.code.Instruction.TheVariants.{Read, Turn}
use Rattle.strkw_regex_search.specs.declared.code.Turn.TheVariants as turn
use Rattle.strkw_charset.proofs.Lists.{one_more}
use Rattle.strkw_charset.proofs.Booleans.{and_true, and_left, and_right}

-- instructions that read one class more once
once_append : (ns : List ℕ) (n : ℕ) → once (ns ++ n ∷ []) ≡ once ns ++ Read n false false ∷ []
once_append [] n = refl
once_append (m ∷ ms) n = ap (λ (is : List CodeInstruction). Read m false false ∷ is) (once_append ms n)

-- one that reads a class once is one of them
pub once_more : (is : List CodeInstruction) (ns ms : List ℕ) (k n : ℕ) (d : CodeInstruction) → is ≡ once ns ++ drop k is → k < length is
    → get_or is k d ≡ Read n false false → ms ≡ ns ++ n ∷ [] → is ≡ once ms ++ drop (k + 1) is
once_more is ns ms k n d before within here more =
    let next : suc k ≡ k + 1 = omega arith in
    before
    ∙ ap (λ (l : List CodeInstruction). once ns ++ l)
    (drop-cons is k d within ∙ ap (λ (x : CodeInstruction). x ∷ drop (suc k) is) here ∙ ap (λ (m : ℕ). Read n false false ∷ drop m is) next)
    ∙ sym (append_assoc (once ns) (Read n false false ∷ []) (drop (k + 1) is))
    ∙ ap (λ (l : List CodeInstruction). l ++ drop (k + 1) is) (sym (once_append ns n) ∙ ap once (sym more))

-- a table has one answer more
pub one_answer : (o : Option Class) (table : List Bool) (k : ℕ) (answer : Bool) → k < length table → answer ≡ class_reads (Some k) o
    → ((b : ℕ) → b < k → get_or table b false ≡ class_reads (Some b) o)
    → (b : ℕ) → b < k + 1 → get_or (set table k answer) b false ≡ class_reads (Some b) o
one_answer o table k answer within is so_far =
    one_more (λ (b : ℕ). get_or (set table k answer) b false ≡ class_reads (Some b) o) k
    (get_or-set_same table k answer false within ∙ is)
    (λ b h. get_or-set_other table k b answer false (ne_of_lt h) ∙ so_far b h)

-- instructions between `^` and `$` that are a chain
pub all_written : (all within behind rest : List CodeInstruction) (first last : List ℕ) (n m : ℕ) (often : Often)
    → all ≡ Turn turn.Start ∷ (within ++ Turn turn.End ∷ [])
    → within ≡ once first ++ behind → behind ≡ repeated often n ++ rest → rest ≡ once last ++ drop m rest → length rest ≤ m
    → AreChained all first often n last
all_written all within behind rest first last n m often ends one two three short =
    let over : rest ≡ once last = three ∙ ap (λ (l : List CodeInstruction). once last ++ l) (drop_of_length-le rest {i = m} short) ∙ append-nil (once last) in
    let whole : within ≡ once first ++ (repeated often n ++ once last) =
    one ∙ ap (λ (l : List CodeInstruction). once first ++ l) (two ∙ ap (λ (l : List CodeInstruction). repeated often n ++ l) over) in
    ends ∙ ap (λ (l : List CodeInstruction). Turn turn.Start ∷ (l ++ Turn turn.End ∷ [])) whole
    ∙ ap (λ (l : List CodeInstruction). Turn turn.Start ∷ l)
    (append_assoc (once first) (repeated often n ++ once last) (Turn turn.End ∷ [])
    ∙ ap (λ (l : List CodeInstruction). once first ++ l) (append_assoc (repeated often n) (once last) (Turn turn.End ∷ [])))

-- classes that are read once each are among those of a program
once_below : (n : ℕ) (ns : List ℕ) (rest : List CodeInstruction) → are_within n (once ns ++ rest) ≡ true
    → (are_below n ns ≡ true) × (are_within n rest ≡ true)
once_below n [] rest h = (refl, h)
once_below n (m ∷ ms) rest h =
    let more = once_below n ms rest (and_right (nat_lt m n) _ h) in
    (and_true _ _ (and_left (nat_lt m n) _ h) more.0, more.1)

-- so are those behind copies
copies_within : (n most m : ℕ) (rest : List CodeInstruction) → are_within n (replicate most (Read m false true) ++ rest) ≡ true → are_within n rest ≡ true
copies_within n zero m rest h = h
copies_within n (suc most) m rest h = copies_within n most m rest (and_right (nat_lt m n) _ h)

-- and behind the one class
repeated_within : (n m : ℕ) (often : Often) (rest : List CodeInstruction) → are_within n (repeated often m ++ rest) ≡ true → are_within n rest ≡ true
repeated_within n m (AtMost most) rest h = copies_within n most m rest h
repeated_within n m AnyTimes rest h = and_right (nat_lt m n) _ h
repeated_within n m SomeTimes rest h = and_right (nat_lt m n) _ h

-- the classes of a chain are among those of its program
pub chain_below : (n m : ℕ) (all : List CodeInstruction) (first last : List ℕ) (often : Often)
    → AreChained all first often m last → are_within n all ≡ true
    → (are_below n first ≡ true) × (are_below n last ≡ true)
chain_below n m all first last often is within =
    let one = once_below n first _ (sym (ap (are_within n) is) ∙ within) in
    let two = once_below n last _ (repeated_within n m often _ one.1) in
    (one.0, two.0)
