-- Instructions of the code as those of the definitions.
use Rattle.std.proofs.Common.{◌≡◌, ℕ, zero, suc, ◌+◌, ◌-◌, ◌<◌, nat_lt, Bool, true, ◌&&◌, List, [], ◌∷◌, ◌++◌, length, length-append, drop, Option}
use Rattle.std.proofs.Common.{Some, slice_get, refl, sym, ap, ◌∙◌, arith}
use Rattle.std.proofs.Math.Seq.{drop-append_seam}
use Rattle.std.proofs.lemmas.Bool.{lt-ltb, ltb-true}
use Rattle.std.proofs.lemmas.List.{append_assoc, append-nil}
use Rattle.strkw_regex_core.specs.machine.Program.{Instruction, concat_copies}
use Rattle.strkw_regex_search.specs.machine.Instructions.{turn_instruction, read_instruction, peek_instruction, instruction_of, instructions}
use Rattle.strkw_regex_search.specs.machine.Instructions.{are_within}
use Rattle.strkw_regex_search.specs.machine.Machine.{instructions_of, IsWithin, Writes}
use Rattle.strkw_regex_search.specs.declared.code.Code.{Code}
use Rattle.strkw_regex_search.specs.declared.code.Turn.{Turn as CodeTurn}
use Rattle.strkw_regex_search.specs.declared.code.Class.{Class}
use Rattle.strkw_regex_search.specs.declared.code.Instruction.{Instruction as CodeInstruction}
use Rattle.strkw_regex_search.specs.declared.code.Instruction.TheVariants.{Read, Peek, Turn}
use Rattle.strkw_charset.proofs.Booleans.{and_true, and_left, and_right}

-- two lists of the code's instructions, one behind the other, stand for those of both
pub more_instructions : (cs : List Class) (xs ys : List CodeInstruction) → instructions cs (xs ++ ys) ≡ instructions cs xs ++ instructions cs ys
more_instructions cs [] ys = refl
more_instructions cs (x ∷ xs) ys = ap (λ (is : List Instruction). instruction_of cs x ∷ is) (more_instructions cs xs ys)

-- the code's instructions stand for as many of the definitions
pub instruction_count : (cs : List Class) (xs : List CodeInstruction) → length (instructions cs xs) ≡ length xs
instruction_count cs [] = refl
instruction_count cs (x ∷ xs) = ap suc (instruction_count cs xs)

-- two lists that read only from so many classes do so together
pub within_more : (n : ℕ) (xs ys : List CodeInstruction) → are_within n xs ≡ true → are_within n ys ≡ true → are_within n (xs ++ ys) ≡ true
within_more n [] ys h g = g
within_more n (Read k again optional ∷ xs) ys h g =
    and_true _ _ (and_left (nat_lt k n) _ h) (within_more n xs ys (and_right (nat_lt k n) _ h) g)
within_more n (Peek k ∷ xs) ys h g = and_true _ _ (and_left (nat_lt k n) _ h) (within_more n xs ys (and_right (nat_lt k n) _ h) g)
within_more n (Turn t ∷ xs) ys h g = within_more n xs ys h g

-- instructions that read only from so many classes read only from those and one more
pub within_one_more : (n : ℕ) (xs : List CodeInstruction) → are_within n xs ≡ true → are_within (suc n) xs ≡ true
within_one_more n [] h = refl
within_one_more n (Read k again optional ∷ xs) h =
    and_true _ _ (lt-ltb k (suc n) (omega (arith, ltb-true k n (and_left (nat_lt k n) _ h)))) (within_one_more n xs (and_right (nat_lt k n) _ h))
within_one_more n (Peek k ∷ xs) h =
    and_true _ _ (lt-ltb k (suc n) (omega (arith, ltb-true k n (and_left (nat_lt k n) _ h)))) (within_one_more n xs (and_right (nat_lt k n) _ h))
within_one_more n (Turn t ∷ xs) h = within_one_more n xs h

-- the number of a class that was there is still its own
pub same_class : (cs ds : List Class) (k : ℕ) → k < length cs → slice_get (cs ++ ds) k ≡ slice_get cs k
same_class [] ds k h = absurd (omega (arith, h))
same_class (c ∷ cs) ds zero h = refl
same_class (c ∷ cs) ds (suc k) h = same_class cs ds k (omega (arith, h))

-- and the number of a class that is added is how many were there
pub last_class : (cs : List Class) (c : Class) → slice_get (cs ++ c ∷ []) (length cs) ≡ Some c
last_class [] c = refl
last_class (d ∷ cs) c = last_class cs c

-- classes that are added change no instructions that read from those before
pub same_instructions : (cs ds : List Class) (xs : List CodeInstruction) → are_within (length cs) xs ≡ true
    → instructions (cs ++ ds) xs ≡ instructions cs xs
same_instructions cs ds [] h = refl
same_instructions cs ds (Read k again optional ∷ xs) h =
    ap (λ (o : Option Class). read_instruction again optional o ∷ instructions (cs ++ ds) xs)
    (same_class cs ds k (ltb-true k (length cs) (and_left (nat_lt k (length cs)) _ h)))
    ∙ ap (λ (is : List Instruction). read_instruction again optional (slice_get cs k) ∷ is) (same_instructions cs ds xs (and_right (nat_lt k (length cs)) _ h))
same_instructions cs ds (Peek k ∷ xs) h =
    ap (λ (o : Option Class). peek_instruction o ∷ instructions (cs ++ ds) xs)
    (same_class cs ds k (ltb-true k (length cs) (and_left (nat_lt k (length cs)) _ h)))
    ∙ ap (λ (is : List Instruction). peek_instruction (slice_get cs k) ∷ is) (same_instructions cs ds xs (and_right (nat_lt k (length cs)) _ h))
same_instructions cs ds (Turn t ∷ xs) h = ap (λ (is : List Instruction). turn_instruction t ∷ is) (same_instructions cs ds xs h)

-- where nothing is written, that is what is written
pub nothing_written : (c : Code) → Writes c c []
nothing_written c = record {
  within = λ h. h;
  written_is = λ h. sym (append-nil (instructions_of c));
  classes = omega arith;
  grows = omega arith;
}

-- what is written in two turns is that of the first, and behind it that of the second
pub both_written : (old mid new : Code) (is js : List Instruction) → Writes old mid is → Writes mid new js → Writes old new (is ++ js)
both_written old mid new is js one two = record {
  within = λ h. two.within (one.within h);
  written_is =
      λ h. two.written_is (one.within h) ∙ ap (λ (ks : List Instruction). ks ++ js) (one.written_is h) ∙ append_assoc (instructions_of old) is js;
  classes = omega (arith, one.classes, two.classes);
  grows = omega (arith, one.grows, two.grows);
}

-- what stands behind what was there is known by where it begins
pub behind : (old : Code) (is : List Instruction) → drop (length old.instructions.items) (instructions_of old ++ is) ≡ is
behind old is =
    ap (λ (n : ℕ). drop n (instructions_of old ++ is)) (sym (instruction_count old.classes.items old.instructions.items))
    ∙ drop-append_seam (instructions_of old) is

-- a list that is the same as what is written is written too
pub as_written : (old new : Code) (is js : List Instruction) → (IsWithin old → is ≡ js)
    → Writes old new is → Writes old new js
as_written old new is js same known = record {
  within = known.within;
  written_is = λ h. known.written_is h ∙ ap (λ (ks : List Instruction). instructions_of old ++ ks) (same h);
  classes = known.classes;
  grows = known.grows;
}

-- what is written first, and then copied from where it begins
pub repeats_written : (old mid new : Code) (is : List Instruction) (from count : ℕ)
    → from ≡ length old.instructions.items → (count ≡ 0 → ⊥)
    → Writes old mid is → Writes mid new (concat_copies (count - 1) (drop from (instructions_of mid)))
    → Writes old new (concat_copies count is)
repeats_written old mid new is from count begins some one more =
    let counted : suc (count - 1) ≡ count = omega (arith, some) in
    as_written old new _ _
    (λ h. ap (λ (ks : List Instruction). is ++ concat_copies (count - 1) ks)
    (ap (λ (n : ℕ). drop n (instructions_of mid)) begins ∙ ap (drop (length old.instructions.items)) (one.written_is h)
    ∙ behind old is)
    ∙ ap (λ (n : ℕ). concat_copies n is) counted)
    (both_written old mid new is _ one more)

-- an instruction that reads no class, put behind the others, is what is written
pub turn_written : (old new : Code) (t : CodeTurn) → new.classes ≡ old.classes
    → new.instructions.items ≡ old.instructions.items ++ Turn t ∷ [] → Writes old new (turn_instruction t ∷ [])
turn_written old new t same items =
    let longer : length new.instructions.items ≡ length old.instructions.items + 1 =
    ap length items ∙ length-append old.instructions.items (Turn t ∷ []) in
    let classes = ap (λ cs. length cs.items) same in
    record {
      within = λ h. rw (same, items) (within_more _ old.instructions.items (Turn t ∷ []) h refl);
      written_is = λ h. rw (same, items) (more_instructions old.classes.items old.instructions.items (Turn t ∷ []));
      classes = omega (arith, classes, longer);
      grows = omega (arith, longer);
    }

-- the same of one that asks about a class by its number, which is put behind the other classes
class_written : (old new : Code) (c : Class) (i : CodeInstruction) (told : Option Class → Instruction) → new.classes.items ≡ old.classes.items ++ c ∷ []
    → new.instructions.items ≡ old.instructions.items ++ i ∷ []
    → are_within (suc (length old.classes.items)) (i ∷ []) ≡ true
    → ((cs : List Class) → instruction_of cs i ≡ told (slice_get cs (length old.classes.items)))
    → Writes old new (told (Some c) ∷ [])
class_written old new c i told added items last told_is =
    let longer : length new.instructions.items ≡ length old.instructions.items + 1 =
    ap length items ∙ length-append old.instructions.items (i ∷ []) in
    let more : length new.classes.items ≡ suc (length old.classes.items) =
    ap length added ∙ length-append old.classes.items (c ∷ []) ∙ omega arith in
    record {
      within = λ h. rw (more, items) (within_more _ old.instructions.items _ (within_one_more _ old.instructions.items h) last);
      written_is = λ h.
          rw (added, items)
          (more_instructions (old.classes.items ++ c ∷ []) old.instructions.items (i ∷ [])
          ∙ ap (λ (j : Instruction). instructions (old.classes.items ++ c ∷ []) old.instructions.items ++ (j ∷ [])) (told_is (old.classes.items ++ c ∷ []))
          ∙ ap (λ (is : List Instruction). is ++ (told (slice_get (old.classes.items ++ c ∷ []) (length old.classes.items)) ∷ []))
          (same_instructions old.classes.items (c ∷ []) old.instructions.items h)
          ∙ ap (λ (o : Option Class). instructions_of old ++ (told o ∷ [])) (last_class old.classes.items c));
      classes = omega (arith, more, longer);
      grows = omega (arith, longer);
    }

-- a class that is new is one of those that are there with it
new_class : (n : ℕ) → (nat_lt n (suc n) && true) ≡ true
new_class n = and_true _ _ (lt-ltb n (suc n) (omega arith)) refl

-- so it is with one that reads the class
pub read_written : (old new : Code) (c : Class) (again optional : Bool) → new.classes.items ≡ old.classes.items ++ c ∷ []
    → new.instructions.items ≡ old.instructions.items ++ Read (length old.classes.items) again optional ∷ []
    → Writes old new (read_instruction again optional (Some c) ∷ [])
read_written old new c again optional added items =
    class_written old new c _ (read_instruction again optional) added items (new_class (length old.classes.items)) (λ cs. refl)

-- and with one that peeks at it
pub peek_written : (old new : Code) (c : Class) → new.classes.items ≡ old.classes.items ++ c ∷ []
    → new.instructions.items ≡ old.instructions.items ++ Peek (length old.classes.items) ∷ []
    → Writes old new (peek_instruction (Some c) ∷ [])
peek_written old new c added items = class_written old new c _ peek_instruction added items (new_class (length old.classes.items)) (λ cs. refl)

-- copies stand one behind another, and it is one which is last
pub one_more_copy : {A : Type 0} (n : ℕ) (xs : List A) → concat_copies n xs ++ xs ≡ concat_copies (suc n) xs
one_more_copy zero xs = sym (append-nil xs)
one_more_copy (suc n) xs = append_assoc xs (concat_copies n xs) xs ∙ ap (λ ys. xs ++ ys) (one_more_copy n xs)

-- the instructions from a place on are those that the code has from there on
pub drop_instructions : (cs : List Class) (n : ℕ) (xs : List CodeInstruction) → drop n (instructions cs xs) ≡ instructions cs (drop n xs)
drop_instructions cs zero xs = refl
drop_instructions cs (suc n) [] = refl
drop_instructions cs (suc n) (x ∷ xs) = drop_instructions cs n xs

-- copies of the code's instructions stand for copies of those that these stand for
pub copied_instructions : (cs : List Class) (n : ℕ) (xs : List CodeInstruction) → instructions cs (concat_copies n xs) ≡ concat_copies n (instructions cs xs)
copied_instructions cs zero xs = refl
copied_instructions cs (suc n) xs =
    more_instructions cs xs (concat_copies n xs) ∙ ap (λ (is : List Instruction). instructions cs xs ++ is) (copied_instructions cs n xs)

-- from each place on a list reads only from so many classes, where all of it does
pub within_rest : (n k : ℕ) (xs : List CodeInstruction) → are_within n xs ≡ true → are_within n (drop k xs) ≡ true
within_rest n zero xs h = h
within_rest n (suc k) [] h = h
within_rest n (suc k) (Read j again optional ∷ xs) h = within_rest n k xs (and_right (nat_lt j n) _ h)
within_rest n (suc k) (Peek j ∷ xs) h = within_rest n k xs (and_right (nat_lt j n) _ h)
within_rest n (suc k) (Turn t ∷ xs) h = within_rest n k xs h

-- and so do copies of it
within_copies : (n k : ℕ) (xs : List CodeInstruction) → are_within n xs ≡ true → are_within n (concat_copies k xs) ≡ true
within_copies n zero xs h = refl
within_copies n (suc k) xs h = within_more n xs (concat_copies k xs) h (within_copies n k xs h)

-- copies of what stands from a place on, put behind all, are what is written
pub copies_written : (old new : Code) (from times : ℕ) → new.classes ≡ old.classes
    → new.instructions.items ≡ old.instructions.items ++ concat_copies times (drop from old.instructions.items)
    → Writes old new (concat_copies times (drop from (instructions_of old)))
copies_written old new from times same items =
    let longer : length new.instructions.items ≡ length old.instructions.items + length (concat_copies times (drop from old.instructions.items)) =
    ap length items ∙ length-append old.instructions.items _ in
    let classes = ap (λ cs. length cs.items) same in
    record {
      within = λ h. rw (same, items) (within_more _ old.instructions.items _ h (within_copies _ times _ (within_rest _ from old.instructions.items h)));
      written_is = λ h.
          rw (same, items)
          (more_instructions old.classes.items old.instructions.items (concat_copies times (drop from old.instructions.items))
          ∙ ap (λ (is : List Instruction). instructions_of old ++ is)
          (copied_instructions old.classes.items times (drop from old.instructions.items)
          ∙ ap (concat_copies times) (sym (drop_instructions old.classes.items from old.instructions.items))));
      classes = omega (arith, classes, longer);
      grows = omega (arith, longer);
    }
