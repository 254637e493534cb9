-- Marks that stand beside a pattern, as a list.
use Rattle.std.proofs.Common.{◌≡◌, ◌⊎◌, ℕ, zero, suc, ◌+◌, ◌<◌, ◌≤◌, Bool, true, false, ◌||◌, List, [], ◌∷◌, ◌++◌, length, drop, drop_at, drop-drop}
use Rattle.std.proofs.Common.{replicate, Option, get_or, get_or-drop, length-append, length-drop, inl, inr, refl, sym, ap, ◌∙◌, true≢false, arith}
use Rattle.std.specs.Cmp.Lexicographic.{pointwise}
use Rattle.std.proofs.Math.Bool.{beq}
use Rattle.std.specs.List.{list_any}
use Rattle.std.proofs.lemmas.List.{append_assoc, get_or_past, get_or-replicate, length-replicate}
use Rattle.strkw_charset.specs.declared.tree.CharSet.{CharSet}
use Rattle.strkw_regex_core.specs.machine.MarkedPattern.{MarkedPattern, empty, class, look, cat, alt, star, plus, lookbehind, lookahead}
use Rattle.strkw_regex_core.specs.machine.Positions.{leaves, step, classes, mark_classes, marks_of, is_clean}
use Rattle.strkw_regex_core.specs.machine.Program.{Instruction, fork, other, join, star_begin, star_end, plus_begin, plus_end, look_begin, look_end, if_class}
use Rattle.strkw_regex_core.specs.machine.Program.{if_option, program, alternatives}
use Rattle.strkw_regex_search.specs.machine.Walk.{walked}
use Rattle.strkw_regex_search.proofs.Programs.{walked_is}
use Rattle.strkw_charset.proofs.Booleans.{and_left, and_right}

-- a list in which no mark is set has none from any place on
none_behind : (ms : List Bool) (n : ℕ) → ((k : ℕ) → get_or ms k false ≡ false) → (k : ℕ) → get_or (drop n ms) k false ≡ false
none_behind ms n none k = get_or-drop n ms k false ∙ none (n + k)

-- with no marks a pattern without marks is itself
pub unmarked : (ms : List Bool) (p : MarkedPattern) → is_clean p ≡ true → ((k : ℕ) → get_or ms k false ≡ false) → mark_classes ms p ≡ p
unmarked ms empty h none = refl
unmarked ms (class true n rs) h none = absurd (true≢false (sym h))
unmarked ms (class false n rs) h none = ap (λ (b : Bool). class b n rs) (none 0)
unmarked ms (look l) h none = refl
unmarked ms (cat p q) h none =
    ap (λ (r : MarkedPattern). cat r (mark_classes (drop (classes p) ms) q)) (unmarked ms p (and_left _ _ h) none)
    ∙ ap (cat p) (unmarked (drop (classes p) ms) q (and_right (is_clean p) _ h) (none_behind ms (classes p) none))
unmarked ms (alt p q) h none =
    ap (λ (r : MarkedPattern). alt r (mark_classes (drop (classes p) ms) q)) (unmarked ms p (and_left _ _ h) none)
    ∙ ap (alt p) (unmarked (drop (classes p) ms) q (and_right (is_clean p) _ h) (none_behind ms (classes p) none))
unmarked ms (star p) h none = ap star (unmarked ms p h none)
unmarked ms (plus p) h none = ap plus (unmarked ms p h none)
unmarked ms (lookbehind n p) h none = ap (lookbehind n) (unmarked ms p h none)
unmarked ms (lookahead n p) h none = refl

-- Other marks change neither which classes there are, nor the program.
pub same_classes : (ms : List Bool) (p : MarkedPattern) → classes (mark_classes ms p) ≡ classes p
same_classes ms empty = refl
same_classes ms (class m n rs) = refl
same_classes ms (look l) = refl
same_classes ms (cat p q) = omega (arith, same_classes ms p, same_classes (drop (classes p) ms) q)
same_classes ms (alt p q) = omega (arith, same_classes ms p, same_classes (drop (classes p) ms) q)
same_classes ms (star p) = same_classes ms p
same_classes ms (plus p) = same_classes ms p
same_classes ms (lookbehind n p) = same_classes ms p
same_classes ms (lookahead n p) = refl

-- what is chosen by whether a pattern is a class is the same with other marks
same_if_class : {A : Type 0} (ms : List Bool) (p : MarkedPattern) (f : Bool → List CharSet → A) (x : A) → if_class (mark_classes ms p) f x ≡ if_class p f x
same_if_class ms empty f x = refl
same_if_class ms (class m n rs) f x = refl
same_if_class ms (look l) f x = refl
same_if_class ms (cat p q) f x = refl
same_if_class ms (alt p q) f x = refl
same_if_class ms (star p) f x = refl
same_if_class ms (plus p) f x = refl
same_if_class ms (lookbehind n p) f x = refl
same_if_class ms (lookahead n p) f x = refl

-- and what is chosen by whether two alternatives are nothing and a class
same_if_option : {A : Type 0} (ms ns : List Bool) (p q : MarkedPattern) (f : Bool → List CharSet → A) (x : A)
    → if_option (mark_classes ms p) (mark_classes ns q) f x ≡ if_option p q f x
same_if_option ms ns empty q f x = same_if_class ns q f x
same_if_option ms ns (class m n rs) q f x = refl
same_if_option ms ns (look l) q f x = refl
same_if_option ms ns (cat p r) q f x = refl
same_if_option ms ns (alt p r) q f x = refl
same_if_option ms ns (star p) q f x = refl
same_if_option ms ns (plus p) q f x = refl
same_if_option ms ns (lookbehind n p) q f x = refl
same_if_option ms ns (lookahead n p) q f x = refl

-- with these marks a pattern has the same program, by itself and among alternatives
IsSame : List Bool → MarkedPattern → Type 0
IsSame ms p = (program (mark_classes ms p) ≡ program p) × (alternatives (mark_classes ms p) ≡ alternatives p)

-- the program of a loop is the same with other marks, where that of its body is
loop_is_same : (ms : List Bool) (p : MarkedPattern) (begin end : Instruction) (f : Bool → List CharSet → List Instruction) → program (mark_classes ms p) ≡ program p
    → if_class (mark_classes ms p) f (begin ∷ (program (mark_classes ms p) ++ (end ∷ []))) ≡ if_class p f (begin ∷ (program p ++ (end ∷ [])))
loop_is_same ms p begin end f e =
    same_if_class ms p f _ ∙ ap (λ (is : List Instruction). if_class p f (begin ∷ (is ++ (end ∷ [])))) e

-- and that of two alternatives, where those of both are
choice_is_same : (ms ns : List Bool) (p q : MarkedPattern) (f : Bool → List CharSet → List Instruction)
    → alternatives (mark_classes ms p) ≡ alternatives p → program (mark_classes ns q) ≡ program q
    → if_option (mark_classes ms p) (mark_classes ns q) f (fork ∷ (alternatives (mark_classes ms p) ++ (other ∷ (program (mark_classes ns q) ++ (join ∷ [])))))
    ≡ if_option p q f (fork ∷ (alternatives p ++ (other ∷ (program q ++ (join ∷ [])))))
choice_is_same ms ns p q f e g =
    same_if_option ms ns p q f _
    ∙ ap (λ (is : List Instruction). if_option p q f (fork ∷ (is ++ (other ∷ (program (mark_classes ns q) ++ (join ∷ [])))))) e
    ∙ ap (λ (is : List Instruction). if_option p q f (fork ∷ (alternatives p ++ (other ∷ (is ++ (join ∷ [])))))) g

-- and that of two patterns one behind the other
cat_is_same : (ms : List Bool) (p q : MarkedPattern) → program (mark_classes ms p) ≡ program p → program (mark_classes (drop (classes p) ms) q) ≡ program q
    → program (mark_classes ms (cat p q)) ≡ program (cat p q)
cat_is_same ms p q e f =
    ap (λ (is : List Instruction). is ++ program (mark_classes (drop (classes p) ms) q)) e ∙ ap (λ (is : List Instruction). program p ++ is) f

-- with any marks a pattern has the same program, by itself and among alternatives
both_are_same : (ms : List Bool) (p : MarkedPattern) → IsSame ms p
unfolding IsSame
both_are_same ms empty = (refl, refl)
both_are_same ms (class m n rs) = (refl, refl)
both_are_same ms (look l) = (refl, refl)
both_are_same ms (cat p q) =
    let e = cat_is_same ms p q (both_are_same ms p).0 (both_are_same (drop (classes p) ms) q).0 in (e, e)
both_are_same ms (alt p q) =
    let e : alternatives (mark_classes ms p) ≡ alternatives p = (both_are_same ms p).1 in
    let f : program (mark_classes (drop (classes p) ms) q) ≡ program q = (both_are_same (drop (classes p) ms) q).0 in (
      choice_is_same ms (drop (classes p) ms) p q _ e f,
      ap (λ (is : List Instruction). is ++ (other ∷ program (mark_classes (drop (classes p) ms) q))) e
          ∙ ap (λ (is : List Instruction). alternatives p ++ (other ∷ is)) f,
    )
both_are_same ms (star p) = let e = loop_is_same ms p star_begin star_end _ (both_are_same ms p).0 in (e, e)
both_are_same ms (plus p) = let e = loop_is_same ms p plus_begin plus_end _ (both_are_same ms p).0 in (e, e)
both_are_same ms (lookbehind n p) =
    let e = ap (λ (is : List Instruction). look_begin n ∷ (is ++ (look_end n ∷ []))) (both_are_same ms p).0 in (e, e)
both_are_same ms (lookahead n p) = (refl, refl)

-- marks change nothing of the program of a pattern
pub same_program : (ms : List Bool) (p : MarkedPattern) → program (mark_classes ms p) ≡ program p
unfolding IsSame
same_program ms p = (both_are_same ms p).0

-- the last marks are those of a pattern
pub marked_again : (ms ns : List Bool) (p : MarkedPattern) → mark_classes ns (mark_classes ms p) ≡ mark_classes ns p
marked_again ms ns empty = refl
marked_again ms ns (class m n rs) = refl
marked_again ms ns (look l) = refl
marked_again ms ns (cat p q) =
    ap (λ (r : MarkedPattern). cat r (mark_classes (drop (classes (mark_classes ms p)) ns) (mark_classes (drop (classes p) ms) q))) (marked_again ms ns p)
    ∙ ap (λ (k : ℕ). cat (mark_classes ns p) (mark_classes (drop k ns) (mark_classes (drop (classes p) ms) q))) (same_classes ms p)
    ∙ ap (cat (mark_classes ns p)) (marked_again (drop (classes p) ms) (drop (classes p) ns) q)
marked_again ms ns (alt p q) =
    ap (λ (r : MarkedPattern). alt r (mark_classes (drop (classes (mark_classes ms p)) ns) (mark_classes (drop (classes p) ms) q))) (marked_again ms ns p)
    ∙ ap (λ (k : ℕ). alt (mark_classes ns p) (mark_classes (drop k ns) (mark_classes (drop (classes p) ms) q))) (same_classes ms p)
    ∙ ap (alt (mark_classes ns p)) (marked_again (drop (classes p) ms) (drop (classes p) ns) q)
marked_again ms ns (star p) = ap star (marked_again ms ns p)
marked_again ms ns (plus p) = ap plus (marked_again ms ns p)
marked_again ms ns (lookbehind n p) = ap (lookbehind n) (marked_again ms ns p)
marked_again ms ns (lookahead n p) = refl

-- a pattern has as many marks as classes
pub marks_count : (p : MarkedPattern) → length (marks_of p) ≡ classes p
marks_count empty = refl
marks_count (class m n rs) = refl
marks_count (look l) = refl
marks_count (cat p q) = length-append (marks_of p) (marks_of q) ∙ omega (arith, marks_count p, marks_count q)
marks_count (alt p q) = length-append (marks_of p) (marks_of q) ∙ omega (arith, marks_count p, marks_count q)
marks_count (star p) = marks_count p
marks_count (plus p) = marks_count p
marks_count (lookbehind n p) = marks_count p
marks_count (lookahead n p) = refl

-- a pattern with its own marks is itself
pub own_marks : (p : MarkedPattern) (ms : List Bool) → mark_classes (marks_of p ++ ms) p ≡ p
own_marks empty ms = refl
own_marks (class m n rs) ms = refl
own_marks (look l) ms = refl
own_marks (cat p q) ms =
    rw (append_assoc (marks_of p) (marks_of q) ms, drop_at (marks_of p) (marks_of q ++ ms) (classes p) (marks_count p))
    (ap (λ (r : MarkedPattern). cat r (mark_classes (marks_of q ++ ms) q)) (own_marks p (marks_of q ++ ms)) ∙ ap (cat p) (own_marks q ms))
own_marks (alt p q) ms =
    rw (append_assoc (marks_of p) (marks_of q) ms, drop_at (marks_of p) (marks_of q ++ ms) (classes p) (marks_count p))
    (ap (λ (r : MarkedPattern). alt r (mark_classes (marks_of q ++ ms) q)) (own_marks p (marks_of q ++ ms)) ∙ ap (alt p) (own_marks q ms))
own_marks (star p) ms = ap star (own_marks p ms)
own_marks (plus p) ms = ap plus (own_marks p ms)
own_marks (lookbehind n p) ms = ap (lookbehind n) (own_marks p ms)
own_marks (lookahead n p) ms = refl

-- as many marks as there are classes become its own, and the others stay
-- where a list begins with a first list, and goes on with a second, it begins with both
both_taken : (ms : List Bool) (n m : ℕ) (xs ys : List Bool) → xs ++ drop n ms ≡ ms → ys ++ drop m (drop n ms) ≡ drop n ms
    → (xs ++ ys) ++ drop (n + m) ms ≡ ms
both_taken ms n m xs ys e f =
    append_assoc xs ys (drop (n + m) ms) ∙ ap (λ (zs : List Bool). xs ++ (ys ++ zs)) (sym (drop-drop m n ms))
    ∙ ap (λ (zs : List Bool). xs ++ zs) f ∙ e

-- the marks that a pattern takes from a list long enough, and those left, are the list
pub marks_taken : (ms : List Bool) (p : MarkedPattern) → classes p ≤ length ms → marks_of (mark_classes ms p) ++ drop (classes p) ms ≡ ms
marks_taken ms empty h = refl
marks_taken [] (class m n rs) h = absurd (omega (arith, h))
marks_taken (x ∷ ms) (class m n rs) h = refl
marks_taken ms (look l) h = refl
marks_taken ms (cat p q) h =
    both_taken ms (classes p) (classes q) _ _ (marks_taken ms p (omega (arith, h)))
    (marks_taken (drop (classes p) ms) q (omega (arith, h, length-drop (classes p) ms)))
marks_taken ms (alt p q) h =
    both_taken ms (classes p) (classes q) _ _ (marks_taken ms p (omega (arith, h)))
    (marks_taken (drop (classes p) ms) q (omega (arith, h, length-drop (classes p) ms)))
marks_taken ms (star p) h = marks_taken ms p h
marks_taken ms (plus p) h = marks_taken ms p h
marks_taken ms (lookbehind n p) h = marks_taken ms p h
marks_taken ms (lookahead n p) h = refl

module _ (b a : Option ℕ) where
  -- after a step a pattern has as many classes as before
  step_classes : (p : MarkedPattern) (x : Bool) → classes (step b a p x) ≡ classes p
  step_classes empty x = refl
  step_classes (class m n rs) x = refl
  step_classes (look l) x = refl
  step_classes (cat p q) x = omega (arith, step_classes p x, step_classes q (leaves b a p x))
  step_classes (alt p q) x = omega (arith, step_classes p x, step_classes q x)
  step_classes (star p) x = step_classes p (x || leaves b a p false)
  step_classes (plus p) x = step_classes p (x || leaves b a p false)
  step_classes (lookbehind n p) x = step_classes p true
  step_classes (lookahead n p) x = refl

  -- a step is of the same pattern, with other marks
  pub step_marked : (ms : List Bool) (p : MarkedPattern) (x : Bool) → mark_classes ms (step b a p x) ≡ mark_classes ms p
  step_marked ms empty x = refl
  step_marked ms (class m n rs) x = refl
  step_marked ms (look l) x = refl
  step_marked ms (cat p q) x =
      ap (λ (r : MarkedPattern). cat r (mark_classes (drop (classes (step b a p x)) ms) (step b a q (leaves b a p x)))) (step_marked ms p x)
      ∙ ap (λ (k : ℕ). cat (mark_classes ms p) (mark_classes (drop k ms) (step b a q (leaves b a p x)))) (step_classes p x)
      ∙ ap (cat (mark_classes ms p)) (step_marked (drop (classes p) ms) q (leaves b a p x))
  step_marked ms (alt p q) x =
      ap (λ (r : MarkedPattern). alt r (mark_classes (drop (classes (step b a p x)) ms) (step b a q x))) (step_marked ms p x)
      ∙ ap (λ (k : ℕ). alt (mark_classes ms p) (mark_classes (drop k ms) (step b a q x))) (step_classes p x)
      ∙ ap (alt (mark_classes ms p)) (step_marked (drop (classes p) ms) q x)
  step_marked ms (star p) x = ap star (step_marked ms p (x || leaves b a p false))
  step_marked ms (plus p) x = ap plus (step_marked ms p (x || leaves b a p false))
  step_marked ms (lookbehind n p) x = ap (lookbehind n) (step_marked ms p true)
  step_marked ms (lookahead n p) x = refl

  -- so it has the same program
  pub step_program : (p : MarkedPattern) (x : Bool) → program (step b a p x) ≡ program p
  step_program p x =
      sym (same_program [] (step b a p x)) ∙ ap program (step_marked [] p x) ∙ same_program [] p

  -- What a walk over the program comes to, with the marks in a list: the answer of the pattern, and its marks behind
  -- the character.
  pub record IsStepOf (p : MarkedPattern) (ms ns : List Bool) (left : Bool) : Type 0 where
    pub leaves_is : left ≡ leaves b a (mark_classes ms p) true
    pub marks_are : mark_classes ns p ≡ step b a (mark_classes ms p) true
    pub lengths : length ns ≡ length ms

  -- a walk over the program comes to that, where the list has a mark for each class
  pub walk_steps : (p : MarkedPattern) (ms : List Bool) → classes p ≤ length ms
      → IsStepOf p ms (walked b a (program p) ms).marks (walked b a (program p) ms).leaves
  walk_steps p ms h =
      let q = mark_classes ms p in
      let rest = drop (classes p) ms in
      let taken : marks_of q ++ rest ≡ ms = marks_taken ms p h in
      let walk = ap (λ is. walked b a is ms) (sym (same_program ms p)) ∙ ap (walked b a (program q)) (sym taken) ∙ walked_is b a q rest in
      let stepped = step b a q true in
      let behind = ap (λ w. w.marks) walk in
      record {
        leaves_is = ap (λ w. w.leaves) walk;
        marks_are =
            ap (λ (ns : List Bool). mark_classes ns p) behind
            ∙ sym (marked_again ms (marks_of stepped ++ rest) p)
            ∙ sym (step_marked (marks_of stepped ++ rest) q true)
            ∙ own_marks stepped rest;
        lengths =
            ap length behind ∙ length-append (marks_of stepped) rest
            ∙ omega (arith, marks_count stepped, step_classes q true, same_classes ms p, length-drop (classes p) ms, h);
      }

-- a number is less than another, or is at least that
below_or_past : (k n : ℕ) → (k < n) ⊎ (n ≤ k)
below_or_past k n = grind arith

-- in a list of marks none of which is set, none is at any place
pub none_marked : (n k : ℕ) → get_or (replicate n false) k false ≡ false
none_marked n k = by (below_or_past k n)
  where
    -- the same by whether the place lies in the list or behind it
    by : (k < n) ⊎ (n ≤ k) → get_or (replicate n false) k false ≡ false
    by (inl h) = get_or-replicate n k false false h
    by (inr h) = get_or_past (replicate n false) k false (omega (arith, length-replicate n false))

-- two answers that compare as equal are the same
same_bool : (x y : Bool) → beq x y ≡ true → x ≡ y
same_bool true true e = refl
same_bool true false e = sym e
same_bool false true e = e
same_bool false false e = refl

-- and so are two lists of them, compared place by place
pub same_list : (ms ns : List Bool) → pointwise beq ms ns ≡ true → ms ≡ ns
same_list [] [] h = refl
same_list [] (n ∷ ns) h = absurd (true≢false (sym h))
same_list (m ∷ ms) [] h = absurd (true≢false (sym h))
same_list (m ∷ ms) (n ∷ ns) h =
    let first : m ≡ n = same_bool m n (and_left _ _ h) in
    let rest : ms ≡ ns = same_list ms ns (and_right (beq m n) _ h) in
    cc

-- where none of some marks is set, none is at any place
pub none_among : (ms : List Bool) → list_any (λ m. beq m true) ms ≡ false → (k : ℕ) → get_or ms k false ≡ false
none_among [] h k = refl
none_among (true ∷ ms) h k = absurd (true≢false h)
none_among (false ∷ ms) h zero = refl
none_among (false ∷ ms) h (suc k) = none_among ms h k
