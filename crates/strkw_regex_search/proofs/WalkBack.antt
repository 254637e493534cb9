-- The walk backwards over the program of a pattern: what is known before it by what is known behind it.
use Rattle.std.proofs.Common.{◌≡◌, ℕ, Bool, true, false, ◌&&◌, ◌||◌, List, [], ◌∷◌, ◌++◌, Option, refl, sym, ap, ◌∙◌, arith}
use Rattle.std.proofs.lemmas.Bool.Decides.{nat_tests}
use Rattle.std.proofs.lemmas.List.{append_assoc, append-nil}
use Rattle.strkw_charset.specs.declared.tree.CharSet.{CharSet}
use Rattle.strkw_regex_core.specs.Tree.{Look}
use Rattle.strkw_regex_core.specs.machine.MarkedPattern.{MarkedPattern, empty, class, look, cat, alt, star, plus, lookbehind, lookahead}
use Rattle.strkw_charset.specs.Membership.{differ}
use Rattle.strkw_regex_core.specs.Meaning.{holds}
use Rattle.strkw_regex_core.specs.machine.Positions.{sees, leaves, marks_of}
use Rattle.strkw_regex_core.specs.machine.Program.{Instruction, fork, other, join, star_begin, star_end, plus_begin, plus_end, look_begin, look_end, if_class}
use Rattle.strkw_regex_core.specs.machine.Program.{glance, program, alternatives}
use Rattle.strkw_regex_core.proofs.Steps.{plus_leaves}
use Rattle.strkw_regex_search.specs.machine.Walk.{Asked, first_or_false, below, back_over, asked}
use Rattle.strkw_regex_core.proofs.Options.{by_option}

module _ (b a : Option ℕ) where
  -- whether a way through the pattern reads nothing
  abbrev pub passes : MarkedPattern → Bool
  passes empty = true
  passes (class m n rs) = false
  passes (look l) = holds l b a
  passes (cat p q) = passes q && passes p
  passes (alt p q) = passes q || passes p
  passes (star p) = true
  passes (plus p) = passes p
  passes (lookbehind n p) = differ n (leaves b a p true)
  passes (lookahead n p) = differ n (sees b a p)

  -- what leaves the body of each loop that is not entered, in the order in which they begin
  abbrev pub agains : MarkedPattern → List Bool
  agains empty = []
  agains (class m n rs) = []
  agains (look l) = []
  agains (cat p q) = agains p ++ agains q
  agains (alt p q) = agains p ++ agains q
  agains (star p) = if_class p (λ n rs. []) (leaves b a p false ∷ agains p)
  agains (plus p) = if_class p (λ n rs. []) (leaves b a p false ∷ agains p)
  agains (lookbehind n p) = agains p
  agains (lookahead n p) = []

-- the same of two that are chosen by one pattern
pub both_by_class : {A B : Type 0} (P : A → B → Type 0) (p : MarkedPattern) (f : Bool → List CharSet → A) (x : A) (g : Bool → List CharSet → B) (y : B)
    → ((m n : Bool) (rs : List CharSet) → p ≡ class m n rs → P (f n rs) (g n rs)) → P x y → P (if_class p f x) (if_class p g y)
both_by_class P (class m n rs) f x g y h k = h m n rs refl
both_by_class P empty f x g y h k = k
both_by_class P (look l) f x g y h k = k
both_by_class P (cat p q) f x g y h k = k
both_by_class P (alt p q) f x g y h k = k
both_by_class P (star p) f x g y h k = k
both_by_class P (plus p) f x g y h k = k
both_by_class P (lookbehind n p) f x g y h k = k
both_by_class P (lookahead n p) f x g y h k = k

-- what is known before an instruction is the same where its four parts are
same_asked : (s t : Asked) → s.ends ≡ t.ends → s.goes_on ≡ t.goes_on → s.around ≡ t.around → s.again ≡ t.again → s ≡ t
same_asked s t e g r n = λ i. record { ends = e i; goes_on = g i; around = r i; again = n i }

module _ (b a : Option ℕ) where
  -- A way leaves the pattern that goes on from a mark in it, or that enters it and reads nothing.
  pub leaves_split : (p : MarkedPattern) (x : Bool) → leaves b a p x ≡ (leaves b a p false || (x && passes b a p))
  leaves_split empty x = grind (arith, nat_tests)
  leaves_split (class m n rs) x = grind (arith, nat_tests)
  leaves_split (look l) x = refl
  leaves_split (cat p q) x =
      let outer = leaves_split q (leaves b a p x) in
      let inner = leaves_split q (leaves b a p false) in
      let first = leaves_split p x in
      rw (outer, inner, first)
      (regroup (leaves b a p false) (leaves b a q false) (passes b a p) (passes b a q) x)
    where
      -- ways through two parts, as truth values: from a mark in the second, from one in the first, or from before
      regroup : (l m p q x : Bool) → (m || ((l || (x && p)) && q)) ≡ ((m || (l && q)) || (x && (q && p)))
      regroup l m p q x = grind (arith, nat_tests)
  leaves_split (alt p q) x =
      rw (leaves_split p x, leaves_split q x)
      (regroup (leaves b a p false) (leaves b a q false) (passes b a p) (passes b a q) x)
    where
      -- ways through two alternatives: from a mark in either, or from before them
      regroup : (l m p q x : Bool) → ((l || (x && p)) || (m || (x && q))) ≡ ((l || m) || (x && (q || p)))
      regroup l m p q x = grind (arith, nat_tests)
  leaves_split (star p) x = regroup (leaves b a p false) x
    where
      -- ways through any number of rounds: from a mark in one, or from before them
      regroup : (l x : Bool) → (x || l) ≡ ((false || l) || (x && true))
      regroup l x = grind (arith, nat_tests)
  leaves_split (plus p) x =
      let outer = leaves_split p (x || leaves b a p false) in
      let inner = leaves_split p (false || leaves b a p false) in
      outer ∙ regroup (leaves b a p false) (passes b a p) x ∙ ap (λ (y : Bool). y || (x && passes b a p)) (sym inner)
    where
      -- ways through one round or more: from a mark in one, or from before them
      regroup : (l p x : Bool) → (l || ((x || l) && p)) ≡ ((l || ((false || l) && p)) || (x && p))
      regroup l p x = grind (arith, nat_tests)
  leaves_split (lookbehind n p) x = refl
  leaves_split (lookahead n p) x = refl

  -- what is known before a pattern by what is known behind it
  abbrev pub before : MarkedPattern → Asked → Asked
  before p s =
      record {
        ends = s.ends && passes b a p;
        goes_on = s.goes_on || (s.ends && leaves b a p false);
        around = s.around;
        again = agains b a p ++ s.again;
      }

  -- what is known before one alternative of several, where e is known behind the last, and acc of those behind it
  pub record IsBeside (p : MarkedPattern) (e acc : Bool) (around : List Bool) (s t : Asked) : Type 0 where
    pub ends : (first_or_false t.around || t.ends) ≡ (acc || (e && passes b a p))
    pub around_is : below t.around ≡ e ∷ around
    pub goes_on : t.goes_on ≡ (s.goes_on || (e && leaves b a p false))
    pub again : t.again ≡ agains b a p ++ s.again

  -- what is known before a pattern by itself is known before it as one of several alternatives
  alone : (p : MarkedPattern) (e acc : Bool) (around : List Bool) (s t : Asked) → s.ends ≡ e → s.around ≡ acc ∷ e ∷ around → t ≡ before p s
      → IsBeside p e acc around s t
  alone p e acc around s t ends is same = rw (same, ends, is) (record { ends = refl; around_is = refl; goes_on = refl; again = refl })

  -- what is known before the first of two alternatives, with the second behind it, is known before both
  side_by_side : (p q : MarkedPattern) (e acc : Bool) (around : List Bool) (s u t : Asked)
      → u ≡ record {
        ends = e;
        goes_on = s.goes_on || (e && leaves b a q false);
        around = (acc || (e && passes b a q)) ∷ e ∷ around;
        again = agains b a q ++ s.again;
      }
      → IsBeside p e (acc || (e && passes b a q)) around u t → IsBeside (alt p q) e acc around s t
  side_by_side p q e acc around s u t is beside =
      record {
        ends = beside.ends ∙ regroup acc e (passes b a p) (passes b a q);
        around_is = beside.around_is;
        goes_on = beside.goes_on ∙ rw is (rejoin s.goes_on e (leaves b a p false) (leaves b a q false));
        again = beside.again ∙ rw is (sym (append_assoc (agains b a p) (agains b a q) s.again));
      }
    where
      -- what is asked of each of two alternatives may be asked once of both
      regroup : (x e p q : Bool) → ((x || (e && q)) || (e && p)) ≡ (x || (e && (q || p)))
      regroup x e p q = grind (arith, nat_tests)

      -- the same with the alternatives the other way round
      rejoin : (g e l m : Bool) → ((g || (e && m)) || (e && l)) ≡ (g || (e && (l || m)))
      rejoin g e l m = grind (arith, nat_tests)

  -- what is known before a loop of any number of rounds, by what is known before its body
  asked_star : (p : MarkedPattern) (is : List Instruction) (ms : List Bool)
      → asked b a (program p ++ (star_end ∷ is)) (marks_of p ++ ms) ≡ before p (asked b a (star_end ∷ is) ms)
      → asked b a ((star_begin ∷ (program p ++ (star_end ∷ []))) ++ is) (marks_of p ++ ms)
      ≡ record {
        ends = (asked b a is ms).ends && true;
        goes_on = (asked b a is ms).goes_on || ((asked b a is ms).ends && leaves b a (star p) false);
        around = (asked b a is ms).around;
        again = leaves b a p false ∷ (agains b a p ++ (asked b a is ms).again);
      }
  asked_star p is ms known =
      let s = asked b a is ms in
      ap (λ (js : List Instruction). asked b a (star_begin ∷ js) (marks_of p ++ ms)) (append_assoc (program p) (star_end ∷ []) is)
      ∙ ap (back_over b a star_begin (first_or_false (marks_of p ++ ms))) known
      ∙ same_asked _ _ (ends s.ends) refl refl refl
    where
      -- beside a truth value, one that holds changes nothing
      ends : (e : Bool) → e ≡ (e && true)
      ends e = grind (arith, nat_tests)

  -- and before a loop of one round or more
  asked_plus : (p : MarkedPattern) (is : List Instruction) (ms : List Bool)
      → asked b a (program p ++ (plus_end ∷ is)) (marks_of p ++ ms) ≡ before p (asked b a (plus_end ∷ is) ms)
      → asked b a ((plus_begin ∷ (program p ++ (plus_end ∷ []))) ++ is) (marks_of p ++ ms)
      ≡ record {
        ends = (asked b a is ms).ends && passes b a p;
        goes_on = (asked b a is ms).goes_on || ((asked b a is ms).ends && leaves b a (plus p) false);
        around = (asked b a is ms).around;
        again = leaves b a p false ∷ (agains b a p ++ (asked b a is ms).again);
      }
  asked_plus p is ms known =
      let s = asked b a is ms in
      ap (λ (js : List Instruction). asked b a (plus_begin ∷ js) (marks_of p ++ ms)) (append_assoc (program p) (plus_end ∷ []) is)
      ∙ ap (back_over b a plus_begin (first_or_false (marks_of p ++ ms))) known
      ∙ same_asked _ _ refl (ap (λ (y : Bool). s.goes_on || (s.ends && y)) (plus_leaves (sees b a) b a p false)) refl refl

  -- of a pattern that stands alone, and of one that stands among alternatives
  -- what is known before its program is what `before` makes of what is known behind it
  abbrev pub IsAsked : MarkedPattern → Type 0
  IsAsked p = (is : List Instruction) (ms : List Bool) → asked b a (program p ++ is) (marks_of p ++ ms) ≡ before p (asked b a is ms)

  -- and what is known before it among alternatives is as `IsBeside` says
  abbrev pub IsAskedBeside : MarkedPattern → Type 0
  IsAskedBeside p = (is : List Instruction) (ms : List Bool) (e acc : Bool) (around : List Bool)
      → (asked b a is ms).ends ≡ e → (asked b a is ms).around ≡ acc ∷ e ∷ around
      → IsBeside p e acc around (asked b a is ms) (asked b a (alternatives p ++ is) (marks_of p ++ ms))

  -- so it is before the empty pattern
  nothing_asked : IsAsked empty
  nothing_asked is ms = let s = asked b a is ms in same_asked _ _ (ends s.ends) (goes_on s.goes_on s.ends) refl refl
    where
      -- beside a truth value, one that holds changes nothing
      ends : (e : Bool) → e ≡ (e && true)
      ends e = grind (arith, nat_tests)

      -- nor does an alternative that cannot hold
      goes_on : (g e : Bool) → g ≡ (g || (e && false))
      goes_on g e = grind (arith, nat_tests)

  -- so it is before an assertion
  look_asked : (l : Look) → IsAsked (look l)
  look_asked l is ms = let s = asked b a is ms in same_asked _ _ refl (goes_on s.goes_on s.ends) refl refl
    where
      -- an alternative that cannot hold changes nothing
      goes_on : (g e : Bool) → g ≡ (g || (e && false))
      goes_on g e = grind (arith, nat_tests)

  -- so it is before two patterns, one behind the other, where it is before each
  cat_asked : (p q : MarkedPattern) → IsAsked p → IsAsked q → IsAsked (cat p q)
  cat_asked p q first second is ms =
      let s = asked b a is ms in
      ap (λ (js : List Instruction). asked b a js ((marks_of p ++ marks_of q) ++ ms)) (append_assoc (program p) (program q) is)
      ∙ ap (asked b a (program p ++ (program q ++ is))) (append_assoc (marks_of p) (marks_of q) ms)
      ∙ first (program q ++ is) (marks_of q ++ ms) ∙ ap (before p) (second is ms)
      ∙ same_asked _ _ (ends s.ends (passes b a p) (passes b a q))
      (goes_on s.goes_on s.ends (passes b a q) (leaves b a p false) (leaves b a q false)
      ∙ ap (λ (y : Bool). s.goes_on || (s.ends && y)) (sym (leaves_split q (leaves b a p false)))) refl
      (sym (append_assoc (agains b a p) (agains b a q) s.again))
    where
      -- of three that hold together, the brackets may be moved
      ends : (e p q : Bool) → ((e && q) && p) ≡ (e && (q && p))
      ends e p q = grind (arith, nat_tests)

      -- what is asked of each of two parts may be asked once of both
      goes_on : (g e q l m : Bool) → ((g || (e && m)) || ((e && q) && l)) ≡ (g || (e && (m || (l && q))))
      goes_on g e q l m = grind (arith, nat_tests)

  -- so it is before a choice between a fork and a join, where it is before both alternatives
  asked_choice : (p q : MarkedPattern) → IsAskedBeside p → IsAsked q → (is : List Instruction) (ms : List Bool)
      → asked b a ((fork ∷ (alternatives p ++ (other ∷ (program q ++ (join ∷ []))))) ++ is) ((marks_of p ++ marks_of q) ++ ms)
      ≡ before (alt p q) (asked b a is ms)
  asked_choice p q first second is ms =
      let s = asked b a is ms in
      let known = second (join ∷ is) ms in
      let beside = first (other ∷ (program q ++ (join ∷ is))) (marks_of q ++ ms) s.ends (false || (s.ends && passes b a q)) s.around
      (ap (λ (t : Asked). first_or_false (below t.around)) known)
      (ap (λ (t : Asked). (first_or_false t.around || t.ends) ∷ first_or_false (below t.around) ∷ below (below t.around)) known) in
      rw (
        append_assoc (alternatives p) (other ∷ (program q ++ (join ∷ []))) is,
        append_assoc (program q) (join ∷ []) is,
        append_assoc (marks_of p) (marks_of q)
            ms,
      )
      (same_asked _ _ (beside.ends ∙ ends s.ends (passes b a p) (passes b a q))
      (beside.goes_on ∙ ap (λ (t : Asked). t.goes_on || (s.ends && leaves b a p false)) known
      ∙ goes_on s.goes_on s.ends (leaves b a p false) (leaves b a q false))
      (ap below beside.around_is)
      (beside.again ∙ ap (λ (t : Asked). agains b a p ++ t.again) known ∙ sym (append_assoc (agains b a p) (agains b a q) s.again)))
    where
      -- what is asked of each of two alternatives may be asked once of both
      ends : (e p q : Bool) → ((false || (e && q)) || (e && p)) ≡ (e && (q || p))
      ends e p q = grind (arith, nat_tests)

      -- the same with the alternatives the other way round
      goes_on : (g e l m : Bool) → ((g || (e && m)) || (e && l)) ≡ (g || (e && (l || m)))
      goes_on g e l m = grind (arith, nat_tests)

  -- so it is before a choice, where it is before both alternatives
  alt_asked : (p q : MarkedPattern) → IsAskedBeside p → IsAsked q → IsAsked (alt p q)
  alt_asked p q first second is ms =
      by_option (λ (js : List Instruction). asked b a (js ++ is) ((marks_of p ++ marks_of q) ++ ms) ≡ before (alt p q) (asked b a is ms))
      p q _ _ (λ m n rs e f. rw (e, f) refl) (asked_choice p q first second is ms)

  -- and before a choice among alternatives
  alt_asked_beside : (p q : MarkedPattern) → IsAskedBeside p → IsAsked q → IsAskedBeside (alt p q)
  alt_asked_beside p q first second is ms e acc around ends is_around =
      let s = asked b a is ms in
      let known = second is ms in
      side_by_side p q e acc around s (asked b a (other ∷ (program q ++ is)) (marks_of q ++ ms)) _
      (ap (back_over b a other (first_or_false (marks_of q ++ ms))) known ∙ rw (is_around, ends) refl)
      (rw (append_assoc (alternatives p) (other ∷ program q) is, append_assoc (marks_of p) (marks_of q) ms)
      (first (other ∷ (program q ++ is)) (marks_of q ++ ms) e (acc || (e && passes b a q)) around
      (ap (λ (t : Asked). first_or_false (below t.around)) known ∙ rw is_around refl)
      (ap (λ (t : Asked). (first_or_false t.around || t.ends) ∷ first_or_false (below t.around) ∷ below (below t.around)) known ∙ rw (is_around, ends) refl)))

  -- so it is before any number of rounds, where it is before one
  star_asked : (p : MarkedPattern) → IsAsked p → IsAsked (star p)
  star_asked p body is ms =
      both_by_class
      (λ (js : List Instruction) (bs : List Bool). asked b a (js ++ is) (marks_of p ++ ms)
      ≡ record {
        ends = (asked b a is ms).ends && true;
        goes_on = (asked b a is ms).goes_on || ((asked b a is ms).ends && leaves b a (star p) false);
        around = (asked b a is ms).around;
        again = bs ++ (asked b a is ms).again;
      })
      p _ _ _ _ (λ m n rs e. rw e refl) (asked_star p is ms (body (star_end ∷ is) ms))

  -- and before one round or more
  plus_asked : (p : MarkedPattern) → IsAsked p → IsAsked (plus p)
  plus_asked p body is ms =
      both_by_class
      (λ (js : List Instruction) (bs : List Bool). asked b a (js ++ is) (marks_of p ++ ms)
      ≡ record {
        ends = (asked b a is ms).ends && passes b a p;
        goes_on = (asked b a is ms).goes_on || ((asked b a is ms).ends && leaves b a (plus p) false);
        around = (asked b a is ms).around;
        again = bs ++ (asked b a is ms).again;
      })
      p _ _ _ _ (λ m n rs e. rw e refl) (asked_plus p is ms (body (plus_end ∷ is) ms))

  -- so it is before a lookbehind, where it is before its body, which a way enters at each place
  behind_asked : (n : Bool) (p : MarkedPattern) → IsAsked p → IsAsked (lookbehind n p)
  behind_asked n p body is ms =
      let s = asked b a is ms in
      ap (λ (js : List Instruction). asked b a (look_begin n ∷ js) (marks_of p ++ ms)) (append_assoc (program p) (look_end n ∷ []) is)
      ∙ ap (back_over b a (look_begin n) (first_or_false (marks_of p ++ ms))) (body (look_end n ∷ is) ms)
      ∙ same_asked _ _ (ap (λ (y : Bool). s.ends && differ n y) (sym (leaves_split p true))) (goes_on s.goes_on s.ends) refl refl
    where
      -- an alternative that cannot hold changes nothing
      goes_on : (g e : Bool) → g ≡ (g || (e && false))
      goes_on g e = grind (arith, nat_tests)

  -- what is known before a lookahead, where what it looks for lets pass where it is seen
  ahead_asked_by : (n : Bool) (p : MarkedPattern) (is : List Instruction) (ms : List Bool)
      → asked b a (glance p ++ (look_end n ∷ is)) ms
      ≡ record {
        ends = true && sees b a p;
        goes_on = false;
        around = (asked b a is ms).goes_on ∷ (asked b a is ms).ends ∷ (asked b a is ms).around;
        again = (asked b a is ms).again;
      }
      → asked b a ((look_begin n ∷ (glance p ++ (look_end n ∷ []))) ++ is) ms
      ≡ record {
        ends = (asked b a is ms).ends && differ n (sees b a p);
        goes_on = (asked b a is ms).goes_on;
        around = (asked b a is ms).around;
        again = (asked b a is ms).again;
      }
  ahead_asked_by n p is ms known =
      ap (λ (js : List Instruction). asked b a (look_begin n ∷ js) ms) (append_assoc (glance p) (look_end n ∷ []) is)
      ∙ ap (back_over b a (look_begin n) (first_or_false ms)) known

  -- what is known before what a lookahead looks for, by what is known behind it
  abbrev before_glance : MarkedPattern → Asked → Asked
  before_glance p s =
      record {
        ends = s.ends && sees b a p;
        goes_on = s.goes_on;
        around = s.around;
        again = s.again;
      }

  -- backwards, nothing lets pass
  nothing_glanced : (is : List Instruction) (ms : List Bool) → asked b a is ms ≡ before_glance empty (asked b a is ms)
  nothing_glanced is ms = same_asked _ _ (ends (asked b a is ms).ends) refl refl refl
    where
      -- beside a truth value, one that holds changes nothing
      ends : (e : Bool) → e ≡ (e && true)
      ends e = grind (arith, nat_tests)

  -- and a glance lets pass where it is seen
  glance_asked : (p : MarkedPattern) (is : List Instruction) (ms : List Bool) → asked b a (glance p ++ is) ms ≡ before_glance p (asked b a is ms)
  glance_asked empty is ms = nothing_glanced is ms
  glance_asked (class m n rs) is ms = refl
  glance_asked (look l) is ms = refl
  glance_asked (cat p q) is ms = glance_asked q is ms
  glance_asked (alt p q) is ms =
      let s = asked b a is ms in
      ap (λ (js : List Instruction). asked b a (fork ∷ js) ms) (append_assoc (glance p) (other ∷ (glance q ++ (join ∷ []))) is)
      ∙ ap (λ (js : List Instruction). asked b a (fork ∷ (glance p ++ (other ∷ js))) ms) (append_assoc (glance q) (join ∷ []) is)
      ∙ ap (back_over b a fork (first_or_false ms)) (glance_asked p (other ∷ (glance q ++ (join ∷ is))) ms)
      ∙ ap (λ (t : Asked). back_over b a fork (first_or_false ms) (before_glance p (back_over b a other (first_or_false ms) t))) (glance_asked q (join ∷ is) ms)
      ∙ same_asked _ _ (ends s.ends (sees b a p) (sees b a q)) refl refl refl
    where
      -- what is asked of each of two alternatives may be asked once of both
      ends : (e p q : Bool) → ((false || (e && q)) || (e && p)) ≡ (e && (p || q))
      ends e p q = grind (arith, nat_tests)
  glance_asked (star p) is ms = nothing_glanced is ms
  glance_asked (plus p) is ms = nothing_glanced is ms
  glance_asked (lookbehind n p) is ms = nothing_glanced is ms
  glance_asked (lookahead n p) is ms =
      ahead_asked_by n p is ms (glance_asked p (look_end n ∷ is) ms)

  -- so it is before a lookahead
  ahead_asked : (n : Bool) (p : MarkedPattern) → IsAsked (lookahead n p)
  ahead_asked n p is ms =
      let s = asked b a is ms in
      ahead_asked_by n p is ms (glance_asked p (look_end n ∷ is) ms) ∙ same_asked _ _ refl (goes_on s.goes_on s.ends) refl refl
    where
      -- an alternative that cannot hold changes nothing
      goes_on : (g e : Bool) → g ≡ (g || (e && false))
      goes_on g e = grind (arith, nat_tests)

  -- a pattern whose program is the same among alternatives is asked so there too, if it is alone
  alone_beside : (p : MarkedPattern) → alternatives p ≡ program p → IsAsked p → IsAsked p × IsAskedBeside p
  alone_beside p same known = (
    known,
    λ is ms e acc around ends is_around.
        alone p e acc around _ _ ends is_around (ap (λ (js : List Instruction). asked b a (js ++ is) (marks_of p ++ ms)) same ∙ known is ms),
  )

  -- so each pattern is asked so, alone and among alternatives
  asked_both : (p : MarkedPattern) → IsAsked p × IsAskedBeside p
  asked_both empty = alone_beside empty refl nothing_asked
  asked_both (class m n rs) = alone_beside (class m n rs) refl (λ is ms. refl)
  asked_both (look l) = alone_beside (look l) refl (look_asked l)
  asked_both (cat p q) = alone_beside (cat p q) refl (cat_asked p q (asked_both p).0 (asked_both q).0)
  asked_both (alt p q) =
      (alt_asked p q (asked_both p).1 (asked_both q).0, alt_asked_beside p q (asked_both p).1 (asked_both q).0)
  asked_both (star p) = alone_beside (star p) refl (star_asked p (asked_both p).0)
  asked_both (plus p) = alone_beside (plus p) refl (plus_asked p (asked_both p).0)
  asked_both (lookbehind n p) = alone_beside (lookbehind n p) refl (behind_asked n p (asked_both p).0)
  asked_both (lookahead n p) = alone_beside (lookahead n p) refl (ahead_asked n p)

  -- what leaves each loop of a program
  pub asked_again : (p : MarkedPattern) (ms : List Bool) → (asked b a (program p) (marks_of p ++ ms)).again ≡ agains b a p
  asked_again p ms =
      ap (λ (js : List Instruction). (asked b a js (marks_of p ++ ms)).again) (sym (append-nil (program p)))
      ∙ ap (λ (s : Asked). s.again) ((asked_both p).0 [] ms) ∙ append-nil (agains b a p)
