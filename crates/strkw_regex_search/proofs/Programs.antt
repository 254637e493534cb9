-- A search that follows the program of a pattern comes to what the definition says of the pattern.
use Rattle.std.proofs.Common.{◌≡◌, ℕ, Bool, true, false, ◌&&◌, ◌||◌, List, [], ◌∷◌, ◌++◌, Option, refl, sym, ap, ◌∙◌, arith}
use Rattle.std.proofs.lemmas.Bool.Decides.{nat_tests}
use Rattle.std.proofs.lemmas.List.{append_assoc, append-nil}
use Rattle.strkw_charset.specs.declared.tree.CharSet.{CharSet}
use Rattle.strkw_regex_core.specs.machine.MarkedPattern.{MarkedPattern, empty, class, look, cat, alt, star, plus, lookbehind, lookahead}
use Rattle.strkw_regex_core.specs.machine.Positions.{reads, sees, leaves, step, marks_of}
use Rattle.strkw_regex_core.specs.machine.Program.{Instruction, read, fork, other, join, star_end, plus_end, look_begin, look_end, glance, program}
use Rattle.strkw_regex_core.specs.machine.Program.{alternatives}
use Rattle.strkw_regex_search.specs.machine.Walk.{Walked, followed, walked}
use Rattle.strkw_regex_core.proofs.Options.{by_option}
use Rattle.strkw_regex_search.proofs.WalkBack.{agains, both_by_class, asked_again}

module _ (b a : Option ℕ) where
  -- the walk forwards from here, by whether a way has come and by what is kept of loops and alternatives
  abbrev pub follow : List Instruction → Bool → List Bool → List Bool → List Bool → Walked
  follow is x around again ms = followed b a is (record { enters = x; around = around; again = again }) ms

  -- what a walk comes to, with one mark more in front
  abbrev one_mark : Bool → Walked → Walked
  one_mark m w = record { leaves = w.leaves; marks = m ∷ w.marks }

  -- what follows, behind the marks of a pattern
  abbrev pub with_marks : List Bool → Walked → Walked
  with_marks ns w = record { leaves = w.leaves; marks = ns ++ w.marks }

  -- a walk over its program leaves the marks of its step, and goes on as a way leaves it
  abbrev pub IsFollowed : MarkedPattern → Type 0
  IsFollowed p = (is : List Instruction) (x : Bool) (around again ms : List Bool)
      → follow (program p ++ is) x around (agains b a p ++ again) (marks_of p ++ ms)
      ≡ with_marks (marks_of (step b a p x)) (follow is (leaves b a p x) around again ms)

  -- among alternatives what leaves is the last of them, y, or stands beside, in acc'
  pub record FollowedBeside (p : MarkedPattern) (is : List Instruction) (x acc : Bool) (around again ms : List Bool) : Type 0 where
    pub leaving : Bool
    pub beside : Bool
    pub either : (beside || leaving) ≡ (acc || leaves b a p x)
    pub rest : follow (alternatives p ++ is) x (acc ∷ x ∷ around) (agains b a p ++ again) (marks_of p ++ ms)
        ≡ with_marks (marks_of (step b a p x)) (follow is leaving (beside ∷ x ∷ around) again ms)

  -- it is followed so among alternatives, whatever comes behind it
  abbrev pub IsFollowedBeside : MarkedPattern → Type 0
  IsFollowedBeside p = (is : List Instruction) (x acc : Bool) (around again ms : List Bool) → FollowedBeside p is x acc around again ms

  -- an alternative that does not hold changes nothing
  or_nothing : (x : Bool) → (x || false) ≡ x
  or_nothing true = refl
  or_nothing false = refl

  -- so a class is followed
  class_followed : (m n : Bool) (rs : List CharSet) → IsFollowed (class m n rs)
  class_followed m n rs is x around again ms =
      ap (λ (y : Bool). one_mark (y && reads a n rs) (follow is m around again ms)) (or_nothing x)

  -- and a class that may be missing, which is one instruction
  option_followed : (m n : Bool) (rs : List CharSet) (is : List Instruction) (x : Bool) (around again ms : List Bool)
      → follow (read false true n rs ∷ is) x around again (m ∷ ms)
      ≡ with_marks (marks_of (step b a (alt empty (class m n rs)) x)) (follow is (leaves b a (alt empty (class m n rs)) x) around again ms)
  option_followed m n rs is x around again ms =
      ap (λ (y : Bool). one_mark (y && reads a n rs) (follow is (x || m) around again ms)) (or_nothing x)

  -- two parts, one behind the other
  -- the marks of the first stand before those of the second
  then_followed : (ns os : List Bool) (u v w : Walked) → u ≡ with_marks ns v → v ≡ with_marks os w → u ≡ with_marks (ns ++ os) w
  then_followed ns os u v w e f =
      e ∙ ap (with_marks ns) f ∙ ap (λ (ms : List Bool). record { leaves = w.leaves; marks = ms }) (sym (append_assoc ns os w.marks))

  -- so two patterns, one behind the other, are followed, where each is
  cat_followed : (p q : MarkedPattern) → IsFollowed p → IsFollowed q → IsFollowed (cat p q)
  cat_followed p q first second is x around again ms =
      rw (append_assoc (program p) (program q) is, append_assoc (agains b a p) (agains b a q) again, append_assoc (marks_of p) (marks_of q) ms)
      (then_followed (marks_of (step b a p x)) (marks_of (step b a q (leaves b a p x))) _ _ _
      (first (program q ++ is) x around (agains b a q ++ again) (marks_of q ++ ms)) (second is (leaves b a p x) around again ms))

  -- so a choice between a fork and a join is followed, where both alternatives are
  choice_followed : (p q : MarkedPattern) → IsFollowedBeside p → IsFollowed q → (is : List Instruction) (x : Bool) (around again ms : List Bool)
      → follow ((fork ∷ (alternatives p ++ (other ∷ (program q ++ (join ∷ []))))) ++ is) x around ((agains b a p ++ agains b a q) ++ again)
      ((marks_of p ++ marks_of q) ++ ms)
      ≡ with_marks (marks_of (step b a (alt p q) x)) (follow is (leaves b a (alt p q) x) around again ms)
  choice_followed p q first second is x around again ms =
      let one = first (other ∷ (program q ++ (join ∷ is))) x false around (agains b a q ++ again) (marks_of q ++ ms) in
      rw (
        append_assoc (alternatives p) (other ∷ (program q ++ (join ∷ []))) is,
        append_assoc (program q) (join ∷ []) is,
        append_assoc (agains b a p)
            (agains b a q) again,
        append_assoc (marks_of p) (marks_of q) ms,
      )
      (then_followed (marks_of (step b a p x)) (marks_of (step b a q x)) _ _ _ one.rest
      (second (join ∷ is) x ((one.beside || one.leaving) ∷ x ∷ around) again ms
      ∙ ap (λ (y : Bool). with_marks (marks_of (step b a q x)) (follow is (y || leaves b a q x) around again ms)) one.either))

  -- so a choice is followed, where both alternatives are
  alt_followed : (p q : MarkedPattern) → IsFollowedBeside p → IsFollowed q → IsFollowed (alt p q)
  alt_followed p q first second is x around again ms =
      by_option
      (λ (js : List Instruction). follow (js ++ is) x around ((agains b a p ++ agains b a q) ++ again) ((marks_of p ++ marks_of q) ++ ms)
      ≡ with_marks (marks_of (step b a (alt p q) x)) (follow is (leaves b a (alt p q) x) around again ms))
      p q _ _ (λ m n rs e f. rw (e, f) (option_followed m n rs is x around again ms)) (choice_followed p q first second is x around again ms)

  -- and a choice among alternatives
  alt_followed_beside : (p q : MarkedPattern) → IsFollowedBeside p → IsFollowed q → IsFollowedBeside (alt p q)
  alt_followed_beside p q first second is x acc around again ms =
      let one = first (other ∷ (program q ++ is)) x acc around (agains b a q ++ again) (marks_of q ++ ms) in
      record {
        leaving = leaves b a q x;
        beside = one.beside || one.leaving;
        either = ap (λ (y : Bool). y || leaves b a q x) one.either ∙ regroup acc (leaves b a p x) (leaves b a q x);
        rest =
            rw (
              append_assoc (alternatives p) (other ∷ program q) is,
              append_assoc (agains b a p) (agains b a q) again,
              append_assoc (marks_of p) (marks_of q)
                  ms,
            )
            (then_followed (marks_of (step b a p x)) (marks_of (step b a q x)) _ _ _ one.rest
            (second is x ((one.beside || one.leaving) ∷ x ∷ around) again ms));
      }
    where
      -- in a choice of three the brackets may be moved
      regroup : (x y z : Bool) → ((x || y) || z) ≡ (x || (y || z))
      regroup x y z = grind (arith, nat_tests)

  -- so any number of rounds is followed, where one is
  star_followed : (p : MarkedPattern) → IsFollowed p → IsFollowed (star p)
  star_followed p body is x around again ms =
      both_by_class
      (λ (js : List Instruction) (bs : List Bool). follow (js ++ is) x around (bs ++ again) (marks_of p ++ ms)
      ≡ with_marks (marks_of (step b a (star p) x)) (follow is (leaves b a (star p) x) around again ms))
      p _ _ _ _ (λ m n rs e. rw e refl)
      (rw (append_assoc (program p) (star_end ∷ []) is)
      (body (star_end ∷ is) (x || leaves b a p false) ((x || leaves b a p false) ∷ around) again ms))

  -- and one round or more
  plus_followed : (p : MarkedPattern) → IsFollowed p → IsFollowed (plus p)
  plus_followed p body is x around again ms =
      both_by_class
      (λ (js : List Instruction) (bs : List Bool). follow (js ++ is) x around (bs ++ again) (marks_of p ++ ms)
      ≡ with_marks (marks_of (step b a (plus p) x)) (follow is (leaves b a (plus p) x) around again ms))
      p _ _ _ _ (λ m n rs e. rw e refl)
      (rw (append_assoc (program p) (plus_end ∷ []) is) (body (plus_end ∷ is) (x || leaves b a p false) around again ms))

  -- so a lookbehind is followed, where its body is
  behind_followed : (n : Bool) (p : MarkedPattern) → IsFollowed p → IsFollowed (lookbehind n p)
  behind_followed n p body is x around again ms =
      rw (append_assoc (program p) (look_end n ∷ []) is) (body (look_end n ∷ is) true (x ∷ around) again ms)

  -- forwards, nothing lets pass
  nothing_followed : (is : List Instruction) (x : Bool) (around again ms : List Bool)
      → follow is x around again ms ≡ follow is (x && true) around again ms
  nothing_followed is x around again ms = ap (λ (y : Bool). follow is y around again ms) (passed x)
    where
      -- beside a truth value, one that holds changes nothing
      passed : (e : Bool) → e ≡ (e && true)
      passed e = grind (arith, nat_tests)

  -- and a glance lets pass where it is seen
  glance_followed : (p : MarkedPattern) (is : List Instruction) (x : Bool) (around again ms : List Bool)
      → follow (glance p ++ is) x around again ms ≡ follow is (x && sees b a p) around again ms
  glance_followed empty is x around again ms = nothing_followed is x around again ms
  glance_followed (class m n rs) is x around again ms = refl
  glance_followed (look l) is x around again ms = refl
  glance_followed (cat p q) is x around again ms = glance_followed q is x around again ms
  glance_followed (alt p q) is x around again ms =
      ap (λ (js : List Instruction). follow (fork ∷ js) x around again ms) (append_assoc (glance p) (other ∷ (glance q ++ (join ∷ []))) is)
      ∙ ap (λ (js : List Instruction). follow (fork ∷ (glance p ++ (other ∷ js))) x around again ms) (append_assoc (glance q) (join ∷ []) is)
      ∙ glance_followed p (other ∷ (glance q ++ (join ∷ is))) x (false ∷ x ∷ around) again ms
      ∙ glance_followed q (join ∷ is) x ((false || (x && sees b a p)) ∷ x ∷ around) again ms
      ∙ ap (λ (y : Bool). follow is y around again ms) (passed x (sees b a p) (sees b a q))
    where
      -- what is asked of each of two alternatives may be asked once of both
      passed : (x p q : Bool) → ((false || (x && p)) || (x && q)) ≡ (x && (p || q))
      passed x p q = grind (arith, nat_tests)
  glance_followed (star p) is x around again ms = nothing_followed is x around again ms
  glance_followed (plus p) is x around again ms = nothing_followed is x around again ms
  glance_followed (lookbehind n p) is x around again ms = nothing_followed is x around again ms
  glance_followed (lookahead n p) is x around again ms =
      ap (λ (js : List Instruction). follow (look_begin n ∷ js) x around again ms) (append_assoc (glance p) (look_end n ∷ []) is)
      ∙ glance_followed p (look_end n ∷ is) true (x ∷ around) again ms

  -- so a lookahead is followed
  ahead_followed : (n : Bool) (p : MarkedPattern) → IsFollowed (lookahead n p)
  ahead_followed n p is x around again ms = glance_followed (lookahead n p) is x around again ms

  -- a pattern whose program is the same among alternatives is followed so there too, if it is alone
  alone_followed : (p : MarkedPattern) → alternatives p ≡ program p → IsFollowed p → IsFollowed p × IsFollowedBeside p
  alone_followed p same known = (
    known,
    λ is x acc around again ms. record {
      leaving = leaves b a p x;
      beside = acc;
      either = refl;
      rest =
          ap (λ (js : List Instruction). follow (js ++ is) x (acc ∷ x ∷ around) (agains b a p ++ again) (marks_of p ++ ms)) same
          ∙ known is x (acc ∷ x ∷ around) again ms;
    },
  )

  -- so each pattern is followed so, alone and among alternatives
  followed_both : (p : MarkedPattern) → IsFollowed p × IsFollowedBeside p
  followed_both empty = alone_followed empty refl (λ is x around again ms. refl)
  followed_both (class m n rs) = alone_followed (class m n rs) refl (class_followed m n rs)
  followed_both (look l) = alone_followed (look l) refl (λ is x around again ms. refl)
  followed_both (cat p q) = alone_followed (cat p q) refl (cat_followed p q (followed_both p).0 (followed_both q).0)
  followed_both (alt p q) =
      (alt_followed p q (followed_both p).1 (followed_both q).0, alt_followed_beside p q (followed_both p).1 (followed_both q).0)
  followed_both (star p) = alone_followed (star p) refl (star_followed p (followed_both p).0)
  followed_both (plus p) = alone_followed (plus p) refl (plus_followed p (followed_both p).0)
  followed_both (lookbehind n p) = alone_followed (lookbehind n p) refl (behind_followed n p (followed_both p).0)
  followed_both (lookahead n p) = alone_followed (lookahead n p) refl (ahead_followed n p)

  -- a walk over the program is a step of the pattern
  pub walked_is : (p : MarkedPattern) (ms : List Bool) → walked b a (program p) (marks_of p ++ ms)
      ≡ record { leaves = leaves b a p true; marks = marks_of (step b a p true) ++ ms }
  walked_is p ms =
      ap (λ (ns : List Bool). follow (program p) true [] ns (marks_of p ++ ms)) (asked_again b a p ms ∙ sym (append-nil (agains b a p)))
      ∙ ap (λ (js : List Instruction). follow js true [] (agains b a p ++ []) (marks_of p ++ ms)) (sym (append-nil (program p)))
      ∙ (followed_both p).0 [] true [] [] ms
