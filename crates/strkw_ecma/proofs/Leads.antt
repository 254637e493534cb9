-- What a program without branches reads, instruction by instruction: exactly what its pattern matches.
use Rattle.std.proofs.Common.{◌≡◌, ◌↔◌, ℕ, Bool, true, false, ◌&&◌, List, [], ◌∷◌, ◌++◌, refl, sym, subst, ◌∙◌, true≢false}
use Rattle.strkw_regex_core.specs.machine.MarkedPattern.{MarkedPattern, empty, class, look, cat, alt, star, plus, lookbehind, lookahead}
use Rattle.strkw_regex_core.specs.machine.MarkedMeaning.{Matches}
use Rattle.strkw_regex_core.specs.machine.Program.{Instruction, read, assert, peek, fork, other, join, star_begin, star_end, plus_begin, plus_end, look_begin}
use Rattle.strkw_regex_core.specs.machine.Program.{look_end, program, alternatives}
use Rattle.strkw_charset.specs.declared.tree.CharSet.{CharSet}
use Rattle.strkw_regex_core.proofs.Options.{by_class, by_option}
use Rattle.strkw_charset.proofs.Booleans.{and_true, and_left, and_right}

-- it reads a class, or asserts
abbrev pub is_straight : Instruction → Bool
is_straight (read again optional n rs) = true
is_straight (assert l) = true
is_straight (peek n rs) = false
is_straight fork = false
is_straight other = false
is_straight join = false
is_straight star_begin = false
is_straight star_end = false
is_straight plus_begin = false
is_straight plus_end = false
is_straight (look_begin n) = false
is_straight (look_end n) = false

-- so does each
abbrev pub are_straight : List Instruction → Bool
are_straight [] = true
are_straight (i ∷ is) = is_straight i && are_straight is

module _ (text : List ℕ) where
  -- an instruction leads from one place to another
  abbrev pub Goes : Instruction → ℕ → ℕ → Type 0
  Goes (read false false n rs) i j = Matches text (class false n rs) i j
  Goes (read false true n rs) i j = Matches text (alt empty (class false n rs)) i j
  Goes (read true true n rs) i j = Matches text (star (class false n rs)) i j
  Goes (read true false n rs) i j = Matches text (plus (class false n rs)) i j
  Goes (assert l) i j = Matches text (look l) i j
  Goes (peek n rs) i j = ⊥
  Goes fork i j = ⊥
  Goes other i j = ⊥
  Goes join i j = ⊥
  Goes star_begin i j = ⊥
  Goes star_end i j = ⊥
  Goes plus_begin i j = ⊥
  Goes plus_end i j = ⊥
  Goes (look_begin n) i j = ⊥
  Goes (look_end n) i j = ⊥

  -- some do, one behind another
  abbrev pub Leads : List Instruction → ℕ → ℕ → Type 0
  Leads [] i j = i ≡ j
  Leads (x ∷ xs) i j = (l : ℕ) × Goes x i l × Leads xs l j

  -- some behind others lead where these lead first
  pub leads_behind : (xs ys : List Instruction) (i j : ℕ)
      → Leads (xs ++ ys) i j ↔ ((l : ℕ) × Leads xs i l × Leads ys l j)
  leads_behind [] ys i j = (λ w. (i, refl, w), λ w. subst (λ (k : ℕ). Leads ys k j) (sym w.1) w.2)
  leads_behind (x ∷ xs) ys i j = (
    λ w. let r = (leads_behind xs ys w.0 j).0 w.2 in (r.0, (w.0, w.1, r.1), r.2),
    λ w. (w.1.0, w.1.1, (leads_behind xs ys w.1.0 j).1 (w.0, w.1.2, w.2)),
  )

  -- one alone
  leads_alone : (x : Instruction) (i j : ℕ) → Goes x i j ↔ Leads (x ∷ []) i j
  leads_alone x i j = (λ g. (j, g, refl), λ w. subst (Goes x i) w.2 w.1)

  -- these instructions, where they have no branch, read what the pattern matches
  abbrev IsReadBy : MarkedPattern → List Instruction → Type 0
  IsReadBy p is = are_straight is ≡ true → (i j : ℕ) → Matches text p i j ↔ Leads is i j

  -- what has a branch in front
  branched : (p : MarkedPattern) (x : Instruction) (is : List Instruction) → is_straight x ≡ false → IsReadBy p (x ∷ is)
  branched p x is branches straight = absurd (true≢false (sym (and_left (is_straight x) _ straight) ∙ branches))

  -- of a class that is read in some way
  read_class : (P : MarkedPattern → MarkedPattern) (again optional : Bool)
      → ((m n : Bool) (rs : List CharSet) (i j : ℕ) → Matches text (P (class m n rs)) i j ↔ Goes (read again optional n rs) i j)
      → (p : MarkedPattern) (m n : Bool) (rs : List CharSet) → p ≡ class m n rs → IsReadBy (P p) (read again optional n rs ∷ [])
  read_class P again optional same p m n rs e straight i j =
      subst (λ (q : MarkedPattern). Matches text (P q) i j ↔ Leads (read again optional n rs ∷ []) i j) (sym e) (
        λ w. (leads_alone (read again optional n rs) i j).0 ((same m n rs i j).0 w),
        λ w. (same m n rs i j).1 ((leads_alone (read again optional n rs) i j).1 w),
      )

-- all of a list are straight exactly where those of both parts are
pub straight_parts : (xs ys : List Instruction) → are_straight (xs ++ ys) ≡ true → (are_straight xs ≡ true) × (are_straight ys ≡ true)
straight_parts [] ys h = (refl, h)
straight_parts (x ∷ xs) ys h =
    let both = straight_parts xs ys (and_right (is_straight x) _ h) in
    (and_true _ _ (and_left (is_straight x) _ h) both.0, both.1)

-- a program without branches reads what its pattern matches
pub read_by_program : (text : List ℕ) (p : MarkedPattern) → IsReadBy text p (program p)
read_by_program text empty straight i j = (λ w. w, λ w. w)
read_by_program text (class m n rs) straight i j = leads_alone text (read false false n rs) i j
read_by_program text (look l) straight i j = leads_alone text (assert l) i j
read_by_program text (cat p q) straight i j =
    let both = straight_parts (program p) (program q) straight in
    let behind = leads_behind text (program p) (program q) i j in (
      λ w. behind.1 (w.0, (read_by_program text p both.0 i w.0).0 w.1, (read_by_program text q both.1 w.0 j).0 w.2),
      λ w. let r = behind.0 w in
          (r.0, (read_by_program text p both.0 i r.0).1 r.1, (read_by_program text q both.1 r.0 j).1 r.2),
    )
read_by_program text (alt p q) straight i j =
    by_option (IsReadBy text (alt p q)) p q (λ n rs. read false true n rs ∷ [])
    (fork ∷ (alternatives p ++ (other ∷ (program q ++ (join ∷ [])))))
    (λ m n rs e f. subst (λ (o : MarkedPattern). IsReadBy text (alt o q) (read false true n rs ∷ [])) (sym e)
    (read_class text (alt empty) false true (λ m n rs i j. (λ w. w, λ w. w)) q m n rs f))
    (branched text (alt p q) fork _ refl) straight i j
read_by_program text (star p) straight i j =
    by_class (IsReadBy text (star p)) p (λ n rs. read true true n rs ∷ []) (star_begin ∷ (program p ++ (star_end ∷ [])))
    (read_class text star true true (λ m n rs i j. (λ w. w, λ w. w)) p) (branched text (star p) star_begin _ refl) straight i j
read_by_program text (plus p) straight i j =
    by_class (IsReadBy text (plus p)) p (λ n rs. read true false n rs ∷ []) (plus_begin ∷ (program p ++ (plus_end ∷ [])))
    (read_class text plus true false (λ m n rs i j. (λ w. w, λ w. w)) p) (branched text (plus p) plus_begin _ refl) straight i j
read_by_program text (lookbehind n p) straight i j = branched text (lookbehind n p) (look_begin n) _ refl straight i j
read_by_program text (lookahead n p) straight i j = branched text (lookahead n p) (look_begin n) _ refl straight i j
