-- Characters about which the classes of a pattern give the same answers: the pattern does not tell them apart.
use Rattle.std.proofs.Common.{◌≡◌, ℕ, Bool, true, false, ◌&&◌, ◌||◌, List, Vec, Global, Option, Some, drop, refl, sym, ap, ◌∙◌, ⊎_elim, true≢false}
use Rattle.strkw_regex_core.specs.Tree.{Look, start, end, boundary}
use Rattle.strkw_regex_core.specs.machine.MarkedPattern.{MarkedPattern, empty, class, look, cat, alt, star, plus, lookbehind, lookahead}
use Rattle.strkw_regex_core.specs.Tree.{no_boundary}
use Rattle.strkw_charset.specs.Membership.{differ}
use Rattle.strkw_regex_core.specs.Meaning.{is_word, is_edge, holds}
use Rattle.strkw_regex_core.specs.machine.Positions.{reads, sees, leaves, step, classes, mark_classes}
use Rattle.strkw_charset.specs.machine.CharClasses.{answers, TellsSets}
use Rattle.strkw_regex_core.specs.machine.Boundaries.{sees_boundary, has_boundary}
use Rattle.strkw_ecma.specs.machine.Told.{TellsGlance, Tells}
use Rattle.strkw_regex_core.specs.machine.Program.{asks_word}
use Rattle.strkw_charset.specs.declared.tree.CharSet.{CharSet}
use Rattle.strkw_charset.proofs.Booleans.{or_case, or_left, or_right}

-- between characters that ^, $ and, where p has them, \b and \B do not tell apart
-- where p has \b or \B, both are word characters or neither is
unfoldable pub SameWord : MarkedPattern → Option ℕ → Option ℕ → Type 0
SameWord p b e = has_boundary p ≡ true → is_word b ≡ is_word e

-- characters alike for two patterns together are alike for the first
pub first_word : (p q : MarkedPattern) (b e : Option ℕ) → ((has_boundary p || has_boundary q) ≡ true → is_word b ≡ is_word e) → SameWord p b e
unfolding SameWord
first_word p q b e same h = same (or_left _ _ h)

-- and for the second
pub other_word : (p q : MarkedPattern) (b e : Option ℕ) → ((has_boundary p || has_boundary q) ≡ true → is_word b ≡ is_word e) → SameWord q b e
unfolding SameWord
other_word p q b e same h = same (or_right (has_boundary p) _ h)

module _ (ks : List (Vec CharSet Global)) (b e a d : Option ℕ) (edge : is_edge b ≡ is_edge e) (next_edge : is_edge a ≡ is_edge d)
    (same_reads : (n : Bool) (rs : List CharSet) → TellsSets ks rs → reads a n rs ≡ reads d n rs) where
  -- an assertion holds alike between characters that it does not tell apart
  same_look : (l : Look) → (asks_word l ≡ true → is_word b ≡ is_word e) → (asks_word l ≡ true → is_word a ≡ is_word d)
      → holds l b a ≡ holds l e d
  same_look start word next_word = edge
  same_look end word next_word = next_edge
  same_look boundary word next_word = rw (word refl, next_word refl) refl
  same_look no_boundary word next_word = rw (word refl, next_word refl) refl

  -- a glance is seen alike between such characters
  same_sees : (p : MarkedPattern) → (sees_boundary p ≡ true → is_word b ≡ is_word e) → (sees_boundary p ≡ true → is_word a ≡ is_word d) → TellsGlance ks p
      → sees b a p ≡ sees e d p
  same_sees empty word next t = refl
  same_sees (class m n rs) word next t = same_reads n rs t
  same_sees (look l) word next t = same_look l word next
  same_sees (cat p q) word next t = same_sees q word next t
  same_sees (alt p q) word next t =
      rw (
        same_sees p (λ h. word (or_left _ _ h)) (λ h. next (or_left _ _ h)) t.0,
        same_sees q (λ h. word (or_right (sees_boundary p) _ h)) (λ h. next (or_right (sees_boundary p) _ h)) t.1,
      ) refl
  same_sees (star p) word next t = refl
  same_sees (plus p) word next t = refl
  same_sees (lookbehind n p) word next t = refl
  same_sees (lookahead n p) word next t = ap (differ n) (same_sees p word next t)

  -- and a pattern is left alike
  pub same_leaves : (p : MarkedPattern) (x : Bool) → SameWord p b e → SameWord p a d → Tells ks p → leaves b a p x ≡ leaves e d p x
  unfolding SameWord
  same_leaves empty x word next t = refl
  same_leaves (class m n rs) x word next t = refl
  same_leaves (look l) x word next t = ap (λ (y : Bool). x && y) (same_look l word next)
  same_leaves (cat p q) x word next t =
      ap (leaves b a q) (same_leaves p x (first_word p q b e word) (first_word p q a d next) t.0)
      ∙ same_leaves q _ (other_word p q b e word) (other_word p q a d next) t.1
  same_leaves (alt p q) x word next t =
      ap (λ (y : Bool). y || leaves b a q x) (same_leaves p x (first_word p q b e word) (first_word p q a d next) t.0)
      ∙ ap (λ (y : Bool). leaves e d p x || y) (same_leaves q x (other_word p q b e word) (other_word p q a d next) t.1)
  same_leaves (star p) x word next t = ap (λ (y : Bool). x || y) (same_leaves p false word next t)
  same_leaves (plus p) x word next t =
      ap (λ (y : Bool). leaves b a p (x || y)) (same_leaves p false word next t) ∙ same_leaves p _ word next t
  same_leaves (lookbehind n p) x word next t = ap (λ (y : Bool). x && differ n y) (same_leaves p true word next t)
  same_leaves (lookahead n p) x word next t = ap (λ (y : Bool). x && differ n y) (same_sees p word next t)

module _ (ks : List (Vec CharSet Global)) (c d : ℕ) (same : answers 0 ks c ≡ answers 0 ks d) where
  -- as far as a glance asks for word characters, both are, or neither
  next_seen : (p : MarkedPattern) → TellsGlance ks p → sees_boundary p ≡ true → is_word (Some c) ≡ is_word (Some d)
  next_seen empty t h = absurd (true≢false (sym h))
  next_seen (class m n rs) t h = absurd (true≢false (sym h))
  next_seen (look l) t h = t h c d same
  next_seen (cat p q) t h = next_seen q t h
  next_seen (alt p q) t h = ⊎_elim (next_seen p t.0) (next_seen q t.1) (or_case (sees_boundary p) (sees_boundary q) h)
  next_seen (star p) t h = absurd (true≢false (sym h))
  next_seen (plus p) t h = absurd (true≢false (sym h))
  next_seen (lookbehind n p) t h = absurd (true≢false (sym h))
  next_seen (lookahead n p) t h = next_seen p t h

  -- as far as the pattern asks for word characters, both are, or neither
  pub next_word : (p : MarkedPattern) → Tells ks p → SameWord p (Some c) (Some d)
  unfolding SameWord
  next_word empty t h = absurd (true≢false (sym h))
  next_word (class m n rs) t h = absurd (true≢false (sym h))
  next_word (look l) t h = t h c d same
  next_word (cat p q) t h = ⊎_elim (next_word p t.0) (next_word q t.1) (or_case (has_boundary p) (has_boundary q) h)
  next_word (alt p q) t h = ⊎_elim (next_word p t.0) (next_word q t.1) (or_case (has_boundary p) (has_boundary q) h)
  next_word (star p) t h = next_word p t h
  next_word (plus p) t h = next_word p t h
  next_word (lookbehind n p) t h = next_word p t h
  next_word (lookahead n p) t h = next_seen p t h

  module _ (b e : Option ℕ) (edge : is_edge b ≡ is_edge e) where
    -- between either of the two and characters alike the pattern is left alike
    pub left : (p : MarkedPattern) (x : Bool) → SameWord p b e → Tells ks p → leaves b (Some c) p x ≡ leaves e (Some d) p x
    left p x word t =
        same_leaves ks b e (Some c) (Some d) edge refl (λ n rs told. ap (differ n) (told c d same)) p x word (next_word p t) t

    -- and a step over either leads to the same marks
    pub same_step : (p : MarkedPattern) (x : Bool) → SameWord p b e → Tells ks p → step b (Some c) p x ≡ step e (Some d) p x
    unfolding SameWord
    same_step empty x word t = refl
    same_step (class m n rs) x word t = ap (λ (y : Bool). class (x && differ n y) n rs) (t c d same)
    same_step (look l) x word t = refl
    same_step (cat p q) x word t =
        let one = first_word p q b e word in
        let other = other_word p q b e word in
        let q_is = ap (step b (Some c) q) (left p x one t.0) ∙ same_step q _ other t.1 in
        ap (λ (y : MarkedPattern). cat y (step b (Some c) q (leaves b (Some c) p x))) (same_step p x one t.0) ∙ ap (cat (step e (Some d) p x)) q_is
    same_step (alt p q) x word t =
        ap (λ (y : MarkedPattern). alt y (step b (Some c) q x)) (same_step p x (first_word p q b e word) t.0)
        ∙ ap (alt (step e (Some d) p x)) (same_step q x (other_word p q b e word) t.1)
    same_step (star p) x word t =
        ap (λ (y : Bool). star (step b (Some c) p (x || y))) (left p false word t) ∙ ap star (same_step p _ word t)
    same_step (plus p) x word t =
        ap (λ (y : Bool). plus (step b (Some c) p (x || y))) (left p false word t) ∙ ap plus (same_step p _ word t)
    same_step (lookbehind n p) x word t = ap (lookbehind n) (same_step p true word t)
    same_step (lookahead n p) x word t = refl

-- with marks a pattern asks the same
pub marked_tells : (ks : List (Vec CharSet Global)) (ms : List Bool) (p : MarkedPattern) → Tells ks p → Tells ks (mark_classes ms p)
marked_tells ks ms empty t = t
marked_tells ks ms (class m n rs) t = t
marked_tells ks ms (look l) t = t
marked_tells ks ms (cat p q) t = (marked_tells ks ms p t.0, marked_tells ks (drop (classes p) ms) q t.1)
marked_tells ks ms (alt p q) t = (marked_tells ks ms p t.0, marked_tells ks (drop (classes p) ms) q t.1)
marked_tells ks ms (star p) t = marked_tells ks ms p t
marked_tells ks ms (plus p) t = marked_tells ks ms p t
marked_tells ks ms (lookbehind n p) t = marked_tells ks ms p t
marked_tells ks ms (lookahead n p) t = t

-- marks change nothing of whether \b or \B stands in a pattern
marked_boundary : (ms : List Bool) (p : MarkedPattern) → has_boundary (mark_classes ms p) ≡ has_boundary p
marked_boundary ms empty = refl
marked_boundary ms (class m n rs) = refl
marked_boundary ms (look l) = refl
marked_boundary ms (cat p q) = rw (marked_boundary ms p, marked_boundary (drop (classes p) ms) q) refl
marked_boundary ms (alt p q) = rw (marked_boundary ms p, marked_boundary (drop (classes p) ms) q) refl
marked_boundary ms (star p) = marked_boundary ms p
marked_boundary ms (plus p) = marked_boundary ms p
marked_boundary ms (lookbehind n p) = marked_boundary ms p
marked_boundary ms (lookahead n p) = refl

-- characters alike for a pattern are alike for it with other marks
pub marked_word : (ms : List Bool) (p : MarkedPattern) (b e : Option ℕ) → SameWord p b e → SameWord (mark_classes ms p) b e
unfolding SameWord
marked_word ms p b e same h = same (sym (marked_boundary ms p) ∙ h)
