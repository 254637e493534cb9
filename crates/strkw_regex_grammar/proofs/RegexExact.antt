-- What is recognised are the patterns of the grammar.
use Rattle.std.proofs.Common.{◌≡◌, ◌↔◌, ℕ, ◌+◌, ◌<◌, nat_le, Bool, true, false, ◌&&◌, List, [], ◌∷◌, Option, Some, None, IsTrue}
use Rattle.std.proofs.Common.{IfSome, refl, sym, ap, subst, ◌∙◌, true≢false, arith}
use Rattle.std.specs.Prelude.{is_some}
use Rattle.std.specs.List.{list_all, list_any}
use Rattle.std.proofs.lemmas.Bool.{le-leb}
use Rattle.strkw_regex_grammar.specs.NullEscape.{is_apart}
use Rattle.strkw_regex_grammar.specs.Names.{same_name, are_distinct}
use Rattle.strkw_regex_grammar.specs.Regex.{Part, Disjunction, parts, captures, names, calls, capture_limit, IsMadeOf, IsRegex}
use Rattle.strkw_regex_grammar.specs.machine.Lexing.{between}
use Rattle.strkw_regex_grammar.specs.machine.Recognising.{Last, none, ParserStack, is_whole, is_closed, step, whole_of, nothing_read, is_read}
use Rattle.strkw_charset.proofs.Booleans.{and_true, and_left, and_right}
use Rattle.strkw_regex_grammar.proofs.RegexTrees.{is_closed_shape, shape_of_tree, tree_of_shape}
use Rattle.strkw_regex_grammar.proofs.RegexSteps.{steps, Reached, reaches, goes_on, steps_same}
use Rattle.strkw_regex_grammar.proofs.LexerRuns.{run}
use Rattle.strkw_regex_grammar.proofs.LexerSound.{Parted, sound}
use Rattle.strkw_regex_grammar.proofs.LexerComplete.{reads_parts}

-- what is known at the beginning
abbrev nothing : ParserStack
nothing = nothing_read

-- where no group is open, the shape says so
closed_is : (gs : List Bool) (x : Last) → is_closed gs ≡ is_closed_shape (Some (gs, x))
closed_is [] x = refl
closed_is (q ∷ gs) x = refl

-- what is reached, where something is known
reached_at : (ps : List Part) (t : ParserStack) → steps nothing ps ≡ Some t → Reached nothing ps t
reached_at ps t e = subst (λ o. IfSome o (Reached nothing ps)) e (reaches ps nothing (omega arith))

-- four tests that hold together hold each
four_hold : (a b c d : Bool) → (a && b && c && d) ≡ true → ((a ≡ true) × (b ≡ true) × (c ≡ true) × (d ≡ true))
four_hold a b c d h =
    let three = and_left (a && b && c) d h in
    let two = and_left (a && b) c three in
    (and_left a b two, and_right a b two, and_right (a && b) c three, and_right (a && b && c) d h)

-- what holds where a pattern may end
ends_whole : (t : ParserStack) → is_whole t ≡ true
    → ((is_closed t.groups ≡ true) × (nat_le t.greatest t.captures ≡ true) × (are_distinct t.names ≡ true)
    × (list_all (λ n. list_any (same_name n) t.names) t.calls ≡ true))
ends_whole t h = four_hold _ _ _ _ h

-- the number of groups that is reached is that of the parts
counted_at : (ps : List Part) (t : ParserStack) → Reached nothing ps t → t.captures ≡ captures ps
counted_at ps t r = omega (arith, r.counts)

-- a text of parts behind which a pattern may end is made of them
made_of : (source : List ℕ) (t : ParserStack) (r : Parted false step nothing t source) → steps nothing r.parts ≡ Some t → is_whole t ≡ true
    → is_apart source ≡ true → IsMadeOf source r.parts
made_of source t r way whole a =
    let reached = reached_at r.parts t way in
    let counts = counted_at r.parts t reached in
    let ends = ends_whole t whole in
    let few = subst (λ n. n < capture_limit) counts reached.small in
    record {
      formed = r.formed;
      spelled = r.spelled;
      apart = a;
      few = few;
      distinct = ap are_distinct (sym reached.groups_named) ∙ ends.2;
      counted =
          and_right (nat_le 0 (captures r.parts)) _
          (sym (reached.most (captures r.parts) few) ∙ ap (nat_le t.greatest) (sym counts) ∙ ends.1);
      known =
          ap (λ ns. list_all (λ n. list_any (same_name n) ns) (calls r.parts)) (sym reached.groups_named)
          ∙ ap (list_all (λ n. list_any (same_name n) t.names)) (sym reached.asked) ∙ ends.3;
    }

-- what is read to a place where a pattern may end is a pattern
regex_at : (source : List ℕ) → is_apart source ≡ true → (o : Option ParserStack) → run false step nothing between source ≡ o → whole_of o ≡ true → IsRegex source
regex_at source a None e h = absurd (true≢false (sym h))
regex_at source a (Some t) e h =
    let r = sound false step t nothing source e in
    let way : steps nothing r.parts ≡ Some t = sym (steps_same r.parts nothing) ∙ r.way in
    let shape = ap is_closed_shape (reached_at r.parts t way).shape ∙ sym (closed_is t.groups t.last) ∙ (ends_whole t h).0 in
    let tree = tree_of_shape r.parts shape in
    (tree.0, subst (IsMadeOf source) (sym tree.1) (made_of source t r way h a))

-- so what is recognised is a pattern
regex_of : (source : List ℕ) → is_apart source ≡ true → is_read source ≡ true → IsRegex source
regex_of source a h = regex_at source a (run false step nothing between source) refl h

-- a text made of the parts of a tree is recognised
read_of : (source : List ℕ) (d : Disjunction) → IsMadeOf source (parts d) → is_read source ≡ true
read_of source d m =
    let shape = shape_of_tree d in
    let few : 0 + captures (parts d) < capture_limit = omega (arith, m.few) in
    let way = goes_on (parts d) nothing (ap is_some shape.1) few in
    let t = way.0 in
    let reached = reached_at (parts d) t way.1 in
    let closed : is_closed t.groups ≡ true = closed_is t.groups t.last ∙ ap is_closed_shape (sym reached.shape ∙ shape.1) in
    let small : nat_le t.greatest t.captures ≡ true =
    ap (nat_le t.greatest) (counted_at (parts d) t reached) ∙ reached.most (captures (parts d)) m.few
    ∙ and_true _ _ (le-leb 0 (captures (parts d)) (omega arith)) m.counted in
    let distinct : are_distinct t.names ≡ true = ap are_distinct reached.groups_named ∙ m.distinct in
    let called : list_all (λ n. list_any (same_name n) t.names) t.calls ≡ true =
    ap (λ ns. list_all (λ n. list_any (same_name n) ns) t.calls) reached.groups_named
    ∙ ap (list_all (λ n. list_any (same_name n) (names (parts d)))) reached.asked ∙ m.known in
    ap is_read (sym m.spelled)
    ∙ ap whole_of (reads_parts false step (parts d) m.formed [] none (ap is_closed_shape shape.1) nothing ∙ steps_same (parts d) nothing ∙ way.1)
    ∙ and_true _ _ (and_true _ _ (and_true _ _ closed small) distinct) called

-- so the recogniser, with the test of what stands behind `\0`, takes the patterns and nothing else
pub exact : (source : List ℕ) → IsTrue (is_apart source && is_read source) ↔ IsRegex source
exact source = (
  λ h. regex_of source (and_left (is_apart source) _ h) (and_right (is_apart source) _ h),
  λ r. and_true _ _ r.1.apart (read_of source r.0 r.1),
)

-- where a digit stands behind `\0`, the text is no pattern
pub not_apart : (source : List ℕ) → is_apart source ≡ false → IsTrue false ↔ IsRegex source
not_apart source e = subst (λ (b : Bool). IsTrue (b && is_read source) ↔ IsRegex source) e (exact source)

-- and elsewhere it is one where it is recognised
pub apart : (source : List ℕ) (b : Bool) → is_apart source ≡ true → b ≡ is_read source → IsTrue b ↔ IsRegex source
apart source b a e = subst (λ (z : Bool). IsTrue z ↔ IsRegex source) (ap (λ (x : Bool). x && is_read source) a ∙ sym e) (exact source)
