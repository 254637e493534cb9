-- Parts that build something may stand so: what is open, and what stands last, is the shape that they have.
use Rattle.std.proofs.Common.{◌≡◌, ℕ, nat_lt, Bool, true, false, List, [], ◌∷◌, Option, Some, None, IfSome, refl, sym, ap, ◌∙◌, true≢false}
use Rattle.std.specs.Prelude.{option_and_then, length, is_some, not, ◌&&◌}
use Rattle.strkw_charset.specs.Properties.{property_of}
use Rattle.strkw_charset.specs.declared.properties.Property.{Property}
use Rattle.strkw_charset.specs.declared.tree.CharSet.{CharSet}
use Rattle.strkw_regex_core.specs.machine.Times.{Times}
use Rattle.strkw_regex_core.specs.machine.MarkedPattern.{MarkedPattern}
use Rattle.strkw_regex_grammar.specs.Codes.{null_code, letter_code, byte_code, unit_code, pair_code, point_code, is_lead, is_scalar}
use Rattle.strkw_regex_grammar.specs.Names.{are_distinct}
use Rattle.strkw_regex_grammar.specs.Regex.{Leaf, plain, dot, escaped, control_escape, set_escape, coded, property_escape, numbered, called, bracketed, Part}
use Rattle.strkw_regex_grammar.specs.Regex.{bar, edge, leaf, opens, closes, repeats}
use Rattle.strkw_regex_grammar.specs.Syntax.{Quantifier, zero_or_more, one_or_more, zero_or_one, exactly, at_least, from_to, of_group}
use Rattle.strkw_regex_grammar.specs.Syntax.{capturing, plain_group, named, of_lookbehind, of_lookahead}
use Rattle.strkw_regex_grammar.specs.machine.Lexemes as lexeme
use Rattle.strkw_regex_grammar.specs.machine.Lexemes.{Lexeme, lexemes, leaf_lexemes, class_sets}
use Rattle.strkw_regex_grammar.specs.declared.lexemes.Last.{Last as Kind}
use Rattle.strkw_regex_grammar.specs.declared.lexemes.Last.TheVariants as kinds
use Rattle.strkw_regex_grammar.specs.declared.lexer.numbers.Form.{Form}
use Rattle.strkw_regex_grammar.specs.declared.lexer.numbers.Form.TheVariants.{Unit as unit_form, Other as other_form}
use Rattle.strkw_regex_grammar.proofs.LexerRuns.{take_lexemes, part_steps}
use Rattle.strkw_regex_grammar.proofs.RegexTrees.{Shape, shape_step, shapes, closes_shape, repeats_shape, is_closed_shape}
use Rattle.strkw_regex_reader.specs.Limits.{max_nesting}
use Rattle.strkw_regex_reader.specs.machine.Building.{Last, none, atom, lead, counted, Open, Builder, Built, whole_level, at_level, enclose}
use Rattle.strkw_regex_reader.specs.machine.Building.{build_one, build_trail, build_behind, step, taken_of, is_lead_last, opened, open_if}
use Rattle.strkw_regex_reader.specs.machine.Building.{number_if, lead_if, trail_if, property_built, class_built, close_in, great_if, small_if}
use Rattle.strkw_regex_reader.specs.machine.Building.{count_behind, quantify_behind, question_behind, at_end, when, is_closed}
use Rattle.strkw_regex_reader.specs.declared.builder.Enclosing.{Enclosing as CodeEnclosing}
use Rattle.strkw_regex_reader.specs.declared.builder.Enclosing.TheVariants as enclosings

-- whether a quantifier may follow the end of what is open
abbrev bit_of : CodeEnclosing → Bool
bit_of enclosings.Group = true
bit_of (enclosings.Behind b) = false
bit_of (enclosings.Ahead b) = false

-- of all that is open
abbrev pub bits_of : List Open → List Bool
bits_of [] = []
bits_of (o ∷ os) = bit_of o.enclosing ∷ bits_of os

-- what stands last
abbrev pub kind_of : Last → Kind
kind_of none = kinds.None
kind_of (atom p) = kinds.Atom
kind_of (lead n) = kinds.Atom
kind_of (counted p) = kinds.Counted

-- the shape of what has been built
abbrev pub shape_of : Builder → Shape
shape_of s = (bits_of s.groups, kind_of s.last)

module _ (s : Builder) where
  -- what holds behind a lexeme, by whether a leading surrogate stands before it
  by_last : (P : Builder → Type 0) (l : Lexeme) → ((x : Last) → s.last ≡ x → IfSome (taken_of (build_one s l)) P)
      → ((n : ℕ) → IfSome (taken_of (build_trail s n l)) P) → IfSome (step s l) P
  by_last P l f g = of_last s.last refl
    where
      -- by what stands last
      of_last : (x : Last) → s.last ≡ x → IfSome (taken_of (build_behind s x l)) P
      of_last none e = f none e
      of_last (atom p) e = f (atom p) e
      of_last (lead n) e = g n
      of_last (counted p) e = f (counted p) e

  -- behind an atom, with the same groups open
  abbrev IsAtomBehind : Builder → Type 0
  IsAtomBehind t = (bits_of t.groups ≡ bits_of s.groups) × (kind_of t.last ≡ kinds.Atom)

  -- an escape by a number
  number_atom : (f : Form) (n : ℕ) → IfSome (step s (lexeme.number f n)) IsAtomBehind
  number_atom f n = by_last IsAtomBehind (lexeme.number f n) (λ x e. one f (is_scalar n)) (trail f)
    where
      -- the leading surrogate of one
      surrogate_one : (z : Bool) → IfSome (taken_of (lead_if s n z)) IsAtomBehind
      surrogate_one false = tt
      surrogate_one true = (refl, refl)

      -- where none stands before it
      one : (f : Form) (z : Bool) → IfSome (taken_of (number_if s f n z)) IsAtomBehind
      one unit_form false = surrogate_one (is_lead n)
      one other_form false = tt
      one f true = (refl, refl)

      -- behind a leading surrogate
      trail_one : (m : ℕ) (z : Bool) → IfSome (taken_of (trail_if s m n z)) IsAtomBehind
      trail_one m false = tt
      trail_one m true = (refl, refl)

      -- by its form
      trail : (f : Form) (m : ℕ) → IfSome (taken_of (build_trail s m (lexeme.number f n))) IsAtomBehind
      trail unit_form m = trail_one m _
      trail other_form m = tt

  -- a property
  property_atom : (n : Bool) (o : Option Property) → IfSome (taken_of (property_built s n o)) IsAtomBehind
  property_atom n None = tt
  property_atom n (Some p) = (refl, refl)

  -- a class
  class_atom : (n : Bool) (o : Option (List CharSet)) → IfSome (taken_of (class_built s n o)) IsAtomBehind
  class_atom n None = tt
  class_atom n (Some rs) = (refl, refl)

  -- an atom that is one lexeme, and no number
  simple_atom : (l : Lexeme) → IfSome (taken_of (build_one s l)) IsAtomBehind → ((n : ℕ) → IfSome (taken_of (build_trail s n l)) IsAtomBehind)
      → IfSome (step s l) IsAtomBehind
  simple_atom l h g = by_last IsAtomBehind l (λ x e. h) g

-- what holds behind two lexemes
both_hold : (P Q : Builder → Type 0) (o : Option Builder) (l : Lexeme) → IfSome o P → ((t : Builder) → P t → IfSome (step t l) Q)
    → IfSome (option_and_then (λ t. step t l) o) Q
both_hold P Q None l h f = tt
both_hold P Q (Some t) l h f = f t h

-- what holds, where a stronger one does
weaker : (P Q : Builder → Type 0) (o : Option Builder) → ((t : Builder) → P t → Q t) → IfSome o P → IfSome o Q
weaker P Q None f h = tt
weaker P Q (Some t) f h = f t h

module _ (s : Builder) where
  -- two surrogates
  pair_atom : (n m : ℕ) → IfSome (option_and_then (λ t. step t (lexeme.number unit_form m)) (step s (lexeme.number unit_form n))) (IsAtomBehind s)
  pair_atom n m =
      both_hold (IsAtomBehind s) (IsAtomBehind s) (step s (lexeme.number unit_form n)) (lexeme.number unit_form m) (number_atom s unit_form n)
      (λ t h. weaker (IsAtomBehind t) (IsAtomBehind s) (step t (lexeme.number unit_form m)) (λ u k. (k.0 ∙ h.0, k.1)) (number_atom t unit_form m))

  -- any leaf is an atom
  leaf_atom : (l : Leaf) → IfSome (take_lexemes step s (leaf_lexemes true l)) (IsAtomBehind s)
  leaf_atom (plain c) = simple_atom s (lexeme.char c) (refl, refl) (λ n. tt)
  leaf_atom dot = simple_atom s lexeme.dot (refl, refl) (λ n. tt)
  leaf_atom (escaped c) = simple_atom s (lexeme.char c) (refl, refl) (λ n. tt)
  leaf_atom (control_escape c) = simple_atom s (lexeme.char _) (refl, refl) (λ n. tt)
  leaf_atom (set_escape c) = simple_atom s (lexeme.set c) (refl, refl) (λ n. tt)
  leaf_atom (coded null_code) = number_atom s other_form 0
  leaf_atom (coded (letter_code c)) = number_atom s other_form _
  leaf_atom (coded (byte_code ds)) = number_atom s other_form _
  leaf_atom (coded (unit_code ds)) = number_atom s unit_form _
  leaf_atom (coded (pair_code ds es)) = pair_atom _ _
  leaf_atom (coded (point_code ds)) = number_atom s other_form _
  leaf_atom (property_escape n e) = simple_atom s (lexeme.property n (property_of e)) (property_atom s n (property_of e)) (λ m. tt)
  leaf_atom (numbered ds) = simple_atom s (lexeme.reference _) tt (λ n. tt)
  leaf_atom (called n) = simple_atom s (lexeme.call _) tt (λ m. tt)
  leaf_atom (bracketed n r e) = simple_atom s (lexeme.class n (class_sets true r e)) (class_atom s n (class_sets true r e)) (λ m. tt)

  -- the shape that a part leaves
  abbrev Leaves : Part → Builder → Type 0
  Leaves p t = shape_step (bits_of s.groups) (kind_of s.last) p ≡ Some (shape_of t)

  -- what opens a group or a lookaround
  open_leaves : (c : CodeEnclosing) (z : Bool) → IfSome (taken_of (open_if z (opened s c))) (λ t. Some (bit_of c ∷ bits_of s.groups, kinds.None) ≡ Some (shape_of t))
  open_leaves c false = tt
  open_leaves c true = refl

  -- what closes one
  close_leaves : (gs : List Open) (ns : List (List ℕ)) (p : MarkedPattern) → IfSome (taken_of (close_in gs ns p)) (λ t. closes_shape (bits_of gs) ≡ Some (shape_of t))
  close_leaves [] ns p = tt
  close_leaves (o ∷ os) ns p = by_kind o.enclosing
    where
      -- by what it closes
      by_kind : (c : CodeEnclosing) → closes_shape (bit_of c ∷ bits_of os) ≡ Some (shape_of (enclose (at_level os ns o.level) c p))
      by_kind enclosings.Group = refl
      by_kind (enclosings.Behind b) = refl
      by_kind (enclosings.Ahead b) = refl

  -- a quantifier that is no `?`, where one may stand
  abbrev Repeats : Quantifier → Last → Builder → Type 0
  Repeats q x t = repeats_shape (bits_of s.groups) (kind_of x) q ≡ Some (shape_of t)

  quantify_leaves : (q : Quantifier) (x : Last) (t : Times) → IfSome (taken_of (quantify_behind s x t)) (Repeats q x)
  quantify_leaves q none t = tt
  quantify_leaves q (atom p) t = refl
  quantify_leaves q (lead n) t = tt
  quantify_leaves q (counted p) t = tt

  -- a term that is not too large
  small_leaves : (P : Builder → Type 0) (o : Built) (z : Bool) → IfSome (taken_of o) P → IfSome (taken_of (small_if z o)) P
  small_leaves P o false h = tt
  small_leaves P o true h = h

  -- a count that is not too great
  great_leaves : (P : Builder → Type 0) (o : Built) (z : Bool) → IfSome (taken_of o) P → IfSome (taken_of (great_if z o)) P
  great_leaves P o false h = h
  great_leaves P o true h = tt

  -- a count
  count_leaves : (q : Quantifier) (x : Last) (t : Times) → IfSome (taken_of (count_behind s x t)) (Repeats q x)
  count_leaves q none t = tt
  count_leaves q (atom p) t = small_leaves (Repeats q (atom p)) (quantify_behind s (atom p) t) _ refl
  count_leaves q (lead n) t = tt
  count_leaves q (counted p) t = tt

  -- and `?`
  question_leaves : (x : Last) → IfSome (taken_of (question_behind s x)) (Repeats zero_or_one x)
  question_leaves none = tt
  question_leaves (atom p) = refl
  question_leaves (lead n) = tt
  question_leaves (counted p) = refl

  -- so any part leaves its shape
  part_leaves : (p : Part) → IfSome (take_lexemes step s (lexemes true p)) (Leaves p)
  part_leaves bar = by_last s (Leaves bar) lexeme.bar (λ x e. refl) (λ n. tt)
  part_leaves (edge g) = by_last s (Leaves (edge g)) (lexeme.edge g) (λ x e. refl) (λ n. tt)
  part_leaves (leaf l) =
      weaker (IsAtomBehind s) (Leaves (leaf l)) (take_lexemes step s (leaf_lexemes true l))
      (λ t h. ap (λ z. Some (z, kinds.Atom)) (sym h.0) ∙ ap (λ z. Some (bits_of t.groups, z)) (sym h.1)) (leaf_atom l)
  part_leaves (opens (of_group capturing)) =
      by_last s (Leaves (opens (of_group capturing))) (lexeme.begins lexeme.capture) (λ x e. open_leaves enclosings.Group _) (λ n. tt)
  part_leaves (opens (of_group plain_group)) =
      by_last s (Leaves (opens (of_group plain_group))) (lexeme.begins lexeme.plain_group) (λ x e. open_leaves enclosings.Group _) (λ n. tt)
  part_leaves (opens (of_group (named m))) =
      by_last s (Leaves (opens (of_group (named m)))) (lexeme.begins (lexeme.named _)) (λ x e. named_leaves _ (nat_lt (length s.groups) max_nesting)) (λ n. tt)
    where
      -- with its name
      named_leaves : (ns : List (List ℕ)) (z : Bool)
          → IfSome (taken_of (open_if z (opened (record { groups = s.groups; names = ns; level = s.level; last = s.last }) enclosings.Group)))
          (λ t. Some (true ∷ bits_of s.groups, kinds.None) ≡ Some (shape_of t))
      named_leaves ns false = tt
      named_leaves ns true = refl
  part_leaves (opens (of_lookbehind b)) =
      by_last s (Leaves (opens (of_lookbehind b))) (lexeme.begins (lexeme.behind b)) (λ x e. open_leaves (enclosings.Behind b) _) (λ n. tt)
  part_leaves (opens (of_lookahead b)) =
      by_last s (Leaves (opens (of_lookahead b))) (lexeme.begins (lexeme.ahead b)) (λ x e. open_leaves (enclosings.Ahead b) _) (λ n. tt)
  part_leaves closes = by_last s (Leaves closes) lexeme.ends (λ x e. close_leaves s.groups s.names (whole_level s.level s.last)) (λ n. tt)
  part_leaves (repeats zero_or_more) = by_last s (Leaves (repeats zero_or_more)) (lexeme.repeats _) (λ x e. quantify_leaves zero_or_more s.last _) (λ n. tt)
  part_leaves (repeats one_or_more) = by_last s (Leaves (repeats one_or_more)) (lexeme.repeats _) (λ x e. quantify_leaves one_or_more s.last _) (λ n. tt)
  part_leaves (repeats zero_or_one) = by_last s (Leaves (repeats zero_or_one)) lexeme.question (λ x e. question_leaves s.last) (λ n. tt)
  part_leaves (repeats (exactly ds)) =
      by_last s (Leaves (repeats (exactly ds))) (lexeme.repeats _)
      (λ x e. great_leaves (Leaves (repeats (exactly ds))) _ _ (count_leaves (exactly ds) s.last _)) (λ n. tt)
  part_leaves (repeats (at_least ds)) =
      by_last s (Leaves (repeats (at_least ds))) (lexeme.repeats _)
      (λ x e. great_leaves (Leaves (repeats (at_least ds))) _ _ (count_leaves (at_least ds) s.last _)) (λ n. tt)
  part_leaves (repeats (from_to ds es)) =
      by_last s (Leaves (repeats (from_to ds es))) (lexeme.repeats _)
      (λ x e. great_leaves (Leaves (repeats (from_to ds es))) _ _ (count_leaves (from_to ds es) s.last _)) (λ n. tt)

-- and parts, one behind another, leave theirs
pub parts_leave : (ps : List Part) (s : Builder)
    → IfSome (part_steps true step s ps) (λ t. shapes (bits_of s.groups) (kind_of s.last) ps ≡ Some (shape_of t))
parts_leave [] s = refl
parts_leave (p ∷ ps) s = rest (parts_leave ps) (take_lexemes step s (lexemes true p)) (part_leaves s p)
  where
    -- behind what the part leaves
    rest : ((t : Builder) → IfSome (part_steps true step t ps) (λ u. shapes (bits_of t.groups) (kind_of t.last) ps ≡ Some (shape_of u)))
        → (o : Option Builder) → IfSome o (Leaves s p)
        → IfSome (option_and_then (λ t. part_steps true step t ps) o)
        (λ u. option_and_then (λ (z : Shape). shapes z.0 z.1 ps) (shape_step (bits_of s.groups) (kind_of s.last) p) ≡ Some (shape_of u))
    rest f None h = tt
    rest f (Some t) h = joined (part_steps true step t ps) (f t)
      where
        -- where there is something
        joined : (o : Option Builder) → IfSome o (λ u. shapes (bits_of t.groups) (kind_of t.last) ps ≡ Some (shape_of u))
            → IfSome o (λ u. option_and_then (λ (z : Shape). shapes z.0 z.1 ps) (shape_step (bits_of s.groups) (kind_of s.last) p) ≡ Some (shape_of u))
        joined None k = tt
        joined (Some u) k = ap (option_and_then (λ (z : Shape). shapes z.0 z.1 ps)) h ∙ k

-- where a pattern may end, nothing is open
pub closed_shape : (t : Builder) (p : MarkedPattern) → at_end t ≡ Some p → is_closed_shape (Some (shape_of t)) ≡ true
closed_shape t p e = by_groups t.groups refl
  where
    -- by what is open
    by_groups : (gs : List Open) → t.groups ≡ gs → is_closed_shape (Some (bits_of gs, kind_of t.last)) ≡ true
    by_groups [] k = refl
    by_groups (o ∷ os) k =
        absurd (true≢false (sym (ap is_some e)
        ∙ ap (λ gs. is_some (when (is_closed gs && not (is_lead_last t.last) && are_distinct t.names) (Some (whole_level t.level t.last)))) k))
