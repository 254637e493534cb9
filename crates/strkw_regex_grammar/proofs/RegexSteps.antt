-- What a part of a pattern does to what is known between terms.
use Rattle.std.proofs.Common.{◌≡◌, ℕ, suc, ◌+◌, ◌<◌, nat_le, nat_lt, Bool, true, false, ◌&&◌, List, [], ◌∷◌, ◌++◌, Option, Some, None, refl, sym, ap}
use Rattle.std.proofs.Common.{subst, ◌∙◌, append_assoc, true≢false, arith, IfSome, if◌then◌else◌}
use Rattle.std.specs.Prelude.{option_and_then, is_some}
use Rattle.std.specs.List.{list_all}
use Rattle.std.proofs.lemmas.List.{append-nil}
use Rattle.std.proofs.lemmas.Bool.{lt-ltb, ltb-true}
use Rattle.std.proofs.lemmas.Bool.Decides.{nat_tests}
use Rattle.strkw_regex_grammar.specs.Numbers.{number}
use Rattle.strkw_regex_grammar.specs.Names.{name_value}
use Rattle.strkw_regex_grammar.specs.Syntax.{capturing, plain_group, named, Enclosing, of_group, of_lookbehind, of_lookahead, Quantifier}
use Rattle.strkw_regex_grammar.specs.Syntax.{zero_or_more, one_or_more, zero_or_one, exactly, at_least, from_to}
use Rattle.strkw_regex_grammar.specs.Regex.{Leaf, plain, dot, escaped, control_escape, set_escape, coded, property_escape, numbered, bracketed, Part}
use Rattle.strkw_regex_grammar.specs.Regex.{bar, edge, leaf, opens, closes, repeats, captures, names, numbers, calls, capture_limit}
use Rattle.strkw_regex_grammar.specs.Regex.{called as calls_for}
use Rattle.strkw_regex_grammar.specs.machine.Recognising.{Last, none, atom, counted, last_if, ParserStack, with_last, open_group, open_capture, when}
use Rattle.strkw_regex_grammar.specs.machine.Recognising.{open_capture_within, with_name, add_call, greater_of, add_reference, close_group_in}
use Rattle.strkw_regex_grammar.specs.machine.Recognising.{close_group, add_quantifier_behind, add_question_behind, step as lexeme_step}
use Rattle.strkw_regex_grammar.specs.Codes.{null_code, letter_code, byte_code, unit_code, pair_code, point_code}
use Rattle.strkw_regex_grammar.specs.machine.Lexemes.{cap_number, lexemes, leaf_lexemes}
use Rattle.strkw_regex_grammar.proofs.LexerRuns.{take_lexemes, part_steps}
use Rattle.strkw_regex_grammar.proofs.RegexTrees.{Shape, closes_shape, repeats_shape, shape_step, shapes}

-- behind a leaf
abbrev pub leaf_step : ParserStack → Leaf → ParserStack
leaf_step s (numbered ds) = add_reference s (cap_number (number ds))
leaf_step s (calls_for n) = add_call s (name_value n)
leaf_step s l = with_last s atom

-- behind what opens a group or a lookaround
abbrev pub open_step : ParserStack → Enclosing → Option ParserStack
open_step s (of_group capturing) = open_capture_within s
open_step s (of_group plain_group) = Some (open_group s true)
open_step s (of_group (named n)) = open_capture_within (with_name s (name_value n))
open_step s (of_lookbehind b) = Some (open_group s false)
open_step s (of_lookahead b) = Some (open_group s false)

-- behind a quantifier, a `?` that makes it lazy
abbrev pub lazied : ParserStack → Quantifier → Option ParserStack
lazied s zero_or_more = None
lazied s one_or_more = None
lazied s zero_or_one = Some (with_last s none)
lazied s (exactly ds) = None
lazied s (at_least ds) = None
lazied s (from_to ds es) = None

-- and a quantifier, where one may stand
abbrev pub repeated : ParserStack → Last → Quantifier → Option ParserStack
repeated s none q = None
repeated s atom q = Some (with_last s counted)
repeated s counted q = lazied s q

-- and behind any part
abbrev pub step : ParserStack → Part → Option ParserStack
step s bar = Some (with_last s none)
step s (edge e) = Some (with_last s none)
step s (leaf l) = Some (leaf_step s l)
step s (opens e) = open_step s e
step s closes = close_group s
step s (repeats q) = repeated s s.last q

-- behind parts, one behind the other
abbrev pub steps : ParserStack → List Part → Option ParserStack
steps s [] = Some s
steps s (p ∷ ps) = option_and_then (λ t. steps t ps) (step s p)

-- that the numbers of the back references are none above this
abbrev pub are_within : ℕ → List ℕ → Bool
are_within n ms = list_all (λ m. nat_le m n) ms

-- what parts make of what is known: the shape, and the facts of the groups and back references in them
pub record Reached (s : ParserStack) (ps : List Part) (t : ParserStack) : Type 0 where
  pub shape : shapes s.groups s.last ps ≡ Some (t.groups, t.last)
  pub counts : t.captures ≡ s.captures + captures ps
  pub small : t.captures < capture_limit
  pub groups_named : t.names ≡ s.names ++ names ps
  pub asked : t.calls ≡ s.calls ++ calls ps
  pub most : (n : ℕ) → n < capture_limit → nat_le t.greatest n ≡ (nat_le s.greatest n && are_within n (numbers ps))

-- whether a number is above another that is below the limit does not change where it is held
held_within : (m n : ℕ) → n < capture_limit → nat_le (cap_number m) n ≡ nat_le m n
held_within m n h = by_test (nat_le m capture_limit) refl
  where
    -- by whether it is held
    by_test : (b : Bool) → nat_le m capture_limit ≡ b → nat_le (if b then m else capture_limit) n ≡ nat_le m n
    by_test true e = refl
    by_test false e = grind (arith, nat_tests)

-- the greater of two numbers is not above a third exactly where neither is
greater_within : (k m n : ℕ) → nat_le (greater_of k m) n ≡ (nat_le k n && (nat_le m n && true))
greater_within k m n = by_test (nat_le k m) refl
  where
    -- by which is the greater
    by_test : (b : Bool) → nat_le k m ≡ b → nat_le (if b then m else k) n ≡ (nat_le k n && (nat_le m n && true))
    by_test true e = grind (arith, nat_tests)
    by_test false e = grind (arith, nat_tests)

-- a test that always holds may be left out
and_nothing : (b : Bool) → b ≡ (b && true)
and_nothing true = refl
and_nothing false = refl

-- what holds of an option where a test holds, holds of it under the test
when_goes : (P : ParserStack → Type 0) (b : Bool) (o : Option ParserStack) → (b ≡ true → IfSome o P) → IfSome (when b o) P
when_goes P false o h = tt
when_goes P true o h = h refl

module _ (s : ParserStack) (small : s.captures < capture_limit) where
  -- a part that changes no fact, and leaves this shape, reaches what has the same facts
  same_facts : (p : Part) (gs : List Bool) (x : Last) → shape_step s.groups s.last p ≡ Some (gs, x) → captures (p ∷ []) ≡ 0
      → names (p ∷ []) ≡ [] → calls (p ∷ []) ≡ [] → numbers (p ∷ []) ≡ []
      → Reached s (p ∷ []) (record {
        groups = gs;
        last = x;
        captures = s.captures;
        greatest = s.greatest;
        names = s.names;
        calls = s.calls;
      })
  same_facts p gs x h c n l m = record {
    shape = ap (option_and_then {U = Shape} (λ (t : Shape). Some (t.0, t.1))) h;
    counts = omega (arith, c);
    small = small;
    groups_named = sym (append-nil s.names) ∙ ap (λ z. s.names ++ z) (sym n);
    asked = sym (append-nil s.calls) ∙ ap (λ z. s.calls ++ z) (sym l);
    most = λ k h. and_nothing (nat_le s.greatest k) ∙ ap (λ z. nat_le s.greatest k && are_within k z) (sym m);
  }

  -- a leaf reaches what is behind it
  leaf_reaches : (l : Leaf) → Reached s (leaf l ∷ []) (leaf_step s l)
  leaf_reaches (plain c) = same_facts (leaf (plain c)) s.groups atom refl refl refl refl refl
  leaf_reaches dot = same_facts (leaf dot) s.groups atom refl refl refl refl refl
  leaf_reaches (escaped c) = same_facts (leaf (escaped c)) s.groups atom refl refl refl refl refl
  leaf_reaches (control_escape c) = same_facts (leaf (control_escape c)) s.groups atom refl refl refl refl refl
  leaf_reaches (set_escape c) = same_facts (leaf (set_escape c)) s.groups atom refl refl refl refl refl
  leaf_reaches (coded k) = same_facts (leaf (coded k)) s.groups atom refl refl refl refl refl
  leaf_reaches (property_escape n e) = same_facts (leaf (property_escape n e)) s.groups atom refl refl refl refl refl
  leaf_reaches (bracketed n r e) = same_facts (leaf (bracketed n r e)) s.groups atom refl refl refl refl refl
  leaf_reaches (numbered ds) = record {
    shape = refl;
    counts = omega arith;
    small = small;
    groups_named = sym (append-nil s.names);
    asked = sym (append-nil s.calls);
    most = λ k h.
        greater_within s.greatest (cap_number (number ds)) k ∙ ap (λ z. nat_le s.greatest k && (z && true)) (held_within (number ds) k h);
  }
  leaf_reaches (calls_for n) = record {
    shape = refl;
    counts = omega arith;
    small = small;
    groups_named = sym (append-nil s.names);
    asked = refl;
    most = λ k h. and_nothing (nat_le s.greatest k);
  }

  -- so does what opens a group or a lookaround, where there are not too many
  open_reaches : (e : Enclosing) → IfSome (open_step s e) (Reached s (opens e ∷ []))
  open_reaches (of_group capturing) =
      when_goes _ (nat_lt (s.captures + 1) capture_limit) (Some (open_capture s)) (λ b. record {
        shape = refl;
        counts = omega arith;
        small = ltb-true (s.captures + 1) capture_limit b;
        groups_named = sym (append-nil s.names);
        asked = sym (append-nil s.calls);
        most = λ k h. and_nothing (nat_le s.greatest k);
      })
  open_reaches (of_group plain_group) =
      same_facts (opens (of_group plain_group)) (true ∷ s.groups) none refl refl refl refl refl
  open_reaches (of_group (named n)) =
      when_goes _ (nat_lt (s.captures + 1) capture_limit) (Some (open_capture (with_name s (name_value n)))) (λ b. record {
        shape = refl;
        counts = omega arith;
        small = ltb-true (s.captures + 1) capture_limit b;
        groups_named = refl;
        asked = sym (append-nil s.calls);
        most = λ k h. and_nothing (nat_le s.greatest k);
      })
  open_reaches (of_lookbehind b) = same_facts (opens (of_lookbehind b)) (false ∷ s.groups) none refl refl refl refl refl
  open_reaches (of_lookahead b) = same_facts (opens (of_lookahead b)) (false ∷ s.groups) none refl refl refl refl refl

  -- and what closes one, where one is open
  close_reaches : (gs : List Bool) → s.groups ≡ gs → IfSome (close_group_in s gs) (Reached s (closes ∷ []))
  close_reaches [] e = tt
  close_reaches (q ∷ gs) e = same_facts closes gs (last_if q) (ap closes_shape e) refl refl refl refl

  -- and a `?` behind a quantifier
  lazy_reaches : s.last ≡ counted → (q : Quantifier) → IfSome (lazied s q) (Reached s (repeats q ∷ []))
  lazy_reaches e zero_or_more = tt
  lazy_reaches e one_or_more = tt
  lazy_reaches e zero_or_one =
      same_facts (repeats zero_or_one) s.groups none (ap (λ x. repeats_shape s.groups x zero_or_one) e) refl refl refl refl
  lazy_reaches e (exactly ds) = tt
  lazy_reaches e (at_least ds) = tt
  lazy_reaches e (from_to ds es) = tt

  -- and a quantifier, where one may stand
  repeat_reaches : (x : Last) → s.last ≡ x → (q : Quantifier) → IfSome (repeated s x q) (Reached s (repeats q ∷ []))
  repeat_reaches none e q = tt
  repeat_reaches atom e q = same_facts (repeats q) s.groups counted (ap (λ x. repeats_shape s.groups x q) e) refl refl refl refl
  repeat_reaches counted e q = lazy_reaches e q

  -- so any part reaches what is behind it
  step_reaches : (p : Part) → IfSome (step s p) (Reached s (p ∷ []))
  step_reaches bar = same_facts bar s.groups none refl refl refl refl refl
  step_reaches (edge e) = same_facts (edge e) s.groups none refl refl refl refl refl
  step_reaches (leaf l) = leaf_reaches l
  step_reaches (opens e) = open_reaches e
  step_reaches closes = close_reaches s.groups refl
  step_reaches (repeats q) = repeat_reaches s.last refl q

-- the groups of a part and of others behind it are counted together
pub captures_more : (p : Part) (ps : List Part) → captures (p ∷ ps) ≡ captures (p ∷ []) + captures ps
captures_more bar ps = omega arith
captures_more (edge e) ps = omega arith
captures_more (leaf l) ps = omega arith
captures_more (opens (of_group capturing)) ps = omega arith
captures_more (opens (of_group plain_group)) ps = omega arith
captures_more (opens (of_group (named n))) ps = omega arith
captures_more (opens (of_lookbehind b)) ps = omega arith
captures_more (opens (of_lookahead b)) ps = omega arith
captures_more closes ps = omega arith
captures_more (repeats q) ps = omega arith

-- so are their names
pub names_more : (p : Part) (ps : List Part) → names (p ∷ ps) ≡ names (p ∷ []) ++ names ps
names_more bar ps = refl
names_more (edge e) ps = refl
names_more (leaf l) ps = refl
names_more (opens (of_group capturing)) ps = refl
names_more (opens (of_group plain_group)) ps = refl
names_more (opens (of_group (named n))) ps = refl
names_more (opens (of_lookbehind b)) ps = refl
names_more (opens (of_lookahead b)) ps = refl
names_more closes ps = refl
names_more (repeats q) ps = refl

-- and the names and the numbers of back references
pub asked_more : (p : Part) (ps : List Part) → ((calls (p ∷ ps) ≡ calls (p ∷ []) ++ calls ps) × (numbers (p ∷ ps) ≡ numbers (p ∷ []) ++ numbers ps))
asked_more bar ps = (refl, refl)
asked_more (edge e) ps = (refl, refl)
asked_more (leaf (plain c)) ps = (refl, refl)
asked_more (leaf dot) ps = (refl, refl)
asked_more (leaf (escaped c)) ps = (refl, refl)
asked_more (leaf (control_escape c)) ps = (refl, refl)
asked_more (leaf (set_escape c)) ps = (refl, refl)
asked_more (leaf (coded k)) ps = (refl, refl)
asked_more (leaf (property_escape n e)) ps = (refl, refl)
asked_more (leaf (numbered ds)) ps = (refl, refl)
asked_more (leaf (calls_for n)) ps = (refl, refl)
asked_more (leaf (bracketed n r e)) ps = (refl, refl)
asked_more (opens e) ps = (refl, refl)
asked_more closes ps = (refl, refl)
asked_more (repeats q) ps = (refl, refl)

-- tests of three may be put together either way
and_again : (a b c : Bool) → ((a && b) && c) ≡ (a && (b && c))
and_again true b c = refl
and_again false b c = refl

-- numbers are within where those of both lists are
within_more : (n : ℕ) (ms ks : List ℕ) → are_within n (ms ++ ks) ≡ (are_within n ms && are_within n ks)
within_more n [] ks = refl
within_more n (m ∷ ms) ks =
    ap (λ z. nat_le m n && z) (within_more n ms ks) ∙ sym (and_again (nat_le m n) (are_within n ms) (are_within n ks))

-- where a part reaches what is behind it, and parts reach the rest from there, they reach it together
joins : (s u t : ParserStack) (p : Part) (ps : List Part) → Reached s (p ∷ []) u → Reached u ps t → Reached s (p ∷ ps) t
joins s u t p ps one rest = record {
  shape = shape_joins (shape_step s.groups s.last p) one.shape;
  counts = omega (arith, one.counts, rest.counts, captures_more p ps);
  small = rest.small;
  groups_named =
      rest.groups_named ∙ ap (λ z. z ++ names ps) one.groups_named ∙ append_assoc s.names (names (p ∷ [])) (names ps)
      ∙ ap (λ z. s.names ++ z) (sym (names_more p ps));
  asked =
      rest.asked ∙ ap (λ z. z ++ calls ps) one.asked ∙ append_assoc s.calls (calls (p ∷ [])) (calls ps)
      ∙ ap (λ z. s.calls ++ z) (sym (asked_more p ps).0);
  most = λ n h.
      rest.most n h ∙ ap (λ z. z && are_within n (numbers ps)) (one.most n h)
      ∙ and_again (nat_le s.greatest n) (are_within n (numbers (p ∷ []))) (are_within n (numbers ps))
      ∙ ap (λ z. nat_le s.greatest n && z)
      (sym (within_more n (numbers (p ∷ [])) (numbers ps)) ∙ ap (are_within n) (sym (asked_more p ps).1));
}
  where
    -- the shape is that of the rest behind the one that the part leaves
    shape_joins : (o : Option Shape) → option_and_then {U = Shape} (λ (z : Shape). Some (z.0, z.1)) o ≡ Some (u.groups, u.last)
        → option_and_then (λ (z : Shape). shapes z.0 z.1 ps) o ≡ Some (t.groups, t.last)
    shape_joins None h = absurd (true≢false (sym (ap is_some h)))
    shape_joins (Some z) h = ap (option_and_then (λ (z : Shape). shapes z.0 z.1 ps)) h ∙ rest.shape

-- where the rest reaches what is behind it from each that the part may leave, all do from before
one_more : (s : ParserStack) (p : Part) (ps : List Part) → ((u : ParserStack) → u.captures < capture_limit → IfSome (steps u ps) (Reached u ps))
    → (o : Option ParserStack) → IfSome o (Reached s (p ∷ [])) → IfSome (option_and_then (λ t. steps t ps) o) (Reached s (p ∷ ps))
one_more s p ps ih None h = tt
one_more s p ps ih (Some u) h = joined (steps u ps) (ih u h.small)
  where
    -- where there is one
    joined : (o : Option ParserStack) → IfSome o (Reached u ps) → IfSome o (Reached s (p ∷ ps))
    joined None w = tt
    joined (Some t) w = joins s u t p ps h w

-- so parts reach what is behind them
pub reaches : (ps : List Part) (s : ParserStack) → s.captures < capture_limit → IfSome (steps s ps) (Reached s ps)
reaches [] s h = record {
  shape = refl;
  counts = omega arith;
  small = h;
  groups_named = sym (append-nil s.names);
  asked = sym (append-nil s.calls);
  most = λ n k. and_nothing (nat_le s.greatest n);
}
reaches (p ∷ ps) s h = one_more s p ps (reaches ps) (step s p) (step_reaches s h p)

-- what is known behind parts that may stand so
abbrev Goes : ParserStack → List Part → Type 0
Goes s ps = (t : ParserStack) × (steps s ps ≡ Some t)

-- where there are not too many groups, the test of that holds
few_goes : (n k : ℕ) → n + suc k < capture_limit → nat_lt (n + 1) capture_limit ≡ true
few_goes n k h = lt-ltb (n + 1) capture_limit (omega (arith, h))

-- a leaf leaves the groups that are open and their number, and an atom as the last term
leaf_leaves : (s : ParserStack) (l : Leaf)
    → (((leaf_step s l).groups ≡ s.groups) × ((leaf_step s l).last ≡ atom) × ((leaf_step s l).captures ≡ s.captures))
leaf_leaves s (plain c) = (refl, refl, refl)
leaf_leaves s dot = (refl, refl, refl)
leaf_leaves s (escaped c) = (refl, refl, refl)
leaf_leaves s (control_escape c) = (refl, refl, refl)
leaf_leaves s (set_escape c) = (refl, refl, refl)
leaf_leaves s (coded k) = (refl, refl, refl)
leaf_leaves s (property_escape n e) = (refl, refl, refl)
leaf_leaves s (bracketed n r e) = (refl, refl, refl)
leaf_leaves s (numbered ds) = (refl, refl, refl)
leaf_leaves s (calls_for n) = (refl, refl, refl)

-- where the shape goes on and there are not too many groups, so does what is known
pub goes_on : (ps : List Part) (s : ParserStack) → is_some (shapes s.groups s.last ps) ≡ true → s.captures + captures ps < capture_limit
    → ((t : ParserStack) × (steps s ps ≡ Some t))
goes_on [] s h w = (s, refl)
goes_on (bar ∷ ps) s h w = goes_on ps (with_last s none) h w
goes_on (edge e ∷ ps) s h w = goes_on ps (with_last s none) h w
goes_on (leaf l ∷ ps) s h w =
    let leaves = leaf_leaves s l in
    goes_on ps (leaf_step s l)
    (ap (λ z. is_some (shapes z (leaf_step s l).last ps)) leaves.0 ∙ ap (λ z. is_some (shapes s.groups z ps)) leaves.1 ∙ h)
    (subst (λ z. z + captures ps < capture_limit) (sym leaves.2) w)
goes_on (opens (of_group capturing) ∷ ps) s h w =
    let rest = goes_on ps (open_capture s) h (omega (arith, w)) in
    (rest.0, ap (λ b. option_and_then (λ t. steps t ps) (when b (Some (open_capture s)))) (few_goes s.captures (captures ps) w) ∙ rest.1)
goes_on (opens (of_group plain_group) ∷ ps) s h w = goes_on ps (open_group s true) h w
goes_on (opens (of_group (named n)) ∷ ps) s h w =
    let inner = open_capture (with_name s (name_value n)) in
    let rest = goes_on ps inner h (omega (arith, w)) in
    (rest.0, ap (λ b. option_and_then (λ t. steps t ps) (when b (Some inner))) (few_goes s.captures (captures ps) w) ∙ rest.1)
goes_on (opens (of_lookbehind b) ∷ ps) s h w = goes_on ps (open_group s false) h w
goes_on (opens (of_lookahead b) ∷ ps) s h w = goes_on ps (open_group s false) h w
goes_on (closes ∷ ps) s h w = by_groups (goes_on ps) s.groups h
  where
    -- by what is open
    by_groups : ((u : ParserStack) → is_some (shapes u.groups u.last ps) ≡ true → u.captures + captures ps < capture_limit → Goes u ps)
        → (gs : List Bool) → is_some (option_and_then (λ (z : Shape). shapes z.0 z.1 ps) (closes_shape gs)) ≡ true
        → ((t : ParserStack) × (option_and_then (λ u. steps u ps) (close_group_in s gs) ≡ Some t))
    by_groups rest [] k = absurd (true≢false (sym k))
    by_groups rest (q ∷ gs) k = rest (record {
      groups = gs;
      last = last_if q;
      captures = s.captures;
      greatest = s.greatest;
      names = s.names;
      calls = s.calls;
    }) k w
goes_on (repeats q ∷ ps) s h w = by_last (goes_on ps) s.last q h
  where
    -- by the last term and the quantifier
    by_last : ((u : ParserStack) → is_some (shapes u.groups u.last ps) ≡ true → u.captures + captures ps < capture_limit → Goes u ps)
        → (x : Last) (q : Quantifier) → is_some (option_and_then (λ (z : Shape). shapes z.0 z.1 ps) (repeats_shape s.groups x q)) ≡ true
        → ((t : ParserStack) × (option_and_then (λ u. steps u ps) (repeated s x q) ≡ Some t))
    by_last rest none q k = absurd (true≢false (sym k))
    by_last rest atom q k = rest (with_last s counted) k w
    by_last rest counted zero_or_more k = absurd (true≢false (sym k))
    by_last rest counted one_or_more k = absurd (true≢false (sym k))
    by_last rest counted zero_or_one k = rest (with_last s none) k w
    by_last rest counted (exactly ds) k = absurd (true≢false (sym k))
    by_last rest counted (at_least ds) k = absurd (true≢false (sym k))
    by_last rest counted (from_to ds es) k = absurd (true≢false (sym k))

-- a leaf does what its lexemes do
leaf_same : (s : ParserStack) (l : Leaf) → take_lexemes lexeme_step s (leaf_lexemes false l) ≡ Some (leaf_step s l)
leaf_same s (plain c) = refl
leaf_same s dot = refl
leaf_same s (escaped c) = refl
leaf_same s (control_escape c) = refl
leaf_same s (set_escape c) = refl
leaf_same s (coded null_code) = refl
leaf_same s (coded (letter_code c)) = refl
leaf_same s (coded (byte_code ds)) = refl
leaf_same s (coded (unit_code ds)) = refl
leaf_same s (coded (pair_code ds es)) = refl
leaf_same s (coded (point_code ds)) = refl
leaf_same s (property_escape n e) = refl
leaf_same s (numbered ds) = refl
leaf_same s (calls_for n) = refl
leaf_same s (bracketed n r e) = refl

-- a quantifier does what one does that is no `?`, behind no quantifier
quantifier_same : (s : ParserStack) (x : Last) (q : Quantifier) → lazied s q ≡ None → add_quantifier_behind s x ≡ repeated s x q
quantifier_same s none q e = refl
quantifier_same s atom q e = refl
quantifier_same s counted q e = sym e

-- and `?` behind any
question_same : (s : ParserStack) (x : Last) → add_question_behind s x ≡ repeated s x zero_or_one
question_same s none = refl
question_same s atom = refl
question_same s counted = refl

-- so does each part
part_same : (s : ParserStack) (p : Part) → take_lexemes lexeme_step s (lexemes false p) ≡ step s p
part_same s bar = refl
part_same s (edge e) = refl
part_same s (leaf l) = leaf_same s l
part_same s (opens (of_group capturing)) = refl
part_same s (opens (of_group plain_group)) = refl
part_same s (opens (of_group (named n))) = refl
part_same s (opens (of_lookbehind b)) = refl
part_same s (opens (of_lookahead b)) = refl
part_same s closes = refl
part_same s (repeats zero_or_more) = quantifier_same s s.last zero_or_more refl
part_same s (repeats one_or_more) = quantifier_same s s.last one_or_more refl
part_same s (repeats zero_or_one) = question_same s s.last
part_same s (repeats (exactly ds)) = quantifier_same s s.last (exactly ds) refl
part_same s (repeats (at_least ds)) = quantifier_same s s.last (at_least ds) refl
part_same s (repeats (from_to ds es)) = quantifier_same s s.last (from_to ds es) refl

-- and so do parts, one behind the other
pub steps_same : (ps : List Part) (s : ParserStack) → part_steps false lexeme_step s ps ≡ steps s ps
steps_same [] s = refl
steps_same (p ∷ ps) s =
    ap (option_and_then (λ t. part_steps false lexeme_step t ps)) (part_same s p) ∙ rest (steps_same ps) (step s p)
  where
    -- behind what the part leaves
    rest : ((t : ParserStack) → part_steps false lexeme_step t ps ≡ steps t ps) → (o : Option ParserStack)
        → option_and_then (λ t. part_steps false lexeme_step t ps) o ≡ option_and_then (λ t. steps t ps) o
    rest f None = refl
    rest f (Some t) = f t
