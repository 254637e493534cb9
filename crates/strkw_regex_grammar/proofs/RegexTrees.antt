-- Which lists of parts are those of a tree: the groups that are open, and whether a quantifier may stand, tell.
use Rattle.std.proofs.Common.{◌≡◌, Bool, true, false, List, [], ◌∷◌, ◌++◌, Option, Some, None, refl, sym, ap, subst, ◌∙◌, append_assoc, true≢false}
use Rattle.std.specs.Prelude.{option_and_then, is_some}
use Rattle.std.proofs.lemmas.List.{append-nil}
use Rattle.strkw_regex_grammar.specs.Syntax.{Quantifier, zero_or_more, one_or_more, zero_or_one, exactly, at_least, from_to, greedy, lazy, Enclosing}
use Rattle.strkw_regex_grammar.specs.Syntax.{of_group, of_lookbehind, of_lookahead}
use Rattle.strkw_regex_grammar.specs.Regex.{Part, bar, edge, leaf, opens, closes, repeats, Disjunction, only, either, Alternative, nothing}
use Rattle.strkw_regex_grammar.specs.Regex.{more, Term, asserted, looks_behind, looks_ahead, once, quantified, Atom, single, group, parts}
use Rattle.strkw_regex_grammar.specs.Regex.{alternative_parts, term_parts, atom_parts}
use Rattle.strkw_regex_grammar.specs.machine.Recognising.{Last, none, atom, counted, last_if}

-- whether a quantifier may follow the end of each group that is open, the innermost first, and the last term
abbrev pub Shape : Type 0
Shape = List Bool × Last

-- whether a quantifier may follow the end of what is opened
abbrev pub bit : Enclosing → Bool
bit (of_group g) = true
bit (of_lookbehind n) = false
bit (of_lookahead n) = false

-- the shape behind the end of a group, where one is open
abbrev pub closes_shape : List Bool → Option Shape
closes_shape [] = None
closes_shape (q ∷ gs) = Some (gs, last_if q)

-- behind a quantifier, a `?` that makes it lazy
abbrev pub lazy_shape : List Bool → Quantifier → Option Shape
lazy_shape gs zero_or_more = None
lazy_shape gs one_or_more = None
lazy_shape gs zero_or_one = Some (gs, none)
lazy_shape gs (exactly ds) = None
lazy_shape gs (at_least ds) = None
lazy_shape gs (from_to ds es) = None

-- and a quantifier, where one may stand
abbrev pub repeats_shape : List Bool → Last → Quantifier → Option Shape
repeats_shape gs none q = None
repeats_shape gs atom q = Some (gs, counted)
repeats_shape gs counted q = lazy_shape gs q

-- and behind any part
abbrev pub shape_step : List Bool → Last → Part → Option Shape
shape_step gs x bar = Some (gs, none)
shape_step gs x (edge e) = Some (gs, none)
shape_step gs x (leaf l) = Some (gs, atom)
shape_step gs x (opens e) = Some (bit e ∷ gs, none)
shape_step gs x closes = closes_shape gs
shape_step gs x (repeats q) = repeats_shape gs x q

-- the shape behind parts, where they may stand so
abbrev pub shapes : List Bool → Last → List Part → Option Shape
shapes gs x [] = Some (gs, x)
shapes gs x (p ∷ ps) = option_and_then (λ (t : Shape). shapes t.0 t.1 ps) (shape_step gs x p)

mutual
  -- the parts of a disjunction may stand anywhere, and leave the groups that are open as they were
  disjunction_shape : (d : Disjunction) (gs : List Bool) (x : Last) (ps : List Part) → ((y : Last) × (shapes gs x (parts d ++ ps) ≡ shapes gs y ps))
  disjunction_shape (only a) gs x ps = alternative_shape a gs x ps
  disjunction_shape (either d a) gs x ps =
      let front = disjunction_shape d gs x (bar ∷ (alternative_parts a ++ ps)) in
      let back = alternative_shape a gs none ps in
      (back.0, ap (shapes gs x) (append_assoc (parts d) (bar ∷ alternative_parts a) ps) ∙ front.1 ∙ back.1)

  -- so it is with terms, one behind the other
  alternative_shape : (a : Alternative) (gs : List Bool) (x : Last) (ps : List Part)
      → ((y : Last) × (shapes gs x (alternative_parts a ++ ps) ≡ shapes gs y ps))
  alternative_shape nothing gs x ps = (x, refl)
  alternative_shape (more a t) gs x ps =
      let front = alternative_shape a gs x (term_parts t ++ ps) in
      let back = term_shape t gs front.0 ps in
      (back.0, ap (shapes gs x) (append_assoc (alternative_parts a) (term_parts t) ps) ∙ front.1 ∙ back.1)

  -- and with a term
  term_shape : (t : Term) (gs : List Bool) (x : Last) (ps : List Part) → ((y : Last) × (shapes gs x (term_parts t ++ ps) ≡ shapes gs y ps))
  term_shape (asserted e) gs x ps = (none, refl)
  term_shape (looks_behind n d) gs x ps =
      let inner = disjunction_shape d (false ∷ gs) none (closes ∷ ps) in
      (none, ap (shapes (false ∷ gs) none) (append_assoc (parts d) (closes ∷ []) ps) ∙ inner.1)
  term_shape (looks_ahead n d) gs x ps =
      let inner = disjunction_shape d (false ∷ gs) none (closes ∷ ps) in
      (none, ap (shapes (false ∷ gs) none) (append_assoc (parts d) (closes ∷ []) ps) ∙ inner.1)
  term_shape (once p) gs x ps = (atom, atom_shape p gs x ps)
  term_shape (quantified p q greedy) gs x ps = (
    counted,
    ap (shapes gs x) (append_assoc (atom_parts p) (repeats q ∷ []) ps) ∙ atom_shape p gs x (repeats q ∷ ps),
  )
  term_shape (quantified p q lazy) gs x ps = (
    none,
    ap (shapes gs x) (append_assoc (atom_parts p) (repeats q ∷ repeats zero_or_one ∷ []) ps) ∙ atom_shape p gs x (repeats q ∷ repeats zero_or_one ∷ ps),
  )

  -- and with an atom, behind which a quantifier may stand
  atom_shape : (p : Atom) (gs : List Bool) (x : Last) (ps : List Part) → shapes gs x (atom_parts p ++ ps) ≡ shapes gs atom ps
  atom_shape (single l) gs x ps = refl
  atom_shape (group g d) gs x ps =
      let inner = disjunction_shape d (true ∷ gs) none (closes ∷ ps) in
      ap (shapes (true ∷ gs) none) (append_assoc (parts d) (closes ∷ []) ps) ∙ inner.1

-- the parts of a tree may stand alone, and nothing is open behind them
pub shape_of_tree : (d : Disjunction) → ((y : Last) × (shapes [] none (parts d) ≡ Some ([], y)))
shape_of_tree d =
    let whole = disjunction_shape d [] none [] in
    (whole.0, ap (shapes [] none) (sym (append-nil (parts d))) ∙ whole.1)

-- a group or a lookaround that is open, and what stands before it in the level around it
pub record Around : Type 0 where
  pub enclosing : Enclosing
  pub earlier : Option Disjunction
  pub current : Alternative

-- the alternatives of a level, joined
abbrev pub joined : Option Disjunction → Alternative → Disjunction
joined None a = only a
joined (Some d) a = either d a

-- the parts of a level
abbrev pub level_parts : Option Disjunction → Alternative → List Part
level_parts None a = alternative_parts a
level_parts (Some d) a = parts d ++ bar ∷ alternative_parts a

-- those of what is open, and of what stands before
abbrev pub around_parts : List Around → List Part
around_parts [] = []
around_parts (o ∷ os) = (around_parts os ++ level_parts o.earlier o.current) ++ opens o.enclosing ∷ []

-- and of all that has been read
abbrev pub before : List Around → Option Disjunction → Alternative → List Part
before os e a = around_parts os ++ level_parts e a

-- which of the groups that are open may have a quantifier
abbrev pub bits : List Around → List Bool
bits [] = []
bits (o ∷ os) = bit o.enclosing ∷ bits os

-- the alternative ends with the last term
abbrev pub IsLast : Last → Alternative → Type 0
IsLast none a = Unit {0}
IsLast atom a = (b : Alternative) × (p : Atom) × (a ≡ more b (once p))
IsLast counted a = (b : Alternative) × (p : Atom) × (q : Quantifier) × (a ≡ more b (quantified p q greedy))

-- the parts of a level, joined, are those of the level
pub joined_parts : (e : Option Disjunction) (a : Alternative) → parts (joined e a) ≡ level_parts e a
joined_parts None a = refl
joined_parts (Some d) a = refl

-- of three lists before a fourth the brackets may be moved
shift : (u v w ps : List Part) → (u ++ (v ++ w)) ++ ps ≡ (u ++ v) ++ (w ++ ps)
shift u v w ps = append_assoc u (v ++ w) ps ∙ ap (λ z. u ++ z) (append_assoc v w ps) ∙ sym (append_assoc u v (w ++ ps))

-- a level with one term more has the parts of that behind its own
more_parts : (e : Option Disjunction) (a : Alternative) (t : Term) → level_parts e (more a t) ≡ level_parts e a ++ term_parts t
more_parts None a t = refl
more_parts (Some d) a t = sym (append_assoc (parts d) (bar ∷ alternative_parts a) (term_parts t))

-- the same within what is open, before the rest
pub term_behind : (os : List Around) (e : Option Disjunction) (a : Alternative) (t : Term) (ps : List Part)
    → before os e (more a t) ++ ps ≡ before os e a ++ (term_parts t ++ ps)
term_behind os e a t ps =
    ap (λ z. (around_parts os ++ z) ++ ps) (more_parts e a t) ∙ shift (around_parts os) (level_parts e a) (term_parts t) ps

-- and of alternatives that are ended by a bar
bar_behind : (os : List Around) (e : Option Disjunction) (a : Alternative) (ps : List Part)
    → before os (Some (joined e a)) nothing ++ ps ≡ before os e a ++ bar ∷ ps
bar_behind os e a ps =
    ap (λ z. (around_parts os ++ (z ++ bar ∷ [])) ++ ps) (joined_parts e a) ∙ shift (around_parts os) (level_parts e a) (bar ∷ []) ps

-- and of what is opened
pub opens_behind : (os : List Around) (o : Around) (ps : List Part)
    → before (o ∷ os) None nothing ++ ps ≡ before os o.earlier o.current ++ opens o.enclosing ∷ ps
opens_behind os o ps =
    ap (λ z. z ++ ps) (append-nil (around_parts (o ∷ os))) ∙ append_assoc (before os o.earlier o.current) (opens o.enclosing ∷ []) ps

-- and of what is closed, which is then a term of the level around it
closes_behind : (os : List Around) (o : Around) (e : Option Disjunction) (a : Alternative) (t : Term) (ps : List Part)
    → term_parts t ≡ opens o.enclosing ∷ (parts (joined e a) ++ closes ∷ [])
    → before os o.earlier (more o.current t) ++ ps ≡ before (o ∷ os) e a ++ closes ∷ ps
closes_behind os o e a t ps is =
    let outer = before os o.earlier o.current in
    term_behind os o.earlier o.current t ps
    ∙ ap (λ z. outer ++ (z ++ ps)) (is ∙ ap (λ z. opens o.enclosing ∷ (z ++ closes ∷ [])) (joined_parts e a))
    ∙ ap (λ z. outer ++ opens o.enclosing ∷ z) (append_assoc (level_parts e a) (closes ∷ []) ps)
    ∙ sym (append_assoc outer (opens o.enclosing ∷ []) (level_parts e a ++ closes ∷ ps))
    ∙ sym (append_assoc (outer ++ opens o.enclosing ∷ []) (level_parts e a) (closes ∷ ps))

-- whether there is a shape in which nothing is open
abbrev pub is_closed_shape : Option Shape → Bool
is_closed_shape None = false
is_closed_shape (Some ([], x)) = true
is_closed_shape (Some (q ∷ gs, x)) = false

-- whether a list has something
abbrev has_some : List Bool → Bool
has_some [] = false
has_some (q ∷ gs) = true

-- what is open, and the alternatives within, whose parts are these, and whose last term is of this kind
abbrev pub LevelsOf : Shape → List Part → Type 0
LevelsOf t ps = (os : List Around) × (e : Option Disjunction) × (a : Alternative) × (before os e a ≡ ps) × (bits os ≡ t.0) × IsLast t.1 a

-- the groups of a shape, where there is one
groups_or : List Bool → Option Shape → List Bool
groups_or gs None = gs
groups_or gs (Some t) = t.0

-- its last term
last_or : Last → Option Shape → Last
last_or x None = x
last_or x (Some t) = t.1

module _ (t : Shape) where
  -- shapes that are the same have the same groups open
  groups_of : {gs : List Bool} {x : Last} → Some (gs, x) ≡ Some t → gs ≡ t.0
  unfolding groups_or
  groups_of e = ap (groups_or []) e

  -- and the same last term
  last_of : {gs : List Bool} {x : Last} → Some (gs, x) ≡ Some t → x ≡ t.1
  unfolding last_or
  last_of e = ap (last_or none) e

  -- the levels of other parts, which are the same
  same_parts : (ps qs : List Part) → ps ≡ qs → LevelsOf t ps → LevelsOf t qs
  same_parts ps qs is l = (l.0, l.1, l.2, l.3 ∙ is, l.4, l.5)

  -- where it is so of the rest behind each last term, it is behind the end of what is open
  closed_levels : (ps : List Part) (os : List Around) (o : Around)
      → ((a : Alternative) (x : Last) → IsLast x a → shapes (bits os) x ps ≡ Some t → LevelsOf t (before os o.earlier a ++ ps))
      → (g : Enclosing) → o.enclosing ≡ g → (e : Option Disjunction) (a : Alternative)
      → shapes (bits os) (last_if (bit o.enclosing)) ps ≡ Some t → LevelsOf t (before (o ∷ os) e a ++ closes ∷ ps)
  closed_levels ps os o rest (of_group g) k e a is =
      let t = once (group g (joined e a)) in
      same_parts _ _ (closes_behind os o e a t ps (ap (λ z. opens z ∷ (parts (joined e a) ++ closes ∷ [])) (sym k)))
      (rest (more o.current t) atom (o.current, group g (joined e a), refl)
      (ap (λ z. shapes (bits os) (last_if (bit z)) ps) (sym k) ∙ is))
  closed_levels ps os o rest (of_lookbehind n) k e a is =
      let t = looks_behind n (joined e a) in
      same_parts _ _ (closes_behind os o e a t ps (ap (λ z. opens z ∷ (parts (joined e a) ++ closes ∷ [])) (sym k)))
      (rest (more o.current t) none tt (ap (λ z. shapes (bits os) (last_if (bit z)) ps) (sym k) ∙ is))
  closed_levels ps os o rest (of_lookahead n) k e a is =
      let t = looks_ahead n (joined e a) in
      same_parts _ _ (closes_behind os o e a t ps (ap (λ z. opens z ∷ (parts (joined e a) ++ closes ∷ [])) (sym k)))
      (rest (more o.current t) none tt (ap (λ z. shapes (bits os) (last_if (bit z)) ps) (sym k) ∙ is))

  -- where the rest of the parts may stand, all are those of levels
  levels_of : (ps : List Part) (os : List Around) (e : Option Disjunction) (a : Alternative) (x : Last) → IsLast x a
      → shapes (bits os) x ps ≡ Some t → LevelsOf t (before os e a ++ ps)
  levels_of [] os e a x h is = (os, e, a, sym (append-nil (before os e a)), groups_of is, subst (λ y. IsLast y a) (last_of is) h)
  levels_of (bar ∷ ps) os e a x h is =
      same_parts _ _ (bar_behind os e a ps) (levels_of ps os (Some (joined e a)) nothing none tt is)
  levels_of (edge g ∷ ps) os e a x h is =
      same_parts _ _ (term_behind os e a (asserted g) ps) (levels_of ps os e (more a (asserted g)) none tt is)
  levels_of (leaf l ∷ ps) os e a x h is =
      same_parts _ _ (term_behind os e a (once (single l)) ps)
      (levels_of ps os e (more a (once (single l))) atom (a, single l, refl) is)
  levels_of (opens g ∷ ps) os e a x h is =
      let o : Around = record { enclosing = g; earlier = e; current = a } in
      same_parts _ _ (opens_behind os o ps) (levels_of ps (o ∷ os) None nothing none tt is)
  levels_of (closes ∷ ps) [] e a x h is = absurd (true≢false (sym (ap is_some is)))
  levels_of (closes ∷ ps) (o ∷ os) e a x h is = closed_levels ps os o (λ b y. levels_of ps os o.earlier b y) o.enclosing refl e a is
  levels_of (repeats q ∷ ps) os e a none h is = absurd (true≢false (sym (ap is_some is)))
  levels_of (repeats q ∷ ps) os e a atom h is =
      same_parts _ _
      (term_behind os e h.0 (quantified h.1 q greedy) ps ∙ ap (λ z. before os e h.0 ++ z) (append_assoc (atom_parts h.1) (repeats q ∷ []) ps)
      ∙ sym (term_behind os e h.0 (once h.1) (repeats q ∷ ps)) ∙ ap (λ z. before os e z ++ repeats q ∷ ps) (sym h.2))
      (levels_of ps os e (more h.0 (quantified h.1 q greedy)) counted (h.0, h.1, q, refl) is)
  levels_of (repeats zero_or_more ∷ ps) os e a counted h is = absurd (true≢false (sym (ap is_some is)))
  levels_of (repeats one_or_more ∷ ps) os e a counted h is = absurd (true≢false (sym (ap is_some is)))
  levels_of (repeats (exactly ds) ∷ ps) os e a counted h is = absurd (true≢false (sym (ap is_some is)))
  levels_of (repeats (at_least ds) ∷ ps) os e a counted h is = absurd (true≢false (sym (ap is_some is)))
  levels_of (repeats (from_to ds es) ∷ ps) os e a counted h is = absurd (true≢false (sym (ap is_some is)))
  levels_of (repeats zero_or_one ∷ ps) os e a counted h is =
      same_parts _ _
      (term_behind os e h.0 (quantified h.1 h.2 lazy) ps
      ∙ ap (λ z. before os e h.0 ++ z) (append_assoc (atom_parts h.1) (repeats h.2 ∷ repeats zero_or_one ∷ []) ps
      ∙ sym (append_assoc (atom_parts h.1) (repeats h.2 ∷ []) (repeats zero_or_one ∷ ps)))
      ∙ sym (term_behind os e h.0 (quantified h.1 h.2 greedy) (repeats zero_or_one ∷ ps)) ∙ ap (λ z. before os e z ++ repeats zero_or_one ∷ ps) (sym h.3))
      (levels_of ps os e (more h.0 (quantified h.1 h.2 lazy)) none tt is)

-- so parts that may stand so are those of levels
pub levels_of_shape : (ps : List Part) (t : Shape) → shapes [] none ps ≡ Some t → LevelsOf t ps
levels_of_shape ps t is = levels_of t ps [] None nothing none tt is

-- and with nothing open behind them they are those of a tree
pub tree_of_shape : (ps : List Part) → is_closed_shape (shapes [] none ps) ≡ true → ((d : Disjunction) × (parts d ≡ ps))
tree_of_shape ps is = by_shape (shapes [] none ps) refl is
  where
    -- by what is open
    by_levels : (os : List Around) (e : Option Disjunction) (a : Alternative) → before os e a ≡ ps → bits os ≡ [] → ((d : Disjunction) × (parts d ≡ ps))
    by_levels [] e a k b = (joined e a, joined_parts e a ∙ k)
    by_levels (o ∷ os) e a k b = absurd (true≢false (ap has_some b))

    -- by the shape
    by_shape : (o : Option Shape) → shapes [] none ps ≡ o → is_closed_shape o ≡ true → ((d : Disjunction) × (parts d ≡ ps))
    by_shape None k c = absurd (true≢false (sym c))
    by_shape (Some ([], x)) k c =
        let l = levels_of_shape ps ([], x) k in
        by_levels l.0 l.1 l.2 l.3 l.4
    by_shape (Some (q ∷ gs, x)) k c = absurd (true≢false (sym c))
