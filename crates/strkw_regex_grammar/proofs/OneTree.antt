-- A text has one tree at most: the parts are told from the text, and the tree from its parts.
use Rattle.std.proofs.Common.{◌≡◌, List, [], ◌∷◌, ◌++◌, Option, Some, None, refl, sym, ap, ◌∙◌, append_assoc}
use Rattle.std.proofs.lemmas.List.{append-nil}
use Rattle.strkw_regex_grammar.specs.Syntax.{Quantifier, zero_or_one, greedy, lazy, Enclosing, of_group, of_lookbehind, of_lookahead}
use Rattle.strkw_regex_grammar.specs.Regex.{Part, bar, edge, leaf, opens, closes, repeats, Disjunction, only, either, Alternative, nothing}
use Rattle.strkw_regex_grammar.specs.Regex.{more, Term, asserted, looks_behind, looks_ahead, once, quantified, Atom, single, group, parts}
use Rattle.strkw_regex_grammar.specs.Regex.{alternative_parts, term_parts, atom_parts, spelling, AreParts}
use Rattle.strkw_regex_grammar.proofs.RegexTrees.{Around, joined, is_closed_shape, shape_of_tree}
use Rattle.strkw_regex_grammar.proofs.TextParts.{parts_in, parts_are}

-- what is open around a level, the alternatives before the last one of it, and that
abbrev Levels : Type 0
Levels = List Around × Option Disjunction × Alternative

-- what stands around a disjunction, and that, as a term
abbrev enclosed : Enclosing → Disjunction → Term
enclosed (of_group g) d = once (group g d)
enclosed (of_lookbehind n) d = looks_behind n d
enclosed (of_lookahead n) d = looks_ahead n d

-- a term with a quantifier behind it
abbrev repeated : Term → Quantifier → Term
repeated (once a) q = quantified a q greedy
repeated (quantified a p g) q = quantified a p lazy
repeated t q = t

abbrev last_repeated : Alternative → Quantifier → Alternative
last_repeated nothing q = nothing
last_repeated (more a t) q = more a (repeated t q)

-- the end of what is open
abbrev closed : List Around → Disjunction → Levels
closed [] d = ([], None, nothing)
closed (o ∷ os) d = (os, o.earlier, more o.current (enclosed o.enclosing d))

-- with one part more
abbrev grow : Levels → Part → Levels
grow s bar = (s.0, Some (joined s.1 s.2), nothing)
grow s (edge e) = (s.0, s.1, more s.2 (asserted e))
grow s (leaf l) = (s.0, s.1, more s.2 (once (single l)))
grow s (opens e) = (record { enclosing = e; earlier = s.1; current = s.2 } ∷ s.0, None, nothing)
grow s closes = closed s.0 (joined s.1 s.2)
grow s (repeats q) = (s.0, s.1, last_repeated s.2 q)

abbrev grown : List Part → Levels → Levels
grown [] s = s
grown (p ∷ ps) s = grown ps (grow s p)

-- a disjunction on a level with nothing before it
abbrev level_of : List Around → Disjunction → Levels
level_of os (only a) = (os, None, a)
level_of os (either d a) = (os, Some d, a)

-- it is the whole of the level
joined_level : (d : Disjunction) (os : List Around) → joined (level_of os d).1 (level_of os d).2 ≡ d
joined_level (only a) os = refl
joined_level (either d a) os = refl

-- its end, in what is open
closes_level : (d : Disjunction) (o : Around) (os : List Around)
    → grow (level_of (o ∷ os) d) closes ≡ (os, o.earlier, more o.current (enclosed o.enclosing d))
closes_level (only a) o os = refl
closes_level (either d a) o os = refl

-- a bar behind its first alternatives
barred : (d : Disjunction) (os : List Around) → grow (level_of os d) bar ≡ (os, Some d, nothing)
barred (only a) os = refl
barred (either d a) os = refl

-- what stands around a disjunction, with that, where it grows from its parts
enclosed_grows : (g : Enclosing) (d : Disjunction) (os : List Around) (e : Option Disjunction) (a : Alternative) (ps : List Part)
    → ((us : List Around) (qs : List Part) → grown (parts d ++ qs) (us, None, nothing) ≡ grown qs (level_of us d))
    → grown (opens g ∷ ((parts d ++ closes ∷ []) ++ ps)) (os, e, a) ≡ grown ps (os, e, more a (enclosed g d))
enclosed_grows g d os e a ps inner =
    let o : Around = record { enclosing = g; earlier = e; current = a } in
    ap (λ z. grown z (o ∷ os, None, nothing)) (append_assoc (parts d) (closes ∷ []) ps)
    ∙ inner (o ∷ os) (closes ∷ ps) ∙ ap (grown ps) (closes_level d o os)

mutual
  -- a disjunction grows from its parts
  disjunction_grows : (d : Disjunction) (os : List Around) (ps : List Part) → grown (parts d ++ ps) (os, None, nothing) ≡ grown ps (level_of os d)
  disjunction_grows (only a) os ps = alternative_grows a os None ps
  disjunction_grows (either d a) os ps =
      ap (λ z. grown z (os, None, nothing)) (append_assoc (parts d) (bar ∷ alternative_parts a) ps)
      ∙ disjunction_grows d os (bar ∷ (alternative_parts a ++ ps))
      ∙ ap (grown (alternative_parts a ++ ps)) (barred d os)
      ∙ alternative_grows a os (Some d) ps

  -- an alternative
  alternative_grows : (a : Alternative) (os : List Around) (e : Option Disjunction) (ps : List Part)
      → grown (alternative_parts a ++ ps) (os, e, nothing) ≡ grown ps (os, e, a)
  alternative_grows nothing os e ps = refl
  alternative_grows (more a t) os e ps =
      ap (λ z. grown z (os, e, nothing)) (append_assoc (alternative_parts a) (term_parts t) ps)
      ∙ alternative_grows a os e (term_parts t ++ ps) ∙ term_grows t os e a ps

  -- a term
  term_grows : (t : Term) (os : List Around) (e : Option Disjunction) (a : Alternative) (ps : List Part)
      → grown (term_parts t ++ ps) (os, e, a) ≡ grown ps (os, e, more a t)
  term_grows (asserted x) os e a ps = refl
  term_grows (looks_behind n d) os e a ps = enclosed_grows (of_lookbehind n) d os e a ps (λ us qs. disjunction_grows d us qs)
  term_grows (looks_ahead n d) os e a ps = enclosed_grows (of_lookahead n) d os e a ps (λ us qs. disjunction_grows d us qs)
  term_grows (once x) os e a ps = atom_grows x os e a ps
  term_grows (quantified x q greedy) os e a ps =
      ap (λ z. grown z (os, e, a)) (append_assoc (atom_parts x) (repeats q ∷ []) ps) ∙ atom_grows x os e a (repeats q ∷ ps)
  term_grows (quantified x q lazy) os e a ps =
      ap (λ z. grown z (os, e, a)) (append_assoc (atom_parts x) (repeats q ∷ repeats zero_or_one ∷ []) ps)
      ∙ atom_grows x os e a (repeats q ∷ repeats zero_or_one ∷ ps)

  -- an atom
  atom_grows : (x : Atom) (os : List Around) (e : Option Disjunction) (a : Alternative) (ps : List Part)
      → grown (atom_parts x ++ ps) (os, e, a) ≡ grown ps (os, e, more a (once x))
  atom_grows (single l) os e a ps = refl
  atom_grows (group g d) os e a ps = enclosed_grows (of_group g) d os e a ps (λ us qs. disjunction_grows d us qs)

-- the tree of parts
abbrev tree_in : List Part → Disjunction
tree_in ps =
    let s = grown ps ([], None, nothing) in
    joined s.1 s.2

-- is that which has them
tree_is : (d : Disjunction) → tree_in (parts d) ≡ d
tree_is d =
    ap tree_in (sym (append-nil (parts d))) ∙ ap (λ (s : Levels). joined s.1 s.2) (disjunction_grows d [] []) ∙ joined_level d []

-- so two trees that are spelled the same are the same
pub one_tree : (d e : Disjunction) → AreParts (parts d) → AreParts (parts e) → spelling (parts d) ≡ spelling (parts e) → d ≡ e
one_tree d e h k same =
    sym (read d h) ∙ ap (λ z. tree_in (parts_in z)) same ∙ read e k
  where
    -- each is read off its spelling
    read : (d : Disjunction) → AreParts (parts d) → tree_in (parts_in (spelling (parts d))) ≡ d
    read d h = ap tree_in (parts_are (parts d) h (ap is_closed_shape (shape_of_tree d).1)) ∙ tree_is d
