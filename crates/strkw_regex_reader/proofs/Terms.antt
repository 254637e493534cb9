-- Where a term may stand, behind what has been built.
use Rattle.std.proofs.Common.{◌≡◌, ℕ, suc, true, not, List, [], ◌∷◌, ◌++◌, Option, Some, None, IfSome, length, refl, sym, ap, subst, ◌∙◌}
use Rattle.std.specs.Prelude.{option_and_then}
use Rattle.std.proofs.lemmas.List.{append-nil}
use Rattle.strkw_regex_core.specs.machine.MarkedPattern.{MarkedPattern}
use Rattle.strkw_regex_grammar.specs.Regex.{Part, Alternative, more, once, Disjunction, Atom, atom_parts, spelling, AreParts}
use Rattle.strkw_regex_grammar.specs.declared.lexemes.Last.TheVariants as kinds
use Rattle.strkw_regex_grammar.proofs.RegexTrees.{Around, before, bits, shapes, IsLast, LevelsOf, levels_of_shape, term_behind}
use Rattle.strkw_regex_reader.specs.Limits.{takes_atom_of}
use Rattle.strkw_regex_reader.specs.Patterns.{atom_pattern}
use Rattle.strkw_regex_core.specs.machine.Expansion.{expand}
use Rattle.strkw_regex_reader.specs.Refusals.{IsBeginning, HasTermWithin}
use Rattle.strkw_regex_reader.specs.machine.Building.{Open, Last, atom, Builder, when, nothing_built}
use Rattle.strkw_regex_reader.proofs.Builds.{built, names_behind, parts_behind, state, with_last_atom}
use Rattle.strkw_regex_reader.proofs.TreeBuilds.{atom_builds}
use Rattle.strkw_regex_reader.proofs.BuilderShapes.{bits_of, kind_of, shape_of, parts_leave}
use Rattle.strkw_regex_reader.proofs.Beginnings.{settled, settled_rejects, when_holds, levels_begin, spelled_joined}
use Rattle.strkw_regex_reader.proofs.Standing.{Base, settled_formed}

-- as many groups are open as there are levels around
levels_count : (os : List Around) → length (bits os) ≡ length os
levels_count [] = refl
levels_count (o ∷ os) = ap suc (levels_count os)

-- and as many as there are for the builder
groups_count : (gs : List Open) → length (bits_of gs) ≡ length gs
groups_count [] = refl
groups_count (g ∷ gs) = ap suc (groups_count gs)

module _ (s : Builder) (text : List ℕ) (b : Base s text) where
  -- the levels of what has been built
  levels : LevelsOf (shape_of s) b.parts
  levels =
      levels_of_shape b.parts (shape_of s)
      (subst (λ o. IfSome o (λ u. shapes [] kinds.None b.parts ≡ Some (shape_of u))) b.way (parts_leave b.parts nothing_built))

  -- there are as many as groups are open
  deep : length levels.0 ≡ length s.groups
  deep = sym (levels_count levels.0) ∙ ap length levels.4 ∙ groups_count s.groups

  -- what has been built is settled
  way_to : (ps : List Part) → ps ≡ b.parts → built settled nothing_built ps ≡ Some s
  way_to ps e =
      ap (built settled nothing_built) e ∙ ap (option_and_then settled) b.way ∙ ap (λ z. when (not z) (Some s)) b.whole

  -- so the text is a beginning
  pub begins : IsBeginning (length s.groups) text
  begins =
      let ps = before levels.0 levels.1 levels.2 in
      let nil = append-nil ps ∙ levels.3 in
      let begun = levels_begin s levels.0 levels.1 levels.2 [] (subst AreParts (sym nil) (settled_formed b.parts b.settled)) (way_to (ps ++ []) nil) in
      subst (λ n. IsBeginning n text) deep (subst (IsBeginning (length levels.0)) (ap spelling levels.3 ∙ b.spelled) begun.0)

  -- where a part may stand behind it
  pub at_term : (part after text_of_all : List ℕ) → text ++ (part ++ after) ≡ text_of_all → HasTermWithin (length s.groups) part text_of_all
  at_term part after all e = (text, after, begins, e)

  -- a last atom is that of a beginning, and is taken
  abbrev pub LastAtom : MarkedPattern → Type 0
  LastAtom p =
      (a : Atom) × (front : List ℕ) × IsBeginning (length s.groups) front × AreParts (atom_parts a) × (takes_atom_of (length s.groups) a ≡ true)
      × (expand (atom_pattern a) ≡ p) × (front ++ spelling (atom_parts a) ≡ text)

  -- what is the same as a last atom is the same
  same_atom : (p q : MarkedPattern) → atom p ≡ atom q → p ≡ q
  same_atom p q e = ap (pattern_or p) e
    where
      -- the pattern of an atom
      pattern_or : MarkedPattern → Last → MarkedPattern
      pattern_or p (atom q) = q
      pattern_or p x = p

  -- builders that are the same as options are the same
  same_some : (u t : Builder) → Some u ≡ Some t → u ≡ t
  same_some u t e = ap (or_else u) e
    where
      -- the one that there is
      or_else : Builder → Option Builder → Builder
      or_else u None = u
      or_else u (Some t) = t

  -- of the levels, where the alternative ends with an atom
  atom_of_levels : (p : MarkedPattern) → s.last ≡ atom p → (os : List Around) (e : Option Disjunction) (a : Alternative) → before os e a ≡ b.parts
      → length os ≡ length s.groups → (c : Alternative) (q : Atom) → a ≡ more c (once q) → LastAtom p
  atom_of_levels p k os e a is l c q m =
      let shift : before os e a ++ [] ≡ before os e c ++ (atom_parts q ++ []) = ap (λ z. before os e z ++ []) m ∙ term_behind os e c (once q) [] in
      let same : before os e c ++ (atom_parts q ++ []) ≡ b.parts = sym shift ∙ append-nil (before os e a) ∙ is in
      let formed = subst AreParts (sym same) (settled_formed b.parts b.settled) in
      let begun = levels_begin s os e c (atom_parts q ++ []) formed (way_to _ same) in
      let w = begun.1 in
      let inner = parts_behind (before os e c) (atom_parts q ++ []) formed in
      let last = state w.groups (names_behind w.names (atom_parts q)) (with_last_atom w.end (expand (atom_pattern q))) in
      let holds = when_holds s (takes_atom_of (length w.groups) q) (built settled last [])
      (sym (atom_builds settled settled_rejects q w.groups w.names w.end [] w.whole inner) ∙ w.way) in (
        q,
        spelling (before os e c),
        subst (λ n. IsBeginning n (spelling (before os e c))) l begun.0,
        subst AreParts (append-nil (atom_parts q)) inner,
        ap (λ n. takes_atom_of n q) (sym (w.deep ∙ l)) ∙ holds.0,
        sym (same_atom p (expand (atom_pattern q)) (sym k ∙ sym (ap (λ z. z.last) (same_some last s holds.1)))),
        ap (λ ps. spelling (before os e c) ++ spelling ps) (sym (append-nil (atom_parts q)))
            ∙ sym (spelled_joined (before os e c) (atom_parts q ++ [])) ∙ ap spelling same ∙ b.spelled,
      )

  -- so it is where an atom stands last
  pub last_atom : (p : MarkedPattern) → s.last ≡ atom p → LastAtom p
  last_atom p k =
      let last = subst (λ x. IsLast x levels.2) (ap kind_of k) levels.5 in
      atom_of_levels p k levels.0 levels.1 levels.2 levels.3 deep last.0 last.1 last.2
