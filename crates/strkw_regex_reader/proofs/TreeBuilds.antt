-- So the parts of a tree build its pattern, where it is taken, and else nothing.
use Rattle.std.proofs.Common.{◌≡◌, ℕ, suc, nat_lt, Bool, true, false, not, ◌&&◌, List, [], ◌∷◌, ◌++◌, Option, Some, length, refl, sym, ap, subst}
use Rattle.std.proofs.Common.{◌∙◌, append_assoc}
use Rattle.std.proofs.lemmas.List.{append-nil}
use Rattle.strkw_regex_core.specs.Size.{forth, size}
use Rattle.strkw_regex_core.specs.machine.Times.{quantified_pattern}
use Rattle.strkw_regex_grammar.specs.Names.{name_value, are_distinct}
use Rattle.strkw_regex_grammar.specs.Regex.{Part, bar, edge, leaf, opens, closes, repeats, Disjunction, only, either, Alternative, nothing, more, Term}
use Rattle.strkw_regex_grammar.specs.Regex.{asserted, looks_behind, looks_ahead, once, quantified, Atom, single, group, parts, alternative_parts}
use Rattle.strkw_regex_grammar.specs.Regex.{term_parts, atom_parts, greed_parts, AreParts, names}
use Rattle.strkw_regex_grammar.specs.Syntax.{greedy, lazy, Greed, capturing, plain_group, named, of_group, of_lookbehind, of_lookahead}
use Rattle.strkw_regex_grammar.specs.machine.Lexemes as lexeme
use Rattle.strkw_regex_reader.specs.Limits.{max_nesting, is_within}
use Rattle.strkw_regex_reader.specs.Limits.{takes as takes_tree, takes_alternative, takes_term, takes_atom_of}
use Rattle.strkw_regex_reader.specs.machine.Times.{times}
use Rattle.strkw_regex_reader.specs.Patterns.{pattern, atom_pattern}
use Rattle.strkw_regex_core.specs.machine.Expansion.{expand}
use Rattle.strkw_regex_reader.specs.machine.Building.{counted, Open, Builder, Enclosing, at_level, at_end, enclose, opened, open_if, whole_level, when, nothing_built}
use Rattle.strkw_regex_reader.specs.declared.builder.Enclosing.TheVariants as enclosings
use Rattle.strkw_regex_reader.proofs.Builds.{End, state, so_far, with_last_atom, with_repeated, term_end, alternative_end, bar_end}
use Rattle.strkw_regex_reader.proofs.Builds.{disjunction_end, fresh, IsWhole, whole_alternative, whole_disjunction, level_is, names_behind, names_joined}
use Rattle.strkw_regex_reader.proofs.Builds.{Rejects, parts_behind, built, built_behind, when_both, first, leaf_builds, quantifier_builds, greed_builds}
use Rattle.strkw_regex_reader.proofs.TreeTerms.{atom_steps}

-- the `?` behind a quantifier has no name
greed_names : (ns : List (List ℕ)) (g : Greed) → names_behind ns (greed_parts g) ≡ ns
greed_names ns greedy = refl
greed_names ns lazy = refl

module _ {A : Type 0} (K : Builder → Option A) (rejects : Rejects K) where
  -- what is built in these groups, with these names
  abbrev built_at : List Open → List (List ℕ) → End → List Part → Option A
  built_at gs ns k qs = built K (state gs ns k) qs

  -- what holds behind one test and another holds behind both
  joins : (a b : Bool) (o i u : Option A) → o ≡ when a i → i ≡ when b u → o ≡ when (a && b) u
  joins a b o i u e h = e ∙ ap (when a) h ∙ sym (when_both a b u)

  -- what the parts of a disjunction build, before other parts
  abbrev Builds : Disjunction → Type 0
  Builds d =
      (gs : List Open) (ns : List (List ℕ)) (k : End) (qs : List Part) → IsWhole k → AreParts (parts d ++ qs)
      → built_at gs ns k (parts d ++ qs) ≡ when (takes_tree (length gs) d) (built_at gs (names_behind ns (parts d)) (disjunction_end k d) qs)

  -- what stands within a group or a lookaround, and its end
  around_builds : (d : Disjunction) → Builds d → (gs : List Open) (ns : List (List ℕ)) (k : End) (c : Enclosing) (qs : List Part) (z : Bool)
      → AreParts ((parts d ++ closes ∷ []) ++ qs)
      → built_behind K (open_if z (opened (state gs ns k) c)) ((parts d ++ closes ∷ []) ++ qs)
      ≡ when (z && takes_tree (suc (length gs)) d)
      (built K (enclose (at_level gs (names_behind ns (parts d ++ closes ∷ [])) (so_far k)) c (expand (pattern d))) qs)
  around_builds d f gs ns k c qs false h = refl
  around_builds d f gs ns k c qs true h =
      let shift = append_assoc (parts d) (closes ∷ []) qs in
      let o : Open = record { enclosing = c; level = so_far k } in
      let inner = names_behind ns (parts d) in
      ap (built_at (o ∷ gs) ns fresh) shift
      ∙ f (o ∷ gs) ns fresh (closes ∷ qs) refl (subst AreParts shift h)
      ∙ ap (when (takes_tree (suc (length gs)) d))
      (first K rejects (o ∷ gs) inner (disjunction_end fresh d) lexeme.ends qs (whole_disjunction fresh d refl)
      ∙ ap (λ p. built K (enclose (at_level gs inner (so_far k)) c p) qs) (level_is d)
      ∙ ap (λ z. built K (enclose (at_level gs z (so_far k)) c (expand (pattern d))) qs) (sym (names_joined ns (parts d) (closes ∷ []))))

  mutual
    -- a disjunction, before other parts
    pub disjunction_builds : (d : Disjunction) → Builds d
    disjunction_builds (only a) gs ns k qs w h = alternative_builds a gs ns k qs w h
    disjunction_builds (either d a) gs ns k qs w h =
        let shift = append_assoc (parts d) (bar ∷ alternative_parts a) qs in
        let back = bar ∷ (alternative_parts a ++ qs) in
        let formed = subst AreParts shift h in
        let inner = names_behind ns (parts d) in
        joins (takes_tree (length gs) d) (takes_alternative (length gs) a) _ _ _
        (ap (built_at gs ns k) shift ∙ disjunction_builds d gs ns k back w formed)
        (first K rejects gs inner (disjunction_end k d) lexeme.bar (alternative_parts a ++ qs) (whole_disjunction k d w)
        ∙ alternative_builds a gs inner (bar_end (disjunction_end k d)) qs refl (parts_behind (parts d) back formed).2
        ∙ ap (λ z. when (takes_alternative (length gs) a) (built_at gs z (disjunction_end k (either d a)) qs))
        (sym (names_joined ns (parts d) (bar ∷ alternative_parts a))))

    -- terms
    alternative_builds : (a : Alternative) (gs : List Open) (ns : List (List ℕ)) (k : End) (qs : List Part) → IsWhole k → AreParts (alternative_parts a ++ qs)
        → built_at gs ns k (alternative_parts a ++ qs)
        ≡ when (takes_alternative (length gs) a) (built_at gs (names_behind ns (alternative_parts a)) (alternative_end k a) qs)
    alternative_builds nothing gs ns k qs w h = refl
    alternative_builds (more a t) gs ns k qs w h =
        let shift = append_assoc (alternative_parts a) (term_parts t) qs in
        let formed = subst AreParts shift h in
        let inner = names_behind ns (alternative_parts a) in
        joins (takes_alternative (length gs) a) (takes_term (length gs) t) _ _ _
        (ap (built_at gs ns k) shift ∙ alternative_builds a gs ns k (term_parts t ++ qs) w formed)
        (term_builds t gs inner (alternative_end k a) qs (whole_alternative k a w) (parts_behind (alternative_parts a) (term_parts t ++ qs) formed)
        ∙ ap (λ z. when (takes_term (length gs) t) (built_at gs z (term_end (alternative_end k a) t) qs))
        (sym (names_joined ns (alternative_parts a) (term_parts t))))

    -- a term
    term_builds : (t : Term) (gs : List Open) (ns : List (List ℕ)) (k : End) (qs : List Part) → IsWhole k → AreParts (term_parts t ++ qs)
        → built_at gs ns k (term_parts t ++ qs) ≡ when (takes_term (length gs) t) (built_at gs (names_behind ns (term_parts t)) (term_end k t) qs)
    term_builds (asserted e) gs ns k qs w h = first K rejects gs ns k (lexeme.edge e) qs w
    term_builds (looks_behind b d) gs ns k qs w h =
        first K rejects gs ns k (lexeme.begins (lexeme.behind b)) _ w
        ∙ around_builds d (disjunction_builds d) gs ns k (enclosings.Behind b) qs (nat_lt (length gs) max_nesting) h.2
    term_builds (looks_ahead b d) gs ns k qs w h =
        first K rejects gs ns k (lexeme.begins (lexeme.ahead b)) _ w
        ∙ around_builds d (disjunction_builds d) gs ns k (enclosings.Ahead b) qs (nat_lt (length gs) max_nesting) h.2
    term_builds (once a) gs ns k qs w h = atom_builds a gs ns k qs w h
    term_builds (quantified a q g) gs ns k qs w h =
        let shift = append_assoc (atom_parts a) (repeats q ∷ greed_parts g) qs in
        let inner = names_behind ns (atom_parts a) in
        let p = expand (atom_pattern a) in
        joins (takes_atom_of (length gs) a) (is_within q (size forth (atom_pattern a))) _ _ _
        (ap (built_at gs ns k) shift ∙ atom_builds a gs ns k (repeats q ∷ (greed_parts g ++ qs)) w (subst AreParts shift h))
        (quantifier_builds K rejects gs inner (so_far k) p q (greed_parts g ++ qs)
        ∙ ap (λ n. when (is_within q n) (built K (state gs inner (so_far k, counted (quantified_pattern (times q) p))) (greed_parts g ++ qs))) (atom_steps a)
        ∙ ap (when (is_within q (size forth (atom_pattern a))))
        (greed_builds K rejects gs inner k (quantified_pattern (times q) p) g qs
        ∙ ap (λ z. built_at gs z (with_repeated k (quantified_pattern (times q) p) g) qs)
        (sym (names_joined ns (atom_parts a) (repeats q ∷ greed_parts g) ∙ greed_names inner g))))

    -- and an atom
    pub atom_builds : (a : Atom) (gs : List Open) (ns : List (List ℕ)) (k : End) (qs : List Part) → IsWhole k → AreParts (atom_parts a ++ qs)
        → built_at gs ns k (atom_parts a ++ qs)
        ≡ when (takes_atom_of (length gs) a) (built_at gs (names_behind ns (atom_parts a)) (with_last_atom k (expand (atom_pattern a))) qs)
    atom_builds (single l) gs ns k qs w h = leaf_builds K rejects gs ns k l qs w h
    atom_builds (group capturing d) gs ns k qs w h =
        first K rejects gs ns k (lexeme.begins lexeme.capture) _ w ∙ around_builds d (disjunction_builds d) gs ns k enclosings.Group qs (nat_lt (length gs) max_nesting) h.2
    atom_builds (group plain_group d) gs ns k qs w h =
        first K rejects gs ns k (lexeme.begins lexeme.plain_group) _ w ∙ around_builds d (disjunction_builds d) gs ns k enclosings.Group qs (nat_lt (length gs) max_nesting) h.2
    atom_builds (group (named n) d) gs ns k qs w h =
        first K rejects gs ns k (lexeme.begins (lexeme.named (name_value n))) _ w
        ∙ around_builds d (disjunction_builds d) gs (ns ++ name_value n ∷ []) k enclosings.Group qs (nat_lt (length gs) max_nesting) h.2

-- the names behind others are those of the parts
names_are : (ns : List (List ℕ)) (ps : List Part) → names_behind ns ps ≡ ns ++ names ps
names_are ns [] = sym (append-nil ns)
names_are ns (bar ∷ ps) = names_are ns ps
names_are ns (edge e ∷ ps) = names_are ns ps
names_are ns (leaf l ∷ ps) = names_are ns ps
names_are ns (opens (of_group capturing) ∷ ps) = names_are ns ps
names_are ns (opens (of_group plain_group) ∷ ps) = names_are ns ps
names_are ns (opens (of_group (named n)) ∷ ps) = names_are (ns ++ name_value n ∷ []) ps ∙ append_assoc ns (name_value n ∷ []) (names ps)
names_are ns (opens (of_lookbehind b) ∷ ps) = names_are ns ps
names_are ns (opens (of_lookahead b) ∷ ps) = names_are ns ps
names_are ns (closes ∷ ps) = names_are ns ps
names_are ns (repeats q ∷ ps) = names_are ns ps

-- no pattern ends behind a leading surrogate
end_rejects : Rejects at_end
end_rejects [] ns l n = refl
end_rejects (o ∷ os) ns l n = refl

-- so the parts of a whole pattern build its pattern, where it is taken and no name is there twice
pub tree_builds : (d : Disjunction) → AreParts (parts d)
    → built at_end nothing_built (parts d) ≡ when (takes_tree 0 d) (when (are_distinct (names (parts d))) (Some (expand (pattern d))))
tree_builds d h =
    let nil = append-nil (parts d) in
    let k = disjunction_end fresh d in
    ap (built at_end nothing_built) (sym nil)
    ∙ disjunction_builds at_end end_rejects d [] [] fresh [] refl (subst AreParts (sym nil) h)
    ∙ ap (when (takes_tree 0 d))
    (ap (λ z. when (not z && are_distinct (names_behind [] (parts d))) (Some (whole_level k.0 k.1))) (whole_disjunction fresh d refl)
    ∙ ap (λ ns. when (are_distinct ns) (Some (whole_level k.0 k.1))) (names_are [] (parts d))
    ∙ ap (λ p. when (are_distinct (names (parts d))) (Some p)) (level_is d))
