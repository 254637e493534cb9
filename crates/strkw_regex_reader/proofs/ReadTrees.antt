-- What is read of a text is the pattern of a tree that is spelled so and taken, and each such tree is read.
use Rattle.std.proofs.Common.{◌≡◌, ℕ, ◌<◌, ◌≤◌, nat_le, Bool, true, false, List, [], Option, Some, None, IfSome, length, refl, sym, ap, subst, ◌∙◌}
use Rattle.std.proofs.Common.{true≢false, if◌then◌else◌, arith}
use Rattle.std.specs.Prelude.{option_and_then, option_map, is_some}
use Rattle.std.proofs.lemmas.Bool.{lt-leb, le-leb}
use Rattle.std.proofs.lemmas.Bool.Decides.{nat_tests}
use Rattle.strkw_regex_core.specs.machine.LeadingLookahead.{parts as parts_of_pattern, steps_of_parts}
use Rattle.strkw_regex_core.specs.Size.{max_steps}
use Rattle.strkw_regex_core.specs.machine.MarkedPattern.{MarkedPattern}
use Rattle.strkw_regex_grammar.specs.NullEscape.{is_apart}
use Rattle.strkw_regex_reader.specs.Refusals.{IsReason}
use Rattle.strkw_regex_reader.specs.declared.refusals.PatternRefusal.TheVariants.{TooLarge}
use Rattle.strkw_regex_reader.specs.machine.Taken.{takes_pattern}
use Rattle.strkw_regex_grammar.specs.Names.{are_distinct}
use Rattle.strkw_regex_grammar.specs.Regex.{Disjunction, parts, spelling, AreParts, names}
use Rattle.strkw_regex_grammar.specs.machine.Lexing.{between, Lexed, refused, under_way, lexed, lexed_both, Read, at, take_lexed, read_next, read_from}
use Rattle.strkw_regex_grammar.specs.machine.Lexing.{lex_next}
use Rattle.strkw_regex_grammar.specs.declared.lexemes.Last.TheVariants as kinds
use Rattle.strkw_regex_grammar.proofs.LexerRuns.{run}
use Rattle.strkw_regex_grammar.proofs.LexerSound.{Parted, sound}
use Rattle.strkw_regex_grammar.proofs.LexerComplete.{reads_parts}
use Rattle.strkw_regex_grammar.proofs.RegexTrees.{is_closed_shape, shapes, shape_of_tree, tree_of_shape}
use Rattle.strkw_regex_reader.specs.Limits.{max_length, takes as takes_tree}
use Rattle.strkw_regex_reader.specs.Patterns.{pattern}
use Rattle.strkw_regex_core.specs.machine.Expansion.{expand}
use Rattle.strkw_regex_reader.specs.machine.Building.{Builder, Built, takes, refuses, build, step, taken_of, at_end, when, nothing_built}
use Rattle.strkw_regex_reader.specs.machine.Reading.{built_at, both_at, outcome_of_lexed, next, goes_to, initial, read_all, read_short, keep_small}
use Rattle.strkw_regex_reader.proofs.Builds.{built}
use Rattle.strkw_regex_reader.proofs.TreeBuilds.{tree_builds}
use Rattle.strkw_regex_reader.proofs.BuilderShapes.{shape_of, parts_leave, closed_shape}
use Rattle.strkw_regex_reader.proofs.TreeTerms.{tree_steps}

-- a tree that is spelled so, is taken, and has no name twice
pub record IsReadAs (source : List ℕ) (d : Disjunction) : Type 0 where
  pub formed : AreParts (parts d)
  pub spelled : spelling (parts d) ≡ source
  pub taken : takes_tree 0 d ≡ true
  pub distinct : are_distinct (names (parts d)) ≡ true

-- where something comes of a test, it holds
when_holds : (z : Bool) (o : Option MarkedPattern) (p : MarkedPattern) → when z o ≡ Some p → (z ≡ true) × (o ≡ Some p)
when_holds false o p h = absurd (true≢false (sym (ap is_some h)))
when_holds true o p h = (refl, h)

-- each such tree is read
pub complete : (source : List ℕ) (d : Disjunction) → IsReadAs source d → read_all source ≡ Some (expand (pattern d))
complete source d h =
    ap read_all (sym h.spelled)
    ∙ ap (option_and_then at_end) (reads_parts true step (parts d) h.formed [] kinds.None (ap is_closed_shape (shape_of_tree d).1) nothing_built)
    ∙ tree_builds d h.formed ∙ ap (λ z. when z (when (are_distinct (names (parts d))) (Some (expand (pattern d))))) h.taken
    ∙ ap (λ z. when z (Some (expand (pattern d)))) h.distinct

-- parts that build a pattern are those of such a tree
tree_of : (source : List ℕ) (t : Builder) (p : MarkedPattern) → at_end t ≡ Some p → (r : Parted true step nothing_built t source)
    → (d : Disjunction) × IsReadAs source d × (expand (pattern d) ≡ p)
tree_of source t p e r =
    let shape : shapes [] kinds.None r.parts ≡ Some (shape_of t) =
    subst (λ o. IfSome o (λ u. shapes [] kinds.None r.parts ≡ Some (shape_of u))) r.way (parts_leave r.parts nothing_built) in
    let tree = tree_of_shape r.parts (ap is_closed_shape shape ∙ closed_shape t p e) in
    let formed = subst AreParts (sym tree.1) r.formed in
    let way : built at_end nothing_built (parts tree.0) ≡ Some p = ap (built at_end nothing_built) tree.1 ∙ ap (option_and_then at_end) r.way ∙ e in
    let taken = when_holds (takes_tree 0 tree.0) _ p (sym (tree_builds tree.0 formed) ∙ way) in
    let distinct = when_holds (are_distinct (names (parts tree.0))) _ p taken.1 in (
      tree.0,
      record { formed = formed; spelled = ap spelling tree.1 ∙ r.spelled; taken = taken.0; distinct = distinct.0 },
      same_some (expand (pattern tree.0)) p distinct.1,
    )
  where
    -- what is the same as options is the same
    same_some : (q u : MarkedPattern) → Some q ≡ Some u → q ≡ u
    same_some q u h = ap (λ (o : Option MarkedPattern). or_else q o) h
      where
        -- the pattern that there is
        or_else : MarkedPattern → Option MarkedPattern → MarkedPattern
        or_else q None = q
        or_else q (Some u) = u

-- so what is read is the pattern of such a tree
pub sound_of : (source : List ℕ) (o : Option Builder) (p : MarkedPattern) → run true step nothing_built between source ≡ o → option_and_then at_end o ≡ Some p
    → (d : Disjunction) × IsReadAs source d × (expand (pattern d) ≡ p)
sound_of source None p e h = absurd (true≢false (sym (ap is_some h)))
sound_of source (Some t) p e h = tree_of source t p h (sound true step t nothing_built source e)

-- the same of the text
pub read_sound : (source : List ℕ) (p : MarkedPattern) → read_all source ≡ Some p → (d : Disjunction) × IsReadAs source d × (expand (pattern d) ≡ p)
read_sound source p h = sound_of source (run true step nothing_built between source) p refl h

-- what goes on goes on for a reader of lexemes
outcome_goes : (s : Builder) (x : Lexed) → goes_to (outcome_of_lexed s x) ≡ take_lexed step s x
outcome_goes s refused = refl
outcome_goes s (under_way m) = refl
outcome_goes s (lexed l m) = one (build s l)
  where
    -- by whether it is taken
    one : (o : Built) → goes_to (built_at m o) ≡ option_map (at m) (taken_of o)
    one (takes t) = refl
    one (refuses w) = refl
outcome_goes s (lexed_both l k m) = two (build s l)
  where
    -- by whether the second is taken
    one : (o : Built) → goes_to (built_at m o) ≡ option_map (at m) (taken_of o)
    one (takes t) = refl
    one (refuses w) = refl

    -- by whether the first is taken
    two : (o : Built) → goes_to (both_at m o (λ t. build t k)) ≡ option_and_then (λ t. option_map (at m) (step t k)) (taken_of o)
    two (takes t) = one (build t k)
    two (refuses w) = refl

-- so does a character
pub next_goes : (r : Read Builder) (c : ℕ) → goes_to (next r c) ≡ read_next true step r c
next_goes r c = outcome_goes r.state (lex_next true r.mode c)

-- a text that is too long is not read
pub too_long : (source : List ℕ) → max_length < length source → None ≡ read_short source
too_long source h = sym (ap (λ (z : Bool). if z then read_all source else None) (lt-leb (length source) max_length h))

-- and one that is not is
pub short_enough : (source : List ℕ) → length source ≤ max_length → read_short source ≡ read_all source
short_enough source h = ap (λ (z : Bool). if z then read_all source else None) (le-leb (length source) max_length h)

-- where a text leads nowhere, nothing is read of it
pub nothing_read : (source : List ℕ) → None ≡ read_from true step initial source → None ≡ read_short source
nothing_read source e = by_test (nat_le (length source) max_length)
  where
    -- by whether it is too long
    by_test : (z : Bool) → None ≡ (if z then read_all source else None)
    by_test true = ap (option_and_then at_end) e
    by_test false = refl

-- what is read and has its digits apart, and is not taken, is too large
pub too_large : (source : List ℕ) (p : MarkedPattern) → length source ≤ max_length → read_all source ≡ Some p → is_apart source ≡ true → takes_pattern source ≡ false
    → IsReason source TooLarge
too_large source p l e a f =
    let tree = read_sound source p e in (
      tree.0,
      (tree.1.formed, tree.1.taken),
      tree.1.spelled,
      subst (λ n. max_steps < n) (ap (λ q. steps_of_parts (parts_of_pattern q)) (sym tree.2) ∙ tree_steps tree.0)
          (large (steps_of_parts (parts_of_pattern p)) (nat_le (steps_of_parts (parts_of_pattern p)) max_steps) refl
          (sym (ap (λ (z : Bool). is_some (if z then keep_small (read_short source) else None)) a
          ∙ ap (λ o. is_some (keep_small o)) (short_enough source l ∙ e)) ∙ f)),
    )
  where
    -- what is not kept is large
    large : (n : ℕ) (z : Bool) → nat_le n max_steps ≡ z → is_some (when z (Some p)) ≡ false → max_steps < n
    large n true k h = absurd (true≢false h)
    large n false k h = grind (arith, nat_tests)

-- so it is of what was built of it
pub too_large_of : {A : Type 0} (f : A → MarkedPattern) (o : Option A) (source : List ℕ) → is_some o ≡ true → option_map f o ≡ read_all source
    → length source ≤ max_length → is_apart source ≡ true → takes_pattern source ≡ false → IsReason source TooLarge
too_large_of f None source h e l a t = absurd (true≢false (sym h))
too_large_of f (Some x) source h e l a t = too_large source (f x) l (sym e) a t
