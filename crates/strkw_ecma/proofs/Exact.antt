-- The laws of a pattern's text.
use Rattle.std.proofs.Common.{◌≡◌, ◌↔◌, ◌⊎◌, inl, inr, ℕ, Bool, true, false, List, Option, Some, None, IsTrue, refl, sym, ap, subst, ◌∙◌, true≢false}
use Rattle.std.proofs.Common.{length, nat_le, ◌≤◌, if◌then◌else◌, IfSome}
use Rattle.std.specs.Prelude.{is_some}
use Rattle.std.proofs.lemmas.Bool.{leb-true, le-leb}
use Rattle.strkw_pattern.specs.Matcher.{outcome_of}
use Rattle.strkw_pattern.specs.declared.engine.Outcome.{Outcome}
use Rattle.strkw_pattern.specs.declared.engine.Outcome.TheVariants.{Match, NoMatch}
use Rattle.strkw_regex_grammar.specs.NullEscape.{is_apart}
use Rattle.strkw_regex_grammar.specs.Regex.{Disjunction}
use Rattle.strkw_regex_grammar.proofs.OneTree.{one_tree as one_tree_of}
use Rattle.strkw_regex_core.specs.machine.LeadingLookahead.{parts, steps_of_parts}
use Rattle.strkw_regex_core.specs.Size.{max_steps}
use Rattle.strkw_regex_core.specs.Meaning.{Found}
use Rattle.strkw_regex_core.specs.machine.MarkedPattern.{MarkedPattern}
use Rattle.strkw_regex_core.specs.machine.Positions.{is_unmarked}
use Rattle.strkw_regex_reader.specs.Limits.{max_length}
use Rattle.strkw_regex_reader.specs.Patterns.{pattern}
use Rattle.strkw_regex_core.specs.machine.Expansion.{expand}
use Rattle.strkw_regex_core.proofs.Expansions.{found_expanded}
use Rattle.strkw_regex_reader.proofs.OrderedBounds.{ordered_tree}
use Rattle.strkw_regex_reader.proofs.TreeTerms.{tree_steps}
use Rattle.strkw_regex_reader.specs.machine.Building.{when}
use Rattle.strkw_regex_reader.specs.machine.Reading.{read_all, read_short, read_pattern, keep_small}
use Rattle.strkw_regex_reader.proofs.ReadTrees.{IsReadAs, complete, read_sound, short_enough}
use Rattle.strkw_ecma.specs.machine.Outcomes.{outcome_of_read}
use Rattle.strkw_ecma.specs.Laws.{IsPattern, IsExact}
use Rattle.strkw_ecma.proofs.FrontMeaning.{found_parts, parts_are_exact}
use Rattle.strkw_ecma.proofs.Clean.{unmarked_expansion, parts_clean}
use Rattle.strkw_ecma.proofs.Made.{made}

-- the pattern that there is, or else the first one
pattern_or : MarkedPattern → Option MarkedPattern → MarkedPattern
pattern_or q None = q
pattern_or q (Some p) = p

-- patterns that are the same as options are the same
same_pattern : (p q : MarkedPattern) → Some p ≡ Some q → p ≡ q
unfolding pattern_or
same_pattern p q h = ap (pattern_or p) h

-- the tree of what is read
abbrev IsTreeOf : List ℕ → MarkedPattern → Type 0
IsTreeOf source p = (d : Disjunction) × IsPattern source d × (expand (pattern d) ≡ p)

-- where something is read and is not left out for its size, there is one
small_tree : (source : List ℕ) (q p : MarkedPattern) (b : Bool) → nat_le (steps_of_parts (parts q)) max_steps ≡ b → is_apart source ≡ true
    → length source ≤ max_length → read_all source ≡ Some q → when b (Some q) ≡ Some p → IsTreeOf source p
small_tree source q p false e a l r h = absurd (true≢false (sym (ap is_some h)))
small_tree source q p true e a l r h =
    let tree = read_sound source q r in (
      tree.0,
      record {
        made = made source tree.0 tree.1 a l;
        taken = tree.1.taken;
        short = l;
        small = subst (λ n. n ≤ max_steps) (ap (λ w. steps_of_parts (parts w)) (sym tree.2) ∙ tree_steps tree.0)
            (leb-true (steps_of_parts (parts q)) max_steps e);
      },
      tree.2 ∙ same_pattern q p h,
    )

-- by whether its digits are apart, whether it is short, and what is read of it
tree_of : (source : List ℕ) (p : MarkedPattern) (a z : Bool) (o : Option MarkedPattern) → is_apart source ≡ a → nat_le (length source) max_length ≡ z
    → read_all source ≡ o → (if a then keep_small (if z then o else None) else None) ≡ Some p → IsTreeOf source p
tree_of source p false z o a l r h = absurd (true≢false (sym (ap is_some h)))
tree_of source p true false o a l r h = absurd (true≢false (sym (ap is_some h)))
tree_of source p true true None a l r h = absurd (true≢false (sym (ap is_some h)))
tree_of source p true true (Some q) a l r h =
    small_tree source q p (nat_le (steps_of_parts (parts q)) max_steps) refl a (leb-true (length source) max_length l) r h

-- so what is read of a text is the pattern of its tree
read_tree : (source : List ℕ) (p : MarkedPattern) → read_pattern source ≡ Some p → IsTreeOf source p
read_tree source p h = tree_of source p (is_apart source) (nat_le (length source) max_length) (read_all source) refl refl refl h

-- has no marks
pub read_unmarked : (source : List ℕ) → IfSome (read_pattern source) (λ p. is_unmarked p ≡ true)
read_unmarked source = by_read (read_pattern source) refl
  where
    -- by whether it is read
    by_read : (o : Option MarkedPattern) → read_pattern source ≡ o → IfSome o (λ p. is_unmarked p ≡ true)
    by_read None e = tt
    by_read (Some p) e =
        let tree = read_tree source p e in
        ap is_unmarked (sym tree.2) ∙ unmarked_expansion (pattern tree.0)

-- and where something is read, there is a tree
derived_of : (source : List ℕ) (o : Option MarkedPattern) → read_pattern source ≡ o → IsTrue (is_some o) → (d : Disjunction) × IsPattern source d
derived_of source None e h = absurd (true≢false (sym h))
derived_of source (Some p) e h =
    let tree = read_tree source p e in
    (tree.0, tree.1)

-- a pattern is read as that of its tree
read_is : (source : List ℕ) (d : Disjunction) → IsPattern source d → read_pattern source ≡ Some (expand (pattern d))
read_is source d p =
    let read : IsReadAs source d =
    record { formed = p.made.formed; spelled = p.made.spelled; taken = p.taken; distinct = p.made.distinct } in
    ap (λ (b : Bool). if b then keep_small (read_short source) else None) p.made.apart
    ∙ ap keep_small (short_enough source p.short ∙ complete source d read)
    ∙ ap (λ (b : Bool). when b (Some (expand (pattern d))))
    (le-leb (steps_of_parts (parts (expand (pattern d)))) max_steps (subst (λ n. n ≤ max_steps) (sym (tree_steps d)) p.small))

-- the outcome is a match
is_match : Outcome → Bool
is_match Match = true
is_match o = false

-- an answer comes to a match exactly where it is true
match_of : (b : Bool) → (outcome_of b ≡ Match) ↔ IsTrue b
unfolding is_match
match_of true = (λ _. refl, λ _. refl)
match_of false = (λ h. absurd (true≢false (sym (ap is_match h))), λ h. absurd (true≢false (sym h)))

-- two equivalences, one behind the other, are one
both : {A B C : Type 0} → A ↔ B → B ↔ C → A ↔ C
both e f = (λ a. f.0 (e.0 a), λ c. e.1 (f.1 c))

-- an equivalence, told from its other side
back : {A B : Type 0} → A ↔ B → B ↔ A
back e = (e.1, e.0)

-- an answer comes to a match or to none
by_answer : (b : Bool) → (outcome_of b ≡ Match) ⊎ (outcome_of b ≡ NoMatch)
by_answer true = inl refl
by_answer false = inr refl

-- a pattern that is read, or none, comes to a match or to none on each text
decided_of : (o : Option MarkedPattern) (text : List ℕ) → (outcome_of_read o text ≡ Match) ⊎ (outcome_of_read o text ≡ NoMatch)
decided_of None text = inr refl
decided_of (Some p) text = by_answer _

-- the laws hold of each text
pub exact : (source : List ℕ) → IsExact source
exact source = record {
  derived = derived_of source (read_pattern source) refl;
  taken = λ d p. ap is_some (read_is source d p);
  one_tree = λ d e p q. one_tree_of d e p.made.formed q.made.formed (p.made.spelled ∙ sym q.made.spelled);
  decided = decided_of (read_pattern source);
  meant = λ d p text.
      subst (λ (o : Option MarkedPattern). (outcome_of_read o text ≡ Match) ↔ Found (pattern d) text) (sym (read_is source d p))
      (both (match_of _)
      (both (parts_are_exact text (parts (expand (pattern d))) (parts_clean (expand (pattern d)) (unmarked_expansion (pattern d))))
      (both (back (found_parts text (expand (pattern d)))) (back (found_expanded text (pattern d) (ordered_tree d p.made.formed))))));
}
