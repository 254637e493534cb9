-- What the code looks for of a pattern comes to what is defined for its parts.
use Rattle.std.proofs.Common.{◌≡◌, ◌↔◌, ℕ, ◌<◌, ◌≤◌, nat_le, Bool, true, false, not, ◌&&◌, ◌||◌, List, [], ◌∷◌, Vec, Global, Option, Some, None}
use Rattle.std.proofs.Common.{is_some, IfSome, refl, sym, ap, subst, ◌∙◌, arith, le-leb}
use Rattle.std.proofs.lemmas.Bool.{lt-leb}
use Rattle.std.proofs.Math.Path.{fun_ext}
use Rattle.strkw_pattern.specs.Matcher.{outcome_of}
use Rattle.strkw_regex_core.specs.machine.MarkedPattern.{MarkedPattern}
use Rattle.strkw_charset.specs.Membership.{differ}
use Rattle.strkw_regex_core.specs.machine.MarkedMeaning.{Found}
use Rattle.strkw_regex_core.specs.machine.OneCharLookahead.{are_told}
use Rattle.strkw_regex_core.specs.Size.{max_steps}
use Rattle.strkw_regex_core.specs.machine.Mirror.{mirror_if, along, is_backward, target, sought_in}
use Rattle.strkw_regex_core.specs.machine.LeadingLookahead.{Part, parts, steps_of_parts}
use Rattle.strkw_regex_core.specs.machine.Positions.{is_unmarked}
use Rattle.strkw_regex_core.specs.machine.Sizes.{cap_steps}
use Rattle.strkw_regex_reader.specs.machine.Building.{when}
use Rattle.strkw_regex_reader.specs.machine.Reading.{keep_small}
use Rattle.strkw_regex_search.specs.machine.Search.{found_in, search, are_parts_found, are_parts_clean}
use Rattle.strkw_ecma.specs.machine.Outcomes.{outcome_of_read}
use Rattle.strkw_ecma.specs.machine.Engine.{are_found_by, engine_outcome}
use Rattle.strkw_regex_core.specs.machine.EquivalentPatterns.{EquivalentPatterns}
use Rattle.strkw_regex_search.specs.machine.Passes.{Pass, IsPass, ArePasses, ComesTo, are_passes_found, are_passes_clean, are_passes_faced}
use Rattle.strkw_regex_search.specs.machine.Passes.{steps_of_passes, passes_of}
use Rattle.strkw_ecma.specs.declared.engine.EcmaMatcher.{EcmaMatcher}
use Rattle.strkw_regex_search.specs.declared.passes.Pass.{Pass as CodePass}
use Rattle.strkw_regex_search.proofs.Answers.{same_answer}
use Rattle.strkw_regex_search.proofs.FoundIn.{found_in_right}
use Rattle.strkw_charset.proofs.Booleans.{and_true, and_left, and_right}
use Rattle.strkw_ecma.proofs.Clean.{parts_clean}

-- both of two are the same where each is
both_same : (a b c d : Bool) → a ≡ c → b ≡ d → (a && b) ≡ (c && d)
both_same a b c d e f = ap (λ (x : Bool). x && b) e ∙ ap (λ (x : Bool). c && x) f

-- they have no marks where those have none
clean_same : (xs : List Pass) (us : List Part) → ArePasses xs us → are_passes_clean xs ≡ are_parts_clean us
clean_same [] [] u = refl
clean_same [] (a ∷ us) u = absurd u
clean_same (x ∷ xs) [] u = absurd u
clean_same (x ∷ xs) (a ∷ us) u = both_same _ _ _ _ u.0.alike.clean (clean_same xs us u.1)

-- one is looked for from the end only where its lookaheads are told from there
one_faced : (p q : MarkedPattern) (b : Bool) → b ≡ is_backward p → are_told q ≡ are_told (target p) → (not b || are_told q) ≡ true
one_faced p q b way told = by_test (is_backward p) refl
  where
    -- by whether it is
    by_test : (c : Bool) → is_backward p ≡ c → (not b || are_told q) ≡ true
    by_test false e = ap (λ (x : Bool). not x || are_told q) (way ∙ e)
    by_test true e =
        ap (λ (x : Bool). not x || are_told q) (way ∙ e) ∙ told ∙ ap (λ (x : Bool). are_told (mirror_if x p)) e
        ∙ and_right (not (are_told p)) _ e

-- so it is of each pass
all_faced : (xs : List Pass) (us : List Part) → ArePasses xs us → are_passes_faced xs ≡ true
all_faced [] [] u = refl
all_faced [] (a ∷ us) u = absurd u
all_faced (x ∷ xs) [] u = absurd u
all_faced (x ∷ xs) (a ∷ us) u =
    and_true _ _ (one_faced a.pattern x.pattern x.backward u.0.backward u.0.alike.told) (all_faced xs us u.1)

-- and they take as many steps
steps_same : (xs : List Pass) (us : List Part) → ArePasses xs us → steps_of_passes xs ≡ steps_of_parts us
steps_same [] [] u = refl
steps_same [] (a ∷ us) u = absurd u
steps_same (x ∷ xs) [] u = absurd u
steps_same (x ∷ xs) (a ∷ us) u = omega (arith, u.0.steps, steps_same xs us u.1)

-- what is alike is found in the same texts
found_alike : (p q : MarkedPattern) (text : List ℕ) → EquivalentPatterns p q → Found p text ↔ Found q text
found_alike p q text u = (
  λ f. (f.0, f.1, f.2, (u.meaning text f.0 f.1).0 f.3),
  λ f. (f.0, f.1, f.2, (u.meaning text f.0 f.1).1 f.3),
)

-- two equivalences, one behind the other, are one
both : {A B C : Type 0} → A ↔ B → B ↔ C → A ↔ C
both e f = (λ a. f.0 (e.0 a), λ c. e.1 (f.1 c))

-- a pass comes to the search of its part
pass_found : (x : Pass) (a : Part) (text : List ℕ) → IsPass x a → is_unmarked (target a.pattern) ≡ true
    → found_in x.pattern (along x.backward text) ≡ search a.pattern text
pass_found x a text u c =
    let same : Found x.pattern (along x.backward text) ↔ Found (target a.pattern) (sought_in a.pattern text) =
    subst (λ (b : Bool). Found x.pattern (along b text) ↔ Found (target a.pattern) (sought_in a.pattern text)) (sym u.backward)
    (found_alike x.pattern (target a.pattern) (sought_in a.pattern text) u.alike) in
    same_answer (Found (target a.pattern) (sought_in a.pattern text)) _ _
    (both (found_in_right x.pattern (along x.backward text) (u.alike.clean ∙ c)) same)
    (found_in_right (target a.pattern) (sought_in a.pattern text) c)

-- so passes come to what the parts do
pub found_same : (xs : List Pass) (us : List Part) (text : List ℕ) → ArePasses xs us → are_parts_clean us ≡ true
    → are_passes_found xs text ≡ are_parts_found us text
found_same [] [] text u c = refl
found_same [] (a ∷ us) text u c = absurd u
found_same (x ∷ xs) [] text u c = absurd u
found_same (x ∷ xs) (a ∷ us) text u c =
    both_same _ _ _ _
    (ap (λ (n : Bool). differ n (found_in x.pattern (along x.backward text))) u.0.negated
    ∙ ap (differ a.negated) (pass_found x a text u.0 (and_left _ _ c)))
    (found_same xs us text u.1 (and_right (is_unmarked (target a.pattern)) _ c))

-- a pattern that is small is taken
taken_so : (p : MarkedPattern) → steps_of_parts (parts p) ≤ max_steps → keep_small (Some p) ≡ Some p
taken_so p keep_small = ap (λ (b : Bool). when b (Some p)) (le-leb (steps_of_parts (parts p)) max_steps keep_small)

-- and one that is not small is not
not_small : (p : MarkedPattern) → nat_le (steps_of_parts (parts p)) max_steps ≡ false → keep_small (Some p) ≡ None
not_small p large = ap (λ (b : Bool). when b (Some p)) large

module _ (v : Vec CodePass Global) (p : MarkedPattern) (are : ArePasses (passes_of v.items) (parts p)) where
  -- what is looked for of a pattern that is taken
  pub comes_to : (s : ℕ) → s ≡ cap_steps (steps_of_passes (passes_of v.items)) → s ≤ max_steps
      → ComesTo (Some v) (keep_small (Some p))
  comes_to s is h =
      let keep_small : steps_of_parts (parts p) ≤ max_steps = omega (arith, is, h, steps_same (passes_of v.items) (parts p) are) in
      subst (ComesTo (Some v)) (sym (taken_so p keep_small)) record { passes = are; small = keep_small }

  -- nothing is, where it is not small
  pub none_small : (s : ℕ) → s ≡ cap_steps (steps_of_passes (passes_of v.items)) → max_steps < s → ComesTo None (keep_small (Some p))
  none_small s is h =
      let large : max_steps < steps_of_parts (parts p) = omega (arith, is, h, steps_same (passes_of v.items) (parts p) are) in
      subst (ComesTo None) (sym (not_small p (lt-leb (steps_of_parts (parts p)) max_steps large))) tt

-- what is looked for of a pattern that is read
module _ (v : Vec CodePass Global) where
  -- has no marks, where that has none
  pub read_clean : (o : Option MarkedPattern) → IfSome o (λ p. is_unmarked p ≡ true) → ComesTo (Some v) o → are_passes_clean (passes_of v.items) ≡ true
  read_clean None c u = absurd u
  read_clean (Some p) c u = clean_same _ _ u.passes ∙ parts_clean p c

  -- is looked for from the end only where it is told from there
  pub read_faced : (o : Option MarkedPattern) → ComesTo (Some v) o → are_passes_faced (passes_of v.items) ≡ true
  read_faced None u = absurd u
  read_faced (Some p) u = all_faced _ _ u.passes

  -- is small
  pub read_small : (o : Option MarkedPattern) → ComesTo (Some v) o → steps_of_passes (passes_of v.items) ≤ max_steps
  read_small None u = absurd u
  read_small (Some p) u = omega (arith, steps_same _ _ u.passes, u.small)

  -- and an engine of it comes to what is defined for it
  pub read_outcome : (e : EcmaMatcher) → ((text : List ℕ) → are_found_by e.parts.items text ≡ are_passes_found (passes_of v.items) text)
      → (o : Option MarkedPattern) → IfSome o (λ p. is_unmarked p ≡ true) → ComesTo (Some v) o → engine_outcome e ≡ outcome_of_read o
  read_outcome e is None c u = absurd u
  read_outcome e is (Some p) c u = fun_ext (λ text. ap outcome_of (is text ∙ found_same _ _ text u.passes (parts_clean p c)))

-- something is looked for exactly where a pattern is read
pub comes_some : (v : Option (Vec CodePass Global)) (o : Option MarkedPattern) → ComesTo v o → is_some v ≡ is_some o
comes_some None None u = refl
comes_some None (Some p) u = absurd u
comes_some (Some v) None u = absurd u
comes_some (Some v) (Some p) u = refl
