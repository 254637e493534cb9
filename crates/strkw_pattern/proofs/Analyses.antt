-- The one way in which a pattern can be literal, by its first characters.
use Rattle.std.proofs.Common.{◌≡◌, ℕ, ◌<◌, List, [], ◌∷◌, ◌++◌, slice_index, drop, length, refl, sym, ap, ◌∙◌, codes, arith}
use Rattle.std.proofs.lemmas.List.{append_assoc, append-nil, length-append}
use Rattle.std.proofs.lemmas.List.Elements.{All-head}
use Rattle.strkw_pattern.specs.Literal.{Item, plain, escaped, IsItem, AreItems, item_spelling, spelling_of, is_plain, prefix, exact, alternation, no_whitespace}
use Rattle.strkw_pattern.specs.Literal.{IsLiteral}
use Rattle.strkw_pattern.specs.Reading.{NoItem, IsNoRun, IsNoGroup}
use Rattle.strkw_pattern.proofs.Items.{no_item-cons}

-- an item is written
-- with a `^` before it, in more than one character
long_items : (x : Item) (s : List ℕ) → 1 < length (94 ∷ (item_spelling x ++ s))
long_items (plain c) s = omega arith
long_items (escaped c) s = omega arith

-- each begins with a `^`, and something follows it
pub long_literal : (p : List ℕ) → IsLiteral p → (slice_index p 0 ≡ 94) × (1 < length p)
long_literal p (prefix [], are, e) = absurd (let some = are.some in omega (arith, some))
long_literal p (prefix (x ∷ xs), are, e) = rw e (refl, long_items x (spelling_of xs))
long_literal p (exact [], are, e) = absurd (let some = are.some in omega (arith, some))
long_literal p (exact (x ∷ xs), are, e) = rw e (
  refl,
  omega (
    arith,
    length-append (item_spelling x ++ spelling_of xs) (codes "$"),
    long_items x
        (spelling_of xs),
  ),
)
long_literal p (alternation xss, are, e) = rw e (refl, omega arith)
long_literal p (no_whitespace, are, e) = rw e (refl, omega arith)

-- a parenthesis begins no item
pub no_parenthesis : (rest : List ℕ) → NoItem (40 ∷ rest)
unfolding is_plain
no_parenthesis rest = no_item-cons 40 rest refl (λ e. omega arith)

-- no run of items begins with what begins no item
pub no_run_here : (p s : List ℕ) (xs : List Item) → NoItem p → AreItems xs → p ≡ spelling_of xs ++ s → ⊥
no_run_here p s [] none are e = let some = are.some in omega (arith, some)
no_run_here p s (x ∷ xs) none are e = none x (spelling_of xs ++ s) (All-head IsItem x xs are.each) (e ∙ append_assoc (item_spelling x) (spelling_of xs) s)

-- what does not go on with a parenthesis is a run, or the pattern for no white space
pub no_literal-run : (first : ℕ) (group : List ℕ) → (first ≡ 40 → ⊥) → (94 ∷ first ∷ group ≡ codes "^\\S*$" → ⊥) → IsNoRun (first ∷ group)
    → IsLiteral (94 ∷ first ∷ group) → ⊥
no_literal-run first group other not_this none (prefix xs, are, e) = (none xs are).0 (ap (drop 1) e)
no_literal-run first group other not_this none (exact xs, are, e) = (none xs are).1 (ap (drop 1) e)
no_literal-run first group other not_this none (alternation xss, are, e) = other (ap (λ (r : List ℕ). slice_index r 1) e)
no_literal-run first group other not_this none (no_whitespace, are, e) = not_this e

-- what goes on with a parenthesis is an alternation
pub no_literal-group : (group : List ℕ) → IsNoGroup group → IsLiteral (94 ∷ 40 ∷ group) → ⊥
no_literal-group group none (prefix xs, are, e) = no_run_here (40 ∷ group) [] xs (no_parenthesis group) are (ap (drop 1) e ∙ sym (append-nil (spelling_of xs)))
no_literal-group group none (exact xs, are, e) = no_run_here (40 ∷ group) (codes "$") xs (no_parenthesis group) are (ap (drop 1) e)
no_literal-group group none (alternation xss, are, e) = none xss are (ap (drop 2) e)
no_literal-group group none (no_whitespace, are, e) = let bad = ap (λ (r : List ℕ). slice_index r 1) e in omega (arith, bad)
