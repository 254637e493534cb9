-- A run of items before the end of a pattern, or before its `$`.
use Rattle.std.proofs.Common.{◌≡◌, ℕ, ◌<◌, true, false, List, [], ◌∷◌, ◌++◌, length, refl, sym, ap, ◌∙◌, arith}
use Rattle.std.specs.Prelude.{All, ◌==◌}
use Rattle.std.proofs.lemmas.Bool.{eqb-true}
use Rattle.std.proofs.lemmas.List.{append-nil, length-map}
use Rattle.strkw_pattern.specs.Literal.{Item, IsItem, AreItems, spelling_of, text_of, is_plain}
use Rattle.strkw_pattern.specs.Reading.{NoItem, ReadsItems, IsNoRun}
use Rattle.strkw_pattern.proofs.Items.{same_items, no_item-cons, no_item-nil}

-- a `$` begins no item
pub dollar_ends : (rest : List ℕ) → NoItem (36 ∷ rest)
unfolding is_plain
dollar_ends rest = no_item-cons 36 rest refl (λ e. omega arith)

-- nor does a `|`
pub bar_ends : (rest : List ℕ) → NoItem (124 ∷ rest)
unfolding is_plain
bar_ends rest = no_item-cons 124 rest refl (λ e. omega arith)

-- nor does a closing parenthesis
pub parenthesis_ends : (rest : List ℕ) → NoItem (41 ∷ rest)
unfolding is_plain
parenthesis_ends rest = no_item-cons 41 rest refl (λ e. omega arith)

-- what was read is what is spelled, whatever the spelling
pub read_same : (pattern text rest : List ℕ) (ys : List Item) (s : List ℕ) → ReadsItems pattern text rest → All IsItem ys → NoItem s
    → pattern ≡ spelling_of ys ++ s
    → (text ≡ text_of ys) × (rest ≡ s)
read_same pattern text rest ys s (xs, each, split, same, none) hy ns e =
    let both = same_items xs ys rest s each hy none ns (sym split ∙ e) in
    (same ∙ ap text_of both.0, both.1)

-- neither run, if no text was read, or something else than a `$` follows
pub no_run : (pattern text rest : List ℕ) → ReadsItems pattern text rest → (0 < length text → (rest ≡ [] → ⊥) × (rest ≡ 36 ∷ [] → ⊥)) → IsNoRun pattern
no_run pattern text rest reads not_these xs are = (
  λ e.
      let same = read_same pattern text rest xs [] reads are.each no_item-nil (e ∙ sym (append-nil (spelling_of xs))) in
      let len = ap length same.0 ∙ length-map xs _ in
      let some = are.some in
      (not_these (omega (arith, len, some))).0 same.1,
  λ e.
      let same = read_same pattern text rest xs (36 ∷ []) reads are.each (dollar_ends []) e in
      let len = ap length same.0 ∙ length-map xs _ in
      let some = are.some in
      (not_these (omega (arith, len, some))).1 same.1,
)

-- a number that is tested not to be 0 is more than 0
pub some_left : (n : ℕ) → (n == 0) ≡ false → 0 < n
some_left n h = grind (arith)

-- and one that is tested to be 0 is 0
pub none_left : (n : ℕ) → (n == 0) ≡ true → n ≡ 0
none_left n h = eqb-true n 0 h

-- a text that was read is not empty where the items are some
-- where the text that was read is not empty, the items are one or more
pub read_some : (xs : List Item) (text : List ℕ) → text ≡ text_of xs → All IsItem xs → 0 < length text → AreItems xs
read_some xs text same each some =
    let len = ap length same ∙ length-map xs _ in
    record { each = each; some = omega (arith, len, some) }
