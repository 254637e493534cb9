-- Items at the front of a pattern.
use Rattle.std.proofs.Common.{◌≡◌, ℕ, ◌<◌, true, false, List, [], ◌∷◌, ◌++◌, refl, sym, ap, ◌∙◌, inl, inr, codes, arith}
use Rattle.std.specs.Prelude.{All, nat_lt}
use Rattle.std.specs.List.{list_all}
use Rattle.std.proofs.lemmas.Bool.{and_parts, cases_eq, cases_Bool, ltb-true, ne_eqb}
use Rattle.std.specs.Char.{is_ascii_alphanumeric}
use Rattle.strkw_text.specs.Characters.{is_one_of}
use Rattle.std.proofs.lemmas.Bool.Decides.{nat_tests}
use Rattle.std.proofs.lemmas.List.{append_assoc, append-nil, map-append}
use Rattle.std.proofs.lemmas.Grind.{flat_map-append}
use Rattle.std.proofs.lemmas.List.Elements.{All-append, All-cons, All-head, All-nil, All-tail}
use Rattle.strkw_pattern.specs.Literal.{Item, plain, escaped, IsItem, item_spelling, item_char, spelling_of, text_of, is_plain, is_escapable}
use Rattle.strkw_pattern.specs.Reading.{NoItem}

-- a backslash does not stand for itself
plain_backslash : is_plain 92 ≡ false
unfolding is_plain
plain_backslash = refl

-- nothing begins no item
pub no_item-nil : NoItem []
no_item-nil (plain c) rest is e = cc e
no_item-nil (escaped c) rest is e = cc e

-- a character that is neither plain nor a backslash begins no item
pub no_item-cons : (a : ℕ) (rest : List ℕ) → is_plain a ≡ false → (a ≡ 92 → ⊥) → NoItem (a ∷ rest)
no_item-cons a rest not_plain other (plain c) more is e =
    let same : a ≡ c = cc e in
    cc (same, is, not_plain)
no_item-cons a rest not_plain other (escaped c) more is e = other (cc e)

-- a backslash begins an item only before a character that may follow it
pub no_item-backslash : (a : ℕ) (rest : List ℕ) → is_escapable a ≡ false → NoItem (92 ∷ a ∷ rest)
no_item-backslash a rest not_escapable (plain c) more is e =
    let same : 92 ≡ c = cc e in
    let plain_92 : is_plain 92 ≡ true = rw same is in
    cc (plain_92, plain_backslash)
no_item-backslash a rest not_escapable (escaped c) more is e =
    let same : a ≡ c = cc e in
    cc (same, is, not_escapable)

-- and a backslash at the end begins none
pub no_item-last_backslash : NoItem (92 ∷ [])
no_item-last_backslash (plain c) more is e =
    let same : 92 ≡ c = cc e in
    let plain_92 : is_plain 92 ≡ true = rw same is in
    cc (plain_92, plain_backslash)
no_item-last_backslash (escaped c) more is e = cc e

-- an item is read in one way
pub same_item : (x y : Item) (r s : List ℕ) → IsItem x → IsItem y → item_spelling x ++ r ≡ item_spelling y ++ s → (x ≡ y) × (r ≡ s)
same_item (plain a) (plain b) r s hx hy e =
    let same : a ≡ b = cc e in
    (ap plain same, cc e)
same_item (plain a) (escaped b) r s hx hy e =
    let same : a ≡ 92 = cc e in
    let plain_92 : is_plain 92 ≡ true = rw (← same) hx in
    cc (plain_92, plain_backslash)
same_item (escaped a) (plain b) r s hx hy e =
    let same : 92 ≡ b = cc e in
    let plain_92 : is_plain 92 ≡ true = rw same hy in
    cc (plain_92, plain_backslash)
same_item (escaped a) (escaped b) r s hx hy e =
    let same : a ≡ b = cc e in
    (ap escaped same, cc e)

-- items are read in one way, as far as they go
pub same_items : (xs ys : List Item) (r s : List ℕ) → All IsItem xs → All IsItem ys → NoItem r → NoItem s
    → spelling_of xs ++ r ≡ spelling_of ys ++ s → (xs ≡ ys) × (r ≡ s)
same_items [] [] r s hx hy nr ns e = (refl, e)
same_items [] (y ∷ ys) r s hx hy nr ns e =
    absurd (nr y (spelling_of ys ++ s) (All-head IsItem y ys hy) (e ∙ append_assoc (item_spelling y) (spelling_of ys) s))
same_items (x ∷ xs) [] r s hx hy nr ns e =
    absurd (ns x (spelling_of xs ++ r) (All-head IsItem x xs hx) (sym e ∙ append_assoc (item_spelling x) (spelling_of xs) r))
same_items (x ∷ xs) (y ∷ ys) r s hx hy nr ns e =
    let h = same_item x y (spelling_of xs ++ r) (spelling_of ys ++ s) (All-head IsItem x xs hx) (All-head IsItem y ys hy)
    (sym (append_assoc (item_spelling x) (spelling_of xs) r) ∙ e ∙ append_assoc (item_spelling y) (spelling_of ys) s) in
    let t = same_items xs ys r s (All-tail IsItem x xs hx) (All-tail IsItem y ys hy) nr ns h.1 in
    (rw (h.0, t.0) refl, t.1)

-- one item more
-- is read with those before it, and its character joins their text
pub items_step : (xs : List Item) (x : Item) (pattern rest after : List ℕ) → All IsItem xs → IsItem x → pattern ≡ spelling_of xs ++ rest
    → rest ≡ item_spelling x ++ after
    → All IsItem (xs ++ x ∷ []) × (pattern ≡ spelling_of (xs ++ x ∷ []) ++ after) × (text_of (xs ++ x ∷ []) ≡ text_of xs ++ item_char x ∷ [])
items_step xs x pattern rest after hxs hx split next =
    let written : spelling_of (xs ++ x ∷ []) ≡ spelling_of xs ++ item_spelling x = flat_map-append item_spelling xs (x ∷ [])
    ∙ ap (λ (s : List ℕ). spelling_of xs ++ s) (append-nil (item_spelling x)) in (
      All-append IsItem xs (x ∷ []) hxs (All-cons IsItem x [] hx (All-nil IsItem)),
      rw (written, append_assoc, ← next) split,
      map-append item_char xs (x ∷ []),
    )

-- one of some numbers below n
-- is below n
one_below : (xs : List ℕ) (c n : ℕ) → is_one_of xs c ≡ true → list_all (λ x. nat_lt x n) xs ≡ true → c < n
one_below [] c n one all = cc one
one_below (x ∷ xs) c n one all =
    let parts = and_parts (nat_lt x n) (list_all (λ x. nat_lt x n) xs) all in
    elim (cases_eq c x) [
      | inl same ↦
          let lt = ltb-true x n parts.0 in
          omega (arith, lt, same)
      | inr other ↦ one_below xs c n (rw (ne_eqb c x other) at one) parts.1
    ]

-- a letter or digit of ASCII is below 128
alphanumeric_below : (c : ℕ) → is_ascii_alphanumeric c ≡ true → c < 128
alphanumeric_below c h = grind (arith, nat_tests)

-- and so is a character that stands for itself
plain_below : (c : ℕ) → is_plain c ≡ true → c < 128
unfolding is_plain
plain_below c h = elim (cases_Bool (is_ascii_alphanumeric c)) [
  | inl is ↦ alphanumeric_below c is
  | inr other ↦ one_below (codes " -_/:@#%&=,;~!'\"<>") c 128 (rw other at h) refl
]

-- and one that may follow a backslash
escapable_below : (c : ℕ) → is_escapable c ≡ true → c < 128
unfolding is_escapable
escapable_below c h = one_below (codes "^$\\.*+?()[]{}|/") c 128 h refl

-- a character that an item stands for is ASCII
pub item_ascii : (x : Item) → IsItem x → item_char x < 128
item_ascii (plain c) h = plain_below c h
item_ascii (escaped c) h = escapable_below c h
