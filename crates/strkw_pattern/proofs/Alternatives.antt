-- Alternatives that are read one after another.
use Rattle.std.proofs.Common.{◌≡◌, ℕ, ◌<◌, List, [], ◌∷◌, ◌++◌, ◌⊎◌, slice_index, drop, map, length, refl, sym, ap, ◌∙◌, inl, inr, codes, arith}
use Rattle.std.specs.List.{join_with_byte}
use Rattle.std.proofs.lemmas.List.{append_assoc, length-map}
use Rattle.std.proofs.lemmas.List.Elements.{All-cons, All-head, All-nil, All-tail}
use Rattle.strkw_pattern.specs.Literal.{Item, AreItems, AreAlternatives, spelling_of, text_of}
use Rattle.strkw_pattern.specs.Reading.{ReadsItems, group_spelling, IsGroup, IsNoGroup}
use Rattle.strkw_pattern.proofs.Runs.{read_same, read_some, parenthesis_ends, bar_ends}

-- some alternatives were read, whose texts are these, and the rest is to begin with another
pub record Continues (pattern rest : List ℕ) (texts : List (List ℕ)) : Type 0 where
  pub found : (yss : List (List Item)) → AreAlternatives yss → rest ≡ group_spelling yss → IsGroup pattern (texts ++ map text_of yss)
  pub only : (xss : List (List Item)) → AreAlternatives xss → pattern ≡ group_spelling xss → (yss : List (List Item)) × AreAlternatives yss
      × (rest ≡ group_spelling yss)

-- nothing is read yet
-- so there are no texts, and the rest is the whole pattern
pub continues_init : (pattern : List ℕ) → Continues pattern pattern []
continues_init pattern = record {
  found = λ yss are e. (yss, are, e, refl);
  only = λ xss are e. (xss, are, e);
}

-- one alternative is written before others
-- with a `|` between
pub group_spelling-more : (ys : List Item) (zss : List (List Item)) → 0 < length zss → group_spelling (ys ∷ zss) ≡ spelling_of ys ++ 124 ∷ group_spelling zss
group_spelling-more ys [] some = absurd (omega arith)
group_spelling-more ys (zs ∷ more) some = append_assoc (spelling_of ys) (124 ∷ join_with_byte 124 (map spelling_of (zs ∷ more))) (codes ")$")

-- what follows the first alternative: the end, or others
pub record FirstRead (text after : List ℕ) : Type 0 where
  pub some : 0 < length text
  pub next : (after ≡ 41 ∷ 36 ∷ []) ⊎ ((zss : List (List Item)) × AreAlternatives zss × (after ≡ 124 ∷ group_spelling zss))

-- where alternatives are written, the items at the front are the first of them
pub first_read : (rest text after : List ℕ) (yss : List (List Item)) → AreAlternatives yss → rest ≡ group_spelling yss → ReadsItems rest text after
    → FirstRead text after
first_read rest text after [] are e reads = absurd (let some = are.some in omega (arith, some))
first_read rest text after (ys ∷ []) are e reads =
    let items = All-head AreItems ys [] are.each in
    let same = read_same rest text after ys (41 ∷ 36 ∷ []) reads items.each (parenthesis_ends (36 ∷ [])) e in
    let len = ap length same.0 ∙ length-map ys _ in
    let some = items.some in
    record { some = omega (arith, len, some); next = inl same.1 }
first_read rest text after (ys ∷ zs ∷ more) are e reads =
    let items = All-head AreItems ys (zs ∷ more) are.each in
    let same = read_same rest text after ys (124 ∷ group_spelling (zs ∷ more)) reads items.each (bar_ends _)
    (e ∙ group_spelling-more ys (zs ∷ more) (omega arith)) in
    let len = ap length same.0 ∙ length-map ys _ in
    let some = items.some in
    record { some = omega (arith, len, some); next = inr (zs ∷ more, record { each = All-tail AreItems ys (zs ∷ more) are.each; some = omega arith }, same.1) }

-- nothing is an alternation, where no first alternative with its end or others is there
pub no_group : (pattern rest text after : List ℕ) (texts : List (List ℕ)) → Continues pattern rest texts → ReadsItems rest text after
    → (FirstRead text after → ⊥) → IsNoGroup pattern
no_group pattern rest text after texts continues reads not_read xss are e =
    let left = continues.only xss are e in
    not_read (first_read rest text after left.0 left.1 left.2 reads)

-- the last alternative is read
-- so the pattern is alternatives with all these texts
pub group_done : (pattern rest text after : List ℕ) (texts : List (List ℕ)) → Continues pattern rest texts → ReadsItems rest text after → 0 < length text
    → after ≡ 41 ∷ 36 ∷ []
    → IsGroup pattern (texts ++ text ∷ [])
group_done pattern rest text after texts continues (xs, each, split, same, none) some e =
    let are : AreAlternatives (xs ∷ []) = record { each = All-cons AreItems xs [] (read_some xs text same each some) (All-nil AreItems); some = omega arith } in
    rw same (continues.found (xs ∷ []) are (split ∙ ap (λ (r : List ℕ). spelling_of xs ++ r) e))

-- one alternative is read, and others follow
-- so its text is the last of those that were read, and the rest stands behind the `|`
pub continues_step : (pattern rest text after next : List ℕ) (texts : List (List ℕ)) → Continues pattern rest texts → ReadsItems rest text after
    → 0 < length text → after ≡ 124 ∷ next
    → Continues pattern next (texts ++ text ∷ [])
continues_step pattern rest text after next texts continues (xs, each, split, same, none) some e = record {
  found = λ zss are is.
      let all : AreAlternatives (xs ∷ zss) = record { each = All-cons AreItems xs zss (read_some xs text same each some) are.each; some = omega arith } in
      let written : rest ≡ group_spelling (xs ∷ zss) =
      split ∙ ap (λ (r : List ℕ). spelling_of xs ++ r) (e ∙ ap (λ (r : List ℕ). 124 ∷ r) is) ∙ sym (group_spelling-more xs zss are.some) in
      rw (append_assoc, same) (continues.found (xs ∷ zss) all written);
  only = λ xss are is.
      let left = continues.only xss are is in
      let f = first_read rest text after left.0 left.1 left.2 (xs, each, split, same, none) in
      elim f.next [
        | inl ended ↦
            let heads = ap (λ (r : List ℕ). slice_index r 0) (sym ended ∙ e) in
            absurd (omega (arith, heads))
        | inr more ↦ (more.0, more.1, ap (drop 1) (sym e ∙ more.2))
      ];
}
