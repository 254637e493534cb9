-- A pattern is literal, or it is not.
use Rattle.std.proofs.Common.{◌≡◌, ℕ, suc, ◌<◌, ◌≤◌, List, [], ◌∷◌, ◌++◌, ◌⊎◌, slice_index, length, refl, sym, ap, ◌∙◌, inl, inr, codes, arith, subst}
use Rattle.std.proofs.Common.{append-nil, zero}
use Rattle.std.specs.Str.{bytes_eq}
use Rattle.std.proofs.lemmas.Bool.{cases_Bool, cases_eq}
use Rattle.std.proofs.lemmas.List.{append_assoc}
use Rattle.std.proofs.lemmas.List.Elements.{All-cons, All-nil}
use Rattle.std.proofs.lemmas.Slice.Eq.{bytes_eq-Decides}
use Rattle.strkw_pattern.specs.Literal.{Item, plain, escaped, IsItem, item_spelling, item_char, spelling_of, is_plain, is_escapable, prefix, exact, alternation}
use Rattle.strkw_pattern.specs.Literal.{no_whitespace, IsLiteral}
use Rattle.strkw_pattern.specs.Reading.{NoItem, ReadsItems, IsGroup, IsNoGroup}
use Rattle.strkw_pattern.proofs.Items.{no_item-nil, no_item-cons, no_item-backslash, no_item-last_backslash}
use Rattle.strkw_pattern.proofs.Runs.{no_run, read_some}
use Rattle.strkw_pattern.proofs.Alternatives.{Continues, continues_init, continues_step, no_group, group_done, FirstRead}
use Rattle.strkw_pattern.proofs.Analyses.{long_literal, no_literal-run, no_literal-group}

-- two texts are the same, or they are not
same_or_not : (xs ys : List ℕ) → (xs ≡ ys) ⊎ (xs ≡ ys → ⊥)
same_or_not xs ys = elim (cases_Bool (bytes_eq xs ys)) [
  | inl is ↦ inl ((bytes_eq-Decides xs ys).0 is)
  | inr differs ↦ inr (λ e. let is = (bytes_eq-Decides xs ys).1 e in cc)
]

-- ---- items

-- an item, and what follows it
record FrontItem (pattern : List ℕ) : Type 0 where
  item : Item
  rest : List ℕ
  is : IsItem item
  split : pattern ≡ item_spelling item ++ rest
  shorter : length rest < length pattern

-- a backslash begins an item, or it begins none
after_backslash : (rest : List ℕ) → FrontItem (92 ∷ rest) ⊎ NoItem (92 ∷ rest)
after_backslash [] = inr no_item-last_backslash
after_backslash (b ∷ more) = elim (cases_Bool (is_escapable b)) [
  | inl is ↦ inl (record { item = escaped b; rest = more; is = is; split = refl; shorter = omega arith })
  | inr not_escapable ↦ inr (no_item-backslash b more not_escapable)
]

-- an item is at the front of a pattern, or none is
item_or_none : (pattern : List ℕ) → FrontItem pattern ⊎ NoItem pattern
item_or_none [] = inr no_item-nil
item_or_none (a ∷ rest) = elim (cases_Bool (is_plain a)) [
  | inl is ↦ inl (record { item = plain a; rest = rest; is = is; split = refl; shorter = omega arith })
  | inr not_plain ↦ elim (cases_eq a 92) [
    | inl same ↦ subst (λ n. FrontItem (n ∷ rest) ⊎ NoItem (n ∷ rest)) (sym same) (after_backslash rest)
    | inr other ↦ inr (no_item-cons a rest not_plain other)
  ]
]

-- the items at the front, and what follows them
record Front (pattern : List ℕ) : Type 0 where
  text : List ℕ
  rest : List ℕ
  reads : ReadsItems pattern text rest
  no_longer : length rest ≤ length pattern

-- an item, and the items at the front of what follows it, are those at the front of the pattern
one_item_more : (pattern : List ℕ) (f : FrontItem pattern) → Front f.rest → Front pattern
one_item_more pattern f g = record {
  text = item_char f.item ∷ g.text;
  rest = g.rest;
  reads = (
    f.item ∷ g.reads.0,
    All-cons IsItem f.item g.reads.0 f.is g.reads.1,
    f.split ∙ ap (λ (r : List ℕ). item_spelling f.item ++ r) g.reads.2 ∙ sym (append_assoc (item_spelling f.item) (spelling_of g.reads.0) g.rest),
    ap (λ (t : List ℕ). item_char f.item ∷ t) g.reads.3,
    g.reads.4,
  );
  no_longer = (let shorter = f.shorter in let no_longer = g.no_longer in omega (arith, shorter, no_longer));
}

-- a pattern shorter than `n` has its items at the front, if any, and what follows them
front_within : (n : ℕ) (pattern : List ℕ) → length pattern < n → Front pattern
front_within zero pattern h = absurd (omega (arith, h))
front_within (suc n) pattern h = elim (item_or_none pattern) [
  | inl f ↦ one_item_more pattern f (front_within n f.rest (let shorter = f.shorter in omega (arith, h, shorter)))
  | inr none ↦ record { text = []; rest = pattern; reads = ([], All-nil IsItem, refl, refl, none); no_longer = omega arith }
]

-- and so has each pattern
front : (pattern : List ℕ) → Front pattern
front pattern = front_within (suc (length pattern)) pattern (omega arith)

-- a text has characters, or it has none
some_or_none : (text : List ℕ) → (0 < length text) ⊎ (length text ≡ 0)
some_or_none [] = inr refl
some_or_none (c ∷ text) = inl (omega arith)

-- ---- a run

-- what goes on with no parenthesis, and is not `^\S*$`, is literal, or it is not
run_or_not : (first : ℕ) (group : List ℕ) → (first ≡ 40 → ⊥) → (94 ∷ first ∷ group ≡ codes "^\\S*$" → ⊥) → IsLiteral (94 ∷ first ∷ group)
    ⊎ (IsLiteral (94 ∷ first ∷ group) → ⊥)
run_or_not first group other not_this =
    let f = front (first ∷ group) in
    let none = no_run (first ∷ group) f.text f.rest f.reads in
    elim (some_or_none f.text) [
      | inr empty ↦ inr (no_literal-run first group other not_this (none (λ some. absurd (omega (arith, empty, some)))))
      | inl some ↦
          let are = read_some f.reads.0 f.text f.reads.3 f.reads.1 some in
          elim (same_or_not f.rest []) [
            | inl ended ↦ inl (
              prefix f.reads.0,
              are,
              ap (λ (r : List ℕ). 94 ∷ r)
                  (f.reads.2 ∙ ap (λ (r : List ℕ). spelling_of f.reads.0 ++ r) ended ∙ append-nil (spelling_of f.reads.0)),
            )
            | inr goes_on ↦ elim (same_or_not f.rest (36 ∷ [])) [
              | inl dollar ↦ inl (exact f.reads.0, are, ap (λ (r : List ℕ). 94 ∷ r) (f.reads.2 ∙ ap (λ (r : List ℕ). spelling_of f.reads.0 ++ r) dollar))
              | inr no_dollar ↦ inr (no_literal-run first group other not_this (none (λ s. (goes_on, no_dollar))))
            ]
          ]
    ]

-- ---- alternatives

-- the alternatives are some, or there are none
abbrev Decided : List ℕ → Type 0
Decided pattern = ((texts : List (List ℕ)) × IsGroup pattern texts) ⊎ IsNoGroup pattern

-- neither the end nor another alternative follows
-- so no alternative was read in front of it
no_more : (text after : List ℕ) → (after ≡ 41 ∷ 36 ∷ [] → ⊥) → ((next : List ℕ) → after ≡ 124 ∷ next → ⊥) → FirstRead text after → ⊥
no_more text after not_ended not_others first = elim first.next [
  | inl ended ↦ not_ended ended
  | inr more ↦ not_others _ more.2
]

-- one alternative is read; `again` reads the others
-- so the alternatives are some, or there are none
group_step : (n : ℕ) (pattern : List ℕ) → ((rest : List ℕ) (texts : List (List ℕ)) → length rest < n → Continues pattern rest texts → Decided pattern)
    → (rest text after : List ℕ) (texts : List (List ℕ)) → length after < suc n → Continues pattern rest texts → ReadsItems rest text after → 0 < length text
    → Decided pattern
group_step n pattern again rest text [] texts h continues reads some =
    inr (no_group pattern rest text [] texts continues reads (no_more text [] (λ e. cc e) (λ next e. cc e)))
group_step n pattern again rest text (c ∷ next) texts h continues reads some = elim (cases_eq c 124) [
  | inl bar ↦ again next (texts ++ text ∷ []) (omega (arith, h))
      (continues_step pattern rest text (c ∷ next) next texts continues reads some (ap (λ (b : ℕ). b ∷ next) bar))
  | inr no_bar ↦ elim (same_or_not (c ∷ next) (41 ∷ 36 ∷ [])) [
    | inl ended ↦ inl (texts ++ text ∷ [], group_done pattern rest text (c ∷ next) texts continues reads some ended)
    | inr not_ended ↦ inr (no_group pattern rest text (c ∷ next) texts continues reads
        (no_more text (c ∷ next) not_ended (λ other e. no_bar (ap (λ (r : List ℕ). slice_index r 0) e))))
  ]
]

-- so it is where the rest, shorter than `n`, is to begin with another alternative
group_within : (n : ℕ) (pattern rest : List ℕ) (texts : List (List ℕ)) → length rest < n → Continues pattern rest texts → Decided pattern
group_within zero pattern rest texts h continues = absurd (omega (arith, h))
group_within (suc n) pattern rest texts h continues =
    let f = front rest in
    elim (some_or_none f.text) [
      | inr empty ↦ inr (no_group pattern rest f.text f.rest texts continues f.reads (λ first. let some = first.some in omega (arith, empty, some)))
      | inl some ↦ group_step n pattern (group_within n pattern) rest f.text f.rest texts (let no_longer = f.no_longer in omega (arith, h, no_longer)) continues
          f.reads some
    ]

-- what goes on with a parenthesis is literal, or it is not
group_or_not : (group : List ℕ) → IsLiteral (94 ∷ 40 ∷ group) ⊎ (IsLiteral (94 ∷ 40 ∷ group) → ⊥)
group_or_not group = elim (group_within (suc (length group)) group group [] (omega arith) (continues_init group)) [
  | inl found ↦ inl (alternation found.1.0, found.1.1, ap (λ (r : List ℕ). 94 ∷ 40 ∷ r) found.1.2)
  | inr none ↦ inr (no_literal-group group none)
]

-- ---- the whole pattern

-- what is a `^` and more, and not `^\S*$`, is literal, or it is not
front_or_not : (first : ℕ) (group : List ℕ) → (94 ∷ first ∷ group ≡ codes "^\\S*$" → ⊥) → IsLiteral (94 ∷ first ∷ group) ⊎ (IsLiteral (94 ∷ first ∷ group) → ⊥)
front_or_not first group not_this = elim (cases_eq first 40) [
  | inl opens ↦ subst (λ c. IsLiteral (94 ∷ c ∷ group) ⊎ (IsLiteral (94 ∷ c ∷ group) → ⊥)) (sym opens) (group_or_not group)
  | inr other ↦ run_or_not first group other not_this
]

-- and so is each other pattern than `^\S*$`
start_or_not : (pattern : List ℕ) → (pattern ≡ codes "^\\S*$" → ⊥) → IsLiteral pattern ⊎ (IsLiteral pattern → ⊥)
start_or_not [] not_this = inr (λ is. let long = (long_literal [] is).1 in omega (arith, long))
start_or_not (a ∷ []) not_this = inr (λ is. let long = (long_literal (a ∷ []) is).1 in omega (arith, long))
start_or_not (a ∷ first ∷ group) not_this = elim (cases_eq a 94) [
  | inl begins ↦ subst (λ c. (c ∷ first ∷ group ≡ codes "^\\S*$" → ⊥) → IsLiteral (c ∷ first ∷ group) ⊎ (IsLiteral (c ∷ first ∷ group) → ⊥)) (sym begins)
      (front_or_not first group) not_this
  | inr other ↦ inr (λ is. other (long_literal (a ∷ first ∷ group) is).0)
]

-- each pattern is literal, or it is not
pub literal_or_not : (pattern : List ℕ) → IsLiteral pattern ⊎ (IsLiteral pattern → ⊥)
literal_or_not pattern = elim (same_or_not pattern (codes "^\\S*$")) [
  | inl this ↦ inl (no_whitespace, tt, this)
  | inr not_this ↦ start_or_not pattern not_this
]
