-- A pattern is found exactly where its parts are, or are not, as each is to be.
use Rattle.std.proofs.Common.{◌≡◌, ◌↔◌, ◌⊎◌, inl, inr, ℕ, zero, suc, ◌≤◌, Bool, true, false, ◌&&◌, List, [], ◌∷◌, ◌++◌, length, get_or, slice_get}
use Rattle.std.proofs.Common.{Some, refl, sym, ap, subst, ◌∙◌, true≢false, arith, if◌then◌else◌, IsTrue}
use Rattle.std.specs.Prelude.{⊤}
use Rattle.std.proofs.lemmas.Option.{slice_get-get_or}
use Rattle.strkw_regex_core.specs.Tree.{start, end, boundary, no_boundary}
use Rattle.strkw_regex_core.specs.machine.MarkedPattern.{MarkedPattern, empty, class, look, cat, alt, star, plus, lookbehind, lookahead}
use Rattle.strkw_charset.specs.Membership.{differ}
use Rattle.strkw_regex_core.specs.Meaning.{before, is_edge, Unless}
use Rattle.strkw_regex_core.specs.machine.MarkedMeaning.{Matches, Found}
use Rattle.strkw_regex_core.specs.machine.LeadingLookahead.{Part, first_lead, lead, lead_behind, reads_nothing, is_far, is_apart_behind, part_of, fronts, rest, parts}
use Rattle.strkw_regex_core.specs.machine.LeadingLookahead.{AreFound}
use Rattle.strkw_regex_core.specs.machine.Positions.{is_unmarked}
use Rattle.strkw_regex_core.specs.machine.Mirror.{target, sought_in}
use Rattle.strkw_regex_search.specs.machine.Search.{search, are_parts_found, are_parts_clean}
use Rattle.strkw_regex_core.specs.declared.leading_lookahead.Lead.{Lead}
use Rattle.strkw_regex_core.specs.declared.leading_lookahead.Lead.TheVariants.{Nothing, Anchored, Past}
use Rattle.strkw_ecma.proofs.Anchors.{told_unless}
use Rattle.strkw_regex_search.proofs.FoundIn.{found_in_right}
use Rattle.strkw_regex_core.proofs.Fronts.{rest_apart, rest_with, fronts_apart, fronts_with, far}
use Rattle.strkw_regex_core.proofs.Mirrors.{unless_same, found_sought}
use Rattle.strkw_regex_core.proofs.Search.{before_next}
use Rattle.strkw_charset.proofs.Booleans.{and_left, and_right}

-- tests of what a front is
abbrev is_nothing : Lead → Bool
is_nothing Nothing = true
is_nothing Anchored = false
is_nothing Past = false

-- it is `^`, with terms behind it that read nothing
abbrev is_anchored : Lead → Bool
is_anchored Nothing = false
is_anchored Anchored = true
is_anchored Past = false

-- a term behind `^` that reads nothing leaves the front anchored
anchored_on : (b : Bool) → is_anchored (if b then Anchored else Past) ≡ true → b ≡ true
anchored_on true e = refl
anchored_on false e = absurd (true≢false (sym e))

-- behind `^` no front is nothing
never_nothing : (b : Bool) → is_nothing (if b then Anchored else Past) ≡ true → ⊥
never_nothing true e = true≢false (sym e)
never_nothing false e = true≢false (sym e)

-- a term that is a part of its own stands behind `^`
anchors : (l : Lead) (t : MarkedPattern) → is_apart_behind l t ≡ true → is_anchored l ≡ true
anchors Nothing t e = absurd (true≢false (sym e))
anchors Anchored t e = refl
anchors Past t e = absurd (true≢false (sym e))

module _ (text : List ℕ) where
  -- each part matches from a place on, or does not, as it is to be
  abbrev Hold : List Part → ℕ → Type 0
  Hold [] i = ⊤
  Hold (x ∷ xs) i = Unless x.negated ((k : ℕ) × Matches text x.pattern i k) × Hold xs i

  -- parts of two lists hold where those of each do
  hold_append : (xs ys : List Part) (i : ℕ) → Hold (xs ++ ys) i ↔ (Hold xs i × Hold ys i)
  hold_append [] ys i = (λ h. (tt, h), λ h. h.1)
  hold_append (x ∷ xs) ys i = (
    λ h. let r = (hold_append xs ys i).0 h.1 in ((h.0, r.0), r.1),
    λ h. (h.0.0, (hold_append xs ys i).1 (h.0.1, h.1)),
  )

  -- what reads nothing ends where it begins
  reads_none : (q : MarkedPattern) (i j : ℕ) → reads_nothing q ≡ true → Matches text q i j → i ≡ j
  reads_none empty i j e m = m
  reads_none (class b n rs) i j e m = absurd (true≢false (sym e))
  reads_none (look l) i j e m = m.1
  reads_none (cat p q) i j e m = absurd (true≢false (sym e))
  reads_none (alt p q) i j e m = absurd (true≢false (sym e))
  reads_none (star p) i j e m = absurd (true≢false (sym e))
  reads_none (plus p) i j e m = absurd (true≢false (sym e))
  reads_none (lookbehind n p) i j e m = m.1
  reads_none (lookahead n p) i j e m = m.1

  -- a lookahead reads nothing
  far_reads_none : (q : MarkedPattern) → is_far q ≡ true → reads_nothing q ≡ true
  far_reads_none empty f = refl
  far_reads_none (class b n rs) f = absurd (true≢false (sym f))
  far_reads_none (look l) f = refl
  far_reads_none (cat p q) f = absurd (true≢false (sym f))
  far_reads_none (alt p q) f = absurd (true≢false (sym f))
  far_reads_none (star p) f = absurd (true≢false (sym f))
  far_reads_none (plus p) f = absurd (true≢false (sym f))
  far_reads_none (lookbehind n p) f = refl
  far_reads_none (lookahead n p) f = refl

  -- a first term that is nothing reads nothing
  first_nothing : (q : MarkedPattern) (i j : ℕ) → is_nothing (first_lead q) ≡ true → Matches text q i j → i ≡ j
  first_nothing empty i j e m = m
  first_nothing (class b n rs) i j e m = absurd (true≢false (sym e))
  first_nothing (look l) i j e m = m.1
  first_nothing (cat p q) i j e m = absurd (true≢false (sym e))
  first_nothing (alt p q) i j e m = absurd (true≢false (sym e))
  first_nothing (star p) i j e m = absurd (true≢false (sym e))
  first_nothing (plus p) i j e m = absurd (true≢false (sym e))
  first_nothing (lookbehind n p) i j e m = absurd (true≢false (sym e))
  first_nothing (lookahead n p) i j e m = absurd (true≢false (sym e))

  -- one that anchors is `^`
  first_anchored : (q : MarkedPattern) (i j : ℕ) → is_anchored (first_lead q) ≡ true → Matches text q i j → (i ≡ j) × (is_edge (before text i) ≡ true)
  first_anchored empty i j e m = absurd (true≢false (sym e))
  first_anchored (class b n rs) i j e m = absurd (true≢false (sym e))
  first_anchored (look start) i j e m = (m.1, m.0)
  first_anchored (look end) i j e m = absurd (true≢false (sym e))
  first_anchored (look boundary) i j e m = absurd (true≢false (sym e))
  first_anchored (look no_boundary) i j e m = absurd (true≢false (sym e))
  first_anchored (cat p q) i j e m = absurd (true≢false (sym e))
  first_anchored (alt p q) i j e m = absurd (true≢false (sym e))
  first_anchored (star p) i j e m = absurd (true≢false (sym e))
  first_anchored (plus p) i j e m = absurd (true≢false (sym e))
  first_anchored (lookbehind n p) i j e m = absurd (true≢false (sym e))
  first_anchored (lookahead n p) i j e m = absurd (true≢false (sym e))

  -- the rest of a front that is nothing reads nothing
  -- of two terms, where that is so of the first
  rest_nothing_cat : (p q : MarkedPattern) (i j : ℕ) (first : (k : ℕ) → is_nothing (lead p) ≡ true → Matches text (rest p) i k → i ≡ k)
      (l : Lead) → lead p ≡ l → is_nothing (lead (cat p q)) ≡ true → Matches text (rest (cat p q)) i j → i ≡ j
  rest_nothing_cat p q i j first Nothing is e m =
      let with : is_apart_behind (lead p) q ≡ false = ap (λ (l : Lead). is_apart_behind l q) is in
      let n : Matches text (cat (rest p) q) i j = subst (λ r. Matches text r i j) (rest_with p q with) m in
      first n.0 (ap is_nothing is) n.1
      ∙ first_nothing q n.0 j (sym (ap (λ (l : Lead). is_nothing (lead_behind l q)) is) ∙ e) n.2
  rest_nothing_cat p q i j first Anchored is e m =
      absurd (never_nothing (reads_nothing q) (sym (ap (λ (l : Lead). is_nothing (lead_behind l q)) is) ∙ e))
  rest_nothing_cat p q i j first Past is e m = absurd (true≢false (sym e ∙ ap (λ (l : Lead). is_nothing (lead_behind l q)) is))

  -- of each pattern
  rest_nothing : (p : MarkedPattern) (i j : ℕ) → is_nothing (lead p) ≡ true → Matches text (rest p) i j → i ≡ j
  rest_nothing empty i j e m = first_nothing empty i j e m
  rest_nothing (class b n rs) i j e m = first_nothing (class b n rs) i j e m
  rest_nothing (look l) i j e m = first_nothing (look l) i j e m
  rest_nothing (cat p q) i j e m = rest_nothing_cat p q i j (λ k. rest_nothing p i k) (lead p) refl e m
  rest_nothing (alt p q) i j e m = first_nothing (alt p q) i j e m
  rest_nothing (star p) i j e m = first_nothing (star p) i j e m
  rest_nothing (plus p) i j e m = first_nothing (plus p) i j e m
  rest_nothing (lookbehind n p) i j e m = first_nothing (lookbehind n p) i j e m
  rest_nothing (lookahead n p) i j e m = first_nothing (lookahead n p) i j e m

  -- that of one with `^` matches at the beginning of the text alone, and reads nothing
  -- of two terms, where that is so of the first: by whether the second is a part of its own
  rest_anchored_on : (p q : MarkedPattern) (i j : ℕ)
      (first : (k : ℕ) → is_anchored (lead p) ≡ true → Matches text (rest p) i k → (i ≡ k) × (is_edge (before text i) ≡ true))
      (b : Bool) → is_anchored (lead p) ≡ true → reads_nothing q ≡ true → is_apart_behind (lead p) q ≡ b
      → Matches text (rest (cat p q)) i j → (i ≡ j) × (is_edge (before text i) ≡ true)
  rest_anchored_on p q i j first true at none apart m = first j at (subst (λ r. Matches text r i j) (rest_apart p q apart) m)
  rest_anchored_on p q i j first false at none with m =
      let n : Matches text (cat (rest p) q) i j = subst (λ r. Matches text r i j) (rest_with p q with) m in
      let stands = first n.0 at n.1 in
      (stands.0 ∙ reads_none q n.0 j none n.2, stands.1)

  -- and by what the first is
  rest_anchored_cat : (p q : MarkedPattern) (i j : ℕ)
      (first : (k : ℕ) → is_anchored (lead p) ≡ true → Matches text (rest p) i k → (i ≡ k) × (is_edge (before text i) ≡ true))
      (l : Lead) → lead p ≡ l → is_anchored (lead (cat p q)) ≡ true → Matches text (rest (cat p q)) i j
      → (i ≡ j) × (is_edge (before text i) ≡ true)
  rest_anchored_cat p q i j first Nothing is e m =
      let with : is_apart_behind (lead p) q ≡ false = ap (λ (l : Lead). is_apart_behind l q) is in
      let n : Matches text (cat (rest p) q) i j = subst (λ r. Matches text r i j) (rest_with p q with) m in
      let same : i ≡ n.0 = rest_nothing p i n.0 (ap is_nothing is) n.1 in
      let at = first_anchored q n.0 j (sym (ap (λ (l : Lead). is_anchored (lead_behind l q)) is) ∙ e) n.2 in
      (same ∙ at.0, ap (λ (k : ℕ). is_edge (before text k)) same ∙ at.1)
  rest_anchored_cat p q i j first Anchored is e m =
      rest_anchored_on p q i j first (is_apart_behind (lead p) q) (ap is_anchored is)
      (anchored_on (reads_nothing q) (sym (ap (λ (l : Lead). is_anchored (lead_behind l q)) is) ∙ e)) refl m
  rest_anchored_cat p q i j first Past is e m = absurd (true≢false (sym e ∙ ap (λ (l : Lead). is_anchored (lead_behind l q)) is))

  -- so the rest of a front that is anchored reads nothing, and stands at the beginning of the text
  rest_anchored : (p : MarkedPattern) (i j : ℕ) → is_anchored (lead p) ≡ true → Matches text (rest p) i j → (i ≡ j) × (is_edge (before text i) ≡ true)
  rest_anchored empty i j e m = first_anchored empty i j e m
  rest_anchored (class b n rs) i j e m = first_anchored (class b n rs) i j e m
  rest_anchored (look l) i j e m = first_anchored (look l) i j e m
  rest_anchored (cat p q) i j e m = rest_anchored_cat p q i j (λ k. rest_anchored p i k) (lead p) refl e m
  rest_anchored (alt p q) i j e m = first_anchored (alt p q) i j e m
  rest_anchored (star p) i j e m = first_anchored (star p) i j e m
  rest_anchored (plus p) i j e m = first_anchored (plus p) i j e m
  rest_anchored (lookbehind n p) i j e m = first_anchored (lookbehind n p) i j e m
  rest_anchored (lookahead n p) i j e m = first_anchored (lookahead n p) i j e m

  -- at the beginning of the text a pattern matches as it does behind `^`
  from_start : (q : MarkedPattern) (i : ℕ) → is_edge (before text i) ≡ true
      → ((k : ℕ) × Matches text q i k) ↔ ((k : ℕ) × Matches text (cat (look start) q) i k)
  from_start q i e = (
    λ m. (m.0, (i, (e, refl), m.1)),
    λ m. (m.0, subst (λ (k : ℕ). Matches text q k m.0) (sym m.1.1.1) m.1.2),
  )

  -- a lookahead at the beginning holds there exactly where its part does
  part_holds : (q : MarkedPattern) (i : ℕ) → is_far q ≡ true → is_edge (before text i) ≡ true
      → Matches text q i i ↔ Hold (part_of q) i
  part_holds empty i f e = absurd (true≢false (sym f))
  part_holds (class b n rs) i f e = absurd (true≢false (sym f))
  part_holds (look l) i f e = absurd (true≢false (sym f))
  part_holds (cat p q) i f e = absurd (true≢false (sym f))
  part_holds (alt p q) i f e = absurd (true≢false (sym f))
  part_holds (star p) i f e = absurd (true≢false (sym f))
  part_holds (plus p) i f e = absurd (true≢false (sym f))
  part_holds (lookbehind n p) i f e = absurd (true≢false (sym f))
  part_holds (lookahead n q) i f e =
      let same = from_start q i e in
      let back : ((k : ℕ) × Matches text (cat (look start) q) i k) ↔ ((k : ℕ) × Matches text q i k) = (same.1, same.0) in (
        λ m. (unless_same n _ _ same m.0, tt),
        λ h. (unless_same n _ _ back h.0, refl),
      )

  -- a pattern matches exactly where its rest does, with the parts of lookaheads from there on
  abbrev ByParts : MarkedPattern → ℕ → ℕ → Type 0
  ByParts p i j = Matches text p i j ↔ (Matches text (rest p) i j × Hold (fronts p) i)

  -- of two terms, where that is so of the first: by whether the second is a part of its own
  by_parts_cat : (p q : MarkedPattern) (i j : ℕ) (first : (k : ℕ) → ByParts p i k) (b : Bool) → is_apart_behind (lead p) q ≡ b → ByParts (cat p q) i j
  by_parts_cat p q i j first false with = (
    λ m. let n = (first m.0).0 m.1 in (
      subst (λ r. Matches text r i j) (sym (rest_with p q with)) (m.0, n.0, m.2),
      subst (λ fs. Hold fs i) (sym (fronts_with p q with)) n.1,
    ),
    λ m. let n : Matches text (cat (rest p) q) i j = subst (λ r. Matches text r i j) (rest_with p q with) m.0 in
        (n.0, (first n.0).1 (n.1, subst (λ fs. Hold fs i) (fronts_with p q with) m.1), n.2),
  )
  by_parts_cat p q i j first true apart =
      let at = anchors (lead p) q apart in
      let ahead = far (lead p) q apart in (
        λ m. let n = (first m.0).0 m.1 in
            let stands = rest_anchored p i m.0 at n.0 in
            let none : m.0 ≡ j = reads_none q m.0 j (far_reads_none q ahead) m.2 in
            let here : Matches text q i i =
            subst (λ k. Matches text q k i) (sym stands.0) (subst (λ k. Matches text q m.0 k) (sym (stands.0 ∙ none)) m.2) in (
              subst (λ r. Matches text r i j) (sym (rest_apart p q apart)) (subst (λ k. Matches text (rest p) i k) none n.0),
              subst (λ fs. Hold fs i) (sym (fronts_apart p q apart))
                  ((hold_append (fronts p) (part_of q) i).1 (n.1, (part_holds q i ahead stands.1).0 here)),
            ),
        λ m. let r : Matches text (rest p) i j = subst (λ r. Matches text r i j) (rest_apart p q apart) m.0 in
            let hold = (hold_append (fronts p) (part_of q) i).0 (subst (λ fs. Hold fs i) (fronts_apart p q apart) m.1) in
            let stands = rest_anchored p i j at r in
            let here : Matches text q i i = (part_holds q i ahead stands.1).1 hold.1 in (
              j,
              (first j).1 (r, hold.0),
              subst (λ k. Matches text q k j) stands.0 (subst (λ k. Matches text q i k) stands.0 here),
            ),
      )

  -- each pattern does so
  by_parts : (p : MarkedPattern) (i j : ℕ) → ByParts p i j
  by_parts empty i j = (λ m. (m, tt), λ m. m.0)
  by_parts (class b n rs) i j = (λ m. (m, tt), λ m. m.0)
  by_parts (look l) i j = (λ m. (m, tt), λ m. m.0)
  by_parts (cat p q) i j = by_parts_cat p q i j (λ k. by_parts p i k) (is_apart_behind (lead p) q) refl
  by_parts (alt p q) i j = (λ m. (m, tt), λ m. m.0)
  by_parts (star p) i j = (λ m. (m, tt), λ m. m.0)
  by_parts (plus p) i j = (λ m. (m, tt), λ m. m.0)
  by_parts (lookbehind n p) i j = (λ m. (m, tt), λ m. m.0)
  by_parts (lookahead n p) i j = (λ m. (m, tt), λ m. m.0)

  -- a place in the text before which no character stands is its beginning
  first_place : (i : ℕ) → i ≤ length text → is_edge (before text i) ≡ true → i ≡ 0
  first_place zero h e = refl
  first_place (suc k) h e =
      let there : slice_get text k ≡ Some (get_or text k 0) = slice_get-get_or text k 0 (omega (arith, h)) in
      absurd (true≢false (sym e ∙ ap is_edge (before_next text k ∙ there)))

  -- each part begins with `^`
  abbrev Begin : List Part → Type 0
  Begin [] = ⊤
  Begin (x ∷ xs) = ((q : MarkedPattern) × (x.pattern ≡ cat (look start) q)) × Begin xs

  -- so do those of two lists
  begin_append : (xs ys : List Part) → Begin xs → Begin ys → Begin (xs ++ ys)
  begin_append [] ys u w = w
  begin_append (x ∷ xs) ys u w = (u.0, begin_append xs ys u.1 w)

  -- a term that is a part begins so
  part_begins : (q : MarkedPattern) → Begin (part_of q)
  part_begins empty = tt
  part_begins (class b n rs) = tt
  part_begins (look l) = tt
  part_begins (cat p q) = tt
  part_begins (alt p q) = tt
  part_begins (star p) = tt
  part_begins (plus p) = tt
  part_begins (lookbehind n p) = tt
  part_begins (lookahead n p) = ((p, refl), tt)

  -- and so does each part of a pattern
  fronts_begin : (p : MarkedPattern) → Begin (fronts p)
  fronts_begin empty = tt
  fronts_begin (class b n rs) = tt
  fronts_begin (look l) = tt
  fronts_begin (cat p q) = begin_append (fronts p) _ (fronts_begin p) (by_test (is_apart_behind (lead p) q))
    where
      by_test : (b : Bool) → Begin (if b then part_of q else [])
      by_test true = part_begins q
      by_test false = tt
  fronts_begin (alt p q) = tt
  fronts_begin (star p) = tt
  fronts_begin (plus p) = tt
  fronts_begin (lookbehind n p) = tt
  fronts_begin (lookahead n p) = tt

  -- what begins with `^` is found exactly where it matches from the beginning on
  found_at_start : (p q : MarkedPattern) → p ≡ cat (look start) q → ((k : ℕ) × Matches text p 0 k) ↔ Found p text
  found_at_start p q is = (
    λ m. (0, m.0, omega arith, m.1),
    λ f. let m : Matches text (cat (look start) q) f.0 f.1 = subst (λ p. Matches text p f.0 f.1) is f.3 in
        let first : f.0 ≡ 0 = first_place f.0 f.2 m.1.0 in
        (f.1, subst (λ k. Matches text p k f.1) first f.3),
  )

  -- so parts that do hold at the beginning exactly where they are found, or are not
  all_found : (xs : List Part) → Begin xs → Hold xs 0 ↔ AreFound xs text
  all_found [] w = (λ h. tt, λ h. tt)
  all_found (x ∷ xs) w =
      let more = all_found xs w.1 in
      let same = found_at_start x.pattern w.0.0 w.0.1 in
      let back : Found x.pattern text ↔ ((k : ℕ) × Matches text x.pattern 0 k) = (same.1, same.0) in (
        λ h. (unless_same x.negated _ _ same h.0, more.0 h.1),
        λ h. (unless_same x.negated _ _ back h.0, more.1 h.1),
      )

  -- the rest of what has such parts matches from the beginning alone
  abbrev IsAnchored : MarkedPattern → ℕ → Type 0
  IsAnchored p i = (fronts p ≡ []) ⊎ (is_edge (before text i) ≡ true)

  -- of two terms, of which the second is no part
  anchored_with : (p q : MarkedPattern) (i : ℕ) → is_apart_behind (lead p) q ≡ false → IsAnchored p i → IsAnchored (cat p q) i
  anchored_with p q i with (inl none) = inl (fronts_with p q with ∙ none)
  anchored_with p q i with (inr edge) = inr edge

  -- of two terms, where that is so of the first: by whether the second is a part of its own
  anchored_cat : (p q : MarkedPattern) (i j : ℕ) (first : (k : ℕ) → Matches text (rest p) i k → IsAnchored p i) (b : Bool)
      → is_apart_behind (lead p) q ≡ b → Matches text (rest (cat p q)) i j → IsAnchored (cat p q) i
  anchored_cat p q i j first true apart m =
      inr (rest_anchored p i j (anchors (lead p) q apart) (subst (λ r. Matches text r i j) (rest_apart p q apart) m)).1
  anchored_cat p q i j first false with m =
      let n : Matches text (cat (rest p) q) i j = subst (λ r. Matches text r i j) (rest_with p q with) m in
      anchored_with p q i with (first n.0 n.1)

  -- of each pattern
  anchored_by_parts : (p : MarkedPattern) (i j : ℕ) → Matches text (rest p) i j → IsAnchored p i
  anchored_by_parts empty i j m = inl refl
  anchored_by_parts (class b n rs) i j m = inl refl
  anchored_by_parts (look l) i j m = inl refl
  anchored_by_parts (cat p q) i j m = anchored_cat p q i j (λ k. anchored_by_parts p i k) (is_apart_behind (lead p) q) refl m
  anchored_by_parts (alt p q) i j m = inl refl
  anchored_by_parts (star p) i j m = inl refl
  anchored_by_parts (plus p) i j m = inl refl
  anchored_by_parts (lookbehind n p) i j m = inl refl
  anchored_by_parts (lookahead n p) i j m = inl refl

  -- so from where the rest matches, the parts of lookaheads hold exactly where they are found, or are not
  fronts_found : (p : MarkedPattern) (i j : ℕ) → i ≤ length text → Matches text (rest p) i j → Hold (fronts p) i ↔ AreFound (fronts p) text
  fronts_found p i j h m = by_anchor (anchored_by_parts p i j m)
    where
      by_anchor : (fronts p ≡ []) ⊎ (is_edge (before text i) ≡ true) → Hold (fronts p) i ↔ AreFound (fronts p) text
      by_anchor (inl none) = subst (λ fs. Hold fs i ↔ AreFound fs text) (sym none) (λ h. tt, λ h. tt)
      by_anchor (inr edge) =
          subst (λ (k : ℕ). Hold (fronts p) k ↔ AreFound (fronts p) text) (sym (first_place i h edge)) (all_found (fronts p) (fronts_begin p))

  -- a pattern is found exactly where all its parts are, or are not, as each is to be
  pub found_parts : (p : MarkedPattern) → Found p text ↔ AreFound (parts p) text
  found_parts p = (
    λ f. let m = (by_parts p f.0 f.1).0 f.3 in
        ((f.0, f.1, f.2, m.0), (fronts_found p f.0 f.1 f.2 m.0).0 m.1),
    λ a. let f = a.0 in
        (f.0, f.1, f.2, (by_parts p f.0 f.1).1 (f.3, (fronts_found p f.0 f.1 f.2 f.3).1 a.1)),
  )

  -- what is true of both is so exactly where each is
  both_true : (a b : Bool) (A B : Type 0) → (a ≡ true) ↔ A → IsTrue b ↔ B → IsTrue (a && b) ↔ (A × B)
  both_true true b A B e f = (λ h. (e.0 refl, f.0 h), λ h. f.1 h.1)
  both_true false b A B e f = (λ h. absurd (true≢false (sym h)), λ h. absurd (true≢false (sym (e.1 h.0))))

  -- of parts without marks, the searches come to whether all are found, or are not
  pub parts_are_exact : (xs : List Part) → are_parts_clean xs ≡ true → IsTrue (are_parts_found xs text) ↔ AreFound xs text
  parts_are_exact [] c = (λ h. tt, λ h. refl)
  parts_are_exact (x ∷ xs) c =
      both_true (differ x.negated (search x.pattern text)) (are_parts_found xs text) _ _
      (told_unless x.negated (search x.pattern text) (Found x.pattern text)
      (both (found_in_right (target x.pattern) (sought_in x.pattern text) (and_left (is_unmarked (target x.pattern)) _ c)) (found_sought x.pattern text)))
      (parts_are_exact xs (and_right (is_unmarked (target x.pattern)) _ c))
    where
      -- two equivalences, one behind the other, are one
      both : {A B C : Type 0} → A ↔ B → B ↔ C → A ↔ C
      both e f = (λ a. f.0 (e.0 a), λ c. e.1 (f.1 c))
