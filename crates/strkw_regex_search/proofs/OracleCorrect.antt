-- A search whose marks are told by rows of answers comes to whether the pattern is found, where those rows are right.
use Rattle.std.proofs.Common.{◌≡◌, ◌⊎◌, ◌↔◌, ℕ, zero, suc, ◌+◌, ◌-◌, ◌<◌, ◌≤◌, get_or, Bool, true, false, not, List, [], ◌∷◌, ◌++◌, length, reverse}
use Rattle.std.proofs.Common.{drop, drop-cons, length-drop, length-append, append-nil, Option, Some, None, slice_get, IsTrue, refl, sym, ap, subst}
use Rattle.std.proofs.Common.{◌∙◌, inl, inr, ⊎_elim, true≢false, is_some, arith}
use Rattle.std.proofs.lemmas.List.{length-reverse, reverse-reverse, append_assoc}
use Rattle.std.proofs.lemmas.Option.{slice_get-get_or, slice_get_past, slice_get_within}
use Rattle.strkw_regex_core.specs.machine.MarkedPattern.{MarkedPattern, empty, class, look, cat, alt, star, plus, lookbehind, lookahead}
use Rattle.strkw_regex_core.specs.Meaning.{before}
use Rattle.strkw_regex_core.specs.machine.MarkedMeaning.{Matches, Found}
use Rattle.strkw_regex_core.specs.machine.Mirror.{along}
use Rattle.strkw_regex_search.specs.machine.OraclePasses.{OracleQuery, IsToldAs, AreToldAs, IsAside, AreAsides}
use Rattle.strkw_regex_core.specs.machine.Positions.{leaves, step, is_unmarked}
use Rattle.strkw_regex_search.specs.machine.Seeking.{Seeking, row_answer, ends_from, ends_within, row_of, rows_behind, is_sought}
use Rattle.strkw_regex_core.specs.machine.Sight.{depth, marked_at, ends_at, begins_at}
use Rattle.strkw_regex_search.specs.machine.OracleMarks.{told, aside, spots, told_by}
use Rattle.strkw_regex_search.proofs.Answers.{same_answer}
use Rattle.strkw_regex_core.proofs.Depths.{less_left, less_right}
use Rattle.strkw_regex_core.proofs.Mirrors.{stays, begins_turned}
use Rattle.strkw_regex_core.proofs.Search.{before_next}
use Rattle.strkw_regex_core.proofs.LookaheadTruth.{ends_right, begins_right}
use Rattle.strkw_regex_search.proofs.OracleMarks.{told_leaves, told_step, step_spots, AreSaid, all_told}
use Rattle.strkw_regex_core.proofs.Steps.{forwards}
use Rattle.strkw_charset.proofs.Booleans.{and_left, and_right, or_case, or_left, or_right}
use Rattle.strkw_charset.proofs.Lists.{some_same}

-- lists that are the same begin with the same
first_of_cons : (c d : ℕ) (xs ys : List ℕ) → c ∷ xs ≡ d ∷ ys → c ≡ d
first_of_cons c d xs ys e = ap (λ (l : List ℕ). get_or l 0 c) e

-- and go on with the same
rest_of_cons : (c d : ℕ) (xs ys : List ℕ) → c ∷ xs ≡ d ∷ ys → xs ≡ ys
rest_of_cons c d xs ys e = ap (drop 1) e

-- Here the rows say at each place what `see` says of the lookaheads.
module _ (rows : List (List Bool)) (ts : List (Option ℕ)) (text : List ℕ) (p : MarkedPattern) (see : ℕ → MarkedPattern → Bool)
    (said_is : (i : ℕ) → i ≤ length text → AreSaid (row_answer rows (length text - i)) (see i) ts (spots p)) where
  -- lookaheads stay what they are
  spots_at : (i : ℕ) → spots (marked_at see text p i) ≡ spots p
  spots_at zero = refl
  spots_at (suc i) = step_spots (see i) (before text i) (slice_get text i) (marked_at see text p i) true ∙ spots_at i

  -- at a place, with so many characters still to come, the rows tell each
  told_at : (i ahead : ℕ) → i + ahead ≡ length text
      → told_by (row_answer rows ahead) ts (aside (marked_at see text p i)) ≡ told (see i) (marked_at see text p i)
  told_at i ahead e =
      let rest : length text - i ≡ ahead = omega (arith, e) in
      all_told (row_answer rows ahead) (see i) (marked_at see text p i) ts
      (subst (λ (ss : List (Option MarkedPattern)). AreSaid (row_answer rows ahead) (see i) ts ss) (sym (spots_at i))
      (subst (λ (n : ℕ). AreSaid (row_answer rows n) (see i) ts (spots p)) rest (said_is i (omega (arith, e)))))

  module _ (i ahead : ℕ) (e : i + ahead ≡ length text) (last next : Option ℕ) (before_is : last ≡ before text i) (behind_is : next ≡ slice_get text i) where
    -- so the search ends here where the pattern does
    ends_here : leaves last next (told_by (row_answer rows ahead) ts (aside (marked_at see text p i))) true ≡ ends_at see text p i
    ends_here =
        ap (λ (q : MarkedPattern). leaves last next q true) (told_at i ahead e) ∙ told_leaves (see i) last next (marked_at see text p i) true
        ∙ rw (before_is, behind_is) refl

    -- and goes on with its marks at the next place
    goes_on_here : step last next (told_by (row_answer rows ahead) ts (aside (marked_at see text p i))) true ≡ aside (marked_at see text p (suc i))
    goes_on_here =
        ap (λ (q : MarkedPattern). step last next q true) (told_at i ahead e) ∙ told_step (see i) last next (marked_at see text p i) true
        ∙ rw (before_is, behind_is) refl

  -- what stands at a place of the text, and from the next on
  module _ (i c : ℕ) (cs : List ℕ) (e : drop i text ≡ c ∷ cs) where
    inside : i < length text
    inside = omega (arith, sym (length-drop i text) ∙ ap length e)

    so_far : i + suc (length cs) ≡ length text
    so_far = omega (arith, sym (length-drop i text) ∙ ap length e, inside)

    here : Some c ≡ slice_get text i
    here =
        let shape = sym e ∙ drop-cons text i c inside in
        ap Some (first_of_cons _ _ _ _ shape) ∙ sym (slice_get-get_or text i c inside)

    behind : drop (suc i) text ≡ cs
    behind = sym (rest_of_cons _ _ _ _ (sym e ∙ drop-cons text i c inside))

    passed : Some c ≡ before text (suc i)
    passed = here ∙ sym (before_next text i)

  -- at the end no character stands
  at_end : (i : ℕ) → i ≤ length text → drop i text ≡ [] → i + 0 ≡ length text
  at_end i h e = omega (arith, h, sym (length-drop i text) ∙ ap length e)

  -- so none is found there
  none_there : (i : ℕ) → i ≤ length text → drop i text ≡ [] → None ≡ slice_get text i
  none_there i h e = sym (slice_get_past text i (omega (arith, at_end i h e)))

  -- of two places in order the second is the first, or lies behind it
  same_or_behind : (i j : ℕ) → i ≤ j → (j ≡ i) ⊎ (suc i ≤ j)
  same_or_behind i j h = grind arith

  -- the row of a search from a place on has the answer of each place
  pub row_from : (cs : List ℕ) (i : ℕ) (last : Option ℕ) → last ≡ before text i → drop i text ≡ cs → i ≤ length text
      → (j : ℕ) → i ≤ j → j ≤ length text
      → get_or (ends_from rows ts (aside (marked_at see text p i)) last cs) (j - i) false ≡ ends_at see text p j
  row_from [] i last b e h j w v =
      let whole = at_end i h e in
      let same : j ≡ i = omega (arith, w, v, whole) in
      let first : j - i ≡ 0 = omega (arith, same) in
      ap (λ (n : ℕ). get_or (ends_from rows ts (aside (marked_at see text p i)) last []) n false) first
      ∙ ends_here i 0 whole last None b (none_there i h e) ∙ ap (ends_at see text p) (sym same)
  row_from (c ∷ cs) i last b e h j w v =
      let row = ends_from rows ts (aside (marked_at see text p i)) last (c ∷ cs) in
      ⊎_elim
      (λ same.
      let first : j - i ≡ 0 = omega (arith, same) in
      ap (λ (n : ℕ). get_or row n false) first ∙ ends_here i (suc (length cs)) (so_far i c cs e) last (Some c) b (here i c cs e)
      ∙ ap (ends_at see text p) (sym same))
      (λ more.
      let next : j - i ≡ suc (j - suc i) = omega (arith, more) in
      ap (λ (n : ℕ). get_or row n false) next
      ∙ ap (λ (r : MarkedPattern). get_or (ends_from rows ts r (Some c) cs) (j - suc i) false)
      (goes_on_here i (suc (length cs)) (so_far i c cs e) last (Some c) b (here i c cs e))
      ∙ row_from cs (suc i) (Some c) (passed i c cs e) (behind i c cs e) (omega (arith, inside i c cs e)) j more v)
      (same_or_behind i j w)

  -- it ends at some place from one on
  abbrev pub EndsFrom : ℕ → Type 0
  EndsFrom i = (j : ℕ) × (i ≤ j) × (j ≤ length text) × (ends_at see text p j ≡ true)

  -- and the search from there is true exactly where it does
  pub within_from : (cs : List ℕ) (i : ℕ) (last : Option ℕ) → last ≡ before text i → drop i text ≡ cs → i ≤ length text
      → (ends_within rows ts (aside (marked_at see text p i)) last cs ≡ true) ↔ EndsFrom i
  within_from [] i last b e h =
      let whole = at_end i h e in
      let is = ends_here i 0 whole last None b (none_there i h e) in (
        λ t. (i, omega arith, h, sym is ∙ t),
        λ f. let same : f.0 ≡ i = omega (arith, f.1, f.2, whole) in is ∙ ap (ends_at see text p) (sym same) ∙ f.3,
      )
  within_from (c ∷ cs) i last b e h =
      let q = told_by (row_answer rows (suc (length cs))) ts (aside (marked_at see text p i)) in
      let one = leaves last (Some c) q true in
      let more = ends_within rows ts (step last (Some c) q true) (Some c) cs in
      let is : one ≡ ends_at see text p i = ends_here i (suc (length cs)) (so_far i c cs e) last (Some c) b (here i c cs e) in
      let rest : (more ≡ true) ↔ EndsFrom (suc i) =
      subst (λ (r : MarkedPattern). (ends_within rows ts r (Some c) cs ≡ true) ↔ EndsFrom (suc i))
      (sym (goes_on_here i (suc (length cs)) (so_far i c cs e) last (Some c) b (here i c cs e)))
      (within_from cs (suc i) (Some c) (passed i c cs e) (behind i c cs e) (omega (arith, inside i c cs e))) in (
        λ t. ⊎_elim (λ now. (i, omega arith, h, sym is ∙ now)) (λ later. let f = rest.0 later in (f.0, omega (arith, f.1), f.2, f.3)) (or_case one more t),
        λ f. ⊎_elim (λ same. or_left _ _ (is ∙ ap (ends_at see text p) (sym same) ∙ f.3))
            (λ behind. or_right one _ (rest.1 (f.0, behind, f.2, f.3))) (same_or_behind i f.0 f.1),
      )

-- Rows that are right for quests.
-- each says of a pattern at which places it ends
abbrev pub AreRows : List ℕ → List (List Bool) → List OracleQuery → Type 0
AreRows chars rows fs = (k : ℕ) (f : OracleQuery) → slice_get fs k ≡ Some f → (j : ℕ) → j ≤ length chars
    → (get_or (get_or rows k []) j false ≡ true) ↔ ((m : ℕ) × Matches (along f.backward chars) f.pattern m j)

-- what lookaheads look for has no marks, and fewer lookarounds in one another than n
abbrev AreFew : ℕ → List (Option MarkedPattern) → Type 0
AreFew n [] = Unit {0}
AreFew n (None ∷ ss) = AreFew n ss
AreFew n (Some r ∷ ss) = (is_unmarked r ≡ true) × (depth r < n) × AreFew n ss

-- of two lists, where it is so of both
few_append : (n : ℕ) (ss rs : List (Option MarkedPattern)) → AreFew n ss → AreFew n rs → AreFew n (ss ++ rs)
few_append n [] rs u w = w
few_append n (None ∷ ss) rs u w = few_append n ss rs u w
few_append n (Some r ∷ ss) rs u w = (u.0, u.1, few_append n ss rs u.2 w)

-- it is so of the lookaheads of a pattern
few_spots : (n : ℕ) (p : MarkedPattern) → is_unmarked p ≡ true → depth p ≤ n → AreFew n (spots p)
few_spots n empty h w = tt
few_spots n (class m b rs) h w = tt
few_spots n (look l) h w = tt
few_spots n (cat p q) h w =
    few_append n (spots p) (spots q) (few_spots n p (and_left _ _ h) (less_left (depth p) (depth q) n w))
    (few_spots n q (and_right (is_unmarked p) _ h) (less_right (depth p) (depth q) n w))
few_spots n (alt p q) h w =
    few_append n (spots p) (spots q) (few_spots n p (and_left _ _ h) (less_left (depth p) (depth q) n w))
    (few_spots n q (and_right (is_unmarked p) _ h) (less_right (depth p) (depth q) n w))
few_spots n (star p) h w = few_spots n p h w
few_spots n (plus p) h w = few_spots n p h w
few_spots n (lookbehind b p) h w = few_spots n p h (omega (arith, w))
few_spots n (lookahead b p) h w = (h, omega (arith, w), tt)

-- a text from its end on has as many characters
pub along_length : (b : Bool) (chars : List ℕ) → length (along b chars) ≡ length chars
along_length false chars = refl
along_length true chars = length-reverse chars

-- from the other end it is turned round
other_way : (b : Bool) (chars : List ℕ) → along (not b) chars ≡ reverse (along b chars)
other_way false chars = refl
other_way true chars = sym (reverse-reverse chars)

module _ (chars : List ℕ) (rows : List (List Bool)) (fs : List OracleQuery) (right : AreRows chars rows fs) (b : Bool) (n : ℕ) where
  -- the text from the end that the search begins at
  abbrev T : List ℕ
  T = along b chars

  -- the answer of a row is what is said of the lookahead that it is for
  one_said : (k : ℕ) (r : MarkedPattern) → IsToldAs fs b (Some k) (Some r) → is_unmarked r ≡ true → depth r < n → (i : ℕ) → i ≤ length chars
      → row_answer rows (length chars - i) k ≡ begins_at n T i r
  one_said k r (f, at, way, alike) bare few i h =
      let long = along_length b chars in
      let there : along f.backward chars ≡ reverse T = ap (λ (c : Bool). along c chars) way ∙ other_way b chars in
      let place : length T - i ≡ length chars - i = omega (arith, long) in
      let row = right k f at (length chars - i) (omega arith) in
      let mirrored = begins_turned T r i (omega (arith, h, long)) in
      let turned : ((m : ℕ) × Matches (along f.backward chars) f.pattern m (length chars - i)) ↔ ((m : ℕ) × Matches T r i m) = (
        λ m. mirrored.0 (
          m.0,
          (alike.meaning (reverse T) m.0 (length T - i)).0
              (subst (λ (z : ℕ). Matches (reverse T) f.pattern m.0 z) (sym place)
              (subst (λ (t : List ℕ). Matches t f.pattern m.0 (length chars - i)) there m.1)),
        ),
        λ m. let a = mirrored.1 m in (
          a.0,
          subst (λ (t : List ℕ). Matches t f.pattern a.0 (length chars - i)) (sym there)
              (subst (λ (z : ℕ). Matches (reverse T) f.pattern a.0 z) place ((alike.meaning (reverse T) a.0 (length T - i)).1 a.1)),
        ),
      ) in
      let seen = begins_right n T r bare few i (omega (arith, h, long)) in
      same_answer ((m : ℕ) × Matches T r i m) _ _ (λ x. turned.0 (row.0 x), λ m. row.1 (turned.1 m)) seen

  -- and so of each
  pub all_said : (ts : List (Option ℕ)) (ss : List (Option MarkedPattern)) → AreToldAs fs b ts ss → AreFew n ss → (i : ℕ) → i ≤ length chars
      → AreSaid (row_answer rows (length chars - i)) (begins_at n T i) ts ss
  all_said [] [] u w i h = tt
  all_said [] (s ∷ ss) u w i h = absurd u
  all_said (t ∷ ts) [] u w i h = absurd u
  all_said (None ∷ ts) (None ∷ ss) u w i h = (refl, all_said ts ss u.1 w i h)
  all_said (None ∷ ts) (Some r ∷ ss) u w i h = absurd u.0
  all_said (Some k ∷ ts) (None ∷ ss) u w i h = absurd u.0
  all_said (Some k ∷ ts) (Some r ∷ ss) u w i h = (one_said k r u.0 w.0 w.1 i h, all_said ts ss u.1 w.2 i h)

-- a quest put aside, whose lookaheads are told by rows that are right
module _ (chars : List ℕ) (fs : List OracleQuery) (x : Seeking) (f : OracleQuery) (is : IsAside fs x f) (rows : List (List Bool)) (right : AreRows chars rows fs) where
  -- the text from the end that the quest begins at
  abbrev U : List ℕ
  U = along f.backward chars

  -- what the text says of a lookahead at a place
  abbrev see : ℕ → MarkedPattern → Bool
  see = begins_at (depth f.pattern) U

  -- what the rows say of its lookaheads is so
  saying : (i : ℕ) → i ≤ length U → AreSaid (row_answer rows (length U - i)) (see i) x.told (spots f.pattern)
  saying i h =
      let long = along_length f.backward chars in
      subst (λ (n : ℕ). AreSaid (row_answer rows (n - i)) (see i) x.told (spots f.pattern)) (sym long)
      (all_said chars rows fs right f.backward (depth f.pattern) x.told (spots f.pattern) is.told
      (few_spots (depth f.pattern) f.pattern is.bare (omega arith)) i (omega (arith, h, long)))

  -- what is said of lookarounds is so
  ends_so : (j : ℕ) → j ≤ length U → (ends_at see U f.pattern j ≡ true) ↔ ((m : ℕ) × Matches U f.pattern m j)
  ends_so =
      ends_right (begins_at (depth f.pattern) U) U (depth f.pattern) (λ r plain few. begins_right (depth f.pattern) U r plain few) f.pattern is.bare
      (omega arith)

  -- so its row is right
  row_right : (j : ℕ) → j ≤ length chars → (get_or (row_of rows chars x) j false ≡ true) ↔ ((m : ℕ) × Matches U f.pattern m j)
  row_right j h =
      let long = along_length f.backward chars in
      let within : j ≤ length U = omega (arith, h, long) in
      let first : j - 0 ≡ j = omega arith in
      let same : get_or (row_of rows chars x) j false ≡ ends_at see U f.pattern j =
      ap (λ (q : MarkedPattern). get_or (ends_from rows x.told q None (along x.backward chars)) j false) is.slotted
      ∙ ap (λ (b : Bool). get_or (ends_from rows x.told (aside f.pattern) None (along b chars)) j false) is.backward
      ∙ ap (λ (n : ℕ). get_or (ends_from rows x.told (aside f.pattern) None U) n false) (sym first)
      ∙ row_from rows x.told U f.pattern see saying U 0 None refl refl (omega arith) j (omega arith) within in
      let so = ends_so j within in
      (λ e. so.0 (sym same ∙ e), λ m. same ∙ so.1 m)

  -- and the search for it comes to whether it is found
  pub sought_right : (ends_within rows x.told x.pattern None (along x.backward chars) ≡ true) ↔ Found f.pattern U
  sought_right =
      let same : ends_within rows x.told x.pattern None (along x.backward chars) ≡ ends_within rows x.told (aside f.pattern) None U =
      ap (λ (q : MarkedPattern). ends_within rows x.told q None (along x.backward chars)) is.slotted
      ∙ ap (λ (b : Bool). ends_within rows x.told (aside f.pattern) None (along b chars)) is.backward in
      let within = within_from rows x.told U f.pattern see saying U 0 None refl refl (omega arith) in (
        λ e. let w = within.0 (sym same ∙ e) in let m = (ends_so w.0 w.2).0 w.3 in
            (m.0, w.0, omega (arith, forwards U f.pattern m.0 w.0 m.1, w.2), m.1),
        λ g. let inside = stays U f.pattern g.0 g.1 g.2 g.3 in
            same ∙ within.1 (g.1, omega arith, inside, (ends_so g.1 inside).1 (g.0, g.3)),
      )

-- rows one behind another
-- none is no option of something
none_some : {A : Type 0} {x : A} → None ≡ Some x → ⊥
none_some e = absurd (true≢false (sym (ap is_some e)))

-- of a list and one more, each is of the list, or is that one
at_last : {A : Type 0} (xs : List A) (x y : A) (k : ℕ) → slice_get (xs ++ (x ∷ [])) k ≡ Some y
    → (slice_get xs k ≡ Some y) ⊎ ((k ≡ length xs) × (x ≡ y))
at_last [] x y zero e = inr (refl, some_same x y e)
at_last [] x y (suc k) e = absurd (none_some e)
at_last (z ∷ xs) x y zero e = inl e
at_last (z ∷ xs) x y (suc k) e = ⊎_elim (λ early. inl early) (λ last. inr (ap suc last.0, last.1)) (at_last xs x y k e)

-- the row of a place before the last is there without it
early_row : (rows : List (List Bool)) (r : List Bool) (k : ℕ) → k < length rows → get_or (rows ++ (r ∷ [])) k [] ≡ get_or rows k []
early_row [] r k h = absurd (omega (arith, h))
early_row (s ∷ rows) r zero h = refl
early_row (s ∷ rows) r (suc k) h = early_row rows r k (omega (arith, h))

-- the row of the last place is the one that was added
last_row : (rows : List (List Bool)) (r : List Bool) (k : ℕ) → k ≡ length rows → get_or (rows ++ (r ∷ [])) k [] ≡ r
last_row [] r zero h = refl
last_row [] r (suc k) h = absurd (omega (arith, h))
last_row (s ∷ rows) r zero h = absurd (omega (arith, h))
last_row (s ∷ rows) r (suc k) h = last_row rows r k (omega (arith, h))

-- a row that is right, behind rows that are
-- is right at its place, as the others are at theirs
row_at : (chars : List ℕ) (rows : List (List Bool)) (fs : List OracleQuery) (r : List Bool) (g : OracleQuery) → AreRows chars rows fs → length rows ≡ length fs
    → ((j : ℕ) → j ≤ length chars → (get_or r j false ≡ true) ↔ ((m : ℕ) × Matches (along g.backward chars) g.pattern m j))
    → (k : ℕ) (f : OracleQuery) (j : ℕ) → j ≤ length chars → (slice_get fs k ≡ Some f) ⊎ ((k ≡ length fs) × (g ≡ f))
    → (get_or (get_or (rows ++ (r ∷ [])) k []) j false ≡ true) ↔ ((m : ℕ) × Matches (along f.backward chars) f.pattern m j)
row_at chars rows fs r g right long one k f j h (inl early) =
    subst (λ (row : List Bool). (get_or row j false ≡ true) ↔ ((m : ℕ) × Matches (along f.backward chars) f.pattern m j))
    (sym (early_row rows r k (omega (arith, long, slice_get_within fs k f early)))) (right k f early j h)
row_at chars rows fs r g right long one k f j h (inr (place, same)) =
    subst (λ (row : List Bool). (get_or row j false ≡ true) ↔ ((m : ℕ) × Matches (along f.backward chars) f.pattern m j))
    (sym (last_row rows r k (omega (arith, place, long))))
    (subst (λ (q : OracleQuery). (get_or r j false ≡ true) ↔ ((m : ℕ) × Matches (along q.backward chars) q.pattern m j)) same (one j h))

-- so all of them are
one_more_row : (chars : List ℕ) (rows : List (List Bool)) (fs : List OracleQuery) (r : List Bool) (g : OracleQuery) → AreRows chars rows fs
    → length rows ≡ length fs
    → ((j : ℕ) → j ≤ length chars → (get_or r j false ≡ true) ↔ ((m : ℕ) × Matches (along g.backward chars) g.pattern m j))
    → AreRows chars (rows ++ (r ∷ [])) (fs ++ (g ∷ []))
one_more_row chars rows fs r g right long one = λ k f at j h. row_at chars rows fs r g right long one k f j h (at_last fs g f k at)

-- so the rows of quests put aside, each told by those before it, are right
rows_right : (chars : List ℕ) (xs : List Seeking) (gs fs : List OracleQuery) (rows : List (List Bool)) → AreAsides fs xs gs → AreRows chars rows fs
    → length rows ≡ length fs → AreRows chars (rows_behind rows chars xs) (fs ++ gs)
rows_right chars [] [] fs rows u right long = subst (AreRows chars rows) (sym (append-nil fs)) right
rows_right chars [] (g ∷ gs) fs rows u right long = absurd u
rows_right chars (x ∷ xs) [] fs rows u right long = absurd u
rows_right chars (x ∷ xs) (g ∷ gs) fs rows u right long =
    let row = row_of rows chars x in
    subst (AreRows chars (rows_behind (rows ++ (row ∷ [])) chars xs)) (append_assoc fs (g ∷ []) gs)
    (rows_right chars xs gs (fs ++ (g ∷ [])) (rows ++ (row ∷ [])) u.1
    (one_more_row chars rows fs row g right long (row_right chars fs x g u.0 rows right))
    (length-append rows (row ∷ []) ∙ ap (λ (n : ℕ). n + 1) long ∙ sym (length-append fs (g ∷ []))))

-- with no quests there is nothing to be right
no_rows : (chars : List ℕ) → AreRows chars [] []
no_rows chars = λ k f at. absurd (none_some at)

-- and what is sought last, told by them, comes to whether the pattern is found
pub is_sought_right : (chars : List ℕ) (xs : List Seeking) (gs : List OracleQuery) (x : Seeking) (f : OracleQuery) → AreAsides [] xs gs → IsAside gs x f
    → IsTrue (is_sought xs x chars) ↔ Found f.pattern (along f.backward chars)
is_sought_right chars xs gs x f are is =
    sought_right chars gs x f is (rows_behind [] chars xs) (rows_right chars xs gs [] [] are (no_rows chars) refl)
