-- Classes as the recogniser takes them: what of one has been read, and what comes of one more atom of it.
use Rattle.std.proofs.Common.{◌≡◌, inl, inr, ℕ, Bool, true, false, ◌&&◌, List, [], ◌∷◌, ◌++◌, Option, None, refl, sym, ap, subst, ◌∙◌, append_assoc, true≢false}
use Rattle.std.proofs.lemmas.List.{append-nil}
use Rattle.std.specs.Str.{byte}
use Rattle.std.specs.Prelude.{option_map}
use Rattle.strkw_charset.specs.declared.tree.CharSet.{CharSet}
use Rattle.strkw_regex_grammar.specs.Codes.{unit_code, pair_code, is_lead, is_trail, hex_number}
use Rattle.strkw_regex_grammar.specs.Classes.{ClassAtom, hyphen, class_coded, Ranges, with_one, with_range, class_atom_spelling, ranges_spelling}
use Rattle.strkw_regex_grammar.specs.Classes.{negation_spelling, is_hyphen}
use Rattle.strkw_regex_grammar.specs.Regex.{IsClassItem, is_lead_item, is_trail_item, MayStandBehind, AreItems, bracketed, leaf_spelling, IsLeaf}
use Rattle.strkw_regex_grammar.specs.machine.CodeMakers.{pair_value}
use Rattle.strkw_regex_grammar.specs.machine.Lexemes.{code_item, lead_item, trail_item, item_of, range_sets, keep, ranges_sets, class_sets}
use Rattle.strkw_regex_grammar.specs.machine.Lexing.{Pending, fresh, one, is_range, pending_if, took_behind, took_dashed, took_ranged, sets_behind, sets_dashed}
use Rattle.strkw_regex_grammar.specs.machine.Lexing.{sets_ranged, with_item, with_dash, may_close, sets_closed}
use Rattle.strkw_regex_grammar.proofs.LexerItems.{Tail, no_tail, one_tail, dash_tail, range_tail, lead_value, pending_of, IsTail, class_text}
use Rattle.strkw_regex_grammar.proofs.LexerItems.{class_with, class_at, lead_sets, keep_none}
use Rattle.strkw_regex_grammar.proofs.LexerItems.{ClassText, Any, MakesClass, same_range, IsLead, item_by, LeadView, lead_view, TrailView, trail_view}
use Rattle.strkw_regex_grammar.proofs.LexerItems.{and_false, pair_is_item, pair_stands}

-- the atom suits what is pending
abbrev pub Suits : (ClassAtom → Type 0) → Tail → ClassAtom → Type 0
Suits A no_tail y = A y
Suits A (one_tail x) y = is_hyphen y ≡ false
Suits A (dash_tail x) y = Unit {0}
Suits A (range_tail x z) y = Unit {0}

-- an atom with A that is no `-` suits whatever is pending
pub suits : (A : ClassAtom → Type 0) (t : Tail) (y : ClassAtom) → A y → is_hyphen y ≡ false → Suits A t y
suits A no_tail y h w = h
suits A (one_tail x) y h w = w
suits A (dash_tail x) y h w = tt
suits A (range_tail x z) y h w = tt

-- what a leading surrogate is for the lexer
pub lead_is : (ds : List ℕ) → is_lead (hex_number ds) ≡ true → item_of (class_coded (unit_code ds)) ≡ lead_item (hex_number ds)
lead_is ds h = ap (λ a. item_by (hex_number ds) a (is_trail (hex_number ds))) h

-- and a trailing one
pub trail_is : (ds : List ℕ) → is_lead (hex_number ds) ≡ false → is_trail (hex_number ds) ≡ true
    → item_of (class_coded (unit_code ds)) ≡ trail_item (hex_number ds)
trail_is ds h k = ap (λ a. item_by (hex_number ds) a (is_trail (hex_number ds))) h ∙ ap (item_by (hex_number ds) false) k

-- a leading surrogate is what the lexer holds
pub value_is : (z : ClassAtom) → LeadView z → is_lead_item z ≡ true → item_of z ≡ lead_item (lead_value z)
value_is z (inl v) l = ap item_of v.1 ∙ lead_is v.0 v.2 ∙ ap (λ u. lead_item (lead_value u)) (sym v.1)
value_is z (inr v) l = absurd (true≢false (sym l ∙ v.0))

-- `\u` with four digits, as an atom of a class
abbrev unit : List ℕ → ClassAtom
unit ds = class_coded (unit_code ds)

-- and two of them, which are one
abbrev pair : List ℕ → List ℕ → ClassAtom
pair ds es = class_coded (pair_code ds es)

module _ (b n : Bool) (r : Ranges) (items : AreItems n r) where
  -- what has been read of the class, but for what is pending
  abbrev front : List ℕ
  front = negation_spelling n ++ ranges_spelling r

  -- with one atom more
  one_front : (x : ClassAtom) → negation_spelling n ++ (ranges_spelling r ++ class_atom_spelling x) ≡ front ++ class_atom_spelling x
  one_front x = sym (append_assoc (negation_spelling n) (ranges_spelling r) (class_atom_spelling x))

  -- and with one range more
  range_front : (x y : ClassAtom)
      → negation_spelling n ++ ((ranges_spelling r ++ class_atom_spelling x) ++ byte "-" ∷ class_atom_spelling y)
      ≡ front ++ (class_atom_spelling x ++ byte "-" ∷ class_atom_spelling y)
  range_front x y =
      ap (λ z. negation_spelling n ++ z) (append_assoc (ranges_spelling r) (class_atom_spelling x) (byte "-" ∷ class_atom_spelling y))
      ∙ sym (append_assoc (negation_spelling n) (ranges_spelling r) (class_atom_spelling x ++ byte "-" ∷ class_atom_spelling y))

  -- the `-` of a range may be put to what stands behind it
  dash_front : (x : ClassAtom) (u : List ℕ) → (front ++ (class_atom_spelling x ++ byte "-" ∷ [])) ++ u ≡ front ++ (class_atom_spelling x ++ byte "-" ∷ u)
  dash_front x u =
      append_assoc front (class_atom_spelling x ++ byte "-" ∷ []) u ∙ ap (λ z. front ++ z) (append_assoc (class_atom_spelling x) (byte "-" ∷ []) u)

  -- the sets so far
  abbrev kept : Option (List CharSet)
  kept = ranges_sets b r

  -- an atom behind one that it does not belong to
  one_more : (x y : ClassAtom) → IsClassItem x × MayStandBehind n r x → IsClassItem y → is_hyphen y ≡ false
      → (is_lead_item x && is_trail_item y) ≡ false
      → ClassText b Any (class_at b n (with_one r x) (one_tail y)) ((front ++ class_atom_spelling x) ++ class_atom_spelling y)
  one_more x y h k w l =
      (n, with_one r x, one_tail y, (items, h.0, h.1), (k, (w, l)), refl, ap (λ z. z ++ class_atom_spelling y) (sym (one_front x)))

  -- two surrogates, one behind the other
  pair_made : (ds es : List ℕ) → IsClassItem (unit ds) → IsClassItem (unit es) → is_lead (hex_number ds) ≡ true → is_trail (hex_number es) ≡ true
      → ClassText b Any (class_at b n r (one_tail (pair ds es))) ((front ++ class_atom_spelling (unit ds)) ++ class_atom_spelling (unit es))
  pair_made ds es h k l m = (
    n,
    r,
    one_tail (pair ds es),
    items,
    (pair_is_item ds es h k l m, pair_stands n r ds es),
    refl,
    append_assoc front (class_atom_spelling (unit ds)) (class_atom_spelling (unit es)),
  )

  -- what comes of an atom behind another, as it has been read
  abbrev TookOne : ClassAtom → ClassAtom → Type 0
  TookOne x y =
      ClassText b Any (class_with n (sets_behind (item_of x) (item_of y) kept) (took_behind (item_of x) (item_of y)))
      ((front ++ class_atom_spelling x) ++ class_atom_spelling y)

  -- where these are its sets and what is pending
  took_so : (x y : ClassAtom) (o : Option (List CharSet)) (p : Pending) → sets_behind (item_of x) (item_of y) kept ≡ o
      → took_behind (item_of x) (item_of y) ≡ p → ClassText b Any (class_with n o p) ((front ++ class_atom_spelling x) ++ class_atom_spelling y)
      → TookOne x y
  took_so x y o p e k h =
      subst (λ z. ClassText b Any z ((front ++ class_atom_spelling x) ++ class_atom_spelling y))
      (ap (λ z. class_with n z p) (sym e) ∙ ap (class_with n (sets_behind (item_of x) (item_of y) kept)) (sym k)) h

  -- behind a leading surrogate, a trailing one
  took_pair : (ds es : List ℕ) → IsClassItem (unit ds) → IsClassItem (unit es) → is_lead (hex_number ds) ≡ true → is_trail (hex_number es) ≡ true
      → is_lead (hex_number es) ≡ false → TookOne (unit ds) (unit es)
  took_pair ds es h k l m w =
      let lead = lead_is ds l in
      let trail = trail_is es w m in
      took_so (unit ds) (unit es) kept (one (code_item (pair_value (hex_number ds) (hex_number es))))
      (ap (λ i. sets_behind i (item_of (unit es)) kept) lead ∙ ap (λ i. sets_behind (lead_item (hex_number ds)) i kept) trail)
      (ap (λ i. took_behind i (item_of (unit es))) lead ∙ ap (took_behind (lead_item (hex_number ds))) trail)
      (pair_made ds es h k l m)

  -- behind a leading surrogate, by whether it is a trailing one
  took_lead : (x y : ClassAtom) → IsClassItem x × MayStandBehind n r x → IsClassItem y → is_hyphen y ≡ false → IsLead x → TrailView y → TookOne x y
  took_lead x y h k w l (inl t) =
      subst (λ z. TookOne z y) (sym l.1)
      (subst (TookOne (unit l.0)) (sym t.1) (took_pair l.0 t.0 (subst IsClassItem l.1 h.0) (subst IsClassItem t.1 k) l.2 t.2 t.3))
  took_lead x y h k w l (inr t) =
      took_so x y (ranges_sets b (with_one r x)) (one (item_of y)) (t.1.sets (item_of x) kept) (t.1.behind (item_of x))
      (one_more x y h k w (and_false (is_lead_item x) (is_trail_item y) t.0))

  -- and behind any atom
  took_one : (x y : ClassAtom) → IsClassItem x × MayStandBehind n r x → IsClassItem y → is_hyphen y ≡ false → LeadView x → TookOne x y
  took_one x y h k w (inl l) = took_lead x y h k w l (trail_view y)
  took_one x y h k w (inr l) =
      took_so x y (ranges_sets b (with_one r x)) (one (item_of y)) (l.1.sets (item_of y) kept) (l.1.behind (item_of y))
      (one_more x y h k w (ap (λ z. z && is_trail_item y) l.0))

  -- a range that is in order, up to no leading surrogate
  range_made : (x y : ClassAtom) → IsClassItem x × MayStandBehind n r x → IsClassItem y → is_lead_item y ≡ false
      → (z : Bool) → is_range (item_of x) (item_of y) ≡ z
      → MakesClass b (option_map (class_with n (ranges_sets b (with_range r x y))) (pending_if z fresh))
      (front ++ (class_atom_spelling x ++ byte "-" ∷ class_atom_spelling y))
  range_made x y h k l false e = tt
  range_made x y h k l true e = (
    n,
    with_range r x y,
    no_tail,
    (items, h, k, sym (same_range x y) ∙ e),
    (λ z a. tt, l),
    refl,
    sym (range_front x y) ∙ sym (append-nil _),
  )

  -- what comes of an atom behind one and a `-`
  abbrev TookDashed : ClassAtom → ClassAtom → Type 0
  TookDashed x y =
      MakesClass b (option_map (class_with n (sets_dashed (item_of x) (item_of y) kept)) (took_dashed (item_of x) (item_of y)))
      (front ++ (class_atom_spelling x ++ byte "-" ∷ class_atom_spelling y))

  -- any atom behind one and a `-`
  took_dashed_one : (x y : ClassAtom) → IsClassItem x × MayStandBehind n r x → IsClassItem y → LeadView y → TookDashed x y
  took_dashed_one x y h k (inl l) =
      subst (TookDashed x) (sym l.1)
      (subst (λ i. MakesClass b (option_map (class_with n (sets_dashed (item_of x) i kept)) (took_dashed (item_of x) i))
      (front ++ (class_atom_spelling x ++ byte "-" ∷ class_atom_spelling (unit l.0))))
      (sym (lead_is l.0 l.2)) (n, r, range_tail x (unit l.0), items, (h, subst IsClassItem l.1 k, l.2), refl, refl))
  took_dashed_one x y h k (inr l) =
      subst (λ o. MakesClass b (option_map (class_with n o) (took_dashed (item_of x) (item_of y)))
      (front ++ (class_atom_spelling x ++ byte "-" ∷ class_atom_spelling y))) (sym (l.1.range_sets (item_of x) kept))
      (subst (λ o. MakesClass b (option_map (class_with n (ranges_sets b (with_range r x y))) o)
      (front ++ (class_atom_spelling x ++ byte "-" ∷ class_atom_spelling y))) (sym (l.1.dashed (item_of x)))
      (range_made x y h k l.0 (is_range (item_of x) (item_of y)) refl))

  -- an atom behind a range up to a leading surrogate, that does not belong to it
  settled : (x z y : ClassAtom) → IsClassItem x × MayStandBehind n r x → IsClassItem z → is_range (item_of x) (item_of z) ≡ true → IsClassItem y
      → is_trail_item y ≡ false
      → ClassText b Any (class_at b n (with_range r x z) (one_tail y))
      ((front ++ (class_atom_spelling x ++ byte "-" ∷ class_atom_spelling z)) ++ class_atom_spelling y)
  settled x z y h w e k t = (
    n,
    with_range r x z,
    one_tail y,
    (items, h, w, sym (same_range x z) ∙ e),
    (k, (tt, and_false (is_lead_item z) (is_trail_item y) t)),
    refl,
    ap (λ u. u ++ class_atom_spelling y) (sym (range_front x z)),
  )

  -- what comes of an atom behind such a range, as it has been read
  abbrev TookRanged : ClassAtom → List ℕ → ClassAtom → Type 0
  TookRanged x ds y =
      MakesClass b (option_map (class_with n (sets_ranged (item_of x) (hex_number ds) (item_of y) kept)) (took_ranged (item_of x) (hex_number ds) (item_of y)))
      ((front ++ (class_atom_spelling x ++ byte "-" ∷ class_atom_spelling (unit ds))) ++ class_atom_spelling y)

  -- the range that a trailing surrogate ends
  took_ranged_pair : (x : ClassAtom) (ds es : List ℕ) → IsClassItem x × MayStandBehind n r x → IsClassItem (unit ds) → IsClassItem (unit es)
      → is_lead (hex_number ds) ≡ true → is_trail (hex_number es) ≡ true → is_lead (hex_number es) ≡ false → TookRanged x ds (unit es)
  took_ranged_pair x ds es h w k l m f =
      let text : front ++ (class_atom_spelling x ++ byte "-" ∷ class_atom_spelling (pair ds es))
      ≡ (front ++ (class_atom_spelling x ++ byte "-" ∷ class_atom_spelling (unit ds))) ++ class_atom_spelling (unit es) =
      ap (λ z. front ++ z) (sym (append_assoc (class_atom_spelling x) (byte "-" ∷ class_atom_spelling (unit ds)) (class_atom_spelling (unit es))))
      ∙ sym (append_assoc front (class_atom_spelling x ++ byte "-" ∷ class_atom_spelling (unit ds)) (class_atom_spelling (unit es))) in
      subst (λ i. MakesClass b (option_map (class_with n (sets_ranged (item_of x) (hex_number ds) i kept)) (took_ranged (item_of x) (hex_number ds) i))
      ((front ++ (class_atom_spelling x ++ byte "-" ∷ class_atom_spelling (unit ds))) ++ class_atom_spelling (unit es))) (sym (trail_is es f m))
      (subst (MakesClass b (option_map (class_with n (ranges_sets b (with_range r x (pair ds es)))) (pending_if (is_range (item_of x) (item_of (pair ds es))) fresh)))
      text (range_made x (pair ds es) h (pair_is_item ds es w k l m) refl _ refl))

  -- by whether it is a trailing surrogate
  took_ranged_one : (x : ClassAtom) (ds : List ℕ) (y : ClassAtom) → IsClassItem x × MayStandBehind n r x → IsClassItem (unit ds)
      → is_lead (hex_number ds) ≡ true → IsClassItem y → TrailView y → TookRanged x ds y
  took_ranged_one x ds y h w l k (inl t) =
      subst (TookRanged x ds) (sym t.1) (took_ranged_pair x ds t.0 h w (subst IsClassItem t.1 k) l t.2 t.3)
  took_ranged_one x ds y h w l k (inr t) =
      subst (λ o. MakesClass b (option_map (class_with n o) (took_ranged (item_of x) (hex_number ds) (item_of y)))
      ((front ++ (class_atom_spelling x ++ byte "-" ∷ class_atom_spelling (unit ds))) ++ class_atom_spelling y))
      (sym (t.1.range_sets (item_of x) (hex_number ds) kept))
      (subst (λ o. MakesClass b (option_map (class_with n None) o)
      ((front ++ (class_atom_spelling x ++ byte "-" ∷ class_atom_spelling (unit ds))) ++ class_atom_spelling y))
      (sym (t.1.ranged (item_of x) (hex_number ds))) (by_test (is_range (item_of x) (lead_item (hex_number ds))) refl))
    where
      -- the range has no sets
      no_sets : ranges_sets b (with_range r x (unit ds)) ≡ None
      no_sets = ap (keep kept) (ap (range_sets (item_of x)) (lead_is ds l) ∙ lead_sets (item_of x) (hex_number ds)) ∙ keep_none kept

      -- by whether the range is in order
      by_test : (z : Bool) → is_range (item_of x) (lead_item (hex_number ds)) ≡ z
          → MakesClass b (option_map (class_with n None) (pending_if z (one (item_of y))))
          ((front ++ (class_atom_spelling x ++ byte "-" ∷ class_atom_spelling (unit ds))) ++ class_atom_spelling y)
      by_test false e = tt
      by_test true e =
          subst (λ o. ClassText b Any (class_with n o (one (item_of y)))
          ((front ++ (class_atom_spelling x ++ byte "-" ∷ class_atom_spelling (unit ds))) ++ class_atom_spelling y)) no_sets
          (settled x (unit ds) y h w (ap (is_range (item_of x)) (lead_is ds l) ∙ e) k t.0)

  -- the same where the range is up to an atom that is one
  took_ranged_any : (x z y : ClassAtom) → IsClassItem x × MayStandBehind n r x → IsClassItem z → is_lead_item z ≡ true → IsClassItem y → LeadView z
      → MakesClass b (option_map (class_with n (sets_ranged (item_of x) (lead_value z) (item_of y) kept)) (took_ranged (item_of x) (lead_value z) (item_of y)))
      ((front ++ (class_atom_spelling x ++ byte "-" ∷ class_atom_spelling z)) ++ class_atom_spelling y)
  took_ranged_any x z y h w l k (inl v) =
      subst (λ u. MakesClass b (option_map (class_with n (sets_ranged (item_of x) (lead_value u) (item_of y) kept)) (took_ranged (item_of x) (lead_value u) (item_of y)))
      ((front ++ (class_atom_spelling x ++ byte "-" ∷ class_atom_spelling u)) ++ class_atom_spelling y)) (sym v.1)
      (took_ranged_one x v.0 y h (subst IsClassItem v.1 w) v.2 k (trail_view y))
  took_ranged_any x z y h w l k (inr v) = absurd (true≢false (sym l ∙ v.0))

  -- so a class has been read with one more atom that suits what is pending
  pub takes : (A : ClassAtom → Type 0) (t : Tail) (y : ClassAtom) → IsTail A n r t → IsClassItem y → Suits A t y
      → MakesClass b (with_item (class_at b n r t) (item_of y)) (class_text n r t ++ class_atom_spelling y)
  takes A no_tail y h k s = (
    n,
    r,
    one_tail y,
    items,
    (k, (h.0 y s, ap (λ z. z && is_trail_item y) h.1)),
    refl,
    ap (λ z. z ++ class_atom_spelling y) (append-nil front),
  )
  takes A (one_tail x) y h k s = took_one x y h k s (lead_view x)
  takes A (dash_tail x) y h k s =
      subst (MakesClass b (with_item (class_at b n r (dash_tail x)) (item_of y))) (sym (dash_front x (class_atom_spelling y)))
      (took_dashed_one x y h k (lead_view y))
  takes A (range_tail x z) y h k s = took_ranged_any x z y h.0 h.1 h.2 k (lead_view z)

  -- and with a `-`, where A holds of it
  pub takes_dash : (A : ClassAtom → Type 0) (t : Tail) → IsTail A n r t → A hyphen
      → MakesClass b (with_dash (class_at b n r t)) (class_text n r t ++ byte "-" ∷ [])
  takes_dash A no_tail h a = takes A no_tail hyphen h tt a
  takes_dash A (one_tail x) h a = (n, r, dash_tail x, items, h, refl, append_assoc front (class_atom_spelling x) (byte "-" ∷ []))
  takes_dash A (dash_tail x) h a = takes A (dash_tail x) hyphen h tt tt
  takes_dash A (range_tail x z) h a = takes A (range_tail x z) hyphen h tt tt

  -- a class that ends here
  abbrev Ended : Tail → Type 0
  Ended t =
      (s : Ranges) × (e : Bool) × IsLeaf (bracketed n s e) × (leaf_spelling (bracketed n s e) ≡ class_text n r t ++ byte "]" ∷ [])
      × (class_sets b s e ≡ sets_closed (pending_of t) kept)

  -- behind the closing bracket, where it may stand, there is a whole class
  pub ends_class : (A : ClassAtom → Type 0) (t : Tail) → IsTail A n r t → may_close (pending_of t) ≡ true → Ended t
  ends_class A no_tail h c = (r, false, (items, tt), ap (λ z. z ++ byte "]" ∷ []) (sym (append-nil front)), refl)
  ends_class A (one_tail x) h c = (with_one r x, false, ((items, h.0, h.1), tt), ap (λ z. z ++ byte "]" ∷ []) (one_front x), refl)
  ends_class A (dash_tail x) h c = (
    with_one r x,
    true,
    ((items, h.0, h.1), tt),
    ap (λ z. z ++ byte "-" ∷ byte "]" ∷ []) (one_front x) ∙ append_assoc front (class_atom_spelling x) (byte "-" ∷ byte "]" ∷ [])
        ∙ sym (dash_front x (byte "]" ∷ [])),
    refl,
  )
  ends_class A (range_tail x z) h c =
      let lead = value_is z (lead_view z) h.2 in (
        with_range r x z,
        false,
        ((items, h.0, h.1, sym (same_range x z) ∙ ap (is_range (item_of x)) lead ∙ c), tt),
        ap (λ u. u ++ byte "]" ∷ []) (range_front x z),
        ap (keep kept) (ap (range_sets (item_of x)) lead ∙ lead_sets (item_of x) (lead_value z)) ∙ keep_none kept,
      )
