-- Pages of columns while they are made: what is there stays, and what is added is right.
use Rattle.std.proofs.Common.{◌≡◌, ◌⊎◌, ⊎_elim, ℕ, suc, ◌+◌, ◌/◌, ◌%◌, ◌<◌, ◌≤◌, ◌==◌, Bool, true, false, List, [], ◌∷◌, ◌++◌, Vec, Global, length}
use Rattle.std.proofs.Common.{get_or, replicate, Option, Some, None, option_map, refl, sym, ap, subst, ◌∙◌, length-append, if◌then◌else◌, inl, arith}
use Rattle.std.proofs.Common.{true≢false}
use Rattle.std.specs.Prelude.{is_some}
use Rattle.std.specs.Char.{InScalarRange}
use Rattle.std.proofs.lemmas.Bool.{eq-eqb}
use Rattle.std.proofs.lemmas.List.{append-nil, get_or_append_left, get_or-replicate}
use Rattle.std.proofs.Math.Seq.{get_or-append_seam}
use Rattle.strkw_charset.specs.machine.CharClasses.{answers, place_of, column_of, cell_of, AreColumns, ShareColumn, ArePages, ArePaged}
use Rattle.strkw_charset.specs.machine.Lists.{IsFront}
use Rattle.strkw_charset.specs.declared.tree.CharSet.{CharSet}

-- a number below the next is less than this or is this
below_or_same : (k n : ℕ) → k < n + 1 → (k < n) ⊎ (k ≡ n)
below_or_same k n h = grind arith

-- a number is less than another, or is at least that
below_or_past : (i n : ℕ) → (i < n) ⊎ (n ≤ i)
below_or_past i n = grind arith

-- a place behind one number stays where more may follow
place_behind : (b : Bool) (o p : Option ℕ) (k : ℕ) → ((j : ℕ) → o ≡ Some j → p ≡ Some j) → (if b then Some 0 else option_map suc o) ≡ Some k
    → (if b then Some 0 else option_map suc p) ≡ Some k
place_behind true o p k stays is = is
place_behind false None p k stays is = absurd (true≢false (sym (ap is_some is)))
place_behind false (Some j) p k stays is = ap (option_map suc) (stays j refl) ∙ is

-- a number that has a place has it where others follow
place_stays : (keys more : List ℕ) (n k : ℕ) → place_of keys n ≡ Some k → place_of (keys ++ more) n ≡ Some k
place_stays [] more n k is = absurd (true≢false (sym (ap is_some is)))
place_stays (x ∷ xs) more n k is = place_behind (x == n) (place_of xs n) (place_of (xs ++ more) n) k (place_stays xs more n) is

-- behind one number there is no place either
none_behind : (b : Bool) (o : Option ℕ) (n : ℕ) → (o ≡ None → option_map suc o ≡ None → n ≡ n) → (if b then Some 0 else option_map suc o) ≡ None
    → (b ≡ false) × (o ≡ None)
none_behind true o n _ is = absurd (true≢false (ap is_some is))
none_behind false None n _ is = (refl, refl)
none_behind false (Some j) n _ is = absurd (true≢false (ap is_some is))

-- a number that has no place has the next where it follows
pub new_place : (keys : List ℕ) (n : ℕ) → place_of keys n ≡ None → place_of (keys ++ n ∷ []) n ≡ Some (length keys)
new_place [] n none = rw (eq-eqb n n refl) refl
new_place (x ∷ xs) n none =
    let behind = none_behind (x == n) (place_of xs n) n (λ _ _. refl) none in
    rw (behind.0) (ap (option_map suc) (new_place xs n behind.1))

-- what stands in the front of a list stands there in the list
get_front : {A : Type 0} (xs ys : List A) (k : ℕ) (d : A) → IsFront xs ys → k < length xs → get_or ys k d ≡ get_or xs k d
get_front xs ys k d front within = ap (λ (l : List _). get_or l k d) front.1 ∙ get_or_append_left xs front.0 d k within

-- a front is no longer than the list
front_length : {A : Type 0} (xs ys : List A) → IsFront xs ys → length xs ≤ length ys
front_length xs ys front = let same : length ys ≡ length xs + length front.0 = ap length front.1 ∙ length-append xs front.0 in omega (arith, same)

-- one more makes a list one longer
pub longer : {A : Type 0} (xs ys : List A) (x : A) → ys ≡ xs ++ x ∷ [] → length ys ≡ length xs + 1
longer xs ys x is = ap length is ∙ length-append xs (x ∷ [])

-- and stands behind the others
stands_last : {A : Type 0} (xs ys : List A) (x d : A) → ys ≡ xs ++ x ∷ [] → get_or ys (length xs) d ≡ x
stands_last xs ys x d is = ap (λ (l : List _). get_or l (length xs) d) is ∙ get_or-append_seam xs x [] d

module _ (classes : List (Vec CharSet Global)) (keys later : List ℕ) (front : IsFront keys later) where
  -- a character keeps its column where more columns follow
  column_stays : (c k : ℕ) → column_of classes keys c ≡ Some k → column_of classes later c ≡ Some k
  column_stays c k is =
      subst (λ (l : List ℕ). place_of l (answers 0 classes c) ≡ Some k) (sym front.1) (place_stays keys front.0 (answers 0 classes c) k is)

module _ (classes : List (Vec CharSet Global)) (keys later plain more_plain pages more_pages : List ℕ) (cells more_cells : List (List ℕ))
    (was : ArePaged classes keys plain pages cells) (keys_stay : IsFront keys later) (plain_stays : IsFront plain more_plain)
    (pages_stay : IsFront pages more_pages) (cells_stay : IsFront cells more_cells) where
  -- the pages that are there have cells
  page_within : (k : ℕ) → k < length pages → get_or more_pages k 0 < length more_cells
  page_within k within =
      let has = was.are_pages.within k within in
      let long = front_length cells more_cells cells_stay in
      let same = get_front pages more_pages k 0 pages_stay within in
      omega (arith, has, long, same)

  -- and in them each character its column
  page_right : (c : ℕ) → c / 64 < length pages → InScalarRange c → column_of classes later c ≡ Some (cell_of more_pages more_cells c)
  page_right c within is =
      let page = get_front pages more_pages (c / 64) 0 pages_stay within in
      let here = get_front cells more_cells (get_or pages (c / 64) 0) [] cells_stay (was.are_pages.within (c / 64) within) in
      column_stays classes keys later keys_stay c (cell_of pages cells c) (was.are_pages.right c within is)
      ∙ ap (λ (l : List ℕ). Some (get_or l (c % 64) 0)) (sym here)
      ∙ ap (λ (k : ℕ). Some (get_or (get_or more_cells k []) (c % 64) 0)) (sym page)

  -- the cells of each column that is there are cells
  plain_within : (k : ℕ) → k < length plain → get_or more_plain k 0 < length more_cells
  plain_within k within =
      let has = was.are_plain.within k within in
      let long = front_length cells more_cells cells_stay in
      let same = get_front plain more_plain k 0 plain_stays within in
      omega (arith, has, long, same)

  -- and are this column throughout
  plain_throughout : (k j : ℕ) → k < length plain → j < 64 → get_or (get_or more_cells (get_or more_plain k 0) []) j 0 ≡ k
  plain_throughout k j within inside =
      let page = get_front plain more_plain k 0 plain_stays within in
      let here = get_front cells more_cells (get_or plain k 0) [] cells_stay (was.are_plain.within k within) in
      ap (λ (i : ℕ). get_or (get_or more_cells i []) j 0) page ∙ ap (λ (l : List ℕ). get_or l j 0) here ∙ was.are_plain.throughout k j within inside

-- one more column, with cells that are this column throughout
pub column_added : (classes : List (Vec CharSet Global)) (keys later plain more_plain pages : List ℕ) (cells more_cells : List (List ℕ)) (key : ℕ)
    (page : List ℕ) → ArePaged classes keys plain pages cells → length keys < 255 → later ≡ keys ++ key ∷ [] → more_plain ≡ plain ++ length cells ∷ []
    → more_cells ≡ cells ++ page ∷ [] → page ≡ replicate 64 (length keys) → ArePaged classes later more_plain pages more_cells
column_added classes keys later plain more_plain pages cells more_cells key page was few keys_are plain_is cells_are throughout =
    let keys_stay : IsFront keys later = (key ∷ [], keys_are) in
    let plain_stays : IsFront plain more_plain = (length cells ∷ [], plain_is) in
    let pages_stay : IsFront pages pages = ([], sym (append-nil pages)) in
    let cells_stay : IsFront cells more_cells = (page ∷ [], cells_are) in
    let one_key = longer keys later key keys_are in
    let one_plain = longer plain more_plain (length cells) plain_is in
    let one_page = longer cells more_cells page cells_are in
    let so_many = was.are_plain.so_many in
    record {
      few_columns = omega (arith, few, one_key);
      few_cells = let were = was.few_cells in omega (arith, were, one_key, one_page);
      are_plain = record {
        so_many = omega (arith, so_many, one_key, one_plain);
        within = λ k h.
            ⊎_elim
            (λ before.
            plain_within classes keys later plain more_plain pages pages cells more_cells was keys_stay plain_stays pages_stay cells_stay k before)
            (λ last.
            let is : get_or more_plain k 0 ≡ length cells =
            ap (λ (i : ℕ). get_or more_plain i 0) last ∙ stands_last plain more_plain (length cells) 0 plain_is in
            omega (arith, is, one_page))
            (below_or_same k (length plain) (omega (arith, h, one_plain)));
        throughout = λ k j h inside.
            ⊎_elim
            (λ before.
            plain_throughout classes keys later plain more_plain pages pages cells more_cells was keys_stay plain_stays pages_stay cells_stay k j before inside)
            (λ last.
            let is : get_or more_plain k 0 ≡ length cells =
            ap (λ (i : ℕ). get_or more_plain i 0) last ∙ stands_last plain more_plain (length cells) 0 plain_is in
            ap (λ (i : ℕ). get_or (get_or more_cells i []) j 0) is
            ∙ ap (λ (l : List ℕ). get_or l j 0) (stands_last cells more_cells page [] cells_are ∙ throughout)
            ∙ get_or-replicate 64 j (length keys) 0 inside ∙ sym (last ∙ so_many))
            (below_or_same k (length plain) (omega (arith, h, one_plain)));
      };
      are_pages = record {
        within = page_within classes keys later plain more_plain pages pages cells more_cells was keys_stay plain_stays pages_stay cells_stay;
        right = page_right classes keys later plain more_plain pages pages cells more_cells was keys_stay plain_stays pages_stay cells_stay;
      };
    }

-- the cells of a page up to an end, where those up to a place were right, and the others are of characters that share a
-- column
pub cells_filled : (classes : List (Vec CharSet Global)) (keys later page filled : List ℕ) (first place end last column : ℕ) → IsFront keys later
    → ((j : ℕ) → j < place → InScalarRange (first + j) → column_of classes keys (first + j) ≡ Some (get_or page j 0))
    → ((j : ℕ) → place ≤ j → j < end → get_or filled j 0 ≡ column) → ((j : ℕ) → j < place → get_or filled j 0 ≡ get_or page j 0) → first + end ≤ last
    → ShareColumn classes later (first + place) last column
    → (j : ℕ) → j < end → InScalarRange (first + j) → column_of classes later (first + j) ≡ Some (get_or filled j 0)
cells_filled classes keys later page filled first place end last column front right now before within share j inside is =
    ⊎_elim (λ old. column_stays classes keys later front (first + j) (get_or page j 0) (right j old is) ∙ ap Some (sym (before j old)))
    (λ new. share (first + j) (omega (arith, new)) (omega (arith, inside, within)) is ∙ ap Some (sym (now j new inside)))
    (below_or_past j place)

-- the columns of bytes are right where they are those of their cells
pub ascii_right : (classes : List (Vec CharSet Global)) (keys pages ascii : List ℕ) (cells : List (List ℕ)) → ArePages classes keys pages cells
    → length pages ≡ 17408 → length ascii ≤ 128 → ((c : ℕ) → c < length ascii → get_or ascii c 0 ≡ cell_of pages cells c) → AreColumns classes keys ascii
ascii_right classes keys pages ascii cells are all few same c within =
    are.right c (omega (arith, all, few, within)) (inl (omega (arith, few, within))) ∙ ap Some (sym (same c within))
