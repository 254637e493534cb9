-- One more text, and the words.
use Rattle.std.proofs.Common.{rules, ◌≡◌, ◌⊎◌, ℕ, ◌+◌, ◌<◌, ◌≤◌, ◌-◌, Bool, true, false, cond, ◌||◌, not, nat_le, nat_lt, List, [], ◌∷◌, ◌++◌, All, fold, if◌then◌else◌, length, map, take, drop, get_or, set, sym, ap, refl, ◌∙◌, subst, inl, inr, arith}
use Rattle.std.proofs.lemmas.Grind.{drop_more_same}
use Rattle.std.proofs.lemmas.List.{drop-set-lt, get_or-drop, length-append, length-drop, length-map, map-append, take_more, take_more_set}
use Rattle.std.proofs.lemmas.List.Elements.{All-head, All-tail}
use Rattle.std.proofs.lemmas.List.Folds.{list_any-append, list_any_at}
use Rattle.std.proofs.lemmas.List.Sums.{fold-append}
use Rattle.std.proofs.lemmas.Slice.Eq.{bytes_eq-Decides}
use Rattle.std.specs.List.{list_any}
use Rattle.std.specs.Str.{bytes_eq}
use Rattle.neldrafi_infer.specs.Words.{AreWords, distinct, marked, times, with_text, word_of, word_view}
use Rattle.neldrafi_infer.specs.declared.words.Word.{Word}
use Rattle.neldrafi_infer.specs.declared.words.Words.{Words}
use Rattle.neldrafi_infer.proofs.PropertyLemmas.{count_first, count_more}

-- ---- marking

-- the word at a place, where what is left from there is as it was
pub same_at : (ws old : List Word) (i : ℕ) (w : Word) → i < length ws → drop i ws ≡ drop i old → get_or old i w ≡ get_or ws i w
same_at ws old i w within rest =
    let there : get_or (drop i old) 0 w ≡ get_or (drop i ws) 0 w = ap (λ l. get_or l 0 w) (sym rest) in
    let a : get_or (drop i old) 0 w ≡ get_or old (i + 0) w = get_or-drop i old 0 w in
    let b : get_or (drop i ws) 0 w ≡ get_or ws (i + 0) w = get_or-drop i ws 0 w in
    let z : i + 0 ≡ i = omega arith in
    ap (λ n. get_or old n w) (sym z) ∙ (sym a ∙ (there ∙ (b ∙ ap (λ n. get_or ws n w) z)))

pub as_long : (ws old : List Word) (i : ℕ) → i < length ws → drop i ws ≡ drop i old → i < length old
as_long ws old i within rest =
    let e : length ws - i ≡ length old - i = sym (length-drop i ws) ∙ (ap length rest ∙ length-drop i old) in
    omega (arith, e, within)

-- one more word is marked
pub mark_more : (ws old : List Word) (i : ℕ) (w new : Word) (text : List ℕ) → i < length ws → w ≡ get_or ws i w → word_view new ≡ marked text (word_view w) → drop i ws ≡ drop i old → map word_view (take i ws) ≡ map (marked text) (map word_view (take i old)) → map word_view (take (i + 1) (set ws i new)) ≡ map (marked text) (map word_view (take (i + 1) old))
mark_more ws old i w new text within at is rest before =
    let in_old = as_long ws old i within rest in
    let here : get_or old i w ≡ w = same_at ws old i w within rest ∙ sym at in
    let left : map word_view (take (i + 1) (set ws i new)) ≡ map word_view (take i ws) ++ word_view new ∷ [] = ap (map word_view) (take_more_set ws i new within) ∙ map-append word_view (take i ws) (new ∷ []) in
    let olds : map word_view (take (i + 1) old) ≡ map word_view (take i old) ++ word_view w ∷ [] = ap (map word_view) (take_more old i w in_old) ∙ (map-append word_view (take i old) (get_or old i w ∷ []) ∙ ap (λ x. map word_view (take i old) ++ word_view x ∷ []) here) in
    let right : map (marked text) (map word_view (take (i + 1) old)) ≡ map (marked text) (map word_view (take i old)) ++ marked text (word_view w) ∷ [] = ap (map (marked text)) olds ∙ map-append (marked text) (map word_view (take i old)) (word_view w ∷ []) in
    left ∙ (ap (λ l. l ++ word_view new ∷ []) before ∙ (ap (λ x. map (marked text) (map word_view (take i old)) ++ x ∷ []) is ∙ sym right))

-- .. and the others are left
pub left_more : (ws old : List Word) (i : ℕ) (new : Word) → drop i ws ≡ drop i old → drop (i + 1) (set ws i new) ≡ drop (i + 1) old
left_more ws old i new rest = drop-set-lt (i + 1) ws i new (omega arith) ∙ drop_more_same ws old i rest

-- .. and it is known whether one of those so far is the text
pub found_more : (ws old : List Word) (i : ℕ) (w : Word) (text : List ℕ) (found is : Bool) → i < length ws → w ≡ get_or ws i w → drop i ws ≡ drop i old → is ≡ bytes_eq (word_view w).0 text → found ≡ list_any (λ word. bytes_eq word.0 text) (map word_view (take i old)) → (found || is) ≡ list_any (λ word. bytes_eq word.0 text) (map word_view (take (i + 1) old))
found_more ws old i w text found is within at rest same so_far =
    let in_old = as_long ws old i within rest in
    let here : get_or old i w ≡ w = same_at ws old i w within rest ∙ sym at in
    let p : List ℕ × Bool → Bool = λ word. bytes_eq word.0 text in
    let olds : map word_view (take (i + 1) old) ≡ map word_view (take i old) ++ word_view w ∷ [] = ap (map word_view) (take_more old i w in_old) ∙ (map-append word_view (take i old) (get_or old i w ∷ []) ∙ ap (λ x. map word_view (take i old) ++ word_view x ∷ []) here) in
    let both : (found || is) ≡ (list_any p (map word_view (take i old)) || bytes_eq (word_view w).0 text) = ap (λ b. b || is) so_far ∙ ap (λ b. list_any p (map word_view (take i old)) || b) same in
    let one : list_any p (word_view w ∷ []) ≡ bytes_eq (word_view w).0 text = elim (bytes_eq (word_view w).0 text) as (λ b. (b || false) ≡ b) [ true ↦ refl | false ↦ refl ] in
    both ∙ (ap (λ b. list_any p (map word_view (take i old)) || b) (sym one) ∙ (sym (list_any-append p (map word_view (take i old)) (word_view w ∷ [])) ∙ ap (list_any p) (sym olds)))

-- ---- distinct texts

not_true : (b : Bool) → (b ≡ true → ⊥) → b ≡ false
not_true true f = absurd (f refl)
not_true false f = refl

same_text : (t : List ℕ) → bytes_eq t t ≡ true
same_text t = (bytes_eq-Decides t t).1 refl

true_or : (a b : Bool) → a ≡ true → (a || b) ≡ true
true_or a b is = ap (λ c. c || b) is

or_true : (b : Bool) → (b || true) ≡ true
or_true true = refl
or_true false = refl

or_false : (b : Bool) → (b || false) ≡ b
or_false true = refl
or_false false = refl

-- what one of the texts is stays so
kept_any : (p : List ℕ → Bool) (ds : List (List ℕ)) (t : List ℕ) → list_any p ds ≡ true → list_any p (with_text ds t) ≡ true
kept_any p ds t is =
    elim (list_any (λ o. bytes_eq o t) ds) as (λ b. list_any p (if b then ds else ds ++ t ∷ []) ≡ true) [
      | true ↦ is
      | false ↦ list_any-append p ds (t ∷ []) ∙ true_or (list_any p ds) (list_any p (t ∷ [])) is
    ]

kept_along : (p : List ℕ → Bool) (ds ts : List (List ℕ)) → list_any p ds ≡ true → list_any p (fold with_text ds ts) ≡ true
kept_along p ds [] is = is
kept_along p ds (t ∷ ts) is = kept_along p (with_text ds t) ts (kept_any p ds t is)

-- a text that was put is one of them
put_if : (ds : List (List ℕ)) (t : List ℕ) (b : Bool) → list_any (λ o. bytes_eq o t) ds ≡ b → list_any (λ o. bytes_eq o t) (if b then ds else ds ++ t ∷ []) ≡ true
put_if ds t true is = is
put_if ds t false is =
    list_any-append (λ o. bytes_eq o t) ds (t ∷ []) ∙ (ap (λ b. list_any (λ o. bytes_eq o t) ds || (b || false)) (same_text t) ∙ or_true (list_any (λ o. bytes_eq o t) ds))

or_parts : (a b : Bool) → (a || b) ≡ true → (a ≡ true) ⊎ (b ≡ true)
or_parts true b is = inl refl
or_parts false b is = inr is

-- one of the texts with another is either one of those before, or the other
either_any : (p : List ℕ → Bool) (ds : List (List ℕ)) (t : List ℕ) (b : Bool) → list_any p (if b then ds else ds ++ t ∷ []) ≡ true → (list_any p ds ≡ true) ⊎ (p t ≡ true)
either_any p ds t true is = inl is
either_any p ds t false is = or_parts (list_any p ds) (p t) (ap (λ c. list_any p ds || c) (sym (or_false (p t))) ∙ (sym (list_any-append p ds (t ∷ [])) ∙ is))

-- a text that is none of the distinct ones came never
none_came : (ds ts : List (List ℕ)) (t : List ℕ) → list_any (λ o. bytes_eq o t) (fold with_text ds ts) ≡ false → times t ts ≡ 0
none_came ds [] t is = refl
none_came ds (x ∷ ts) t is =
    let p : List ℕ → Bool = λ o. bytes_eq o t in
    let other : bytes_eq t x ≡ false = not_true (bytes_eq t x) (λ same.
    let equal : t ≡ x = (bytes_eq-Decides t x).0 same in
    let Q : List ℕ → Type 0 = λ y. list_any (λ o. bytes_eq o y) (with_text ds x) ≡ true in
    let there : list_any p (with_text ds x) ≡ true = subst Q (sym equal) (put_if ds x (list_any (λ o. bytes_eq o x) ds) refl) in
    let wrong : true ≡ false = sym (kept_along p (with_text ds x) ts there) ∙ is in search rules) in
    let rest = none_came (with_text ds x) ts t is in
    count_first (bytes_eq t) x ts ∙ (ap (λ b. cond b 1 0 + times t ts) other ∙ (let e : 0 + times t ts ≡ 0 = omega (arith, rest) in e))

-- a distinct text was there before, or came
some_came : (ds ts : List (List ℕ)) (t : List ℕ) → list_any (λ o. bytes_eq o t) (fold with_text ds ts) ≡ true → (list_any (λ o. bytes_eq o t) ds ≡ true) ⊎ (1 ≤ times t ts)
some_came ds [] t is = inl is
some_came ds (x ∷ ts) t is =
    let first = count_first (bytes_eq t) x ts in
    elim (some_came (with_text ds x) ts t is) [
      | inl before ↦ elim (either_any (λ o. bytes_eq o t) ds x (list_any (λ o. bytes_eq o x) ds) before) [
        | inl there ↦ inl there
        | inr same ↦
            let equal : x ≡ t = (bytes_eq-Decides x t).0 same in
            let here : bytes_eq t x ≡ true = (bytes_eq-Decides t x).1 (sym equal) in
            let more : times t (x ∷ ts) ≡ 1 + times t ts = first ∙ ap (λ b. cond b 1 0 + times t ts) here in
            inr (omega (arith, more))
      ]
      | inr came ↦ inr (omega (arith, first, came))
    ]

-- each distinct text came
pub each_came : (ts : List (List ℕ)) → All (λ w. 1 ≤ times w ts) (distinct ts)
each_came ts k d less =
    let w = get_or (distinct ts) k d in
    let any : list_any (λ o. bytes_eq o w) (distinct ts) ≡ true = list_any_at (λ o. bytes_eq o w) (distinct ts) k d less (same_text w) in
    elim (some_came [] ts w any) [
      | inl none ↦ let wrong : false ≡ true = none in absurd (search rules)
      | inr came ↦ came
    ]

-- ---- the words

-- a word that came comes again
again : (n : ℕ) (b : Bool) → 1 ≤ n → (nat_le 2 n || b) ≡ nat_le 2 (n + cond b 1 0)
again n true came = or_true (nat_le 2 n) ∙ (let e : nat_le 2 (n + 1) ≡ true = search rules in sym e)
again n false came = or_false (nat_le 2 n) ∙ ap (nat_le 2) (let e : n ≡ n + 0 = omega arith in e)

-- marking words by a text is seeing it
marked_words : (ts ds : List (List ℕ)) (t : List ℕ) → All (λ w. 1 ≤ times w ts) ds → map (marked t) (map (word_of ts) ds) ≡ map (word_of (ts ++ t ∷ [])) ds
marked_words ts [] t came = refl
marked_words ts (w ∷ ds) t came =
    let here : 1 ≤ times w ts = All-head (λ v. 1 ≤ times v ts) w ds came in
    let rest = marked_words ts ds t (All-tail (λ v. 1 ≤ times v ts) w ds came) in
    let count : (nat_le 2 (times w ts) || bytes_eq w t) ≡ nat_le 2 (times w (ts ++ t ∷ [])) = again (times w ts) (bytes_eq w t) here ∙ ap (nat_le 2) (sym (count_more (bytes_eq w) ts t)) in
    ap (λ b. (w, b) ∷ map (marked t) (map (word_of ts) ds)) count ∙ ap (λ l. word_of (ts ++ t ∷ []) w ∷ l) rest

any_word : (ts ds : List (List ℕ)) (t : List ℕ) → list_any (λ word. bytes_eq word.0 t) (map (word_of ts) ds) ≡ list_any (λ o. bytes_eq o t) ds
any_word ts [] t = refl
any_word ts (w ∷ ds) t = ap (λ b. bytes_eq w t || b) (any_word ts ds t)

-- the distinct texts with one more
one_more : (ts : List (List ℕ)) (t : List ℕ) (b : Bool) → list_any (λ o. bytes_eq o t) (distinct ts) ≡ b → distinct (ts ++ t ∷ []) ≡ (if b then distinct ts else distinct ts ++ t ∷ [])
one_more ts t b is = fold-append with_text [] ts (t ∷ []) ∙ ap (λ c. if c then distinct ts else distinct ts ++ t ∷ []) is

-- a text that is one of the words
pub words_again : (ts : List (List ℕ)) (t : List ℕ) (old new : Words) → old.is_over ≡ false → new.is_over ≡ old.is_over → map word_view new.words.items ≡ map (marked t) (map word_view old.words.items) → list_any (λ word. bytes_eq word.0 t) (map word_view old.words.items) ≡ true → AreWords ts old → AreWords (ts ++ t ∷ []) new
words_again ts t old new few same marks found are =
    let words = are.words few in
    let any : list_any (λ o. bytes_eq o t) (distinct ts) ≡ true = sym (any_word ts (distinct ts) t) ∙ (ap (list_any (λ word. bytes_eq word.0 t)) (sym words) ∙ found) in
    let ds : distinct (ts ++ t ∷ []) ≡ distinct ts = one_more ts t true any in record {
      over = same ∙ (are.over ∙ ap (λ l. nat_lt 10 (length l)) (sym ds));
      words = λ _. marks ∙ (ap (map (marked t)) words ∙ (marked_words ts (distinct ts) t (each_came ts) ∙ ap (map (word_of (ts ++ t ∷ []))) (sym ds)));
    }

not_below : (n : ℕ) → not (nat_lt n 10) ≡ nat_lt 10 (n + 1)
not_below n = search rules

-- a text that is none of them
pub words_new : (ts : List (List ℕ)) (t : List ℕ) (old new : Words) (n : ℕ) → old.is_over ≡ false → n ≡ length (map word_view old.words.items) → new.is_over ≡ not (nat_lt n 10) → (new.is_over ≡ false → map word_view new.words.items ≡ map (marked t) (map word_view old.words.items) ++ (t, false) ∷ []) → list_any (λ word. bytes_eq word.0 t) (map word_view old.words.items) ≡ false → AreWords ts old → AreWords (ts ++ t ∷ []) new
words_new ts t old new n few count over put found are =
    let words = are.words few in
    let all = ts ++ t ∷ [] in
    let any : list_any (λ o. bytes_eq o t) (distinct ts) ≡ false = sym (any_word ts (distinct ts) t) ∙ (ap (list_any (λ word. bytes_eq word.0 t)) (sym words) ∙ found) in
    let ds : distinct all ≡ distinct ts ++ t ∷ [] = one_more ts t false any in
    let size : n ≡ length (distinct ts) = count ∙ (ap length words ∙ length-map (distinct ts) (word_of ts)) in
    let longer : length (distinct all) ≡ n + 1 = ap length ds ∙ (length-append (distinct ts) (t ∷ []) ∙ ap (λ m. m + 1) (sym size)) in
    let once : times t all ≡ 1 = count_more (bytes_eq t) ts t ∙ (ap (λ m. m + cond (bytes_eq t t) 1 0) (none_came [] ts t any) ∙ ap (λ b. 0 + cond b 1 0) (same_text t)) in
    let last : word_of all t ≡ (t, false) = ap (λ m. (t, nat_le 2 m)) once in record {
      over = over ∙ (not_below n ∙ ap (nat_lt 10) (sym longer));
      words = λ is. put is ∙ (ap (λ l. l ++ (t, false) ∷ []) (ap (map (marked t)) words ∙ marked_words ts (distinct ts) t (each_came ts))
          ∙ (ap (λ x. map (word_of all) (distinct ts) ++ x ∷ []) (sym last) ∙ (sym (map-append (word_of all) (distinct ts) (t ∷ [])) ∙ ap (map (word_of all)) (sym ds))));
    }
