-- The texts that stand in a run of bytes, by their ends.
use Rattle.std.proofs.Common.{◌≡◌, ◌≤◌, ℕ, ◌+◌, ◌-◌, List, [], ◌∷◌, ◌++◌, length, take, drop, refl, sym, ap, subst, ◌∙◌, arith, append_assoc, length-append}
use Rattle.std.proofs.Common.{length-take, length-drop, drop-drop, take-append-drop}
use Rattle.std.specs.Prelude.{⊤}
use Rattle.std.specs.List.{concat}
use Rattle.strkw_c.specs.Texts.{ends_from, AreTextsFrom}

-- no end is less than the one before it, or past the count
abbrev pub Ascend : ℕ → ℕ → List ℕ → Type 0
Ascend count start [] = ⊤
Ascend count start (end ∷ ends) = (start ≤ end) × (end ≤ count) × Ascend count end ends

-- the texts from a start up to these ends
abbrev pub texts_from : List ℕ → ℕ → List ℕ → List (List ℕ)
texts_from bytes start [] = []
texts_from bytes start (end ∷ ends) = take (end - start) (drop start bytes) ∷ texts_from bytes end ends

-- what stands behind them
rest_from : List ℕ → ℕ → List ℕ → List ℕ
rest_from bytes start [] = drop start bytes
rest_from bytes start (end ∷ ends) = rest_from bytes end ends

-- what is behind an end is what is behind the start, without what stands between the two
drop-on : (bytes : List ℕ) (start end : ℕ) → start ≤ end → drop (end - start) (drop start bytes) ≡ drop end bytes
drop-on bytes start end up =
    let there : start + (end - start) ≡ end = omega (arith, up) in
    drop-drop (end - start) start bytes ∙ ap (λ n. drop n bytes) there

-- the bytes from a start are the texts up to the ends, joined, and what stands behind them
bytes_joined : (bytes : List ℕ) (start : ℕ) (ends : List ℕ) → Ascend (length bytes) start ends
    → drop start bytes ≡ concat (texts_from bytes start ends) ++ rest_from bytes start ends
unfolding rest_from
bytes_joined bytes start [] up = refl
bytes_joined bytes start (end ∷ ends) (up, within, more) =
    let text = take (end - start) (drop start bytes) in
    sym (take-append-drop (end - start) (drop start bytes)) ∙ ap (λ l. text ++ l) (drop-on bytes start end up ∙ bytes_joined bytes end ends more)
    ∙ sym (append_assoc text (concat (texts_from bytes end ends)) (rest_from bytes end ends))

-- ends that ascend are where the texts up to them end
ends_met : (bytes : List ℕ) (start : ℕ) (ends : List ℕ) → Ascend (length bytes) start ends → ends ≡ ends_from start (texts_from bytes start ends)
ends_met bytes start [] up = refl
ends_met bytes start (end ∷ ends) (up, within, more) =
    let text = take (end - start) (drop start bytes) in
    let met : start + length text ≡ end = omega (arith, up, within, length-take (end - start) (drop start bytes), length-drop start bytes) in
    rw met (ap (λ l. end ∷ l) (ends_met bytes end ends more))

-- at a start within the bytes and ends that ascend there are texts
pub are_texts : (bytes : List ℕ) (start : ℕ) (ends : List ℕ) → start ≤ length bytes → Ascend (length bytes) start ends
    → AreTextsFrom start bytes ends (texts_from bytes start ends)
are_texts bytes start ends within up = (
  take start bytes,
  rest_from bytes start ends,
  omega (arith, within, length-take start bytes),
  sym (take-append-drop start bytes) ∙ ap (λ l. take start bytes ++ l) (bytes_joined bytes start ends up),
  ends_met bytes start ends up,
)

-- the ends of texts that go no further than the count ascend
ascends_from : (count start : ℕ) (texts : List (List ℕ)) → start + length (concat texts) ≤ count → Ascend count start (ends_from start texts)
ascends_from count start [] within = tt
ascends_from count start (text ∷ texts) within =
    let whole : start + length text + length (concat texts) ≤ count = omega (arith, within, length-append text (concat texts)) in
    (omega arith, omega (arith, whole), ascends_from count (start + length text) texts whole)

-- how many bytes there are, where texts stand in them
count_of : (bytes : List ℕ) (start : ℕ) (ends : List ℕ) (texts : List (List ℕ)) → AreTextsFrom start bytes ends texts
    → start + length (concat texts) ≤ length bytes
count_of bytes start ends texts (front, rest, met, joined, e) =
    let whole : length bytes ≡ length front + length (concat texts ++ rest) = ap length joined ∙ length-append front (concat texts ++ rest) in
    omega (arith, whole, met, length-append (concat texts) rest)

-- where there are texts, the start is within the bytes
pub starts_within : (bytes : List ℕ) (start : ℕ) (ends : List ℕ) (texts : List (List ℕ)) → AreTextsFrom start bytes ends texts → start ≤ length bytes
starts_within bytes start ends texts are = omega (arith, count_of bytes start ends texts are)

-- and their ends ascend
pub ascends : (bytes : List ℕ) (start : ℕ) (ends : List ℕ) (texts : List (List ℕ)) → AreTextsFrom start bytes ends texts
    → Ascend (length bytes) start ends
ascends bytes start ends texts are =
    subst (Ascend (length bytes) start) (sym are.4) (ascends_from (length bytes) start texts (count_of bytes start ends texts are))
