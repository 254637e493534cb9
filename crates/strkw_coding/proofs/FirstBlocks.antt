-- The first block of a code, and the code after it.
use Rattle.std.proofs.Common.{◌≡◌, ℕ, zero, suc, ◌%◌, ◌<◌, ◌≤◌, ◌==◌, true, false, List, [], ◌∷◌, ◌++◌, length, take, drop, refl, sym, ap, ◌∙◌, arith}
use Rattle.std.proofs.Common.{◌↔◌, inl, inr}
use Rattle.std.proofs.lemmas.Bool.{cases_lt, eqb-true}
use Rattle.std.proofs.lemmas.List.{append-nil, append_assoc, drop_all, take_all, length-append, length-take-le, nil_from_length}
use Rattle.strkw_text.proofs.Equivalences.{iff_trans}
use Rattle.strkw_coding.specs.Rfc4648.{AreBytes}
use Rattle.strkw_coding.specs.Blocks.{BeginsWithBlock, IsCode32, IsDecodedTo, code32}
use Rattle.strkw_coding.proofs.Codes32.{code32-nil, code32-1, code32-2, code32-3, code32-4, code32-5, code32-block, code32-append}

-- the first block of a code, and the code of what follows
pub record FirstBlock (abc text p q : List ℕ) : Type 0 where
  pub are_bytes : AreBytes p
  pub rest_bytes : AreBytes q
  pub some : 0 < length p
  pub few : length p ≤ 5
  pub block : take 8 text ≡ code32 abc p
  pub after : drop 8 text ≡ code32 abc q
  pub last : length p < 5 → q ≡ []
  pub long : 8 ≤ length text

-- the code of some bytes has one, of the first of them, and the others follow
abbrev pub HasFirstBlock : List ℕ → List ℕ → Type 0
HasFirstBlock abc b = (p : List ℕ) × (q : List ℕ) × FirstBlock abc (code32 abc b) p q × (b ≡ p ++ q)

-- where there are no elements, each is a byte
no_bytes : AreBytes []
no_bytes i = omega arith

-- five numbers below 256 are bytes
pub five_bytes : (a b c d e : ℕ) → a < 256 → b < 256 → c < 256 → d < 256 → e < 256 → AreBytes (a ∷ b ∷ c ∷ d ∷ e ∷ [])
five_bytes a b c d e fa fb fc fd fe zero = fa
five_bytes a b c d e fa fb fc fd fe (suc zero) = fb
five_bytes a b c d e fa fb fc fd fe (suc (suc zero)) = fc
five_bytes a b c d e fa fb fc fd fe (suc (suc (suc zero))) = fd
five_bytes a b c d e fa fb fc fd fe (suc (suc (suc (suc zero)))) = fe
five_bytes a b c d e fa fb fc fd fe (suc (suc (suc (suc (suc i))))) = omega arith

-- a code of one block alone
-- is its own first block, and nothing follows it
one_block : (abc p : List ℕ) → AreBytes p → 0 < length p → length p ≤ 5 → length (code32 abc p) ≡ 8 → HasFirstBlock abc p
one_block abc p h some few eight =
    let all : take 8 (code32 abc p) ≡ code32 abc p = take_all 8 (code32 abc p) (omega (arith, eight)) in
    let none : drop 8 (code32 abc p) ≡ [] = drop_all 8 (code32 abc p) (omega (arith, eight)) in (
      p,
      [],
      record {
        are_bytes = h;
        rest_bytes = no_bytes;
        some = some;
        few = few;
        block = all;
        after = none ∙ sym (code32-nil abc);
        last = λ _. refl;
        long = omega (arith, eight);
      },
      sym (append-nil p),
    )

-- a code that is not empty has a first block
pub first_block : (abc b : List ℕ) → AreBytes b → 0 < length (code32 abc b) → HasFirstBlock abc b
first_block abc [] h long = absurd (let e = ap length (code32-nil abc) in omega (arith, e, long))
first_block abc (a ∷ []) h long = one_block abc (a ∷ []) h (omega arith) (omega arith) (ap length (code32-1 abc a (h 0)))
first_block abc (a ∷ b ∷ []) h long = one_block abc (a ∷ b ∷ []) h (omega arith) (omega arith) (ap length (code32-2 abc a b (h 0) (h 1)))
first_block abc (a ∷ b ∷ c ∷ []) h long =
    one_block abc (a ∷ b ∷ c ∷ []) h (omega arith) (omega arith) (ap length (code32-3 abc a b c (h 0) (h 1) (h 2)))
first_block abc (a ∷ b ∷ c ∷ d ∷ []) h long =
    one_block abc (a ∷ b ∷ c ∷ d ∷ []) h (omega arith) (omega arith) (ap length (code32-4 abc a b c d (h 0) (h 1) (h 2) (h 3)))
first_block abc (a ∷ b ∷ c ∷ d ∷ e ∷ rest) h long =
    let is = code32-block abc a b c d e rest (h 0) (h 1) (h 2) (h 3) (h 4) in
    let one = code32-5 abc a b c d e (h 0) (h 1) (h 2) (h 3) (h 4) in (
      a ∷ b ∷ c ∷ d ∷ e ∷ [],
      rest,
      record {
        are_bytes = five_bytes a b c d e (h 0) (h 1) (h 2) (h 3) (h 4);
        rest_bytes = λ i. h (suc (suc (suc (suc (suc i)))));
        some = omega arith;
        few = omega arith;
        block = rw (is, one) refl;
        after = rw is refl;
        last = λ short. absurd (omega arith);
        long = rw is (omega arith);
      },
      refl,
    )

-- the steps of decoding, a block at a time

-- bytes with bytes behind them are bytes
pub bytes-append : (xs ys : List ℕ) → AreBytes xs → AreBytes ys → AreBytes (xs ++ ys)
bytes-append [] ys hx hy i = hy i
bytes-append (x ∷ xs) ys hx hy zero = hx 0
bytes-append (x ∷ xs) ys hx hy (suc i) = bytes-append xs ys (λ k. hx (suc k)) hy i

-- and so is a front of bytes
pub bytes-take : (n : ℕ) (xs : List ℕ) → AreBytes xs → AreBytes (take n xs)
bytes-take zero xs h i = omega arith
bytes-take (suc n) [] h i = omega arith
bytes-take (suc n) (x ∷ xs) h zero = h 0
bytes-take (suc n) (x ∷ xs) h (suc i) = bytes-take n xs (λ k. h (suc k)) i

-- no code is shorter than a block
pub too_short : (abc rest q : List ℕ) → 0 < length rest → length rest < 8 → AreBytes q → rest ≡ code32 abc q → ⊥
too_short abc rest q some short bytes is =
    let f = first_block abc q bytes (rw is at some) in
    let long = f.2.long in
    let same = ap length is in
    omega (arith, long, same)

-- the block at the front is the code of some bytes, and of five unless it is the last
pub front_block : (abc rest block after q : List ℕ) → block ≡ take 8 rest → after ≡ drop 8 rest → 0 < length rest → AreBytes q → rest ≡ code32 abc q
    → (p : List ℕ) × AreBytes p × (0 < length p) × (length p ≤ 5) × (block ≡ code32 abc p) × (length p < 5 → after ≡ [])
front_block abc rest block after q front back some bytes is =
    let f = first_block abc q bytes (rw is at some) in (
      f.0,
      f.2.are_bytes,
      f.2.some,
      f.2.few,
      front ∙ ap (take 8) is ∙ f.2.block,
      λ short. back ∙ ap (drop 8) is ∙ f.2.after ∙ ap (code32 abc) (f.2.last short) ∙ code32-nil abc,
    )

-- what the test of a length says
-- a length that is tested not to be 0 is more than 0
pub positive : (n : ℕ) → (n == 0) ≡ false → 0 < n
positive zero h = cc h
positive (suc n) h = omega arith

-- and one that is tested to be 0 is 0
pub none_left : (n : ℕ) → (n == 0) ≡ true → n ≡ 0
none_left n h = eqb-true n 0 h

-- how many bytes a first block has
-- they are as many as `len` says
pub block_len : (abc text bytes : List ℕ) (len : ℕ) (after : List ℕ) → BeginsWithBlock abc text bytes len after → length (take len bytes) ≡ len
block_len abc text bytes len after is = length-take-le len bytes (omega (arith, is.five, is.few))

-- nothing is the code of nothing
pub code-none : (abc text : List ℕ) → length text ≡ 0 → IsCode32 abc text
code-none abc text none = ([], no_bytes, nil_from_length text none ∙ sym (code32-nil abc))

-- a text is a code exactly where what follows its first block is
pub rest_is_code : (abc text bytes : List ℕ) (len : ℕ) (after : List ℕ) → BeginsWithBlock abc text bytes len after → IsCode32 abc text ↔ IsCode32 abc after
rest_is_code abc text bytes len after is = (
  λ code.
      let f = first_block abc code.0 code.1 (rw code.2 at is.some) in
      (f.1, f.2.rest_bytes, is.is_after ∙ ap (drop 8) code.2 ∙ f.2.after),
  λ code.
      let p : List ℕ = take len bytes in
      let bytes_p = bytes-take len bytes is.are_bytes in
      elim (cases_lt len 5) [
        | inl short ↦ (p, bytes_p, is.is_code ∙ ap (λ (x : List ℕ). code32 abc p ++ x) (is.last short) ∙ append-nil _)
        | inr full ↦
            let n = block_len abc text bytes len after is in
            let whole : length p % 5 ≡ 0 = omega (arith, n, full, is.few) in (
              p ++ code.0,
              bytes-append p code.0 bytes_p code.1,
              is.is_code ∙ ap (λ (x : List ℕ). code32 abc p ++ x) code.2 ∙ sym (code32-append abc p code.0 bytes_p whole),
            )
      ],
)

-- what follows a block follows five bytes
pub more_is_full : (abc text bytes : List ℕ) (len : ℕ) (after : List ℕ) → BeginsWithBlock abc text bytes len after → 0 < length after → len ≡ 5
more_is_full abc text bytes len after is more = elim (cases_lt len 5) [
  | inl short ↦ absurd (let none = ap length (is.last short) in omega (arith, none, more))
  | inr full ↦ omega (arith, full, is.few)
]

-- one block more is decoded
-- the code of what was decoded, with the bytes of that block, then goes up to what follows it
pub push_block : (abc whole out text bytes : List ℕ) (len : ℕ) (after : List ℕ) → BeginsWithBlock abc text bytes len after → whole ≡ code32 abc out ++ text
    → AreBytes out → length out % 5 ≡ 0 → whole ≡ code32 abc (out ++ take len bytes) ++ after
push_block abc whole out text bytes len after is split out_bytes fives =
    rw (code32-append abc out (take len bytes) out_bytes fives, append_assoc, ← is.is_code) split

-- nothing is decoded of a text up to all of it
pub none_decoded : (abc text : List ℕ) → IsDecodedTo abc text [] text
none_decoded abc text = record {
  split = ap (λ (x : List ℕ). x ++ text) (sym (code32-nil abc));
  whole = λ _. refl;
  are_bytes = no_bytes;
  same = (λ h. h, λ h. h);
}

-- what is decoded up to a text, and the bytes of its first block, are decoded up to what follows the block
pub decoded_on : (abc whole out text bytes : List ℕ) (len : ℕ) (after : List ℕ) → BeginsWithBlock abc text bytes len after → IsDecodedTo abc whole out text
    → IsDecodedTo abc whole (out ++ take len bytes) after
decoded_on abc whole out text bytes len after first to =
    let p : List ℕ = take len bytes in
    let fives = to.whole first.some in
    let size : length p ≡ len = block_len _ _ _ _ _ first in
    let full : 0 < length after → len ≡ 5 = more_is_full _ _ _ _ _ first in
    record {
      split = push_block _ _ _ _ _ _ _ first to.split to.are_bytes fives;
      whole = λ more. omega (arith, length-append out p, size, full more, fives);
      are_bytes = bytes-append _ _ to.are_bytes (bytes-take _ _ first.are_bytes);
      same = iff_trans to.same (rest_is_code _ _ _ _ _ first);
    }
