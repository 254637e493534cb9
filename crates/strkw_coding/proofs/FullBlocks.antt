-- Eight letters are the code of five bytes.
use Rattle.std.proofs.Common.{◌≡◌, ℕ, ◌<◌, ◌≤◌, true, false, ◌==◌, nat_lt, List, [], ◌∷◌, ◌++◌, length, slice_index, take, drop, refl, sym, ap, ◌∙◌, arith}
use Rattle.std.specs.List.{list_all}
use Rattle.std.proofs.lemmas.Bool.{and_parts, eqb-true, ltb-true}
use Rattle.std.proofs.lemmas.List.{length-take-le, take-append-drop}
use Rattle.strkw_coding.specs.Rfc4648.{AreBytes}
use Rattle.strkw_coding.specs.Blocks.{BeginsWithBlock, block_bytes, code32, group_bytes, group_len, is_alphabet, is_letter, value_of}
use Rattle.strkw_coding.proofs.Encoders.{cons_at}
use Rattle.strkw_coding.proofs.Codes32.{code32-5}
use Rattle.strkw_coding.proofs.Groups.{letter_not_padding}
use Rattle.strkw_coding.proofs.FirstBlocks.{five_bytes}

-- the place of a letter, and what stands there
record Letter (abc : List ℕ) (c : ℕ) : Type 0 where
  below : value_of abc c < 32
  is : slice_index abc (value_of abc c) ≡ c

-- what passes the test for a letter is one
letter : (abc : List ℕ) (c : ℕ) → is_letter abc c ≡ true → Letter abc c
letter abc c h =
    let both = and_parts (nat_lt (value_of abc c) 32) (slice_index abc (value_of abc c) == c) h in
    record { below = ltb-true (value_of abc c) 32 both.0; is = eqb-true (slice_index abc (value_of abc c)) c both.1 }

-- eight values below 32 are the places of the letters of the code of their five bytes
code_of_values : (abc : List ℕ) (v0 v1 v2 v3 v4 v5 v6 v7 : ℕ) → v0 < 32 → v1 < 32 → v2 < 32 → v3 < 32 → v4 < 32 → v5 < 32 → v6 < 32 → v7 < 32
    → code32 abc (group_bytes v0 v1 v2 v3 v4 v5 v6 v7)
    ≡ slice_index abc v0 ∷ slice_index abc v1 ∷ slice_index abc v2 ∷ slice_index abc v3 ∷ slice_index abc v4 ∷ slice_index abc v5 ∷ slice_index abc v6
    ∷ slice_index abc v7 ∷ []
code_of_values abc v0 v1 v2 v3 v4 v5 v6 v7 h0 h1 h2 h3 h4 h5 h6 h7 =
    code32-5 abc _ _ _ _ _ (omega arith) (omega arith) (omega arith) (omega arith) (omega arith)
    ∙ cons_at abc _ _ _ _ (omega arith) (cons_at abc _ _ _ _ (omega arith) (cons_at abc _ _ _ _ (omega arith) (cons_at abc _ _ _ _ (omega arith)
    (cons_at abc _ _ _ _ (omega arith) (cons_at abc _ _ _ _ (omega arith) (cons_at abc _ _ _ _ (omega arith) (cons_at abc _ _ _ _ (omega arith) refl)))))))

-- and those five are bytes
values_are_bytes : (v0 v1 v2 v3 v4 v5 v6 v7 : ℕ) → v0 < 32 → v1 < 32 → v2 < 32 → v3 < 32 → v4 < 32 → v5 < 32 → v6 < 32 → v7 < 32
    → AreBytes (group_bytes v0 v1 v2 v3 v4 v5 v6 v7)
values_are_bytes v0 v1 v2 v3 v4 v5 v6 v7 h0 h1 h2 h3 h4 h5 h6 h7 =
    five_bytes _ _ _ _ _ (omega arith) (omega arith) (omega arith) (omega arith) (omega arith)

-- a letter is no padding
no_padding : (abc : List ℕ) (c : ℕ) → is_alphabet abc ≡ true → Letter abc c → (c == 61) ≡ false
no_padding abc c alpha l = ap (λ x. x == 61) (sym l.is) ∙ letter_not_padding abc (value_of abc c) alpha l.below

-- a block is the code of the five bytes for which its characters stand
pub record IsFull (abc block : List ℕ) : Type 0 where
  pub five : group_len block ≡ 5
  pub are_bytes : AreBytes (block_bytes abc block)
  pub is_code : block ≡ code32 abc (block_bytes abc block)

-- a block of eight letters is such a code
pub full_block : (abc block : List ℕ) → is_alphabet abc ≡ true → length block ≡ 8 → list_all (is_letter abc) block ≡ true → IsFull abc block
full_block abc (a ∷ b ∷ c ∷ d ∷ e ∷ f ∷ g ∷ h ∷ []) alpha eight all =
    let pa = and_parts (is_letter abc a) _ all in
    let pb = and_parts (is_letter abc b) _ pa.1 in
    let pc = and_parts (is_letter abc c) _ pb.1 in
    let pd = and_parts (is_letter abc d) _ pc.1 in
    let pe = and_parts (is_letter abc e) _ pd.1 in
    let pf = and_parts (is_letter abc f) _ pe.1 in
    let pg = and_parts (is_letter abc g) _ pf.1 in
    let ph = and_parts (is_letter abc h) _ pg.1 in
    let la = letter abc a pa.0 in
    let lb = letter abc b pb.0 in
    let lc = letter abc c pc.0 in
    let ld = letter abc d pd.0 in
    let le = letter abc e pe.0 in
    let lf = letter abc f pf.0 in
    let lg = letter abc g pg.0 in
    let lh = letter abc h ph.0 in
    record {
      five = rw (no_padding abc c alpha lc, no_padding abc e alpha le, no_padding abc f alpha lf, no_padding abc h alpha lh) refl;
      are_bytes = values_are_bytes _ _ _ _ _ _ _ _ la.below lb.below lc.below ld.below le.below lf.below lg.below lh.below;
      is_code = sym (code_of_values abc _ _ _ _ _ _ _ _ la.below lb.below lc.below ld.below le.below lf.below lg.below lh.below
          ∙ rw (la.is, lb.is, lc.is, ld.is, le.is, lf.is, lg.is, lh.is) refl);
    }
full_block abc [] alpha eight all = absurd (omega arith)
full_block abc (a ∷ []) alpha eight all = absurd (omega arith)
full_block abc (a ∷ b ∷ []) alpha eight all = absurd (omega arith)
full_block abc (a ∷ b ∷ c ∷ []) alpha eight all = absurd (omega arith)
full_block abc (a ∷ b ∷ c ∷ d ∷ []) alpha eight all = absurd (omega arith)
full_block abc (a ∷ b ∷ c ∷ d ∷ e ∷ []) alpha eight all = absurd (omega arith)
full_block abc (a ∷ b ∷ c ∷ d ∷ e ∷ f ∷ []) alpha eight all = absurd (omega arith)
full_block abc (a ∷ b ∷ c ∷ d ∷ e ∷ f ∷ g ∷ []) alpha eight all = absurd (omega arith)
full_block abc (a ∷ b ∷ c ∷ d ∷ e ∷ f ∷ g ∷ h ∷ i ∷ rest) alpha eight all = absurd (omega arith)

-- a text that begins with a full block
-- begins with the code of the five bytes of that block
pub begins_full : (abc text block after : List ℕ) → is_alphabet abc ≡ true → block ≡ take 8 text → after ≡ drop 8 text → 8 ≤ length text
    → list_all (is_letter abc) block ≡ true
    → BeginsWithBlock abc text (block_bytes abc block) 5 after
begins_full abc text block after alpha front back long all =
    let eight : length block ≡ 8 = ap length front ∙ length-take-le 8 text long in
    let full = full_block abc block alpha eight all in
    record {
      some = omega (arith, long);
      few = omega arith;
      five = refl;
      are_bytes = full.are_bytes;
      is_code = sym (take-append-drop 8 text) ∙ ap (λ x. x ++ drop 8 text) (sym front ∙ full.is_code)
          ∙ ap (λ x. code32 abc (block_bytes abc block) ++ x) (sym back);
      is_after = back;
      last = λ short. absurd (omega (arith, short));
    }
