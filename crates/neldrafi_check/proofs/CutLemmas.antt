-- What is written of one character more, and of all.
use Rattle.std.proofs.Common.{◌≡◌, ◌∙◌, ◌++◌, ◌∷◌, ◌+◌, ◌<◌, ◌≤◌, ℕ, List, [], length, take, drop, sym, ap, arith, append_assoc, append-nil}
use Rattle.std.proofs.lemmas.Grind.{common_steps, flat_map-append}
use Rattle.std.proofs.lemmas.List.{take-append-le, drop-append-le, take_all, drop_all, length-append}
use Rattle.std.specs.List.{flat_map}
use Rattle.neldrafi_check.specs.Shown.{shown_char}
use Rattle.neldrafi_check.specs.Cutting.{cut_chars}
use Rattle.neldrafi_check.specs.machine.Cuts.{cut_step, cut_front}

module _ (cs : List ℕ) (c : ℕ) where
  abbrev shown : List ℕ → List ℕ
  shown xs = flat_map shown_char xs

  shown_more : shown (cs ++ c ∷ []) ≡ shown cs ++ shown_char c
  shown_more = flat_map-append shown_char cs (c ∷ []) ∙ ap (λ l. shown cs ++ l) (append-nil (shown_char c))

  longer : length (cs ++ c ∷ []) ≡ length cs + 1
  longer = length-append cs (c ∷ [])

  front_more : length cs < 200 → shown (take 200 (cs ++ c ∷ [])) ≡ shown (take 200 cs) ++ shown_char c
  front_more less =
      ap shown (take_all 200 (cs ++ c ∷ []) (omega (arith, longer, less))) ∙ shown_more ∙ ap (λ l. shown l ++ shown_char c) (sym (take_all 200 cs (omega (arith, less))))

  front_same : 200 ≤ length cs → shown (take 200 (cs ++ c ∷ [])) ≡ shown (take 200 cs)
  front_same more = ap shown (take-append-le 200 cs (c ∷ []) more)

  back_more : (n : ℕ) → n ≤ length cs → shown (drop n (cs ++ c ∷ [])) ≡ shown (drop n cs) ++ shown_char c
  back_more n less =
      ap shown (drop-append-le n cs (c ∷ []) less) ∙ flat_map-append shown_char (drop n cs) (c ∷ []) ∙ ap (λ l. shown (drop n cs) ++ l) (append-nil (shown_char c))

  back_none : (n : ℕ) → length cs < n → shown (drop n (cs ++ c ∷ [])) ≡ []
  back_none n more = ap shown (drop_all n (cs ++ c ∷ []) (omega (arith, longer, more)))

  back_empty : (n : ℕ) → length cs ≤ n → shown (drop n cs) ≡ []
  back_empty n more = ap shown (drop_all n cs more)

  pub kept_more : (count : ℕ) → cut_front count (cs ++ c ∷ []) ≡ cut_front count cs ++ cut_step count (length cs) c
  kept_more count = grind (arith, common_steps, shown_more, longer, front_more, front_same, back_more, back_none, back_empty, append_assoc, append-nil)

-- all of them
pub cut_whole : (cs : List ℕ) → cut_front (length cs) cs ≡ cut_chars cs
cut_whole cs = grind (arith, common_steps)
