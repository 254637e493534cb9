-- Texts read from the front, a part at a time.
use Rattle.std.proofs.Common.{◌↔◌, ℕ, List, [], inl, inr, sym, subst, ◌∙◌}
use Rattle.strkw_text.specs.Abnf.{Form, ◌⨾◌, Empty, Optional, Repeat}
use Rattle.strkw_text.specs.Fronts.{StartsWith, StartsWithNo, OptionThen}
use Rattle.strkw_text.proofs.Equivalences.{iff_trans, iff_sym}
use Rattle.strkw_text.proofs.Laws.{optional_then, repeat_then, then_empty, no_start_then}
use Rattle.strkw_text.proofs.Runs.{IsPrefixFree, free_then, free_whole, no_start_whole}

-- *A B, where nothing that B derives begins with an A
module _ (A B : Form) (free : IsPrefixFree A) (stops : (x : List ℕ) → B x → StartsWithNo A x) where
  -- a text that begins with an A is a *A B exactly where what follows that A is one
  pub repeat_step : (text after : List ℕ) → StartsWith A text after → (Repeat A ⨾ B) text ↔ (Repeat A ⨾ B) after
  repeat_step text after f =
      let i = free_then A (Repeat A ⨾ B) text after free f in (
        λ h. elim ((repeat_then A B text).0 h) [ inl b ↦ absurd (stops text b after f) | inr r ↦ i.0 r ],
        λ h. (repeat_then A B text).1 (inr (i.1 h)),
      )

  -- a text that begins with no A is a *A B exactly where it is a B
  pub repeat_end : (text : List ℕ) → StartsWithNo A text → (Repeat A ⨾ B) text ↔ B text
  repeat_end text n = (
    λ h. elim ((repeat_then A B text).0 h) [ inl b ↦ b | inr r ↦ absurd (no_start_then A (Repeat A ⨾ B) text n r) ],
    λ b. (repeat_then A B text).1 (inl b),
  )

-- *A as the whole text, where no A is empty
module _ (A : Form) (free : IsPrefixFree A) (some : StartsWithNo A []) where
  -- an empty text begins with no A
  nothing_stops : (x : List ℕ) → Empty x → StartsWithNo A x
  nothing_stops x e = subst (StartsWithNo A) (sym e) some

  -- a text that begins with an A is a *A exactly where what follows that A is one
  pub whole_step : (text after : List ℕ) → StartsWith A text after → Repeat A text ↔ Repeat A after
  whole_step text after f =
      iff_trans (then_empty (Repeat A) text) (iff_trans (repeat_step A Empty free nothing_stops text after f) (iff_sym (then_empty (Repeat A) after)))

  -- a text that begins with no A is a *A exactly where it is empty
  pub whole_end : (text : List ℕ) → StartsWithNo A text → Repeat A text ↔ Empty text
  whole_end text n = iff_trans (then_empty (Repeat A) text) (repeat_end A Empty free nothing_stops text n)

-- a form all of whose texts another derives
-- is prefix-free where the other is
pub free_by : (A A' : Form) → ((x : List ℕ) → A x → A' x) → IsPrefixFree A' → IsPrefixFree A
free_by A A' f free p q x y a b e = free p q x y (f p a) (f q b) e

-- [A] B read greedily, where B goes on to derive what is left when an A is dropped from its front
-- and A is prefix-free, derives a text exactly where B derives what is left of it
pub greedy : (A B : Form) (text rest : List ℕ) → IsPrefixFree A → ((x y : List ℕ) → B x → StartsWith A x y → B y) → OptionThen A text rest
    → (Optional A ⨾ B) text ↔ B rest
greedy A B text rest free drops (inl f) = (
  λ h. elim ((optional_then A B text).0 h) [ inl a ↦ (free_then A B text rest free f).0 a | inr b ↦ drops text rest b f ],
  λ b. (optional_then A B text).1 (inl ((free_then A B text rest free f).1 b)),
)
greedy A B text rest free drops (inr n) = (
  λ h. elim ((optional_then A B text).0 h) [ inl a ↦ absurd (no_start_then A B text n.0 a) | inr b ↦ subst B (sym n.1) b ],
  λ b. (optional_then A B text).1 (inr (subst B n.1 b)),
)

-- then [A] B too goes on to derive what is left when an A is dropped from its front
pub greedy_drops : (A B : Form) → IsPrefixFree A → ((x y : List ℕ) → B x → StartsWith A x y → B y) → (x y : List ℕ) → (Optional A ⨾ B) x → StartsWith A x y
    → (Optional A ⨾ B) y
greedy_drops A B free drops x y h f = elim ((optional_then A B x).0 h) [
  | inl a ↦ (optional_then A B y).1 (inr ((free_then A B x y free f).0 a))
  | inr b ↦ (optional_then A B y).1 (inr (drops x y b f))
]

-- [A] as the whole text, where no A is empty
module _ (A : Form) (free : IsPrefixFree A) (some : StartsWithNo A []) where
  -- [A] goes on to derive what is left when an A is dropped from its front
  pub optional_drops : (x y : List ℕ) → Optional A x → StartsWith A x y → Optional A y
  optional_drops x y (inl e) f = absurd (subst (StartsWithNo A) (sym e) some y f)
  optional_drops x y (inr a) f = inl ((free_whole A x y free f).0 a)

  -- a text read greedily is an [A] exactly where nothing is left of it
  pub greedy_whole : (text rest : List ℕ) → OptionThen A text rest → Optional A text ↔ Empty rest
  greedy_whole text rest (inl f) =
      let i = free_whole A text rest free f in
      (λ o. elim o [ inl e ↦ absurd (subst (StartsWithNo A) (sym e) some rest f) | inr a ↦ i.0 a ], λ e. inr (i.1 e))
  greedy_whole text rest (inr n) =
      (λ o. elim o [ inl e ↦ n.1 ∙ e | inr a ↦ absurd (no_start_whole A text n.0 a) ], λ e. inl (sym n.1 ∙ e))
