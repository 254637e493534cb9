-- A form at the front of a text, and exactly one text behind it.
use Rattle.std.proofs.Common.{◌↔◌, ℕ, List, ◌++◌, refl, sym, ap, subst, ◌∙◌}
use Rattle.strkw_text.specs.Abnf.{Form, ◌⨾◌, Literal}
use Rattle.strkw_text.specs.Fronts.{StartsWith}
use Rattle.strkw_text.proofs.Equivalences.{iff_trans}
use Rattle.strkw_text.proofs.Laws.{assoc, then_starts, starts_then}
use Rattle.strkw_mail.specs.Scan.{StartsOnly}

-- a text begins with an A, and x follows, exactly where it is an A and x
pub starts_literal : (A : Form) (text x : List ℕ) → StartsWith A text x ↔ (A ⨾ Literal x) text
starts_literal A text x = (
  λ f. record { front = f.front; back = x; first = f.is; second = refl; joined = f.joined },
  λ h. record { front = h.front; is = h.first; joined = ap (λ s. h.front ++ s) (sym h.second) ∙ h.joined },
)

-- it begins with an A B, and x follows, exactly where it is an A, a B and x
pub starts_then_literal : (A B : Form) (text x : List ℕ) → StartsWith (A ⨾ B) text x ↔ (A ⨾ B ⨾ Literal x) text
starts_then_literal A B text x = iff_trans (starts_literal (A ⨾ B) text x) (assoc A B (Literal x) text)

-- an A and then B, where one text alone can follow the A
-- are a text exactly where B derives that one
pub only_then : (A B : Form) (text rest : List ℕ) → StartsOnly A text rest → (A ⨾ B) text ↔ B rest
only_then A B text rest only = (
  λ h. subst B (sym ((only h.back).0 (then_starts A B text h))) h.second,
  λ b. starts_then A B text rest ((only rest).1 refl) b,
)
