-- What the nearest characters that are not neutral tell: of a joiner's neighbours, and of the end of a label.
use Rattle.std.proofs.Common.{◌≡◌, ℕ, ◌+◌, ◌<◌, ◌↔◌, Bool, false, List, length, get_or, refl, sym, ◌∙◌, arith}
use Rattle.std.specs.Prelude.{IsTrue}
use Rattle.std.proofs.lemmas.Bool.{false≢true}
use Rattle.ucd_bidi.specs.BidiClass.{bidi_class}
use Rattle.ucd_bidi.specs.declared.BidiClass.{BidiClass}
use Rattle.ucd_bidi.specs.declared.BidiClass.TheVariants.{NonspacingMark}
use Rattle.ucd_bidi.specs.JoiningType.{joining_type}
use Rattle.ucd_bidi.specs.declared.JoiningType.{JoiningType}
use Rattle.ucd_bidi.specs.declared.JoiningType.TheVariants.{Transparent}
use Rattle.strkw_label.specs.BidiRule.{EndsIn}
use Rattle.strkw_label.specs.ContextRules.{JoinsBefore, JoinsFrom, joins_to_the_left, joins_to_the_right}
use Rattle.strkw_label.proofs.Settled.{last_settled, last_none, first_settled, first_none}

-- all between place `at` and place k are transparent
abbrev pub AreTransparent : List ℕ → ℕ → ℕ → Type 0
AreTransparent label from k = (m : ℕ) → from < m + 1 → m < k → joining_type (get_or label m 0) ≡ Transparent

-- the answer where a place is not transparent, and those behind it and before k are
pub before_settled : (label : List ℕ) (k at : ℕ) (here : JoiningType) (r : Bool) → r ≡ joins_to_the_left here → at < k
    → here ≡ joining_type (get_or label at 0) → (here ≡ Transparent → ⊥) → AreTransparent label (at + 1) k → IsTrue r ↔ JoinsBefore label k
before_settled label k at here r e lt is other rest =
    let told = last_settled joining_type Transparent joins_to_the_left refl label k at here lt is other (λ m a b. rest m (omega arith) b) in (
      λ t. let p = told.0 (sym e ∙ t) in record { at = p.0; before = p.1; joining = p.2; between = p.3 },
      λ j. e ∙ told.1 (j.at, j.before, j.joining, j.between),
    )

-- and where all before k are
pub before_none : (label : List ℕ) (k : ℕ) → AreTransparent label 0 k → IsTrue false ↔ JoinsBefore label k
before_none label k all = (
  λ t. absurd (false≢true t),
  λ j. absurd (last_none joining_type Transparent joins_to_the_left refl label k (λ m lt. all m (omega arith) lt) (j.at, j.before, j.joining, j.between)),
)

-- the answer where a place is not transparent, and those from k on and before it are
pub from_settled : (label : List ℕ) (k at : ℕ) (here : JoiningType) (r : Bool) → r ≡ joins_to_the_right here → k < at + 1 → at < length label
    → here ≡ joining_type (get_or label at 0) → (here ≡ Transparent → ⊥) → AreTransparent label k at → IsTrue r ↔ JoinsFrom label k
from_settled label k at here r e from lt is other rest =
    let told = first_settled joining_type Transparent joins_to_the_right refl label k at here from lt is other rest in (
      λ t. let p = told.0 (sym e ∙ t) in record { at = p.0; after = p.1; within = p.2; joining = p.3; between = p.4 },
      λ j. e ∙ told.1 (j.at, j.after, j.within, j.joining, j.between),
    )

-- and where all from k on are
pub from_none : (label : List ℕ) (k : ℕ) → AreTransparent label k (length label) → IsTrue false ↔ JoinsFrom label k
from_none label k all = (
  λ t. absurd (false≢true t),
  λ j. absurd (first_none joining_type Transparent joins_to_the_right refl label k all (j.at, j.after, j.within, j.joining, j.between)),
)

-- all from a place on are nonspacing marks
abbrev pub AreMarks : List ℕ → ℕ → Type 0
AreMarks label from = (m : ℕ) → from < m + 1 → m < length label → bidi_class (get_or label m 0) ≡ NonspacingMark

-- a place that is no nonspacing mark, with such marks alone behind it, is the end
pub end_settled : (ends : BidiClass → Bool) → ends NonspacingMark ≡ false → (label : List ℕ) (at : ℕ) (here : BidiClass) → at < length label
    → here ≡ bidi_class (get_or label at 0) → (here ≡ NonspacingMark → ⊥) → AreMarks label (at + 1) → IsTrue (ends here) ↔ EndsIn ends label
end_settled ends fails label at here lt is other rest =
    let told = last_settled bidi_class NonspacingMark ends fails label (length label) at here lt is other (λ m a b. rest m (omega arith) b) in (
      λ t. let p = told.0 t in record { at = p.0; within = p.1; end = p.2; marks = p.3 },
      λ e. told.1 (e.at, e.within, e.end, e.marks),
    )

-- and a label of such marks has none
pub end_none : (ends : BidiClass → Bool) → ends NonspacingMark ≡ false → (label : List ℕ) → AreMarks label 0 → IsTrue (ends NonspacingMark) ↔ EndsIn ends label
end_none ends fails label all = (
  λ t. absurd (false≢true (sym fails ∙ t)),
  λ e. absurd (last_none bidi_class NonspacingMark ends fails label (length label) (λ m lt. all m (omega arith) lt) (e.at, e.within, e.end, e.marks)),
)
