-- Lemmas on the notes that are printed.
use Rattle.std.proofs.Common.{◌≡◌, ℕ, false, zero, suc, ◌+◌, ◌<◌, List, [], ◌∷◌, ◌++◌, length, get_or, take, ap, sym, ◌∙◌, append_assoc, arith}
use Rattle.std.proofs.lemmas.List.Concat.{flat_map-append}
use Rattle.std.proofs.lemmas.List.Elements.{All-nil, All-cons, All-head, All-tail}
use Rattle.strkw_pattern.specs.declared.engine.Outcome.{Outcome}
use Rattle.serde_json.specs.Data.{Data}
use Rattle.serde_json.specs.Written.{has_float}
use Rattle.strkw_keywords.specs.declared.keyword.Keyword.{Keyword}
use Rattle.strkw_keywords.specs.Remarks.{Remark, remark_at}
use Rattle.strkw_keywords.specs.Validators.{remarks_in, listed_remark, remark_made}
use Rattle.strkw_keywords.specs.declared.validator.Validator.{Validator}
use Rattle.strkw_object.specs.Printable.{HasText, ArePrintable}
use Rattle.strkw_print.specs.Printed.{note_line, note_lines}
use Rattle.strkw_object.proofs.Many.{remarks_more}

-- where all of joined notes can be printed, so can those of both parts
printable_split : (rs ss : List Remark) → ArePrintable (rs ++ ss) → ArePrintable rs × ArePrintable ss
printable_split [] ss h = (All-nil HasText, h)
printable_split (r ∷ rs) ss h =
    let below = printable_split rs ss (All-tail HasText r (rs ++ ss) h) in
    (All-cons HasText r rs (All-head HasText r (rs ++ ss) h) below.0, below.1)

-- where all notes can be printed, those of each validator can
pub printable_at : {E : Type 0} (vs : List (Validator E)) (i : ℕ) (v : Validator E) → ArePrintable (remarks_in vs) → i < length vs → v ≡ get_or vs i v
    → ArePrintable (listed_remark (remark_made v))
printable_at [] i v printable within is = absurd (omega (arith, within))
printable_at (w ∷ vs) zero v printable within is = rw is (printable_split (listed_remark (remark_made w)) (remarks_in vs) printable).0
printable_at (w ∷ vs) (suc i) v printable within is = printable_at vs i v (printable_split (listed_remark (remark_made w)) (remarks_in vs) printable).1
    (omega (arith, within)) is

-- the lines up to one validator more
pub noted_more : {E : Type 0} (outcome : E → List ℕ → Outcome) (vs : List (Validator E)) (i : ℕ) (v : Validator E) (old mid new : List ℕ) → i < length vs
    → v ≡ get_or vs i v
    → mid ≡ old ++ note_lines (remarks_in (take i vs)) → new ≡ mid ++ note_lines (listed_remark (remark_made v))
    → new ≡ old ++ note_lines (remarks_in (take (i + 1) vs))
noted_more outcome vs i v old mid new within is first second =
    let front = remarks_in (take i vs) in
    let back = listed_remark (remark_made v) in
    second ∙ ap (λ l. l ++ note_lines back) first ∙ append_assoc old (note_lines front) (note_lines back)
    ∙ ap (λ l. old ++ l) (sym (ap note_lines (remarks_more outcome vs i v within is) ∙ flat_map-append note_line front back))

-- the value of one note that can be printed
pub printed_value : (location : List ℕ) (keyword : Keyword) (value : Data) → ArePrintable (remark_at location keyword value ∷ []) → has_float value ≡ false
printed_value location keyword value printable = All-head HasText (remark_at location keyword value) [] printable
