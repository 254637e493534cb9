-- The check of a table, record by record.
use Rattle.std.proofs.Common.{◌≡◌, ◌∙◌, ◌++◌, ℕ, List, [], length, sym, ap, subst, append_assoc, append-nil, inl, inr, Option, Some, None, Result, Ok, Err}
use Rattle.std.specs.Prelude.{IfOk, IfSome}
use Rattle.std.specs.declared.alloc.AllocError.{AllocError}
use Rattle.csv.specs.Records.{AllText}
use Rattle.csv.proofs.RecordFacts.{text-of}
use Rattle.neldrafi_csv.proofs.RecordFacts.{misplaced-or-none}
use Rattle.serde_json.specs.View.{view}
use Rattle.serde_json.specs.declared.value.Value.{Value}
use Rattle.neldrafi_csv.specs.declared.place.Place.{Place}
use Rattle.neldrafi_csv.specs.Records.{HasNoRecord, IsMisplaced, TakesRecord, texts_of}
use Rattle.neldrafi_table.specs.declared.columns.FieldTypes.{FieldTypes}
use Rattle.neldrafi_table.specs.declared.faults.RowFault.{RowFault}
use Rattle.neldrafi_table.specs.declared.faults.RowFault.TheVariants.{Fields, MisplacedQuote, NotUtf8}
use Rattle.neldrafi_table.specs.declared.forms.EmptyField.{EmptyField}
use Rattle.neldrafi_table.specs.Objects.{IsRead}
use Rattle.neldrafi_check.proofs.CountLemmas.{both_assoc, nothing_before, nothing_behind}
use Rattle.neldrafi_check.specs.Counting.{both, of_nothing}
use Rattle.neldrafi_check.specs.Files.{Errors, UnreadTold, ValueTold}
use Rattle.neldrafi_check.specs.Forms.{Form}
use Rattle.neldrafi_check.specs.Messages.{Adds, at_front}
use Rattle.neldrafi_check.specs.Tables.{RecordTold, RecordsTold}
use Rattle.neldrafi_check.specs.declared.counts.Counts.{Counts}
use Rattle.neldrafi_check.specs.machine.Tables.{Checking}

-- what is said of a value that is there
pub at_some : {A : Type 0} (o : Option A) (a : A) (P : A → Type 0) → o ≡ Some a → IfSome o P → P a
at_some o a P is h = subst (λ p. IfSome p P) is h

module _ (told : ℕ → List (Option (List ℕ)) → Counts → List ℕ → Type 0) (delimiter : ℕ) (place : Place) (text : List ℕ) where
  -- before the first record
  pub start : (out : List ℕ) → out ≡ [] → Checking told delimiter place text of_nothing place text ([] ++ out)
  start out is others later rest =
      subst (λ n. RecordsTold told delimiter place text n (([] ++ out) ++ later)) (sym (nothing_before others))
      (subst (λ o. RecordsTold told delimiter place text others (([] ++ o) ++ later)) (sym is) rest)

  -- one record more, of which some was written, with what was gathered before, and the rest is kept
  pub step : (count more total : Counts) (line : ℕ) (next behind : Place) (rest left : List ℕ) (values : List (Option (List ℕ))) (written old mid new put pushed : List ℕ)
      → Checking told delimiter place text count next rest (written ++ old) → TakesRecord delimiter next rest line values behind left
      → told line values more pushed → total ≡ both count more → mid ≡ old ++ pushed → mid ≡ put ++ new
      → Checking told delimiter place text total behind left ((written ++ put) ++ new)
  step count more total line next behind rest left values written old mid new put pushed going takes added sum grown kept others later records =
      let all = going (both more others) (pushed ++ later) (RecordsTold.more next behind rest left line more others values pushed later takes added records) in
      let made = append_assoc written put new ∙ ap (λ l. written ++ l) (sym kept ∙ grown) ∙ sym (append_assoc written old pushed) in
      let counted = both_assoc count more others ∙ ap (λ n. both n others) (sym sum) in
      subst (λ n. RecordsTold told delimiter place text n (((written ++ put) ++ new) ++ later)) counted
      (subst (λ l. RecordsTold told delimiter place text (both count (both more others)) l)
      (sym (append_assoc (written ++ old) pushed later) ∙ ap (λ l. l ++ later) (sym made)) all)

  -- behind the last
  pub finish : (count : Counts) (next : Place) (rest made : List ℕ) → HasNoRecord rest → Checking told delimiter place text count next rest made
      → RecordsTold told delimiter place text count made
  finish count next rest made ended going =
      let all = going of_nothing [] (RecordsTold.none next rest ended) in
      subst (λ n. RecordsTold told delimiter place text n made) (nothing_behind count)
      (subst (λ l. RecordsTold told delimiter place text (both count of_nothing) l) (append-nil made) all)

-- what is written of a record, by what it was read as
module _ (errors : Errors) (form : Form) (empty : EmptyField) (columns : List (List ℕ × FieldTypes))
    (line : ℕ) (values : List (Option (List ℕ))) (old new : List ℕ) where
  pub object_told : (value : Value) (result : Result Counts AllocError) → IsRead empty columns values (Ok value)
      → IfOk result (λ count. Adds (ValueTold (errors (view value)) form (at_front line) count) old new)
      → IfOk result (λ count. Adds (RecordTold errors form empty columns line values count) old new)
  object_told value (Err e) read adds = tt
  object_told value (Ok count) (whole, same, text, is) (made, grown, says) =
      (made, grown, inl (whole, same, text, subst (λ d. ValueTold (errors d) form (at_front line) count made) is says))

  no_object : (why : RowFault) → IsRead empty columns values (Err why) → IsMisplaced values None → (length values ≡ length columns) → AllText (texts_of values) → ⊥
  no_object (MisplacedQuote number) first whole same text = misplaced-or-none values number whole first
  no_object (Fields found expected) (read, is_found, is_expected, other) whole same text = other (is_found ∙ same ∙ sym is_expected)
  no_object (NotUtf8 number) (read, first) whole same text = first.broken (text-of (texts_of values) first.at first.field text first.found)

  pub fault_told : (why : RowFault) (result : Result Counts AllocError) → IsRead empty columns values (Err why)
      → IfOk result (λ count. Adds (UnreadTold form line count) old new)
      → IfOk result (λ count. Adds (RecordTold errors form empty columns line values count) old new)
  fault_told why (Err e) read adds = tt
  fault_told why (Ok count) read (made, grown, says) = (made, grown, inr (no_object why read, says))
