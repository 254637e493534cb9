-- What rows have left behind their next record.
use Rattle.std.proofs.Common.{◌≡◌, ℕ, List, Option, Some, None, refl, sym, subst}
use Rattle.std.specs.Prelude.{Result, Ok, Err, IfOk, IfSome}
use Rattle.neldrafi_csv.specs.declared.faults.ReadFault.{ReadFault}
use Rattle.neldrafi_csv.specs.declared.place.Place.{Place}
use Rattle.neldrafi_csv.specs.declared.reader.Record.{Record}
use Rattle.neldrafi_csv.specs.Reading.{Takes, delimiter_of, place_of, unread_of, values_of}
use Rattle.neldrafi_csv.specs.Records.{HasNoRecord, IsMisplaced, TakesRecord}
use Rattle.neldrafi_table.specs.declared.rows.Rows.{Rows}
use Rattle.neldrafi_table.specs.Reading.{HasLeft, IsLeftBy, TakesNext, delimiter_in}

module _ {R : Type 0} (rem : R → Option (List ℕ)) where
  -- what is left if nothing was read ahead
  pub left_unread : (rows : Rows R) (place : Place) (text : List ℕ) → rows.ahead ≡ None → HasLeft rem rows place text
      → (place_of rows.reader ≡ place) × (unread_of rem rows.reader ≡ Some text)
  left_unread rows place text none left = subst (λ ahead. IsLeftBy rem rows.reader ahead place text) none left

  -- the record that a reader takes is the next one, and nothing is then read ahead
  taken : (old new : Rows R) (text : List ℕ) (found : Record) → new.ahead ≡ None → delimiter_in new ≡ delimiter_in old
      → Takes rem old.reader new.reader text found
      → TakesNext rem old new (place_of old.reader) text found.line (values_of new.reader) × IsMisplaced (values_of new.reader) found.misplaced
  taken old new text found none parts (rest, unread, takes, misplaced) = (
    (place_of new.reader, rest, takes, subst (λ ahead. IsLeftBy rem new.reader ahead (place_of new.reader) rest) (sym none) (refl, unread), parts),
    misplaced,
  )

  pub taken_now : (old new : Rows R) (r : Result (Option Record) ReadFault) (text : List ℕ) → new.ahead ≡ None → delimiter_in new ≡ delimiter_in old
      → IfOk r (λ o. IfSome o (Takes rem old.reader new.reader text))
      → IfOk r (λ o. IfSome o (λ found. TakesNext rem old new (place_of old.reader) text found.line (values_of new.reader)
      × IsMisplaced (values_of new.reader) found.misplaced))
  taken_now old new (Err e) text none parts takes = tt
  taken_now old new (Ok None) text none parts takes = tt
  taken_now old new (Ok (Some found)) text none parts takes = taken old new text found none parts takes

  -- a record that was read ahead is taken
  pub taken_ahead : (old new : Rows R) (ahead : Option Record) (place : Place) (text : List ℕ) → old.ahead ≡ Some ahead → new.ahead ≡ None
      → new.reader ≡ old.reader → HasLeft rem old place text
      → IfSome ahead (λ found. TakesNext rem old new place text found.line (values_of old.reader) × IsMisplaced (values_of old.reader) found.misplaced)
  taken_ahead old new None place text is none same left = tt
  taken_ahead old new (Some found) place text is none same left =
      let (rest, unread, takes, misplaced) = subst (λ ahead. IsLeftBy rem old.reader ahead place text) is left in
      let behind : HasLeft rem new (place_of old.reader) rest =
      subst (λ ahead. IsLeftBy rem new.reader ahead (place_of old.reader) rest) (sym none)
      (subst (λ reader. (place_of reader ≡ place_of old.reader) × (unread_of rem reader ≡ Some rest)) (sym same) (refl, unread)) in (
        (place_of old.reader, rest, takes, behind, subst (λ reader. delimiter_of reader ≡ delimiter_in old) (sym same) refl),
        misplaced,
      )

  pub ended_ahead : (old : Rows R) (ahead : Option Record) (place : Place) (text : List ℕ) → old.ahead ≡ Some ahead → HasLeft rem old place text
      → ahead ≡ None → HasNoRecord text
  ended_ahead old None place text is left none = subst (λ ahead. IsLeftBy rem old.reader ahead place text) is left
  ended_ahead old (Some found) place text is left none = cc none

  -- what was read ahead is still left
  pub looked_at : (old new : Rows R) (ahead : Option Record) (text : List ℕ) → new.ahead ≡ Some ahead → delimiter_in new ≡ delimiter_in old
      → IfSome ahead (Takes rem old.reader new.reader text) → (ahead ≡ None → HasNoRecord text) → HasLeft rem new (place_of old.reader) text
  looked_at old new None text is parts takes end =
      subst (λ ahead. IsLeftBy rem new.reader ahead (place_of old.reader) text) (sym is) (end refl)
  looked_at old new (Some found) text is parts (rest, unread, takes, misplaced) end =
      subst (λ ahead. IsLeftBy rem new.reader ahead (place_of old.reader) text) (sym is) (
        rest,
        unread,
        subst (λ delimiter. TakesRecord delimiter (place_of old.reader) text found.line (values_of new.reader) (place_of new.reader) rest) (sym parts) takes,
        misplaced,
      )

  pub found_ahead : (old new : Rows R) (ahead : Option Record) (text : List ℕ) → IfSome ahead (Takes rem old.reader new.reader text)
      → IfSome ahead (λ found. (behind : Place) × (rest : List ℕ)
      × TakesRecord (delimiter_in old) (place_of old.reader) text found.line (values_of new.reader) behind rest)
  found_ahead old new None text takes = tt
  found_ahead old new (Some found) text (rest, unread, takes, misplaced) = (place_of new.reader, rest, takes)
