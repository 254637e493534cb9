-- Records at the front of what a reader has left.
use Rattle.std.proofs.Common.{◌≡◌, ◌≢◌, ◌≤◌, ◌<◌, ◌+◌, ℕ, List, [], ◌∷◌, ◌++◌, take, drop, length, map, Bool, true, false, refl, sym, ap, subst, arith, ◌∙◌}
use Rattle.std.proofs.Common.{append_assoc, Option, Some, None}
use Rattle.std.specs.Prelude.{Err, IfSome, Ok, OnErr, Result, slice_get}
use Rattle.std.specs.Io.KnownBytes.{IsAtEnd, prepend_known}
use Rattle.std.specs.List.{AllByRecursion}
use Rattle.std.proofs.lemmas.List.{append-nil, drop-append-le, length-append, take-append-drop, take-append-le}
use Rattle.std.proofs.lemmas.Option.{slice_get_within}
use Rattle.neldrafi_csv.specs.declared.faults.ReadFault.{ReadFault}
use Rattle.neldrafi_csv.specs.declared.faults.ReadFault.TheVariants as fault
use Rattle.neldrafi_csv.specs.declared.fields.Fields.{Fields}
use Rattle.neldrafi_csv.specs.declared.fields.Span.{Span}
use Rattle.neldrafi_csv.specs.declared.fields.Taken.TheVariants as taken
use Rattle.neldrafi_csv.specs.declared.place.Place.{Place}
use Rattle.neldrafi_csv.specs.declared.reader.RecordReader.{RecordReader}
use Rattle.neldrafi_csv.specs.Grammar.{AreBefore, IsRecord, is_line_byte, quote}
use Rattle.neldrafi_csv.specs.Lines.{AreLineBytes, place_after}
use Rattle.neldrafi_csv.specs.Reading.{Explains, Skips, Takes, at_hand, delimiter_of, place_of, unread_of, values_of}
use Rattle.neldrafi_csv.specs.Records.{EndsRecord, IsMisplaced, IsOpen, IsTooLong, TakesRecord}
use Rattle.neldrafi_csv.specs.machine.Faults.{Fails}
use Rattle.neldrafi_csv.specs.machine.Readers.{TakesAt}
use Rattle.neldrafi_csv.specs.machine.Scans.{IsKnown, StaysOpen}
use Rattle.neldrafi_csv.specs.machine.Spans.{AreTaken, IsKept, IsTaken, IsWithin, value_in, values_in}
use Rattle.neldrafi_csv.proofs.FieldLemmas.{values-grown}
use Rattle.neldrafi_csv.proofs.InputLemmas.{buffer-front, fails-later}
use Rattle.neldrafi_csv.proofs.ScanLemmas.{known-grown}
use Rattle.neldrafi_csv.proofs.LineLemmas.{are_line_bytes-append, place_after-append, place_after-nil}

-- ---- more bytes behind those of which fields were taken

pub taken-grown : (delimiter : ℕ) (bytes more longer : List ℕ) (fields : Fields) → longer ≡ bytes ++ more → AreTaken delimiter bytes fields
    → AreTaken delimiter longer fields
taken-grown delimiter bytes more longer fields is (kept, before, known) =
    let same : values_in (bytes ++ more) fields ≡ values_in bytes fields =
    ap (λ l. map (value_in (bytes ++ more) l) fields.spans.items) (sym (append-nil fields.copied.items))
    ∙ values-grown bytes more fields.copied.items [] fields.start fields.spans.items kept.spans kept.within in
    let long = length-append bytes more in
    subst (λ l. AreTaken delimiter l fields) (sym is) (
      record {
        within = omega (arith, long, kept.within);
        spans = kept.spans;
        misplaced = subst (λ l. IsMisplaced l fields.misplaced) (sym same) kept.misplaced;
      },
      subst (λ l. AreBefore delimiter l (values_in (bytes ++ more) fields)) (sym (take-append-le fields.start bytes more kept.within))
          (subst (AreBefore delimiter (take fields.start bytes)) (sym same) before),
      subst (λ l. IsKnown l fields.known) (sym (drop-append-le fields.start bytes more kept.within)) (known-grown (drop fields.start bytes) more fields.known known),
    )

-- ---- a record, or a field that is not closed, at the front of the buffer

pub fails-explains : (delimiter : ℕ) (place : Place) (text : List ℕ) (why : ReadFault) → Fails place text why → Explains delimiter place text why
fails-explains delimiter place text (fault.Read e) h = tt
fails-explains delimiter place text (fault.OpenQuote line) h = absurd h
fails-explains delimiter place text fault.Memory h = tt
fails-explains delimiter place text fault.TooLong h = h

-- what is left of the source ends the record
pub record-ends : (buffer : List ℕ) (k : Option (List ℕ)) (text : List ℕ) (start : ℕ) (is_last : Bool) → prepend_known buffer k ≡ Some text → start ≤ length buffer
    → (is_last ≡ true → IsAtEnd k) → ((rest : List ℕ) → (is_last ≡ true → rest ≡ []) → EndsRecord (drop start buffer ++ rest)) → EndsRecord (drop start text)
record-ends buffer None text start is_last e within last ends = cc e
record-ends buffer (Some ys) text start is_last e within last ends =
    let all : buffer ++ ys ≡ text = cc in
    subst EndsRecord (sym (drop-append-le start buffer ys within) ∙ ap (drop start) all) (ends ys last)

pub stays-open : (delimiter : ℕ) (place : Place) (buffer : List ℕ) (k : Option (List ℕ)) (text : List ℕ) (fields : Fields) (line : ℕ) → prepend_known buffer k ≡ Some text
    → IsAtEnd k → AreTaken delimiter buffer fields → StaysOpen (drop fields.start buffer) → line ≡ (place_after place (take fields.start buffer)).line
    → IsOpen delimiter place text line
stays-open delimiter place buffer None text fields line e last taken quoted at_line = cc e
stays-open delimiter place buffer (Some ys) text fields line e last taken quoted at_line =
    let all : buffer ++ ys ≡ text = cc in
    let whole : text ≡ buffer = sym all ∙ ap (λ l. buffer ++ l) last ∙ append-nil buffer in record {
      blank = [];
      before = take fields.start buffer;
      inside = quoted.inside;
      values = values_in buffer fields;
      value = quoted.value;
      splits = whole ∙ sym (take-append-drop fields.start buffer) ∙ ap (λ l. take fields.start buffer ++ l) quoted.splits;
      skips = tt;
      fields = taken.1;
      stays = quoted.escaped;
      at_line = at_line ∙ ap (λ p. (place_after p (take fields.start buffer)).line) (sym (place_after-nil place));
    }

-- ---- a record behind blank lines

pub on_err : {A E P : Type 0} (r : Result A E) → P → OnErr r P
on_err (Ok a) h = tt
on_err (Err e) h = h

open-later : (delimiter : ℕ) (p q : Place) (text blank rest : List ℕ) (line : ℕ) → text ≡ blank ++ rest → AreLineBytes blank → q ≡ place_after p blank
    → IsOpen delimiter q rest line → IsOpen delimiter p text line
open-later delimiter p q text blank rest line e lines at h = record {
  blank = blank ++ h.blank;
  before = h.before;
  inside = h.inside;
  values = h.values;
  value = h.value;
  splits = e ∙ ap (λ l. blank ++ l) h.splits ∙ sym (append_assoc blank h.blank (h.before ++ (quote ∷ h.inside)));
  skips = are_line_bytes-append blank h.blank lines h.skips;
  fields = h.fields;
  stays = h.stays;
  at_line = h.at_line ∙ ap (λ z. (place_after (place_after z h.blank) h.before).line) at
      ∙ ap (λ z. (place_after z h.before).line) (sym (place_after-append p blank h.blank));
}

pub explains-later : (delimiter : ℕ) (p q : Place) (text blank rest : List ℕ) (why : ReadFault) → text ≡ blank ++ rest → AreLineBytes blank
    → q ≡ place_after p blank → Explains delimiter q rest why → Explains delimiter p text why
explains-later delimiter p q text blank rest (fault.Read e) s lines at h = tt
explains-later delimiter p q text blank rest (fault.OpenQuote line) s lines at h = open-later delimiter p q text blank rest line s lines at h
explains-later delimiter p q text blank rest fault.Memory s lines at h = tt
explains-later delimiter p q text blank rest fault.TooLong s lines at h = fails-later p q text blank rest fault.TooLong s at h

-- a record has a byte, if the buffer begins with one that ends no line
pub record-some : (buffer : List ℕ) (k : Option (List ℕ)) (text bytes rest : List ℕ) → prepend_known buffer k ≡ Some text → 0 < length buffer
    → IfSome (slice_get buffer 0) (λ c. is_line_byte c ≡ false) → text ≡ bytes ++ rest → EndsRecord rest → bytes ≢ []
record-some [] k text bytes rest e some first splits ends none = absurd (omega (arith, some))
record-some (b ∷ buffer) None text bytes rest e some first splits ends none = cc e
record-some (b ∷ buffer) (Some ys) text bytes rest e some first splits ends none =
    let whole : b ∷ (buffer ++ ys) ≡ text = cc in
    let same : b ∷ (buffer ++ ys) ≡ rest = whole ∙ splits ∙ ap (λ l. l ++ rest) none in
    let line : is_line_byte b ≡ true = subst EndsRecord (sym same) ends in cc (first, line)
