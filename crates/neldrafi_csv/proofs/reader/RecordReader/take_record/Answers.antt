use Rattle.std.proofs.Common.{◌≡◌, ◌∙◌, Some, ap, drop, length, refl, subst, sym, take, true}
use Rattle.std.specs.Io.KnownBytes.{prepend_known}
use Rattle.std.proofs.lemmas.Result.{err_from_is_err_and}
use Rattle.neldrafi_csv.specs.declared.fields.Taken.TheVariants.{More, Open, Record}
use Rattle.neldrafi_csv.specs.Grammar.{IsRecord}
use Rattle.neldrafi_csv.specs.Lines.{place_after}
use Rattle.neldrafi_csv.specs.Records.{IsOpen}
use Rattle.neldrafi_csv.specs.machine.Spans.{AreTaken, IsTaken, values_in}
use Rattle.neldrafi_csv.proofs.ReaderLemmas.{fails-explains, record-ends, stays-open, taken-grown}
use Rattle.neldrafi_csv.proofs.InputLemmas.{buffer-front}
use Rattle.neldrafi_csv.proofs.reader.RecordReader.take_record.Goals as goal

pub pieces-init : goal.pieces-init
pieces-init g c = record {
  text = λ text e. e;
  fields = c.clear.ensures.taken _ _;
  last = λ yes. cc yes;
  place = refl;
  begun = refl;
  delimiter = refl;
  taken = refl;
}

pub pieces-preserved : goal.pieces-preserved
pieces-preserved g c =
    let inv = c.pieces.invariant in
    let d = c.pieces.self.delimiter.byte in
    let fill = c.in_ok-is_last-in-More.ensures in
    let found : IsTaken d c.bytes-bytes.result.now c.pieces.is_last c.take.new.self More =
    subst (IsTaken d c.bytes-bytes.result.now c.pieces.is_last c.take.new.self) c.in-More.is c.in_ok-take.ensures in
    let (more, grown) = fill.more in record {
      text = λ text e. fill.text text (inv.text text e);
      fields = taken-grown d c.pieces.self.input.buffer more c.fill.new.self.buffer c.take.new.self grown
          (subst (λ l. AreTaken d l c.take.new.self) c.bytes-bytes.ensures found.0);
      last = λ yes. (fill.end yes).1;
      place = fill.place ∙ inv.place;
      begun = fill.begun ∙ inv.begun;
      delimiter = inv.delimiter;
      taken = inv.taken;
    }

pub returns-in-Open-clause-err : goal.returns-in-Open-clause-err
returns-in-Open-clause-err g c text e =
    let inv = c.pieces.invariant in
    let d = c.pieces.self.delimiter.byte in
    let buffer = c.pieces.self.input.buffer in
    let found : IsTaken d c.bytes-bytes.result.now c.pieces.is_last c.take.new.self Open =
    subst (IsTaken d c.bytes-bytes.result.now c.pieces.is_last c.take.new.self) c.in-Open.is c.in_ok-take.ensures in
    let here : IsTaken d buffer c.pieces.is_last c.take.new.self Open =
    subst (λ l. IsTaken d l c.pieces.is_last c.take.new.self Open) c.bytes-bytes.ensures found in
    subst (λ b. IsOpen b.byte c.args.self.now.input.place text c.in_ok-place-in-Open.place.line) inv.delimiter
    (stays-open d c.args.self.now.input.place buffer _ text c.take.new.self c.in_ok-place-in-Open.place.line (inv.text text e) (inv.last here.1) here.0 here.2
    (ap (λ p. p.line) (c.in_ok-place-in-Open.ensures.ok ∙ ap (λ p. place_after p (take c.take.new.self.start buffer)) inv.place)))

pub returns-in_err-is_last-in-More-clause-err : goal.returns-in_err-is_last-in-More-clause-err
returns-in_err-is_last-in-More-clause-err g c text e =
    let from = c.from_residual-in_err-is_last-in-More in
    let (y, is, same) = err_from_is_err_and from.result from.ensures.1 in
    rw (is, same) (fails-explains _ _ text _ (c.in_err-is_last-in-More.ensures.fails c.args.self.now.input.place text))

pub returns-clause-ok : goal.returns-clause-ok
returns-clause-ok g c text e =
    let inv = c.pieces.invariant in
    let d = c.pieces.self.delimiter.byte in
    let buffer = c.pieces.self.input.buffer in
    let start = c.take.new.self.start in
    let found : IsTaken d c.bytes-bytes.result.now c.pieces.is_last c.take.new.self Record =
    subst (IsTaken d c.bytes-bytes.result.now c.pieces.is_last c.take.new.self) c.in-Record.is c.in_ok-take.ensures in
    let here : IsTaken d buffer c.pieces.is_last c.take.new.self Record =
    subst (λ l. IsTaken d l c.pieces.is_last c.take.new.self Record) c.bytes-bytes.ensures found in
    let now = inv.text text e in
    let (splits, left) = buffer-front buffer _ text start now here.0.within in record {
      bytes = take start buffer;
      rest = drop start text;
      splits = splits;
      reads = subst (λ b. IsRecord b.byte (take start buffer) (values_in buffer c.take.new.self)) inv.delimiter here.1;
      ends = record-ends buffer _ text start c.pieces.is_last now here.0.within inv.last here.2;
      unread = left;
      place = c.in_ok-self.ensures.ok ∙ ap (λ p. place_after p (take start buffer)) inv.place;
      misplaced = here.0.misplaced;
    }
