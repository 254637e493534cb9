use Rattle.std.proofs.Common.{◌≡◌, ◌∙◌, ◌++◌, [], Some, List, ℕ, ap, refl, rules, subst, sym, true}
use Rattle.std.specs.Prelude.{if◌then◌else◌, option_map}
use Rattle.std.specs.Io.KnownBytes.{prepend_known}
use Rattle.std.proofs.lemmas.Result.{err_from_is_err_and}
use Rattle.neldrafi_csv.specs.Grammar.{IsRecord}
use Rattle.neldrafi_csv.specs.Lines.{place_after}
use Rattle.neldrafi_csv.specs.Marks.{without_mark}
use Rattle.neldrafi_csv.specs.Reading.{Skips, at_hand, unread_of, values_of}
use Rattle.neldrafi_csv.specs.machine.Inputs.{rest_of, unread_in}
use Rattle.neldrafi_csv.proofs.LineLemmas.{place_after-nil}
use Rattle.neldrafi_csv.proofs.ReaderLemmas.{explains-later, fails-explains, on_err, record-some}
use Rattle.neldrafi_csv.proofs.reader.RecordReader.read.Goals as goal

pub returns-in_err-begin-clause-fault : goal.returns-in_err-begin-clause-fault
returns-in_err-begin-clause-fault g c text e =
    let (y, is, same) = err_from_is_err_and c.from_residual.result c.from_residual.ensures.1 in
    rw (is, same) (fails-explains _ _ text _ (c.in_err-begin.ensures.fails text))

pub returns-in_err-begin-clause-kept : goal.returns-in_err-begin-clause-kept
returns-in_err-begin-clause-kept g c text e =
    let rem = g.R.Read.remaining in
    let input = c.args.self.now.input in
    let removed = subst (λ b. (if input.has_begun then prepend_known b (rem input.source) else option_map without_mark (prepend_known b (rem input.source))) ≡ Some text)
    (sym c.remove.ensures) e in
    on_err c.from_residual.result (record {
      blank = [];
      rest = text;
      splits = refl;
      skips = tt;
      unread = c.in_err-begin.ensures.text text removed;
      place = c.in_err-begin.ensures.place ∙ sym (place_after-nil input.place);
    })

pub returns-in_err-take_record-clause-fault : goal.returns-in_err-take_record-clause-fault
returns-in_err-take_record-clause-fault g c text e =
    let rem = g.R.Read.remaining in
    let input = c.args.self.now.input in
    let removed = subst (λ b. (if input.has_begun then prepend_known b (rem input.source) else option_map without_mark (prepend_known b (rem input.source))) ≡ Some text)
    (sym c.remove.ensures) e in
    let began = c.in_ok-begin.ensures.text text removed in
    let now : rest_of rem c.begin.new.self ≡ Some text =
    subst (λ b. (if b then rest_of rem c.begin.new.self else option_map without_mark (rest_of rem c.begin.new.self)) ≡ Some text) c.in_ok-begin.ensures.begun began in
    let (blank, rest, lines, h) = c.in_ok-skip_blank_lines.ensures.passes text now in
    let from = c.from_residual-in_err-take_record in
    let (y, is, same) = err_from_is_err_and from.result from.ensures.1 in
    rw (is, same) (explains-later _ _ _ text blank rest _ h.splits lines (h.place ∙ ap (λ p. place_after p blank) c.in_ok-begin.ensures.place)
    (c.in_err-take_record.ensures.err rest h.left))

pub returns-clause-record : goal.returns-clause-record
returns-clause-record g c text e =
    let rem = g.R.Read.remaining in
    let input = c.args.self.now.input in
    let removed = subst (λ b. (if input.has_begun then prepend_known b (rem input.source) else option_map without_mark (prepend_known b (rem input.source))) ≡ Some text)
    (sym c.remove.ensures) e in
    let began = c.in_ok-begin.ensures.text text removed in
    let now : rest_of rem c.begin.new.self ≡ Some text =
    subst (λ b. (if b then rest_of rem c.begin.new.self else option_map without_mark (rest_of rem c.begin.new.self)) ≡ Some text) c.in_ok-begin.ensures.begun began in
    let (blank, rest, lines, h) = c.in_ok-skip_blank_lines.ensures.passes text now in
    let more = c.in_ok-take_record.ensures.ok rest h.left in
    let place = h.place ∙ ap (λ p. place_after p blank) c.in_ok-begin.ensures.place in
    let new = c.take_record.new.self in
    let has_begun : new.input.has_begun ≡ true = c.in_ok-take_record.ensures.begun ∙ h.begun ∙ c.in_ok-begin.ensures.begun in (
      more.rest,
      subst (λ b. (if b then prepend_known (at_hand new) (rem new.input.source) else option_map without_mark (prepend_known (at_hand new) (rem new.input.source))) ≡ Some more.rest)
          (sym has_begun) more.unread,
      record {
        blank = blank;
        bytes = more.bytes;
        splits = h.splits ∙ ap (λ l. blank ++ l) more.splits;
        skips = lines;
        some = record-some c.skip_blank_lines.new.self.buffer (rem c.skip_blank_lines.new.self.source) rest more.bytes more.rest h.left
            (c.in_ok-skip_blank_lines.ensures.found (search rules)) (c.in_ok-skip_blank_lines.ensures.some (search rules)) more.splits more.ends;
        reads = more.reads;
        ends = more.ends;
        begins = ap (λ p. p.line) place;
        leaves = more.place ∙ ap (λ p. place_after p more.bytes) place;
      },
      more.misplaced,
    )
