use Rattle.std.proofs.Common.{rules, ◌≡◌, Err, subst}
use Rattle.csv.specs.Records.{fields_of}
use Rattle.neldrafi_csv.specs.Marks.{without_mark}
use Rattle.neldrafi_csv.specs.Reading.{IsAtStart}
use Rattle.neldrafi_table.specs.Headers.{Heads}
use Rattle.neldrafi_table.proofs.TableLemmas.{left_at_start}
use Rattle.neldrafi_table.proofs.table.open_table.Goals as goal

pub returns-in_err-names-clause-why : goal.returns-in_err-names-clause-why
returns-in_err-names-clause-why g c text is =
    let rem = g.R.Read.remaining in
    let rows = c.new-rows.result in
    let delimiter = c.args.form.delimiter.byte in
    let at : IsAtStart rem c.args.file delimiter rows.reader = rw c.new-rows.ensures.reader c.in_ok-reader.ensures in
    let why = c.in_err-names.ensures.why (without_mark text) (left_at_start rem c.args.file delimiter rows text c.new-rows.ensures.ahead at is) in
    let told : c.from_residual-in_err-names.result ≡ Err c.in_err-names.field-0.0 = search rules in
    rw told (rw at.delimits at why)

pub returns-clause-heads : goal.returns-clause-heads
returns-clause-heads g c text is =
    let rem = g.R.Read.remaining in
    let rows = c.new-rows.result in
    let delimiter = c.args.form.delimiter.byte in
    let at : IsAtStart rem c.args.file delimiter rows.reader = rw c.new-rows.ensures.reader c.in_ok-reader.ensures in
    let (place, left, heads, next) = c.in_ok-names.ensures.heads (without_mark text) (left_at_start rem c.args.file delimiter rows text c.new-rows.ensures.ahead at is) in
    (place, left, subst (λ d. Heads c.args.form.header d (without_mark text) (fields_of c.in_ok-names.names) place left) at.delimits heads, next)
