use Rattle.std.proofs.Common.{rules, ◌≡◌, subst}
use Rattle.std.specs.Prelude.{IfOk, IfSome}
use Rattle.csv.specs.Records.{fields_of}
use Rattle.neldrafi_csv.specs.Lines.{first_place}
use Rattle.neldrafi_csv.specs.Reading.{values_of}
use Rattle.neldrafi_csv.specs.Records.{IsMisplaced}
use Rattle.neldrafi_table.specs.Headers.{AreNames}
use Rattle.neldrafi_table.specs.Reading.{TakesNext}
use Rattle.neldrafi_table.proofs.table.read_names.Goals as goal

pub returns-in-None-clause-heads : goal.returns-in-None-clause-heads
returns-in-None-clause-heads g c text left =
    let values = values_of c.take.new.self.reader in
    let ((behind, rest, takes, next, parts), misplaced) = subst (λ o. IfSome o (λ found.
    TakesNext g.R.Read.remaining c.args.rows.now c.take.new.self first_place text found.line values × IsMisplaced values found.misplaced)) c.in-Some.is
    (c.in_ok-record.ensures.taken first_place text left) in
    let names = subst (λ r. IfOk r (λ names. AreNames values (fields_of names))) c.in-Ok.is (c.in_ok-names.ensures.names misplaced) in
    (behind, rest, (c.in-Some.«record».line, values, takes, names, c.in_ok-name.ensures.none (search rules)), next)
