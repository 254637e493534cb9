use Rattle.std.proofs.Common.{rules, ◌≡◌, ◌∙◌, None, Some, refl, subst}
use Rattle.std.specs.Prelude.{IfOk, IfSome, Result}
use Rattle.std.proofs.lemmas.Result.{IfOk-weaker}
use Rattle.neldrafi_csv.specs.Reading.{values_of}
use Rattle.neldrafi_csv.specs.Records.{IsMisplaced}
use Rattle.neldrafi_table.specs.declared.rows.Rows.{Rows}
use Rattle.neldrafi_table.specs.Reading.{TakesNext}
use Rattle.neldrafi_table.proofs.ReadingLemmas.{ended_ahead, left_unread, taken_ahead, taken_now}
use Rattle.neldrafi_table.proofs.rows.Rows.take.Goals as goal

pub returns-in_default-clause-taken : goal.returns-in_default-clause-taken
returns-in_default-clause-taken g c place text left =
    let old = c.args.self.now in
    let rem = g.R.Read.remaining in
    let new : Rows _ = record { reader = c.read.new.self; ahead = old.ahead; empty = old.empty; scratch = old.scratch } in
    let (at, source) = left_unread rem old place text c.in_default.is left in
    let read = taken_now rem old new c.read.result text c.in_default.is c.read.ensures.delimiter (c.read.ensures.«record» text source) in
    subst (λ p. IfOk c.read.result (λ o. IfSome o (λ found. TakesNext rem old new p text found.line (values_of c.read.new.self)
    × IsMisplaced (values_of c.read.new.self) found.misplaced))) at read

pub returns-in_default-clause-end : goal.returns-in_default-clause-end
returns-in_default-clause-end g c place text left =
    let (at, source) = left_unread g.R.Read.remaining c.args.self.now place text c.in_default.is left in
    IfOk-weaker c.read.result _ _ (λ o ended none. (ended none).0) (c.read.ensures.end text source)

pub returns-in_default-clause-fault : goal.returns-in_default-clause-fault
returns-in_default-clause-fault g c place text left =
    let (at, source) = left_unread g.R.Read.remaining c.args.self.now place text c.in_default.is left in rw (← at) (c.read.ensures.fault text source)

pub returns-clause-taken : goal.returns-clause-taken
returns-clause-taken g c place text left =
    let old = c.args.self.now in
    let some : old.ahead ≡ Some c.in-Some.«record» = search rules in
    taken_ahead g.R.Read.remaining old (record { reader = old.reader; ahead = None; empty = old.empty; scratch = old.scratch }) c.in-Some.«record» place text some refl
    refl left

pub returns-clause-end : goal.returns-clause-end
returns-clause-end g c place text left =
    let some : c.args.self.now.ahead ≡ Some c.in-Some.«record» = search rules in
    ended_ahead g.R.Read.remaining c.args.self.now c.in-Some.«record» place text some left
