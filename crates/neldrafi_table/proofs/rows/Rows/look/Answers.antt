use Rattle.std.proofs.Common.{ℕ, List, Some, refl, subst}
use Rattle.std.specs.Prelude.{IfSome}
use Rattle.neldrafi_csv.specs.declared.place.Place.{Place}
use Rattle.neldrafi_csv.specs.Reading.{values_of}
use Rattle.neldrafi_csv.specs.Records.{TakesRecord}
use Rattle.neldrafi_table.specs.declared.rows.Rows.{Rows}
use Rattle.neldrafi_table.specs.Reading.{HasLeft, delimiter_in}
use Rattle.neldrafi_table.proofs.ReadingLemmas.{found_ahead, left_unread, looked_at}
use Rattle.neldrafi_table.proofs.rows.Rows.look.Goals as goal

pub returns-clause-left : goal.returns-clause-left
returns-clause-left g c place text left =
    let old = c.args.self.now in
    let rem = g.R.Read.remaining in
    let new : Rows _ = record { reader = c.read.new.self; ahead = Some c.in_ok-record.«record»; empty = old.empty; scratch = old.scratch } in
    let (at, source) = left_unread rem old place text c.requires left in
    subst (λ p. HasLeft rem new p text) at
    (looked_at rem old new c.in_ok-record.«record» text refl c.read.ensures.delimiter
    (c.in_ok-record.ensures.«record» text source) (λ none. (c.in_ok-record.ensures.end text source none).0))

pub returns-clause-found : goal.returns-clause-found
returns-clause-found g c place text left =
    let old = c.args.self.now in
    let rem = g.R.Read.remaining in
    let new : Rows _ = record { reader = c.read.new.self; ahead = Some c.in_ok-record.«record»; empty = old.empty; scratch = old.scratch } in
    let (at, source) = left_unread rem old place text c.requires left in
    subst (λ p. IfSome c.in_ok-record.«record» (λ found. (behind : Place) × (rest : List ℕ)
    × TakesRecord (delimiter_in old) p text found.line (values_of c.read.new.self) behind rest)) at
    (found_ahead rem old new c.in_ok-record.«record» text (c.in_ok-record.ensures.«record» text source))
