use Rattle.std.proofs.Common.{rules, ◌≡◌, ◌∙◌, ◌++◌, ℕ, List, Option, Some, refl, [], subst}
use Rattle.std.proofs.KnownBytes.{Appends-nil, Appends-trans}
use Rattle.neldrafi_csv.specs.Records.{HasNoRecord, TakesRecord}
use Rattle.neldrafi_table.specs.Columns.{columns_seen}
use Rattle.neldrafi_table.specs.Objects.{IsRead}
use Rattle.neldrafi_table.specs.Reading.{TakesNext, delimiter_in, empty_in}
use Rattle.neldrafi_check.proofs.TableLemmas.{at_some, finish, start, step}
use Rattle.neldrafi_check.proofs.tables.check_each.Goals as goal

pub loop-init : goal.loop-init
loop-init g c = record {
  empty = refl;
  delimiter = refl;
  going = λ place text left. (place, text, [], left, Appends-nil (g.W.Write.contents c.args.writer.now), start _ _ place text _ c.clear.ensures.bytes);
}

pub returns-in_default : goal.returns-in_default
returns-in_default g c = λ place text left.
    let inv = c.loop.invariant in
    let (next, rest, written, at, appends, going) = inv.going place text left in
    let ended : HasNoRecord rest = c.in_ok-row.ensures.end next rest at (search rules) in
    (written, finish _ _ place text _ next rest _ ended going, appends)

pub loop-preserved : goal.loop-preserved
loop-preserved g c =
    let inv = c.loop.invariant in
    let this = c.args.check.now in
    let initial = c.args.rows.now in
    let columns = columns_seen this.columns.now in record {
      empty = c.in_ok-row.ensures.empty ∙ inv.empty;
      delimiter = c.in_ok-row.ensures.delimiter ∙ inv.delimiter;
      going = λ place text left.
          let (next, rest, written, at, appends, going) = inv.going place text left in
          let some : c.in_ok-row.field-0 ≡ Some c.in-Some.row = search rules in
          let (values, (behind, more, takes, now, parts), read) = at_some c.in_ok-row.field-0 c.in-Some.row
          (λ row. (values : List (Option (List ℕ))) × TakesNext g.R.Read.remaining c.loop.rows c.next.new.self next rest row.line values
          × IsRead (empty_in c.loop.rows) columns values row.object) some (c.in_ok-row.ensures.row next rest at) in
          let (pushed, grown, told) = c.in_ok-more.ensures (empty_in initial) values (subst (λ e. IsRead e columns values c.in-Some.row.object) inv.empty read) in
          let (put, wrote, kept) = c.in_ok-write_due.ensures in (
            behind,
            more,
            written ++ put,
            now,
            Appends-trans (g.W.Write.contents c.args.writer.now) _ _ _ _ appends wrote,
            step _ _ place text _ _ _ _ next behind rest more values written _ _ _ put pushed going
                (subst (λ d. TakesRecord d next rest c.in-Some.row.line values behind more) inv.delimiter takes) told c.in_ok-counts.ensures.sum grown kept,
          );
    }
