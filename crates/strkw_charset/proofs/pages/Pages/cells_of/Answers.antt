use Rattle.std.proofs.Common.{rules, ◌≡◌, ◌+◌, ◌-◌, ◌<◌, min, ◌∙◌, arith}
use Rattle.strkw_charset.specs.machine.CharClasses.{ShareColumn}
use Rattle.strkw_charset.specs.machine.Lists.{IsFront}
use Rattle.strkw_charset.proofs.Paged.{cells_filled}
use Rattle.strkw_charset.proofs.pages.Pages.cells_of.Goals as goal

pub runs-preserved : goal.runs-preserved
runs-preserved c =
    let classes = c.args.classes.now in
    let was = c.runs.invariant in
    let self = c.run_of.new.self in
    let next = c.in-Some.next in
    let first = c.args.first in
    let least : c.min-end.result ≡ min 64 (next.end - first) = c.min-end.ensures in
    let beyond : first + c.runs.place < next.end = search rules in
    let shared : ShareColumn classes self.keys.items (first + c.runs.place) next.end next.column = search rules in
    let grows : IsFront c.runs.self.keys.items self.keys.items = search rules in
    record {
      within = omega (arith, least);
      cells = search rules;
      pages = c.run_of.ensures.pages ∙ was.pages;
      paged = search rules;
      end = search rules;
      shared = λ d from before is. shared d (omega (arith, from, least, beyond, c.runs-test.true)) before is;
      right = cells_filled classes c.runs.self.keys.items self.keys.items c.runs.page c.fill.new.page first c.runs.place c.min-end.result next.end next.column
          grows was.right c.fill.ensures.filled c.fill.ensures.before (omega (arith, least, beyond)) shared;
    }

pub returns-clause-right : goal.returns-clause-right
returns-clause-right c j inside = c.runs.invariant.right j (omega (arith, inside, c.runs.invariant.within, c.runs-test.false))

pub returns-clause-shared : goal.returns-clause-shared
returns-clause-shared c d from before is =
    let was = c.runs.invariant in
    was.shared d (omega (arith, from, was.within)) before is
