use Rattle.std.proofs.Common.{◌∙◌, ap}
use Rattle.neldrafi_schema.specs.Refusals.{keyword_endless}
use Rattle.neldrafi_schema.specs.machine.Compiled.{keyword_of, path_of}
use Rattle.neldrafi_schema.specs.machine.Said.{flag_at}
use Rattle.neldrafi_schema.proofs.Noting.{it_is_noted, keyword_noted, none_is_noted}
use Rattle.neldrafi_schema.proofs.ends.note_endless.Goals.{in-Some+in_ok-at+in_ok-note, in_default}
use Rattle.neldrafi_schema.proofs.ends.note_endless.Goals as goal

pub loop-keyword-preserved : goal.loop-keyword-preserved
loop-keyword-preserved g c =
    let of = keyword_of g.E.RegexEngine.outcome in
    let end = flag_at c.args.end.now in
    let path = path_of c.args.path.now in
    let one = c.keyword-item.result in
    let old = c.loop-keyword.first in
    let new = c.match-endless_reference.first in
    let found = c.endless_reference.result in
    keyword_noted of end path c.args.keywords.now c.loop-keyword.keyword-index one c.args.first.now old new c.loop-keyword-test.true c.keyword-item.is c.loop-keyword.invariant
    (elim c.match-endless_reference.branch [
      | in-Some+in_ok-at+in_ok-note w ↦
          it_is_noted path (keyword_endless end path (of one)) found (c.endless_reference.ensures path) old new w.in-Some.name w.note.new.first (path_of w.deref.result.now)
          w.in-Some.is (ap path_of w.deref.ensures.value ∙ w.in_ok-at.ensures) w.first-is w.in_ok-note.ensures
      | in_default w ↦
          none_is_noted path (keyword_endless end path (of one)) found (c.endless_reference.ensures path) old new w.in_default.not-Some w.first-is
    ])
