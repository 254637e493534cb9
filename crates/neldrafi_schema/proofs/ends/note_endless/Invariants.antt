use Rattle.std.proofs.Common.{map, take}
use Rattle.neldrafi_schema.specs.machine.Compiled.{keyword_of}
use Rattle.neldrafi_schema.specs.machine.Compiled.{path_of}
use Rattle.neldrafi_schema.specs.machine.Problems.{Notes}
use Rattle.neldrafi_schema.specs.Refusals.{keywords_endless}
use Rattle.neldrafi_schema.specs.machine.Said.{flag_at}
use Rattle.neldrafi_schema.proofs.ends.note_endless.Given as goal

abbrev pub invariant-loop-keyword : goal.invariant-loop-keyword
invariant-loop-keyword g l = Notes (keywords_endless (flag_at l.end) (path_of l.path)
    (map (keyword_of g.E.RegexEngine.outcome) (take l.keyword-index l.keywords))) l.fn.first l.first
