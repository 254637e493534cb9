use Rattle.std.proofs.Common.{drop}
use Rattle.serde_json.specs.View.{view}
use Rattle.neldrafi_schema.specs.machine.Annotated.{Annotated}
use Rattle.neldrafi_schema.specs.machine.Compiled.{header_of}
use Rattle.neldrafi_schema.proofs.Added.{NotesLeft}
use Rattle.neldrafi_schema.proofs.annotating.push_own.Given as goal

-- the annotations so far, and those of the notes that are left, are those of all
abbrev pub invariant-loop-note : goal.invariant-loop-note
invariant-loop-note l = Annotated (NotesLeft (header_of l.header) (view l.visit.instance.now) l.visit.site.now l.note-items (drop l.note-index l.note-items))
    l.fn.found.items l.found.items
