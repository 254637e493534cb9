use Rattle.std.proofs.Common.{◌≡◌, ◌++◌}
use Rattle.serde_json.specs.View.{members_view}
use Rattle.neldrafi_schema.specs.Headers.{members_notes}
use Rattle.neldrafi_schema.specs.machine.Compiled.{notes_of}
use Rattle.neldrafi_schema.proofs.headers.notes_in.Given as goal

-- what is there, and what the members that are left give, is the whole
abbrev pub invariant-loop-name : goal.invariant-loop-name
invariant-loop-name l = notes_of l.notes.items
    ++ members_notes l.draft (members_view l.object.entries) (members_view l.name-iterator)
    ≡ members_notes l.draft (members_view l.object.entries) (members_view l.object.entries)
