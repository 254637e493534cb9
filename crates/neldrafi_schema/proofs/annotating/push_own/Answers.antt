use Rattle.std.proofs.Common.{◌≡◌, map, refl, subst}
use Rattle.std.specs.List.{filter}
use Rattle.serde_json.specs.View.{view}
use Rattle.neldrafi_schema.specs.Annotations.{annotation_of, applies}
use Rattle.neldrafi_schema.specs.machine.Annotated.{Annotated}
use Rattle.neldrafi_schema.specs.machine.Compiled.{header_of, notes_of}
use Rattle.neldrafi_schema.proofs.Added.{all_annotated, note_annotated}
use Rattle.neldrafi_schema.proofs.Appending.{nothing_appended}
use Rattle.neldrafi_schema.proofs.annotating.push_own.Goals as goal

pub loop-note-init : goal.loop-note-init
loop-note-init c = nothing_appended _ c.args.found.now.items refl

pub loop-note-preserved : goal.loop-note-preserved
loop-note-preserved c =
    note_annotated (header_of c.args.header.now) (view c.args.visit.now.instance.now) c.args.visit.now.site.now c.deref-note-items.result.now c.loop-note.note-index c.note-item.result
    c.loop-note-test.true c.note-item.is c.args.found.now.items c.loop-note.found.items c.push_note.new.found.items c.loop-note.invariant c.in_ok-push_note.ensures

pub returns : goal.returns
returns c =
    let header = header_of c.args.header.now in
    let d = view c.args.visit.now.instance.now in
    let site = c.args.visit.now.site.now in
    subst (λ ns. Annotated (λ l. l ≡ map (annotation_of header site) (filter (applies d) (notes_of ns))) c.args.found.now.items c.loop-note.found.items) c.deref-note-items.ensures.value
    (all_annotated header d site c.deref-note-items.result.now c.loop-note.note-index c.args.found.now.items c.loop-note.found.items c.loop-note-test.false c.loop-note.invariant)
