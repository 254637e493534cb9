use Rattle.std.proofs.Common.{◌≡◌, ◌∙◌, ◌<◌, List, length, get_or, string_bytes, Some, ap, subst, sym}
use Rattle.std.proofs.lemmas.Bool.{false≢true}
use Rattle.std.proofs.lemmas.Slice.Eq.{bytes_eq-Decides}
use Rattle.neldrafi_schema.specs.declared.identifiers.Identifier.{Identifier}
use Rattle.neldrafi_schema.specs.machine.Compiled.{path_of}
use Rattle.neldrafi_schema.proofs.Identified.{identified_here, identified_later}
use Rattle.neldrafi_schema.proofs.references.Library.identified.Goals.{else-eq-via-then-eq+else-eq-2, else-eq-via-else-eq}
use Rattle.neldrafi_schema.proofs.references.Library.identified.Goals as goal

pub returns-then-eq-2 : goal.returns-then-eq-2
returns-then-eq-2 c =
    let ids = c.args.self.now.identifiers.items in
    let i = c.loop-identifier.identifier-index in
    let x = c.identifier-item.result in
    let inside : i < length ids = subst (λ (l : List Identifier). i < length l) c.deref-identifier-items.ensures.value c.loop-identifier-test.true in
    let is : x ≡ get_or ids i x = subst (λ (l : List Identifier). x ≡ get_or l i x) c.deref-identifier-items.ensures.value c.identifier-item.is in
    let same_uri : string_bytes x.uri ≡ c.args.uri.now =
    sym c.as_str.ensures.value ∙ (bytes_eq-Decides c.as_str.result.now c.args.uri.now).0 (sym c.eq.ensures ∙ c.if-eq.true) in
    let same_anchor : string_bytes x.anchor ≡ c.args.anchor.now = sym c.as_str-then-eq.ensures.value
    ∙ (bytes_eq-Decides c.as_str-then-eq.result.now c.args.anchor.now).0 (sym c.eq-then-eq.ensures ∙ c.if-eq-2.true) in
    ap (λ path. Some (path_of path)) c.deref.ensures.value ∙ sym (identified_here c.args.uri.now c.args.anchor.now ids i x inside is same_uri same_anchor)
    ∙ c.loop-identifier.invariant

pub loop-identifier-preserved : goal.loop-identifier-preserved
loop-identifier-preserved c =
    let ids = c.args.self.now.identifiers.items in
    let i = c.loop-identifier.identifier-index in
    let x = c.identifier-item.result in
    let inside : i < length ids = subst (λ (l : List Identifier). i < length l) c.deref-identifier-items.ensures.value c.loop-identifier-test.true in
    let is : x ≡ get_or ids i x = subst (λ (l : List Identifier). x ≡ get_or l i x) c.deref-identifier-items.ensures.value c.identifier-item.is in
    let other : string_bytes x.uri ≡ c.args.uri.now → string_bytes x.anchor ≡ c.args.anchor.now → ⊥ = λ same_uri same_anchor. elim c.else-eq.branch [
      | else-eq-via-then-eq+else-eq-2 w ↦
          false≢true (sym w.if-eq-2.false ∙ w.eq-then-eq.ensures
          ∙ (bytes_eq-Decides w.as_str-then-eq.result.now c.args.anchor.now).1 (w.as_str-then-eq.ensures.value ∙ same_anchor))
      | else-eq-via-else-eq w ↦
          false≢true (sym w.if-eq.false ∙ c.eq.ensures ∙ (bytes_eq-Decides c.as_str.result.now c.args.uri.now).1 (c.as_str.ensures.value ∙ same_uri))
    ] in
    sym (identified_later c.args.uri.now c.args.anchor.now ids i x inside is other) ∙ c.loop-identifier.invariant
