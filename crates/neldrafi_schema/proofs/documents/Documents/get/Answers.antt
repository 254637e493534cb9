use Rattle.std.proofs.Common.{◌≡◌, ◌∙◌, ℕ, suc, List, map, Bor, Option, Some, None, arith, ap, sym}
use Rattle.std.proofs.lemmas.Option.{slice_get-map, slice_get_past}
use Rattle.std.specs.Option.{option_copied}
use Rattle.std.specs.Prelude.{option_map, slice_get}
use Rattle.std.specs.Slice.{IsGetResult}
use Rattle.neldrafi_schema.specs.Documents.{document_at}
use Rattle.neldrafi_schema.specs.Settings.{document_of}
use Rattle.neldrafi_schema.specs.machine.Places.{documents_of}
use Rattle.neldrafi_schema.proofs.Lists.{there}
use Rattle.neldrafi_schema.proofs.documents.Documents.get.Goals as goal

-- what `get` answers is the element, if there is one
got : {X Y : Type 0} (f : X → Y) (xs : List X) (i : ℕ) (o : Option (Bor X)) → IsGetResult xs i i o → option_map f (option_copied o) ≡ slice_get (map f xs) i
got f xs i None is = sym (slice_get-map f xs i ∙ ap (option_map f) (slice_get_past xs i is.3))
got f xs i (Some x) is = sym (slice_get-map f xs i ∙ ap (option_map f) (there xs i x.now is.3.0 is.1))

pub returns-in-Some : goal.returns-in-Some
returns-in-Some c =
    let place = c.in-Some.place in
    let number : suc place ≡ c.args.number = omega (arith, c.in-Some.ensures) in
    ap (option_map document_of) c.copied.ensures ∙ got document_of c.args.self.further.now place c.get.result c.get.ensures.lookup
    ∙ ap (document_at (documents_of c.args.self)) number
