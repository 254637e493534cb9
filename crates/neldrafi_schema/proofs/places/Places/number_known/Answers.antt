use Rattle.std.proofs.Common.{rules, ◌∙◌, ◌<◌, ap, sym, length}
use Rattle.std.specs.Cmp.Lexicographic.{pointwise}
use Rattle.std.specs.String.{string_eq}
use Rattle.neldrafi_schema.specs.machine.Places.{place_path, scope_of}
use Rattle.neldrafi_schema.proofs.Order.{same_paths, same_scopes}
use Rattle.neldrafi_schema.proofs.Tables.{place_stays}
use Rattle.neldrafi_schema.proofs.places.Places.number_known.Goals as goal

pub returns-then-eq-2-clause-number : goal.returns-then-eq-2-clause-number
returns-then-eq-2-clause-number c =
    let known = c.index-known.result.now in
    let inside : c.loop-number.number < length c.args.self.now.places.items = search rules in
    place_stays c.args.self.now.places.items c.loop-number.number known (scope_of c.args.scope.now) (place_path c.args.place) inside c.index-known.ensures
    (same_scopes known.scope.items c.args.scope.now (ap (λ scope. pointwise string_eq scope c.args.scope.now) (sym c.as_slice.ensures.value)
    ∙ sym c.eq-then-eq.ensures ∙ c.if-eq-2.true))
    (same_paths known.place.path.items c.args.place.path.items (sym c.eq.ensures ∙ c.if-eq.true))
