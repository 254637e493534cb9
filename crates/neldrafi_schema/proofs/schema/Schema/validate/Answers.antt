use Rattle.std.proofs.Common.{◌≡◌, ◌∙◌, ◌∷◌, ap, sym}
use Rattle.neldrafi_schema.specs.machine.Found.{error_seen, errors_of}
use Rattle.neldrafi_schema.proofs.schema.Schema.validate.Goals as goal

pub returns : goal.returns
returns g c =
    let later = errors_of c.next.new.self.rest.items in
    let all : errors_of c.in_ok-errors.field-0.items ≡ error_seen c.in-Some.error ∷ later = ap errors_of (sym c.into_iter.ensures.rest ∙ c.in-Some.ensures.items) in
    (later, rw all at c.in_ok-errors.ensures)
