use Rattle.neldrafi_schema.specs.Meaning.{enough, root_site}
use Rattle.neldrafi_schema.proofs.Fitting.{enough_fits}
use Rattle.neldrafi_schema.proofs.Steps.{reports_alike}
use Rattle.neldrafi_schema.proofs.laws.more_steps_change_nothing.Goals as goal

pub returns : goal.returns
returns c = λ schemas lists d steps es sound h.
    let same = reports_alike schemas lists sound (enough schemas d) steps h 0 d root_site es (enough_fits schemas sound d) in (same.1, same.0)
