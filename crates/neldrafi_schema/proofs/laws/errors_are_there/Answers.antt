use Rattle.neldrafi_schema.specs.Meaning.{enough, root_site}
use Rattle.neldrafi_schema.proofs.Existence.{reports_are}
use Rattle.neldrafi_schema.proofs.Fitting.{enough_fits}
use Rattle.neldrafi_schema.proofs.laws.errors_are_there.Goals as goal

pub returns : goal.returns
returns c = λ schemas lists d sound none.
    reports_are c.reports_are_there.ensures schemas lists sound (enough schemas d) 0 d root_site (enough_fits schemas sound d) none
