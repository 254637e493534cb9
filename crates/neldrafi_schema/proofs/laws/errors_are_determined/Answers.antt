use Rattle.neldrafi_schema.specs.Meaning.{enough, root_site}
use Rattle.neldrafi_schema.proofs.Determined.{reports_same}
use Rattle.neldrafi_schema.proofs.laws.errors_are_determined.Goals as goal

pub returns : goal.returns
returns c = λ schemas lists d es others p q. reports_same c.reports_are_determined.ensures schemas lists (enough schemas d) 0 d root_site es others p q
