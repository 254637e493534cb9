use Rattle.strkw_uri.proofs.Inclusions.{uri_reference_is_iri_reference}
use Rattle.strkw_uri.proofs.laws.uri_reference_is_iri_reference.Goals as goal

pub returns : goal.returns
returns c = uri_reference_is_iri_reference
