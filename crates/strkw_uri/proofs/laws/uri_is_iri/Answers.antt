use Rattle.strkw_uri.proofs.Inclusions.{uri_is_iri}
use Rattle.strkw_uri.proofs.laws.uri_is_iri.Goals as goal

pub returns : goal.returns
returns c = uri_is_iri
