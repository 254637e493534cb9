use Rattle.std.proofs.Common.{inl}
use Rattle.strkw_uri.proofs.Examples.{example_uri}
use Rattle.strkw_uri.proofs.Inclusions.{uri_is_iri}
use Rattle.strkw_uri.proofs.laws.example_uri.Goals as goal

pub returns-clause-uri : goal.returns-clause-uri
returns-clause-uri c = example_uri

pub returns-clause-uri_reference : goal.returns-clause-uri_reference
returns-clause-uri_reference c = inl example_uri

pub returns-clause-iri : goal.returns-clause-iri
returns-clause-iri c = uri_is_iri _ example_uri

pub returns-clause-iri_reference : goal.returns-clause-iri_reference
returns-clause-iri_reference c = inl (uri_is_iri _ example_uri)
