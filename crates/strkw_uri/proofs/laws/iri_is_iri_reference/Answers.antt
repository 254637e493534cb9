use Rattle.std.proofs.Common.{inl}
use Rattle.strkw_uri.proofs.laws.iri_is_iri_reference.Goals as goal

pub returns : goal.returns
returns c = λ text u. inl u
