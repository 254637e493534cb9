use Rattle.std.proofs.Common.{inl}
use Rattle.strkw_uri.proofs.laws.uri_is_uri_reference.Goals as goal

pub returns : goal.returns
returns c = λ text u. inl u
