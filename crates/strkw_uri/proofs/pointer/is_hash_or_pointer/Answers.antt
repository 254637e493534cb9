use Rattle.strkw_text.proofs.Equivalences.{carry}
use Rattle.strkw_uri.proofs.RelativePointers.{hash_at, hash_off}
use Rattle.strkw_uri.proofs.pointer.is_hash_or_pointer.Goals as goal

pub returns-in-Some : goal.returns-in-Some
returns-in-Some c = carry c.is_end.ensures (hash_at _ _ c.in-Some.ensures.cases)

pub returns-in-None : goal.returns-in-None
returns-in-None c = carry c.is_valid_json_pointer.ensures (hash_off _ c.in-None.ensures.cases)
