use Rattle.std.proofs.Common.{rules}
use Rattle.strkw_text.proofs.AsciiForms.{answers_by_bytes}
use Rattle.strkw_net.specs.Uuid.{IsUuid}
use Rattle.strkw_net.proofs.UuidLemmas.{IsUuid-ascii}
use Rattle.strkw_net.proofs.uuid.is_valid_uuid.Goals as goal

pub returns : goal.returns
returns c = answers_by_bytes IsUuid IsUuid-ascii c.args.uuid.now c.utf8.uuid _ (search rules)
