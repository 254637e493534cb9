use Rattle.std.specs.List.{range_with_len}
use Rattle.std.proofs.lemmas.List.FromFn.{length-range_with_len, get_or-range_with_len}
use Rattle.strkw_uri.proofs.Escapes.{escapes_run}
use Rattle.strkw_uri.proofs.lanes.run_with_escapes.Goals as goal

pub returns : goal.returns
returns c =
    let at = c.args.at in
    escapes_run c.args.table.now c.args.bytes.now at (λ k. (c.type_inv.bytes k).fits) c.requires
    (range_with_len at 32) (length-range_with_len at 32) (λ i l. get_or-range_with_len at 32 i 0 l)
    _ _ _ c.first_set.result c.members.ensures c.members-2.ensures c.members-3.ensures c.first_set.ensures
