use Rattle.strkw_uri.proofs.Blocks.{block_run}
use Rattle.strkw_uri.proofs.lanes.run_of_block.Goals as goal

pub returns : goal.returns
returns c = block_run c.args.table.now c.args.block.now _ _ c.told-block c.members-members.ensures c.first_set.ensures
