use Rattle.strkw_report.proofs.CharBlocks.{starts_of_lanes}
use Rattle.strkw_report.proofs.node.starts_in_block.Goals as goal

pub returns : goal.returns
returns c = starts_of_lanes c.args.block.now c.told-block
