use Rattle.std.proofs.Common.{w8}
use Rattle.std.proofs.lemmas.Simd.{below_from_Fits}
use Rattle.strkw_uri.proofs.Blocks.{look_ups, lower_places, upper_places}
use Rattle.strkw_uri.proofs.lanes.members.Goals as goal

pub look_up-lower-requires : goal.look_up-lower-requires
look_up-lower-requires c = lower_places c.args.bytes

pub look_up-upper-requires : goal.look_up-upper-requires
look_up-upper-requires c = upper_places c.args.bytes (below_from_Fits w8 c.args.bytes c.fits-bytes.1)

pub returns : goal.returns
returns c = look_ups c.args.table.now c.args.bytes _ _ c.fits-bytes.0 c.look_up-lower.ensures c.look_up-upper.ensures
