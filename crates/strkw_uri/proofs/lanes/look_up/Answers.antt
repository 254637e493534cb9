use Rattle.std.proofs.Common.{◌≡◌, length, get_or, refl, ap, ◌∙◌, arith, w8}
use Rattle.std.proofs.lemmas.Simd.{SwzOk-from_below}
use Rattle.strkw_uri.proofs.Blocks.{look_up_is, twice_at}
use Rattle.strkw_uri.proofs.lanes.look_up.Goals as goal

pub swizzle : goal.swizzle
swizzle c = SwzOk-from_below w8 16 2 32 0 c.args.places refl (omega (arith, c.fits-places.0)) c.requires

pub returns : goal.returns
returns c =
    let t = c.args.table.now in
    let long : length t ≡ 16 = omega arith in
    look_up_is t c.double.result c.args.places 0 (λ k l. ap (λ xs. get_or xs k 0) c.double.ensures ∙ twice_at t long k l) (omega (arith, c.fits-places.0))
    c.requires
