use Rattle.std.proofs.Common.{◌≡◌, ◌%◌, ◌++◌, length, get_or, sym, ◌∙◌, arith}
use Rattle.std.proofs.lemmas.List.{ext_get_or, length-append, get_or_append_left}
use Rattle.std.proofs.lemmas.List.FromFn.{get_or-map-range_with_len}
use Rattle.strkw_uri.proofs.Blocks.{twice_at}
use Rattle.strkw_uri.proofs.lanes.double.Goals as goal

pub returns : goal.returns
returns c =
    let t = c.args.table.now in
    let long : length t ≡ 16 = omega arith in
    let size : 32 ≡ length (t ++ t) = omega (arith, long, length-append t t) in
    ext_get_or 0 _ _ size
    (λ i l. get_or-map-range_with_len (λ j. get_or (t ++ t) (j % 16) 0) 0 32 i i 0 l (omega arith)
    ∙ get_or_append_left t t 0 (i % 16) (omega (arith, long)) ∙ sym (twice_at t long i l))
