use Rattle.std.proofs.Common.{◌≡◌, ◌+◌, ◌*◌, ◌<◌, ◌/◌, ◌∙◌, length, take, drop, cond, ap, arith}
use Rattle.std.specs.List.{count_by}
use Rattle.std.specs.Simd.{first_chunks}
use Rattle.std.specs.Fmt.{is_char_start}
use Rattle.std.proofs.lemmas.List.Sums.{sum_by-take-drop}
use Rattle.strkw_report.proofs.CharBlocks.{starts_with_block}
use Rattle.strkw_report.proofs.CharStarts.{count_by-chars}
use Rattle.strkw_report.proofs.node.char_count.Goals as goal

pub loop-block-preserved : goal.loop-block-preserved
loop-block-preserved c =
    let bytes = c.args.text.now in
    let inside : c.loop-block.block-index < length bytes / 32 = omega (arith, c.loop-block-test.true, c.as_chunks.ensures.front_len) in
    let cut : c.as_chunks.result.0.now ≡ first_chunks 32 (length bytes / 32) bytes =
    c.as_chunks.ensures.front ∙ ap (λ text. first_chunks 32 (length text / 32) text) c.as_bytes.ensures.value in
    let more = starts_with_block bytes c.as_chunks.result.0.now (length bytes / 32) c.loop-block.block-index _ _ cut inside c.starts_in_block.ensures in
    omega (arith, c.loop-block.invariant, more)

pub returns : goal.returns
returns c =
    let bytes = c.args.text.now in
    let all = ap (λ n. count_by is_char_start (take n bytes))
    (let blocks : c.loop-block.block-index * 32 ≡ length bytes / 32 * 32 = omega (arith, c.loop-block-test.false, c.as_chunks.ensures.front_len) in blocks)
    in
    c.loop-block.invariant ∙ ap (λ n. n + count_by is_char_start (drop (length bytes / 32 * 32) bytes)) all
    ∙ sum_by-take-drop (λ b. cond (is_char_start b) 1 0) bytes (length bytes / 32 * 32)
    ∙ count_by-chars bytes c.utf8.text
