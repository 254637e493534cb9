use Rattle.std.proofs.Common.{◌≡◌, ◌<◌, ◌-◌, ◌/◌, ℕ, length, arith}
use Rattle.strkw_uri.specs.Lanes.{is_in, goes_on}
use Rattle.strkw_uri.specs.Scan.{is_part_char}
use Rattle.strkw_uri.specs.declared.part.Syntax.TheVariants.{Rfc3986}
use Rattle.strkw_uri.proofs.Blocks.{block_stops, join, join_whole, run_agree, goes_on-agree}
use Rattle.strkw_uri.proofs.lanes.run.Goals as goal
use Rattle.strkw_uri.proofs.lanes.run.Goals.{then-run-lt-LANES+else-bytes-at-ne37+else-bytes-at-lt-LOOKED_AT+else-run-lt-LANES-2, else-run-lt-LANES}

pub returns-then-bytes-at-ne37 : goal.returns-then-bytes-at-ne37
returns-then-bytes-at-ne37 c =
    let class = is_in c.args.table.now in
    let bytes = c.args.bytes.now in
    let q = goes_on (is_part_char Rfc3986 c.args.part) bytes in
    let same : (i : ℕ) → goes_on class bytes i ≡ q i = goes_on-agree class (is_part_char Rfc3986 c.args.part) bytes (λ k. (c.type_inv.bytes k).fits) c.requires
    in
    let inside : c.loop-block.block-index < length bytes / 32 = omega arith in
    let run = block_stops class bytes _ c.loop-block.at c.loop-block.block-index _ _ c.as_chunks.ensures.front inside c.loop-block.invariant.place
    c.run_of_block-run.ensures (λ l. c.if-bytes-at-ne37.true) in
    join q c.loop-block.at (length bytes) 32 _ (omega (arith, c.loop-block.invariant.place)) c.loop-block.invariant.passed
    (run_agree (goes_on class bytes) q _ _ _ same run) (λ l. omega arith)

pub returns-then-bytes-at-lt-LOOKED_AT : goal.returns-then-bytes-at-lt-LOOKED_AT
returns-then-bytes-at-lt-LOOKED_AT c =
    let bytes = c.args.bytes.now in
    let inside : c.loop-block.block-index < length bytes / 32 = omega arith in
    join (goes_on (is_part_char Rfc3986 c.args.part) bytes) c.loop-block.at (length bytes) (length bytes - c.loop-block.at) _
    (omega (arith, c.loop-block.invariant.place)) c.loop-block.invariant.passed c.run.ensures (λ l. omega arith)

pub returns-then-run-lt-LANES-2 : goal.returns-then-run-lt-LANES-2
returns-then-run-lt-LANES-2 c =
    let class = is_in c.args.table.now in
    let bytes = c.args.bytes.now in
    let q = goes_on (is_part_char Rfc3986 c.args.part) bytes in
    let same : (i : ℕ) → goes_on class bytes i ≡ q i = goes_on-agree class (is_part_char Rfc3986 c.args.part) bytes (λ k. (c.type_inv.bytes k).fits) c.requires
    in
    join q c.loop-block.at (length bytes) 32 _ (omega arith) c.loop-block.invariant.passed
    (run_agree (goes_on class bytes) q _ _ _ same c.run_with_escapes-run.ensures) (λ l. omega arith)

pub loop-block-preserved : goal.loop-block-preserved
loop-block-preserved c =
    let class = is_in c.args.table.now in
    let bytes = c.args.bytes.now in
    let q = goes_on (is_part_char Rfc3986 c.args.part) bytes in
    let same : (i : ℕ) → goes_on class bytes i ≡ q i = goes_on-agree class (is_part_char Rfc3986 c.args.part) bytes (λ k. (c.type_inv.bytes k).fits) c.requires
    in
    let at = c.loop-block.at in
    let inside : c.loop-block.block-index < length bytes / 32 = omega arith in
    record {
      place = omega (arith, c.loop-block.invariant.place);
      passed = elim c.if-run-lt-LANES.branch [
        | then-run-lt-LANES+else-bytes-at-ne37+else-bytes-at-lt-LOOKED_AT+else-run-lt-LANES-2 w ↦
            join_whole q at _ c.loop-block.invariant.passed (run_agree (goes_on class bytes) q _ _ _ same w.run_with_escapes-run.ensures) (omega arith)
        | else-run-lt-LANES w ↦
            join_whole q at _ c.loop-block.invariant.passed
            (run_agree (goes_on class bytes) q _ _ _ same (block_stops class bytes _ at c.loop-block.block-index _ _ c.as_chunks.ensures.front inside
            c.loop-block.invariant.place c.run_of_block-run.ensures (λ l. absurd (omega arith)))) (omega arith)
      ];
    }

pub returns : goal.returns
returns c =
    let bytes = c.args.bytes.now in
    join (goes_on (is_part_char Rfc3986 c.args.part) bytes) c.loop-block.at (length bytes) (length bytes - c.loop-block.at) _ (omega arith)
    c.loop-block.invariant.passed c.run-2.ensures (λ l. omega arith)
