use Rattle.std.proofs.Common.{rules, ◌-◌, ◌<◌, ◌^◌, length, arith}
use Rattle.neldrafi_csv.specs.Grammar.{ends_text}
use Rattle.neldrafi_csv.proofs.RunLemmas.{run-more, run-stops, run-within}
use Rattle.neldrafi_csv.proofs.runs.run_before.Goals as goal

pub returns-then-count-lt-LANES-clause-before : goal.returns-then-count-lt-LANES-clause-before
returns-then-count-lt-LANES-clause-before c k high =
    run-more (ends_text c.args.delimiter.byte) c.args.bytes.now c.blocks-2.at _ (omega arith) c.run_of_block-count.ensures c.blocks-2.invariant k
    (omega (arith, high))

pub returns-then-count-lt-LANES-clause-stops : goal.returns-then-count-lt-LANES-clause-stops
returns-then-count-lt-LANES-clause-stops c _ =
    run-stops (ends_text c.args.delimiter.byte) c.args.bytes.now c.blocks-2.at _ (omega arith) c.run_of_block-count.ensures c.if-count-lt-LANES.true

pub blocks-2-preserved : goal.blocks-2-preserved
blocks-2-preserved c k high =
    run-more (ends_text c.args.delimiter.byte) c.args.bytes.now c.blocks-2.at _ (omega arith) c.run_of_block-count.ensures c.blocks-2.invariant k
    (omega (arith, high))

pub overflow_add-result-2 : goal.overflow_add-result-2
overflow_add-result-2 c =
    let bytes = c.args.bytes.now in
    let whole = run-within (ends_text c.args.delimiter.byte) bytes (length bytes - 16) _ (omega arith) c.run_of_block.ensures in
    let fits : length bytes < 2 ^ 63 = search rules in omega (arith, whole, fits)

pub returns-clause-within : goal.returns-clause-within
returns-clause-within c =
    let bytes = c.args.bytes.now in
    let whole = run-within (ends_text c.args.delimiter.byte) bytes (length bytes - 16) _ (omega arith) c.run_of_block.ensures in omega (arith, whole)

pub returns-clause-before : goal.returns-clause-before
returns-clause-before c k high =
    let bytes = c.args.bytes.now in
    run-more (ends_text c.args.delimiter.byte) bytes (length bytes - 16) _ (omega arith) c.run_of_block.ensures (λ j low. c.blocks-2.invariant j (omega arith)) k
    (omega (arith, high))

pub returns-clause-stops : goal.returns-clause-stops
returns-clause-stops c inside =
    let bytes = c.args.bytes.now in
    run-stops (ends_text c.args.delimiter.byte) bytes (length bytes - 16) _ (omega arith) c.run_of_block.ensures (omega (arith, inside))
