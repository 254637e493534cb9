use Rattle.std.proofs.Common.{◌≡◌, ◌+◌, ◌*◌, ◌/◌, length, take, drop}
use Rattle.std.specs.List.{count_by}
use Rattle.std.specs.Fmt.{is_char_start}
use Rattle.strkw_report.proofs.node.char_count.Given as goal

-- those of the blocks so far, and those of what no block holds
abbrev pub invariant-loop-block : goal.invariant-loop-block
invariant-loop-block l =
    l.count ≡ count_by is_char_start (take (l.block-index * 32) l.text) + count_by is_char_start (drop (length l.text / 32 * 32) l.text)
