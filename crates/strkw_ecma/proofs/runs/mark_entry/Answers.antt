use Rattle.std.proofs.Common.{◌≡◌, ◌+◌, ◌*◌, ℕ, get_or, refl, ap, arith}
use Rattle.strkw_ecma.proofs.DfaRows.{marked_same}
use Rattle.strkw_ecma.proofs.runs.mark_entry.Goals as goal

pub returns-then-from-next : goal.returns-then-from-next
returns-then-from-next c =
    let end = c.args.end in
    let own = c.args.number * (end + 1) in
    let place = c.from.result + c.args.column in
    let row : c.from.result ≡ own = cc (c.in-Some.ensures.0) in
    let entry : get_or c.args.entries.now place 0 ≡ own + (end + 1) = omega (arith, row) in
    marked_same end c.args.number c.args.column place c.args.entries.now _ (omega (arith, c.requires.column)) (ap (λ (r : ℕ). r + c.args.column) row)
    (omega arith) entry (omega (arith, row)) refl
