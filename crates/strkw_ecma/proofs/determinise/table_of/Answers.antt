use Rattle.std.proofs.Common.{rules, ◌≡◌, ◌++◌, ℕ, List, length, take, drop, subst, ap, ◌∙◌, arith}
use Rattle.std.proofs.Math.Seq.{take-append_seam}
use Rattle.strkw_regex_search.specs.machine.Machine.{pattern_of}
use Rattle.strkw_ecma.specs.machine.Dfa.{AreRows}
use Rattle.strkw_ecma.proofs.DfaRows.{rows_written}
use Rattle.strkw_ecma.proofs.determinise.table_of.Goals as goal

pub table_if_right-requires-clause-rows : goal.table_if_right-requires-clause-rows
table_if_right-requires-clause-rows c =
    let samples = c.in-Some.sampled.samples.items in
    let entries = c.add_rows.new.self.entries in
    let states = c.add_rows.new.self.states.items in
    let marked = c.mark_runs.new.entries in
    let long : entries.len ≡ length marked = omega (arith, c.mark_runs.auto.entries, c.deref_mut.ensures.len) in
    let written : take entries.len (marked ++ drop (length marked) entries.items) ≡ marked =
    ap (λ (n : ℕ). take n (marked ++ drop (length marked) entries.items)) long ∙ take-append_seam marked (drop (length marked) entries.items) in
    let rows : AreRows (pattern_of c.args.program.now) samples entries.items states =
    subst (λ (l : List ℕ). AreRows (pattern_of c.args.program.now) l entries.items states) c.deref.ensures.value
    (c.in_ok-add_rows.ensures (search rules)) in
    let is_end : c.len-end.result ≡ length samples = cc in
    rows_written (pattern_of c.args.program.now) samples entries.items c.deref_mut.result.now marked _ states c.len-end.result c.mark_runs.ensures is_end
    c.deref_mut.ensures.value written rows
