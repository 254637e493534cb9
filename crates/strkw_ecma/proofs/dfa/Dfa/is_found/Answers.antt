use Rattle.std.proofs.Common.{◌≡◌, [], Some, drop, ap, refl, ◌∙◌, drop_of_length-le, arith}
use Rattle.std.specs.Str.{chars}
use Rattle.std.proofs.lemmas.Str.{IsCharBoundary-from_drop}
use Rattle.strkw_charset.specs.machine.CharClasses.{column_of}
use Rattle.strkw_charset.proofs.Bytes.{reads_byte}
use Rattle.strkw_ecma.proofs.DfaRun.{turn_found, turn_goes, walk_ends, walk_of_rows}
use Rattle.strkw_ecma.proofs.dfa.Dfa.is_found.Goals as goal

pub range_from-requires : goal.range_from-requires
range_from-requires c _ = IsCharBoundary-from_drop c.args.text.now c.loop-place.place (omega arith) c.loop-place.invariant.utf8

pub next_row-requires-clause-column : goal.next_row-requires-clause-column
next_row-requires-clause-column c =
    let there = c.in-Some.ensures.lookup.3 in
    let byte = reads_byte c.args.self.now.columns c.args.text.now _ _ c.as_bytes-byte-items.ensures.value c.as_slice-columns.ensures.value _ _ _ _
    c.loop-place-test.true c.from.ensures there.0 (there.1 0) c.from-in-loop-place.ensures c.loop-place.invariant.utf8 in
    omega (arith, byte.within, c.rows-rows.ensures.end)

pub returns-in_default-next_row : goal.returns-in_default-next_row
returns-in_default-next_row c =
    let there = c.in-Some.ensures.lookup.3 in
    let byte = reads_byte c.args.self.now.columns c.args.text.now _ _ c.as_bytes-byte-items.ensures.value c.as_slice-columns.ensures.value _ _ _ _
    c.loop-place-test.true c.from.ensures there.0 (there.1 0) c.from-in-loop-place.ensures c.loop-place.invariant.utf8 in
    turn_found _ _ _ _ _ _ _ _ _ _ c.loop-place.invariant.so_far byte.char byte.is refl c.in_default-next_row.ensures.leads
    ∙ walk_of_rows (column_of c.args.self.now.columns.classes.items c.args.self.now.columns.keys.items) 0 (chars c.args.text.now)
    c.rows-rows.ensures.end c.rows-rows.ensures.entries

pub loop-place-preserved : goal.loop-place-preserved
loop-place-preserved c =
    let there = c.in-Some.ensures.lookup.3 in
    let byte = reads_byte c.args.self.now.columns c.args.text.now _ _ c.as_bytes-byte-items.ensures.value c.as_slice-columns.ensures.value _ _ _ _
    c.loop-place-test.true c.from.ensures there.0 (there.1 0) c.from-in-loop-place.ensures c.loop-place.invariant.utf8 in
    let next = c.in-Some-next_row.ensures in
    record {
      inside = next.inside;
      utf8 = byte.utf8;
      so_far = turn_goes _ _ _ _ _ _ _ _ _ _ c.loop-place.invariant.so_far byte.char byte.is refl _ next.leads.0 next.leads.1;
    }

pub returns : goal.returns
unfolding chars
returns c =
    let none : drop c.loop-place.place c.args.text.now ≡ [] = drop_of_length-le c.args.text.now (omega arith) in
    ap Some c.is_found_at_end.ensures ∙ walk_ends _ _ _ _ _ _ _ c.loop-place.invariant.so_far (ap chars none) refl
    ∙ walk_of_rows (column_of c.args.self.now.columns.classes.items c.args.self.now.columns.keys.items) 0 (chars c.args.text.now)
    c.rows-rows.ensures.end c.rows-rows.ensures.entries
