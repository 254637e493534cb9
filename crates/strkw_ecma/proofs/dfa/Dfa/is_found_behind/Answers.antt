use Rattle.std.proofs.Common.{◌≡◌, [], Some, drop, ap, refl, ◌∙◌, drop_of_length-le, arith}
use Rattle.std.specs.Str.{chars}
use Rattle.strkw_charset.specs.machine.CharClasses.{column_of}
use Rattle.strkw_charset.proofs.Bytes.{column_within, reads_char}
use Rattle.strkw_ecma.proofs.DfaRun.{turn_found, turn_goes, walk_ends, walk_of_rows}
use Rattle.strkw_ecma.proofs.dfa.Dfa.is_found_behind.Goals as goal

pub next_row-requires-clause-column : goal.next_row-requires-clause-column
next_row-requires-clause-column c =
    let here = c.column_at-column.ensures in
    let within = column_within c.args.self.now.columns.classes.items c.args.self.now.columns.keys.items here.0 c.column_at-column.result.0 here.3 in
    omega (arith, within, c.rows-rows.ensures.end)

pub returns-in_default : goal.returns-in_default
returns-in_default c =
    let here = c.column_at-column.ensures in
    let read = reads_char c.args.left.now _ c.characters.place _ _ c.as_bytes-bytes.ensures.value c.characters.invariant.utf8 here.2 in
    turn_found _ _ _ _ _ _ _ _ _ _ c.characters.invariant.so_far read.0 here.3 refl c.in_default.ensures.leads
    ∙ walk_of_rows (column_of c.args.self.now.columns.classes.items c.args.self.now.columns.keys.items) c.args.row (chars c.args.left.now)
    c.rows-rows.ensures.end c.rows-rows.ensures.entries

pub characters-preserved : goal.characters-preserved
characters-preserved c =
    let here = c.column_at-column.ensures in
    let read = reads_char c.args.left.now _ c.characters.place _ _ c.as_bytes-bytes.ensures.value c.characters.invariant.utf8 here.2 in
    let next = c.in-Some.ensures in
    record {
      inside = next.inside;
      utf8 = read.1;
      so_far = turn_goes _ _ _ _ _ _ _ _ _ _ c.characters.invariant.so_far read.0 here.3 refl _ next.leads.0 next.leads.1;
    }

pub returns : goal.returns
unfolding chars
returns c =
    let none : drop c.characters.place c.args.left.now ≡ [] =
    drop_of_length-le c.args.left.now (omega (arith, c.characters-test.false, c.as_bytes-bytes.ensures.len)) in
    ap Some c.is_found_at_end.ensures ∙ walk_ends _ _ _ _ _ _ _ c.characters.invariant.so_far (ap chars none) refl
    ∙ walk_of_rows (column_of c.args.self.now.columns.classes.items c.args.self.now.columns.keys.items) c.args.row (chars c.args.left.now)
    c.rows-rows.ensures.end c.rows-rows.ensures.entries
