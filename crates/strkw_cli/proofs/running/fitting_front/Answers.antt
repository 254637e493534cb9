use Rattle.std.proofs.Common.{◌≡◌, ◌++◌, ◌+◌, ◌∙◌, [], Some, None, drop, take, position, arith, sym, ap, subst}
use Rattle.std.proofs.lemmas.List.{take_rest}
use Rattle.strkw_cli.specs.Bounds.{HasShortLines}
use Rattle.strkw_cli.specs.Lines.{is_line_feed}
use Rattle.strkw_cli.proofs.AnswerLemmas.{ends_line}
use Rattle.strkw_cli.proofs.BoundLemmas.{Reaches, reaches_next, taken_all, taken_before, taken_short, taken_unbounded}
use Rattle.strkw_cli.proofs.FirstPlaces.{IsFirstByte-position}
use Rattle.strkw_cli.proofs.running.fitting_front.Goals as goal

pub returns-in_default-clause-taken : goal.returns-in_default-clause-taken
returns-in_default-clause-taken c start is short = taken_unbounded c.args.bound start c.args.piece.now c.in_default.is

pub returns-then-room-offset-clause-taken : goal.returns-then-room-offset-clause-taken
returns-then-room-offset-clause-taken c start is short =
    let piece = c.args.piece.now in
    let at = c.loop-offset.at in
    let found : position is_line_feed (drop at piece) ≡ Some c.in-Some-memchr.offset =
    ap (position is_line_feed) (sym (take_rest piece at)) ∙ sym (IsFirstByte-position is_line_feed _ c.memchr.result c.memchr.ensures) ∙ c.in-Some-memchr.is in
    let reaches = c.loop-offset.invariant.reaches start is (subst (λ b. HasShortLines b start) c.in-Some.is short) in
    rw c.in-Some.is (taken_before c.in-Some.longest start piece at c.in-Some-memchr.offset c.loop-offset.room reaches found c.if-room-offset.true)

pub loop-offset-preserved : goal.loop-offset-preserved
loop-offset-preserved c =
    let piece = c.args.piece.now in
    let at = c.loop-offset.at in
    let offset = c.in-Some-memchr.offset in
    let found : position is_line_feed (drop at piece) ≡ Some offset =
    ap (position is_line_feed) (sym (take_rest piece at)) ∙ sym (IsFirstByte-position is_line_feed _ c.memchr.result c.memchr.ensures) ∙ c.in-Some-memchr.is in
    let count : at + offset + 1 ≡ at + (offset + 1) = omega arith in
    record {
      within = let line = ends_line [] piece at offset found in omega (arith, line.within);
      reaches = λ start is short.
          subst (λ n. Reaches c.in-Some.longest (start ++ take n piece) c.in-Some.longest) count
          (reaches_next c.in-Some.longest start piece at offset c.loop-offset.room (c.loop-offset.invariant.reaches start is short) found
          c.if-room-offset.false);
    }

pub returns-then-room-piece-clause-taken : goal.returns-then-room-piece-clause-taken
returns-then-room-piece-clause-taken c start is short =
    let piece = c.args.piece.now in
    let none : position is_line_feed (drop c.loop-offset.at piece) ≡ None =
    ap (position is_line_feed) (sym (take_rest piece c.loop-offset.at)) ∙ sym (IsFirstByte-position is_line_feed _ c.memchr.result c.memchr.ensures)
    ∙ c.in_default-memchr.is in
    let reaches = c.loop-offset.invariant.reaches start is (subst (λ b. HasShortLines b start) c.in-Some.is short) in
    rw c.in-Some.is (taken_short c.in-Some.longest start piece c.loop-offset.at c.loop-offset.room reaches none c.if-room-piece.true)

pub returns-else-room-piece-clause-taken : goal.returns-else-room-piece-clause-taken
returns-else-room-piece-clause-taken c start is short =
    let piece = c.args.piece.now in
    let none : position is_line_feed (drop c.loop-offset.at piece) ≡ None =
    ap (position is_line_feed) (sym (take_rest piece c.loop-offset.at)) ∙ sym (IsFirstByte-position is_line_feed _ c.memchr.result c.memchr.ensures)
    ∙ c.in_default-memchr.is in
    let reaches = c.loop-offset.invariant.reaches start is (subst (λ b. HasShortLines b start) c.in-Some.is short) in
    rw c.in-Some.is (taken_all c.in-Some.longest start piece c.loop-offset.at c.loop-offset.room reaches none c.if-room-piece.false)
