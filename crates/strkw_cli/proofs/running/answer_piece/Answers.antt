use Rattle.std.proofs.Common.{◌≡◌, ℕ, ◌+◌, ◌-◌, ◌++◌, List, Some, None, Result, Ok, Err, OnOk, is_ok, cond, position, take, drop, arith, sym, ap, ◌∙◌}
use Rattle.std.proofs.Common.{append-nil, refl, subst, append_assoc, []}
use Rattle.std.proofs.lemmas.List.{take_rest}
use Rattle.strkw_cli.specs.Lines.{is_line_feed, ended_lines, last_part}
use Rattle.strkw_cli.specs.Answer.{AreAnswers, IsAnswer}
use Rattle.strkw_object.proofs.Results.{on_ok, on_err}
use Rattle.strkw_cli.proofs.AnswerLemmas.{ends_line, goes_on, some_answered, none_ended, one_more}
use Rattle.strkw_cli.proofs.FirstPlaces.{IsFirstByte-position}
use Rattle.strkw_cli.proofs.running.answer_piece.Goals as goal
use Rattle.strkw_cli.proofs.running.answer_piece.Goals.{In-Some}

-- what an extension leaves, where it succeeds
extended : {T E : Type 0} (r : Result T E) (new old more whole : List ℕ) → new ≡ cond (is_ok r) (old ++ more) old → old ++ more ≡ whole → OnOk r (new ≡ whole)
extended (Ok x) new old more whole is e = is ∙ e
extended (Err x) new old more whole is e = tt

pub loop-offset-init : goal.loop-offset-init
loop-offset-init c =
    let start = append-nil c.args.line.now.items in
    record {
      sound = c.requires.sound;
      within = omega arith;
      begun = sym (ap last_part start ∙ c.requires.begun);
      answered = ([], sym (append-nil c.args.out.now.items), rw (start, none_ended c.args.line.now.items c.requires.begun) refl);
    }

pub returns-in_err-answer_ending-clause-err : goal.returns-in_err-answer_ending-clause-err
returns-in_err-answer_ending-clause-err c = on_err c.from_residual.result (
  c.loop-offset.invariant.answered.0,
  c.in_err-answer_ending.ensures.err
      ∙ c.loop-offset.invariant.answered.1,
  some_answered c.args.line.now.items c.args.piece.now c.loop-offset.at c.loop-offset.invariant.answered.0
      c.loop-offset.invariant.answered.2,
)

pub loop-offset-preserved : goal.loop-offset-preserved
loop-offset-preserved c =
    let start = c.args.line.now.items in
    let piece = c.args.piece.now in
    let at = c.loop-offset.at in
    let offset = c.in-Some.offset in
    let found : position is_line_feed (drop at piece) ≡ Some offset =
    ap (position is_line_feed) (sym (take_rest piece at)) ∙ sym (IsFirstByte-position is_line_feed _ c.memchr.result c.memchr.ensures)
    ∙ c.in-Some.is in
    let line = ends_line start piece at offset found in
    let count : at + offset - at ≡ offset = omega arith in
    let whole : c.loop-offset.line.items ++ take (at + offset - at) (drop at piece) ≡ last_part (start ++ take at piece) ++ take offset (drop at piece) =
    ap (λ x. x ++ take (at + offset - at) (drop at piece)) c.loop-offset.invariant.begun
    ∙ ap (λ n. last_part (start ++ take at piece) ++ take n (drop at piece)) count in
    let (made, is, are) = c.loop-offset.invariant.answered in
    let (answer, answer_is, answered) = c.in_ok-answer_ending.ensures.ok in
    record {
      sound = c.answer_ending.ensures.sound;
      within = omega (arith, line.within);
      begun = c.in_ok-answer_ending.ensures.cleared ∙ sym line.begun;
      answered = (
        made ++ answer,
        answer_is ∙ ap (λ x. x ++ answer) is ∙ append_assoc c.args.out.now.items made answer,
        subst (λ x. AreAnswers x (made ++ answer)) (sym line.ended)
            (one_more (ended_lines (start ++ take at piece)) made _ answer are (subst (λ x. IsAnswer x answer) whole answered)),
      );
    }

no_more : (c : goal.After-extend_from_slice) → position is_line_feed (drop c.loop-offset.at c.args.piece.now) ≡ None
no_more c =
    ap (position is_line_feed) (sym (take_rest c.args.piece.now c.loop-offset.at)) ∙ sym (IsFirstByte-position is_line_feed _ c.memchr.result c.memchr.ensures)
    ∙ c.in_default.is

pub returns-clause-answered : goal.returns-clause-answered
returns-clause-answered c =
    let on = goes_on c.args.line.now.items c.args.piece.now c.loop-offset.at (no_more c) in
    let (made, is, are) = c.loop-offset.invariant.answered in
    on_ok c.extend_from_slice.result (made, is, subst (λ x. AreAnswers x made) (sym on.0) are)

pub returns-clause-begun : goal.returns-clause-begun
returns-clause-begun c =
    let on = goes_on c.args.line.now.items c.args.piece.now c.loop-offset.at (no_more c) in
    extended c.extend_from_slice.result c.extend_from_slice.new.self.items c.loop-offset.line.items _ _ c.extend_from_slice.ensures.items
    (ap (λ x. c.loop-offset.line.items ++ x) (take_rest c.args.piece.now c.loop-offset.at)
    ∙ ap (λ x. x ++ drop c.loop-offset.at c.args.piece.now) c.loop-offset.invariant.begun ∙ sym on.1)

pub returns-clause-err : goal.returns-clause-err
returns-clause-err c = on_err c.extend_from_slice.result (
  c.loop-offset.invariant.answered.0,
  c.loop-offset.invariant.answered.1,
  some_answered c.args.line.now.items c.args.piece.now c.loop-offset.at
      c.loop-offset.invariant.answered.0 c.loop-offset.invariant.answered.2,
)
