use Rattle.std.proofs.Common.{◌≡◌, ℕ, ◌<◌, ◌≤◌, ◌∙◌, List, [], ◌++◌, Err, sym, ap, arith, length, take, drop, subst, length-take, take-append-drop}
use Rattle.std.proofs.lemmas.List.{take-append-le, take_all, take_at}
use Rattle.std.proofs.lemmas.Bool.{false_from_ne_true}
use Rattle.std.proofs.lemmas.Result.{err_from_is_err_and}
use Rattle.std.proofs.KnownBytes.{Consumes-nil, Appends-nil}
use Rattle.std.specs.Io.KnownBytes.{Appends, Consumes}
use Rattle.strkw_cli.specs.Answer.{AreAnswers}
use Rattle.strkw_cli.specs.Bounds.{HasShortLines}
use Rattle.strkw_cli.specs.Lines.{ended_lines, last_part}
use Rattle.strkw_cli.specs.Serving.{Serves}
use Rattle.strkw_cli.proofs.OutcomeLemmas.{some_none}
use Rattle.strkw_cli.proofs.BoundLemmas.{fits_none, taken_whole, within_none}
use Rattle.strkw_cli.proofs.RunLemmas.{Runs, Runs-start, Runs-begun, Runs-more, written_at_read_fault, none_read, written_at_end, written_at_fault}
use Rattle.strkw_cli.proofs.RunLemmas.{written_at_last_fault, written_at_long_line, written_at_too_long}
use Rattle.strkw_cli.proofs.running.run_lines.Goals as goal

pub loop-turn-init : goal.loop-turn-init
loop-turn-init g c = record {
  room = c.in_ok-piece.ensures;
  source_works = c.requires.source_works;
  sink_works = c.requires.sink_works;
  sound = c.requires.sound;
  runs = rw c.new-line.ensures.items (Runs-start c.args.bound _ _);
}

pub returns-in_default-clause-written : goal.returns-in_default-clause-written
returns-in_default-clause-written g c = written_at_read_fault _ _ _ _ _ _ (g.K.Sink.bytes_taken c.args.sink.now) _ _ c.loop-turn.invariant.runs
    c.in_default.ensures.moved

pub serve_last-requires-clause-begun : goal.serve_last-requires-clause-begun
serve_last-requires-clause-begun g c = rw c.deref.ensures.value (Runs-begun c.loop-turn.invariant.runs)

pub serve_piece-requires-clause-begun : goal.serve_piece-requires-clause-begun
serve_piece-requires-clause-begun g c = Runs-begun c.loop-turn.invariant.runs

-- what a vector holds after its slice was written, and what is lent of it
lent_front : (len count : ℕ) (lent buffer rest : List ℕ) → lent ≡ take len (buffer ++ rest) → length buffer ≡ len → take count lent ≡ take count buffer
lent_front len count lent buffer rest is whole = ap (take count) (is ∙ take_at buffer rest len whole)

pub returns-in_err-piece-clause-written : goal.returns-in_err-piece-clause-written
returns-in_err-piece-clause-written g c =
    let p = err_from_is_err_and c.from_residual.result c.from_residual.ensures.1 in (
      [],
      [],
      Consumes-nil _,
      Appends-nil _,
      rw (p.1, p.2) (
        [],
        taken_whole c.args.bound []
            (rw (none_read.0, none_read.1) (within_none c.args.bound, fits_none c.args.bound)),
        some_none (ended_lines []),
      ),
    )

pub returns-in_err-serve_last-clause-written : goal.returns-in_err-serve_last-clause-written
returns-in_err-serve_last-clause-written g c =
    let p = err_from_is_err_and c.from_residual-in_err-serve_last.result c.from_residual-in_err-serve_last.ensures.1 in
    let none : Consumes (g.S.Source.bytes_left c.loop-turn.source) (g.S.Source.bytes_left c.read.new.self) [] =
    subst (λ n. Consumes (g.S.Source.bytes_left c.loop-turn.source) (g.S.Source.bytes_left c.read.new.self) (take n c.read.new.buffer)) c.if-count-eq0.true
    c.in-Ok.ensures.moved.0 in
    let runs = subst (λ l. Runs c.args.bound (g.S.Source.bytes_left c.args.source.now) (g.S.Source.bytes_left c.loop-turn.source)
    (g.K.Sink.bytes_taken c.args.sink.now) (g.K.Sink.bytes_taken c.loop-turn.sink) l c.loop-turn.turn)
    (sym c.deref.ensures.value) c.loop-turn.invariant.runs in
    rw (p.1, p.2) (written_at_last_fault _ _ _ _ _ _ _ c.deref.result.now c.loop-turn.turn runs c.serve_last.result c.in_err-serve_last.field-0.0
    c.in_err-serve_last.was none c.serve_last.ensures.written)

pub returns-then-count-eq0-clause-written : goal.returns-then-count-eq0-clause-written
returns-then-count-eq0-clause-written g c =
    let none : Consumes (g.S.Source.bytes_left c.loop-turn.source) (g.S.Source.bytes_left c.read.new.self) [] =
    subst (λ n. Consumes (g.S.Source.bytes_left c.loop-turn.source) (g.S.Source.bytes_left c.read.new.self) (take n c.read.new.buffer)) c.if-count-eq0.true
    c.in-Ok.ensures.moved.0 in
    let runs = subst (λ l. Runs c.args.bound (g.S.Source.bytes_left c.args.source.now) (g.S.Source.bytes_left c.loop-turn.source)
    (g.K.Sink.bytes_taken c.args.sink.now) (g.K.Sink.bytes_taken c.loop-turn.sink) l c.loop-turn.turn)
    (sym c.deref.ensures.value) c.loop-turn.invariant.runs in
    written_at_end _ _ _ _ _ _ _ c.deref.result.now c.loop-turn.turn runs c.serve_last.result _ c.in_ok-serve_last.was none c.serve_last.ensures.written

pub returns-then-count-eq0-clause-end : goal.returns-then-count-eq0-clause-end
returns-then-count-eq0-clause-end g c is =
    let room : 0 < length c.read.new.buffer = omega (arith, c.loop-turn.invariant.room, c.deref_mut.ensures.len, c.read.auto.buffer) in
    c.in-Ok.ensures.moved.1 c.if-count-eq0.true room

-- so many bytes of what is lent again are so many of the front that was lent
lent_again : (count fitting : ℕ) (lent again : List ℕ) → again ≡ lent → fitting ≤ length (take count lent) → take fitting again ≡ take fitting (take count lent)
lent_again count fitting lent again is fits =
    ap (take fitting) (is ∙ sym (take-append-drop count lent)) ∙ take-append-le fitting (take count lent) (drop count lent) fits

pub returns-in_err-serve_piece-clause-written : goal.returns-in_err-serve_piece-clause-written
returns-in_err-serve_piece-clause-written g c =
    let p = err_from_is_err_and c.from_residual-in_err-serve_piece.result c.from_residual-in_err-serve_piece.ensures.1 in
    let fitting = c.fitting_front-fitting.result in
    let bytes = take c.in-Ok.count c.deref-in-loop-turn-2.result.now in
    let same : bytes ≡ take c.in-Ok.count c.read.new.buffer =
    lent_front c.loop-turn.piece.len c.in-Ok.count c.deref-in-loop-turn-2.result.now c.read.new.buffer _ c.deref-in-loop-turn-2.ensures.value
    (omega (arith, c.deref_mut.ensures.len, c.read.auto.buffer)) in
    let consumed : Consumes (g.S.Source.bytes_left c.loop-turn.source) (g.S.Source.bytes_left c.read.new.self) bytes =
    subst (Consumes (g.S.Source.bytes_left c.loop-turn.source) (g.S.Source.bytes_left c.read.new.self)) (sym same) c.in-Ok.ensures.moved.0 in
    let front : take fitting c.deref-in-loop-turn-3.result.now ≡ take fitting bytes =
    lent_again c.in-Ok.count fitting c.deref-in-loop-turn-2.result.now c.deref-in-loop-turn-3.result.now
    (c.deref-in-loop-turn-3.ensures.value ∙ sym c.deref-in-loop-turn-2.ensures.value)
    c.fitting_front-fitting.ensures.within in
    let runs = c.loop-turn.invariant.runs in
    let begun : c.deref-in-loop-turn.result.now ≡ last_part runs.read = c.deref-in-loop-turn.ensures.value ∙ runs.begun in
    let taken = c.fitting_front-fitting.ensures.taken runs.read begun runs.short in
    let served = subst (λ f. (written : List ℕ) × Appends (g.K.Sink.bytes_taken c.loop-turn.sink) (g.K.Sink.bytes_taken c.serve_piece.new.sink) written
    × Serves {T = Unit {0}} (Err c.in_err-serve_piece.field-0.0) (ended_lines (c.loop-turn.line.items ++ f)) (c.loop-turn.line.items ++ f) written) front
    c.in_err-serve_piece.ensures.written in
    rw (p.1, p.2) (written_at_fault _ _ _ _ _ _ _ _ _ runs (Unit {0}) c.in_err-serve_piece.field-0.0 bytes (take fitting bytes) consumed taken served)

pub returns-then-fitting-count-clause-written : goal.returns-then-fitting-count-clause-written
returns-then-fitting-count-clause-written g c =
    let fitting = c.fitting_front-fitting.result in
    let bytes = take c.in-Ok.count c.deref-in-loop-turn-2.result.now in
    let same : bytes ≡ take c.in-Ok.count c.read.new.buffer =
    lent_front c.loop-turn.piece.len c.in-Ok.count c.deref-in-loop-turn-2.result.now c.read.new.buffer _ c.deref-in-loop-turn-2.ensures.value
    (omega (arith, c.deref_mut.ensures.len, c.read.auto.buffer)) in
    let consumed : Consumes (g.S.Source.bytes_left c.loop-turn.source) (g.S.Source.bytes_left c.read.new.self) bytes =
    subst (Consumes (g.S.Source.bytes_left c.loop-turn.source) (g.S.Source.bytes_left c.read.new.self)) (sym same) c.in-Ok.ensures.moved.0 in
    let front : take fitting c.deref-in-loop-turn-3.result.now ≡ take fitting bytes =
    lent_again c.in-Ok.count fitting c.deref-in-loop-turn-2.result.now c.deref-in-loop-turn-3.result.now
    (c.deref-in-loop-turn-3.ensures.value ∙ sym c.deref-in-loop-turn-2.ensures.value)
    c.fitting_front-fitting.ensures.within in
    let runs = c.loop-turn.invariant.runs in
    let begun : c.deref-in-loop-turn.result.now ≡ last_part runs.read = c.deref-in-loop-turn.ensures.value ∙ runs.begun in
    let taken = c.fitting_front-fitting.ensures.taken runs.read begun runs.short in
    let few : fitting < length bytes = rw same (omega (arith, length-take c.in-Ok.count c.read.new.buffer, c.in-Ok.ensures.count, c.if-fitting-count.true)) in
    let served = subst (λ f. (written : List ℕ) × Appends (g.K.Sink.bytes_taken c.loop-turn.sink) (g.K.Sink.bytes_taken c.serve_piece.new.sink) written
    × AreAnswers (ended_lines (c.loop-turn.line.items ++ f)) written) front c.in_ok-serve_piece.ensures.written in
    (written_at_long_line _ _ _ _ _ _ _ _ _ runs bytes fitting consumed few taken served)

pub loop-turn-preserved : goal.loop-turn-preserved
loop-turn-preserved g c =
    let fitting = c.fitting_front-fitting.result in
    let bytes = take c.in-Ok.count c.deref-in-loop-turn-2.result.now in
    let same : bytes ≡ take c.in-Ok.count c.read.new.buffer =
    lent_front c.loop-turn.piece.len c.in-Ok.count c.deref-in-loop-turn-2.result.now c.read.new.buffer _ c.deref-in-loop-turn-2.ensures.value
    (omega (arith, c.deref_mut.ensures.len, c.read.auto.buffer)) in
    let consumed : Consumes (g.S.Source.bytes_left c.loop-turn.source) (g.S.Source.bytes_left c.read.new.self) bytes =
    subst (Consumes (g.S.Source.bytes_left c.loop-turn.source) (g.S.Source.bytes_left c.read.new.self)) (sym same) c.in-Ok.ensures.moved.0 in
    let front : take fitting c.deref-in-loop-turn-3.result.now ≡ take fitting bytes =
    lent_again c.in-Ok.count fitting c.deref-in-loop-turn-2.result.now c.deref-in-loop-turn-3.result.now
    (c.deref-in-loop-turn-3.ensures.value ∙ sym c.deref-in-loop-turn-2.ensures.value)
    c.fitting_front-fitting.ensures.within in
    let runs = c.loop-turn.invariant.runs in
    let begun : c.deref-in-loop-turn.result.now ≡ last_part runs.read = c.deref-in-loop-turn.ensures.value ∙ runs.begun in
    let taken = c.fitting_front-fitting.ensures.taken runs.read begun runs.short in
    let size : length bytes ≡ c.in-Ok.count = rw same (omega (arith, length-take c.in-Ok.count c.read.new.buffer, c.in-Ok.ensures.count)) in
    let some : 0 < length bytes = omega (arith, size, c.if-count-eq0.false) in
    let all : take fitting bytes ≡ bytes = take_all fitting bytes (omega (arith, size, c.if-fitting-count.false)) in
    let whole = front ∙ all in
    let served = subst (λ f. (written : List ℕ) × Appends (g.K.Sink.bytes_taken c.loop-turn.sink) (g.K.Sink.bytes_taken c.serve_piece.new.sink) written
    × AreAnswers (ended_lines (c.loop-turn.line.items ++ f)) written) whole c.in_ok-serve_piece.ensures.written in
    record {
      room = c.loop-turn.invariant.room;
      source_works = c.in-Ok.ensures.ok ∙ c.loop-turn.invariant.source_works;
      sink_works = false_from_ne_true (g.K.Sink.has_failed c.serve_piece.new.sink)
          (λ failed. let fault = c.in_ok-serve_piece.ensures.write_fault.1 failed in cc);
      sound = c.serve_piece.ensures.sound;
      runs = Runs-more _ _ _ _ _ _ _ c.loop-turn.line.items c.loop-turn.turn runs bytes c.serve_piece.new.line.items consumed some
          (subst (λ f. HasShortLines c.args.bound (runs.read ++ f)) all taken.short) served
          (c.in_ok-serve_piece.ensures.begun ∙ ap (λ f. last_part (c.loop-turn.line.items ++ f)) whole);
    }

pub returns-clause-written : goal.returns-clause-written
returns-clause-written g c = written_at_too_long _ _ _ (g.S.Source.bytes_left c.loop-turn.source) _ _ (g.K.Sink.bytes_taken c.loop-turn.sink) _ c.loop-turn.turn
    c.loop-turn.invariant.runs (omega (arith, c.loop-turn-test.false, c.loop-turn.auto.turn-end))
