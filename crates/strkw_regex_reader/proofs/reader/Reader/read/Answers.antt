use Rattle.std.proofs.Common.{◌≡◌, ◌∙◌, sym, ap, Some, None, true, arith}
use Rattle.std.specs.Prelude.{option_and_then}
use Rattle.std.specs.Str.{chars}
use Rattle.std.proofs.lemmas.Iterator.{YieldsList-from_chars}
use Rattle.std.proofs.lemmas.List.{length_push}
use Rattle.std.proofs.lemmas.Iterator.Consumers.{YieldsList-turn, YieldsList-end}
use Rattle.strkw_regex_grammar.specs.machine.Lexing.{read_next}
use Rattle.strkw_regex_grammar.proofs.LexerRuns.{turn_stops, turn_goes, turn_ends}
use Rattle.strkw_regex_reader.specs.machine.BuilderParts.{outcome_of, state_of}
use Rattle.strkw_regex_reader.specs.machine.Building.{at_end, step}
use Rattle.strkw_regex_reader.specs.machine.Reading.{goes_to}
use Rattle.strkw_regex_reader.proofs.ReadTrees.{next_goes, too_long, short_enough, nothing_read}
use Rattle.strkw_regex_reader.proofs.reader.Reader.read.Goals as goal

pub returns-then-count-eq-MAX_LENGTH : goal.returns-then-count-eq-MAX_LENGTH
returns-then-count-eq-MAX_LENGTH c =
    let turn = YieldsList-turn (YieldsList-from_chars c.args.source.now c.utf8.source cc) c.loop-c.yielded _ c.loop-c.yielded_by _ _ c.in-Some.c c.in-Some.is
    c.next.ensures.steps in
    record { tree = too_long (chars c.args.source.now) (omega (arith, turn.0, c.loop-c.invariant.counted)); plain = tt }

pub returns-in-Refuses : goal.returns-in-Refuses
returns-in-Refuses c =
    let text = chars c.args.source.now in
    let turn = YieldsList-turn (YieldsList-from_chars c.args.source.now c.utf8.source cc) c.loop-c.yielded _ c.loop-c.yielded_by _ _ c.in-Some.c c.in-Some.is
    c.next.ensures.steps in
    let stops : None ≡ read_next true step (state_of c.loop-c.self) c.in-Some.c =
    ap (λ taken. goes_to (outcome_of taken (state_of c.next-in-loop-c.new.self))) (sym c.in-Refuses.is) ∙ ap goes_to c.in_ok-next.ensures
    ∙ next_goes (state_of c.loop-c.self) c.in-Some.c in
    record {
      tree = nothing_read text
          (turn_stops true step text _ (state_of c.loop-c.self) _ c.loop-c.invariant.way _ c.in-Some.c turn.0 turn.1 (length_push c.loop-c.yielded c.in-Some.c ∙ omega arith)
          stops);
      plain = tt;
    }

pub loop-c-preserved : goal.loop-c-preserved
loop-c-preserved c =
    let text = chars c.args.source.now in
    let turn = YieldsList-turn (YieldsList-from_chars c.args.source.now c.utf8.source cc) c.loop-c.yielded _ c.loop-c.yielded_by _ _ c.in-Some.c c.in-Some.is
    c.next.ensures.steps in
    let next = length_push c.loop-c.yielded c.in-Some.c in
    let goes : Some (state_of c.next-in-loop-c.new.self) ≡ read_next true step (state_of c.loop-c.self) c.in-Some.c =
    ap (λ taken. goes_to (outcome_of taken (state_of c.next-in-loop-c.new.self))) (sym c.in-Takes.is) ∙ ap goes_to c.in_ok-next.ensures
    ∙ next_goes (state_of c.loop-c.self) c.in-Some.c in
    record {
      counted = omega (arith, next, c.loop-c.invariant.counted);
      short = omega (arith, next, c.loop-c.invariant.counted, c.loop-c.invariant.short, c.if-count-eq-MAX_LENGTH.false);
      way = turn_goes true step text _ (state_of c.loop-c.self) _ c.loop-c.invariant.way _ c.in-Some.c turn.0 turn.1 (next ∙ omega arith)
          (state_of c.next-in-loop-c.new.self) goes;
    }

pub returns : goal.returns
returns c =
    let text = chars c.args.source.now in
    let end = YieldsList-end (YieldsList-from_chars c.args.source.now c.utf8.source cc) c.loop-c.yielded _ c.loop-c.yielded_by _ _ c.in-None.is
    c.next.ensures.steps in
    let at_end_is = ap (option_and_then at_end) (turn_ends true step text _ (state_of c.loop-c.self) _ c.loop-c.invariant.way end.1)
    ∙ sym (short_enough text (omega (arith, end.1, c.loop-c.invariant.short))) in
    record { tree = rw at_end_is at c.end.ensures.tree; plain = c.end.ensures.plain }
