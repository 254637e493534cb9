use Rattle.std.proofs.Common.{◌≡◌, ◌∙◌, ℕ, suc, List, [], ◌∷◌, ◌++◌, length, length-append, sym, ap, subst, Option, Some, None, IfOk, false, arith}
use Rattle.std.specs.Str.{chars}
use Rattle.std.proofs.lemmas.Iterator.{YieldsList-from_chars}
use Rattle.std.proofs.lemmas.Iterator.Consumers.{YieldsList-turn, YieldsList-end}
use Rattle.strkw_regex_grammar.specs.machine.Lexing.{at, between, read_next, read_from}
use Rattle.strkw_regex_grammar.specs.machine.RecogniserParts.{state_of}
use Rattle.strkw_regex_grammar.specs.machine.Recognising.{ParserStack, reads_if, step, whole_of, nothing_read}
use Rattle.strkw_regex_grammar.proofs.LexerRuns.{turn_stops, turn_goes, turn_ends}
use Rattle.strkw_regex_grammar.proofs.recogniser.is_read.Goals as goal

-- one character more makes a text one longer
longer : (xs : List ℕ) (c : ℕ) → length (xs ++ c ∷ []) ≡ suc (length xs)
longer xs c = length-append xs (c ∷ []) ∙ omega arith

-- where a text leads
abbrev whole : List ℕ → Option ParserStack
whole text = read_from false step (at between nothing_read) text

pub returns-then-not-branch : goal.returns-then-not-branch
returns-then-not-branch c =
    let text = chars c.args.source.now in
    let turn = YieldsList-turn (YieldsList-from_chars c.args.source.now c.utf8.source cc) c.loop-c.yielded _ c.loop-c.yielded_by _ _ c.in-Some.c c.in-Some.is
    c.next.ensures.steps in
    let stops : None ≡ read_next false step (state_of c.loop-c.recogniser) c.in-Some.c =
    ap (λ taken. reads_if taken (state_of c.next-in-loop-c.new.self)) (sym c.if-not-branch.true) ∙ c.in_ok-next.ensures in
    ap whole_of (turn_stops false step text (whole text) (state_of c.loop-c.recogniser) _ c.loop-c.invariant _ c.in-Some.c turn.0 turn.1
    (longer c.loop-c.yielded c.in-Some.c) stops)

pub loop-c-preserved : goal.loop-c-preserved
loop-c-preserved c =
    let text = chars c.args.source.now in
    let turn = YieldsList-turn (YieldsList-from_chars c.args.source.now c.utf8.source cc) c.loop-c.yielded _ c.loop-c.yielded_by _ _ c.in-Some.c c.in-Some.is
    c.next.ensures.steps in
    let goes : Some (state_of c.next-in-loop-c.new.self) ≡ read_next false step (state_of c.loop-c.recogniser) c.in-Some.c =
    ap (λ taken. reads_if taken (state_of c.next-in-loop-c.new.self)) (sym c.if-not-branch.false) ∙ c.in_ok-next.ensures in
    turn_goes false step text (whole text) (state_of c.loop-c.recogniser) _ c.loop-c.invariant _ c.in-Some.c turn.0 turn.1
    (longer c.loop-c.yielded c.in-Some.c) (state_of c.next-in-loop-c.new.self) goes

pub returns : goal.returns
returns c =
    let text = chars c.args.source.now in
    let end = YieldsList-end (YieldsList-from_chars c.args.source.now c.utf8.source cc) c.loop-c.yielded _ c.loop-c.yielded_by _ _ c.in-None.is
    c.next.ensures.steps in
    let at_end = turn_ends false step text (whole text) (state_of c.loop-c.recogniser) _ c.loop-c.invariant end.1 in
    subst (λ z. IfOk c.may_end.result (λ ends. ends ≡ whole_of z)) at_end c.may_end.ensures
