use Rattle.std.proofs.Common.{◌≡◌, ℕ, suc, List, [], ◌∷◌, ◌++◌, true, length, ◌∙◌, length-append, arith}
use Rattle.std.specs.Str.{chars}
use Rattle.std.proofs.lemmas.Iterator.{YieldsList-from_chars}
use Rattle.std.proofs.lemmas.Iterator.Consumers.{YieldsList-turn, YieldsList-end}
use Rattle.strkw_regex_grammar.specs.NullEscape.{may_precede}
use Rattle.strkw_regex_grammar.proofs.NullEscape.{turn_stops, turn_goes, turn_ends}
use Rattle.strkw_regex_grammar.proofs.null_escape.is_apart.Goals as goal

-- one character more makes a text one longer
longer : (xs : List ℕ) (c : ℕ) → length (xs ++ c ∷ []) ≡ suc (length xs)
longer xs c = length-append xs (c ∷ []) ∙ omega arith

pub returns-then-not-may_precede : goal.returns-then-not-may_precede
returns-then-not-may_precede c =
    let turn = YieldsList-turn (YieldsList-from_chars c.args.source.now c.utf8.source cc) c.loop-c.yielded _ c.loop-c.yielded_by _ _ c.in-Some.c c.in-Some.is
    c.next.ensures.steps in
    turn_stops (chars c.args.source.now) (c.loop-c.front) _ c.loop-c.invariant _ c.in-Some.c turn.0 turn.1 (longer c.loop-c.yielded c.in-Some.c) cc

pub loop-c-preserved : goal.loop-c-preserved
loop-c-preserved c =
    let turn = YieldsList-turn (YieldsList-from_chars c.args.source.now c.utf8.source cc) c.loop-c.yielded _ c.loop-c.yielded_by _ _ c.in-Some.c c.in-Some.is
    c.next.ensures.steps in
    let stands : may_precede (c.loop-c.front) c.in-Some.c ≡ true = cc in
    turn_goes (chars c.args.source.now) (c.loop-c.front) _ c.loop-c.invariant _ c.in-Some.c turn.0 turn.1 (longer c.loop-c.yielded c.in-Some.c) stands
    (c.next-front.result) c.next-front.ensures

pub returns : goal.returns
returns c =
    let end = YieldsList-end (YieldsList-from_chars c.args.source.now c.utf8.source cc) c.loop-c.yielded _ c.loop-c.yielded_by _ _ c.in-None.is
    c.next.ensures.steps in
    turn_ends (chars c.args.source.now) (c.loop-c.front) _ c.loop-c.invariant end.1
