use Rattle.std.proofs.Common.{length, ◌∙◌, sym, ap, Some, None, Option, IfSome, subst, take, true, arith, refl, [], ℕ, List, ◌≡◌, take_all}
use Rattle.std.specs.Prelude.{option_and_then, is_some}
use Rattle.std.specs.Str.{chars}
use Rattle.std.proofs.lemmas.Iterator.{YieldsList-from_chars}
use Rattle.std.proofs.lemmas.List.{length_push}
use Rattle.std.proofs.lemmas.Iterator.Consumers.{YieldsList-turn, YieldsList-end}
use Rattle.strkw_regex_grammar.specs.machine.Lexing.{read_from}
use Rattle.strkw_regex_grammar.proofs.LexerRuns.{turn_goes, turn_ends}
use Rattle.strkw_regex_core.specs.machine.Shape.{outline_pattern}
use Rattle.std.specs.Option.{option_or}
use Rattle.strkw_regex_grammar.specs.NullEscape.{is_apart}
use Rattle.strkw_regex_reader.specs.declared.refusals.PatternRefusal.{PatternRefusal}
use Rattle.strkw_regex_reader.specs.Refusals.{IsReason}
use Rattle.strkw_regex_reader.specs.machine.BuilderParts.{outcome_of, state_of}
use Rattle.strkw_regex_reader.specs.machine.Building.{at_end, step}
use Rattle.strkw_regex_reader.specs.machine.Reading.{goes_to}
use Rattle.strkw_regex_reader.proofs.ReadTrees.{next_goes, too_large_of}
use Rattle.strkw_regex_reader.proofs.Stands.{Stands, starts_so, next_stands, split, taken_more}
use Rattle.strkw_regex_reader.proofs.RefusedLexemes.{Stops, next_stops, refusal_holds, char_holds, end_holds}
use Rattle.strkw_regex_reader.proofs.reader.Reader.refusal_of.Goals as goal

pub loop-c-init : goal.loop-c-init
loop-c-init c = record {
  way = ap (λ r. read_from true step r (chars c.args.source.now)) c.requires.new;
  stands = subst (λ r. Stands r []) (sym c.requires.new) starts_so;
}

pub returns-in-Some-property_refusal_at : goal.returns-in-Some-property_refusal_at
returns-in-Some-property_refusal_at c =
    let text = chars c.args.source.now in
    let turn = YieldsList-turn (YieldsList-from_chars c.args.source.now c.utf8.source cc) c.loop-c.yielded _ c.loop-c.yielded_by _ _ c.in-Some.c c.in-Some.is
    c.next.ensures.steps in
    subst (λ w. IfSome w (IsReason text)) (sym c.property_refusal_at.ensures ∙ c.in-Some-property_refusal_at.is)
    (char_holds text (state_of c.loop-c.self) c.in-Some.c _ _ (split text _ _ c.in-Some.c turn.0 turn.1 refl) c.loop-c.invariant.stands)

-- one of two is told
either_told : (text : List ℕ) (v w : Option PatternRefusal) → IfSome v (IsReason text) → IfSome w (IsReason text)
    → IfSome (option_or v w) (IsReason text)
either_told text None w h k = k
either_told text (Some x) w h k = h

pub returns-in-Refuses : goal.returns-in-Refuses
returns-in-Refuses c =
    let text = chars c.args.source.now in
    let turn = YieldsList-turn (YieldsList-from_chars c.args.source.now c.utf8.source cc) c.loop-c.yielded _ c.loop-c.yielded_by _ _ c.in-Some.c c.in-Some.is
    c.next.ensures.steps in
    let whole = split text _ _ c.in-Some.c turn.0 turn.1 refl in
    let by_mode = subst (λ w. IfSome w (IsReason text)) (sym c.refusal_at-refusal.ensures)
    (refusal_holds text (state_of c.loop-c.self) c.in-Some.c _ _ whole c.loop-c.invariant.stands) in
    let by_lexeme : IfSome c.in-Refuses.why (IsReason text) =
    subst (Stops text) (sym c.in_ok-next.ensures ∙ ap (λ t. outcome_of t (state_of c.next-in-loop-c.new.self)) c.in-Refuses.is)
    (next_stops text (state_of c.loop-c.self) c.in-Some.c _ _ whole c.loop-c.invariant.stands) in
    subst (λ w. IfSome w (IsReason text)) (sym c.or.ensures) (either_told text c.refusal_at-refusal.result c.in-Refuses.why by_mode by_lexeme)

pub loop-c-preserved : goal.loop-c-preserved
loop-c-preserved c =
    let text = chars c.args.source.now in
    let turn = YieldsList-turn (YieldsList-from_chars c.args.source.now c.utf8.source cc) c.loop-c.yielded _ c.loop-c.yielded_by _ _ c.in-Some.c c.in-Some.is
    c.next.ensures.steps in
    let follows = length_push c.loop-c.yielded c.in-Some.c ∙ omega arith in
    let goes = ap (λ taken. goes_to (outcome_of taken (state_of c.next-in-loop-c.new.self))) (sym c.in-Takes.is) ∙ ap goes_to c.in_ok-next.ensures in
    record {
      way = turn_goes true step text _ (state_of c.loop-c.self) _ c.loop-c.invariant.way _ c.in-Some.c turn.0 turn.1 follows
          (state_of c.next-in-loop-c.new.self) (goes ∙ next_goes (state_of c.loop-c.self) c.in-Some.c);
      stands = subst (Stands (state_of c.next-in-loop-c.new.self)) (sym (taken_more text _ _ c.in-Some.c turn.0 turn.1 follows))
          (next_stands (state_of c.loop-c.self) (state_of c.next-in-loop-c.new.self) _ c.in-Some.c c.loop-c.invariant.stands (sym goes));
    }

pub returns-then-is_apart : goal.returns-then-is_apart
returns-then-is_apart c =
    let text = chars c.args.source.now in
    let end = YieldsList-end (YieldsList-from_chars c.args.source.now c.utf8.source cc) c.loop-c.yielded _ c.loop-c.yielded_by _ _ c.in-None.is
    c.next.ensures.steps in
    let ends = turn_ends true step text _ (state_of c.loop-c.self) _ c.loop-c.invariant.way end.1 in
    let built : is_some c.in_ok-end.field-0 ≡ true = cc in
    let apart : is_apart text ≡ true = cc in
    too_large_of outline_pattern c.in_ok-end.field-0 text built (c.in_ok-end.ensures.tree ∙ ap (option_and_then at_end) ends)
    c.requires.short apart c.requires.refused

pub returns : goal.returns
returns c =
    let text = chars c.args.source.now in
    let end = YieldsList-end (YieldsList-from_chars c.args.source.now c.utf8.source cc) c.loop-c.yielded _ c.loop-c.yielded_by _ _ c.in-None.is
    c.next.ensures.steps in
    let whole : take (length c.loop-c.yielded) text ≡ text = ap (λ n. take n text) end.1 ∙ take_all (length text) text (omega arith) in
    subst (λ w. IfSome w (IsReason text)) (sym c.refusal_at_end-refusal.ensures)
    (end_holds text (state_of c.loop-c.self) _ whole c.loop-c.invariant.stands)
