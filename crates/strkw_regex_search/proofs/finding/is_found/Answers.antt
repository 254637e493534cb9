use Rattle.std.proofs.Common.{◌≡◌, ◌↔◌, ◌∙◌, ap, sym, subst, arith, IsTrue, Bool, false, Some, None, length, replicate}
use Rattle.std.specs.Str.{chars}
use Rattle.std.proofs.lemmas.List.{length-replicate}
use Rattle.strkw_regex_core.specs.machine.MarkedMeaning.{Found}
use Rattle.strkw_regex_core.specs.machine.Mirror.{along}
use Rattle.strkw_regex_search.specs.machine.Along.{left_of}
use Rattle.strkw_regex_search.specs.machine.Machine.{pattern_of}
use Rattle.strkw_regex_core.specs.machine.Positions.{mark_classes}
use Rattle.strkw_regex_search.specs.machine.Search.{search_from}
use Rattle.strkw_regex_search.proofs.Answers.{search_is_exact, search_turn, search_found, search_ends}
use Rattle.strkw_regex_search.proofs.Machines.{few_marks}
use Rattle.strkw_regex_search.proofs.Marked.{unmarked, none_marked}
use Rattle.strkw_regex_core.proofs.TextEnds.{none_next}
use Rattle.strkw_regex_search.proofs.finding.is_found.Goals as goal

pub characters-init : goal.characters-init
characters-init c =
    let p = pattern_of c.args.program.now in
    let none : mark_classes (replicate 5200 false) p ≡ p = unmarked (replicate 5200 false) p c.requires.clean (none_marked 5200) in
    record {
      long = length-replicate 5200 false;
      so_far = ap (λ q. search_from q None (left_of c.new-left.result)) none ∙ ap (search_from p None) c.new-left.ensures;
    }

pub characters-preserved : goal.characters-preserved
characters-preserved c = record {
  long = c.step.ensures.length ∙ c.characters.invariant.long;
  so_far = ap (λ q. search_from q (Some c.in-Some.c) (left_of c.next.new.self)) c.step.ensures.marks
      ∙ search_turn _ _ _ _ _ _ c.characters.invariant.so_far c.in-Some.ensures c.step.result c.step.ensures.left c.if-step.false;
}

pub characters-smaller : goal.characters-smaller
characters-smaller c = omega (arith, ap length c.in-Some.ensures)

pub returns-then-step : goal.returns-then-step
returns-then-step c =
    let p = pattern_of c.args.program.now in
    let text = along c.args.is_backward (chars c.args.text.now) in
    let is = search_found _ _ _ _ _ _ c.characters.invariant.so_far c.in-Some.ensures c.step.result c.step.ensures.left c.if-step.true in
    record {
      meaning = subst (λ (b : Bool). IsTrue b ↔ Found p text) (sym is) (search_is_exact p text c.requires.clean c.requires.told);
      search = is;
    }

pub returns : goal.returns
returns c =
    let p = pattern_of c.args.program.now in
    let text = along c.args.is_backward (chars c.args.text.now) in
    let is =
    search_ends _ _ _ _ c.characters.invariant.so_far (none_next _ _ c.next.result c.in_default.not-Some c.next.ensures)
    c.step-2.result c.step-2.ensures.left in
    record {
      meaning = subst (λ (b : Bool). IsTrue b ↔ Found p text) (sym is) (search_is_exact p text c.requires.clean c.requires.told);
      search = is;
    }

pub step-requires : goal.step-requires
step-requires c = record { fits = omega (arith, few_marks c.args.program.now, c.characters.invariant.long) }

pub step-requires-2 : goal.step-requires-2
step-requires-2 c = record { fits = omega (arith, few_marks c.args.program.now, c.characters.invariant.long) }
