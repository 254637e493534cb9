use Rattle.std.proofs.Common.{◌≡◌, ◌++◌, ◌∙◌, ap, sym, arith, None, Some, false, length, replicate}
use Rattle.std.specs.Str.{chars}
use Rattle.std.proofs.lemmas.List.{length-replicate}
use Rattle.strkw_regex_search.specs.machine.Along.{left_of}
use Rattle.strkw_regex_search.specs.machine.Bits.{rows_of}
use Rattle.strkw_regex_search.specs.machine.Machine.{pattern_of}
use Rattle.strkw_regex_core.specs.machine.Positions.{mark_classes}
use Rattle.strkw_regex_search.specs.machine.Seeking.{ends_from, row_answer}
use Rattle.strkw_regex_search.specs.machine.OracleMarks.{told_by}
use Rattle.strkw_regex_search.proofs.Machines.{few_marks}
use Rattle.strkw_regex_search.proofs.Marked.{unmarked, none_marked}
use Rattle.strkw_regex_search.proofs.OracleCode.{row_turn, row_ends}
use Rattle.strkw_regex_search.proofs.OracleCorrect.{along_length}
use Rattle.strkw_regex_core.proofs.TextEnds.{none_next}
use Rattle.strkw_regex_search.proofs.oracle_runner.OracleRunner.ends.Goals as goal

pub characters-init : goal.characters-init
characters-init c =
    let s = c.args.self.now in
    let p = pattern_of s.program in
    let rows = rows_of c.args.rows.now in
    let none : mark_classes (replicate 5200 false) p ≡ p = unmarked (replicate 5200 false) p s.clean (none_marked 5200) in
    record {
      long = length-replicate 5200 false;
      to_come = c.char_count-ahead.ensures ∙ sym (ap length c.new-left.ensures ∙ along_length s.is_backward (chars c.args.text.now));
      so_far = ap (λ l. l ++ ends_from rows s.told.items (mark_classes (replicate 5200 false) p) None (left_of c.new-left.result)) c.new-bits.ensures
          ∙ ap (λ q. ends_from rows s.told.items q None (left_of c.new-left.result)) none
          ∙ ap (ends_from rows s.told.items p None) c.new-left.ensures;
    }

pub characters-preserved : goal.characters-preserved
characters-preserved c =
    let s = c.args.self.now in
    let told = c.tell.ensures.marks (pattern_of s.program) (omega (arith, few_marks s.program, c.characters.invariant.long))
    ∙ ap (λ ts. told_by (row_answer (rows_of c.args.rows.now) c.characters.ahead) ts (mark_classes c.characters.marks (pattern_of s.program)))
    c.deref.ensures.value in
    record {
      long = c.step.ensures.length ∙ c.tell.ensures.length ∙ c.characters.invariant.long;
      to_come = omega (arith, c.characters.invariant.to_come, ap length c.in-Some.ensures);
      so_far = ap (λ l. l ++ ends_from (rows_of c.args.rows.now) s.told.items (mark_classes c.step.new.marks (pattern_of s.program)) (Some c.in-Some.c)
          (left_of c.next.new.self)) c.in_ok-push.ensures
          ∙ row_turn _ _ _ _ _ _ _ c.in-Some.ensures _ c.characters.invariant.to_come _ told c.step.result c.step.ensures.left _ c.step.ensures.marks _ _
          c.characters.invariant.so_far;
    }

pub characters-smaller : goal.characters-smaller
characters-smaller c = omega (arith, ap length c.in-Some.ensures)

pub returns : goal.returns
returns c =
    let s = c.args.self.now in
    let told = c.tell-2.ensures.marks (pattern_of s.program) (omega (arith, few_marks s.program, c.characters.invariant.long))
    ∙ ap (λ ts. told_by (row_answer (rows_of c.args.rows.now) 0) ts (mark_classes c.characters.marks (pattern_of s.program))) c.deref-2.ensures.value in
    c.in_ok-push-2.ensures
    ∙ row_ends _ _ _ _ _ (none_next _ _ c.next.result c.in_default.not-Some c.next.ensures) _ told c.step-2.result c.step-2.ensures.left _ _
    c.characters.invariant.so_far

pub step-requires : goal.step-requires
step-requires c = record { fits = omega (arith, few_marks c.args.self.now.program, c.tell.ensures.length, c.characters.invariant.long) }

pub step-requires-2 : goal.step-requires-2
step-requires-2 c = record { fits = omega (arith, few_marks c.args.self.now.program, c.tell-2.ensures.length, c.characters.invariant.long) }
