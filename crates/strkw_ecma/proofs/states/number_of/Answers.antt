use Rattle.std.proofs.Common.{rules, ◌≡◌, Some, slice_get, refl}
use Rattle.std.proofs.lemmas.Option.{slice_get_read}
use Rattle.strkw_regex_search.specs.machine.Machine.{pattern_of}
use Rattle.strkw_ecma.proofs.DfaRows.{state_added}
use Rattle.strkw_ecma.proofs.states.number_of.Goals as goal

pub returns-then-is_that_of-clause-right : goal.returns-then-is_that_of-clause-right
returns-then-is_that_of-clause-right c =
    let there : slice_get c.args.states.now.items c.loop-number.number ≡ Some c.state-item.result = search (slice_get_read, rules) in (
      c.state-item.result,
      there,
      c.is_that_of.ensures.marks (search rules),
      c.is_that_of.ensures.word (search rules),
      c.is_that_of.ensures.edge (search rules),
    )

pub returns-clause-right : goal.returns-clause-right
returns-clause-right c =
    state_added (pattern_of c.args.program.now) c.args.states.now.items _ _ _ _ _ c.in_ok-push.ensures.items (search rules) (search rules) refl
