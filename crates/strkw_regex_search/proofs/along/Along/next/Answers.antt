use Rattle.std.proofs.Common.{rules, MatchOption, ap}
use Rattle.std.specs.Prelude.{⊤}
use Rattle.std.specs.Char.{IsScalar}
use Rattle.std.specs.Str.Iter.{chars_rest}
use Rattle.strkw_regex_core.proofs.TextEnds.{next_back, still_back, next_forth, still_forth}
use Rattle.strkw_regex_search.proofs.along.Along.next.Goals as goal

pub returns-then-self : goal.returns-then-self
returns-then-self c =
    let scalar : MatchOption c.next_back.result ⊤ IsScalar = search rules in
    next_back (chars_rest c.args.self.now.rest) (chars_rest c.next_back.new.self) c.args.self.now.utf8 _ c.next_back.result scalar
    c.next_back.ensures.steps c.args.self.now.is_backward c.if-self.true

pub returns-else-self : goal.returns-else-self
returns-else-self c =
    next_forth (chars_rest c.args.self.now.rest) (chars_rest c.next.new.self) c.args.self.now.utf8 _ c.next.result
    c.next.ensures.steps.0 c.args.self.now.is_backward c.if-self.false

pub invariant_of-self : goal.invariant_of-self
invariant_of-self c =
    let scalar : MatchOption c.next_back.result ⊤ IsScalar = search rules in
    record {
      utf8 = still_back (chars_rest c.args.self.now.rest) (chars_rest c.next_back.new.self) c.args.self.now.utf8 _ (λ e. ap chars_rest e)
          c.next_back.result scalar c.next_back.ensures.steps;
    }

pub invariant_of-self-else-self : goal.invariant_of-self-else-self
invariant_of-self-else-self c = record {
  utf8 = still_forth (chars_rest c.args.self.now.rest) (chars_rest c.next.new.self) c.args.self.now.utf8 _ (λ e. ap chars_rest e)
      c.next.result c.next.ensures.steps.0;
}
