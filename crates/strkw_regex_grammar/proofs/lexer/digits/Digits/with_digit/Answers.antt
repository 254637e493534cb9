use Rattle.std.proofs.Common.{◌≡◌, ◌∙◌, true, ap, sym, subst}
use Rattle.strkw_regex_grammar.proofs.Numbers.{digits_push, held_more}
use Rattle.strkw_regex_grammar.specs.machine.Lexemes.{cap_number}
use Rattle.strkw_regex_grammar.specs.Numbers.{number, are_digits}
use Rattle.strkw_regex_grammar.proofs.lexer.digits.Digits.with_digit.Goals as goal

pub invariant_of-result : goal.invariant_of-result
invariant_of-result c = record {
  are_digits = subst (λ ds. are_digits ds ≡ true) (sym c.in_ok-push.ensures.items)
      (digits_push c.args.self.digits.items c.args.c c.args.self.are_digits c.requires);
  is_number = c.with_digit.ensures ∙ held_more c.args.self.digits.items c.args.c c.args.self.number c.args.self.is_number
      ∙ ap (λ ds. cap_number (number ds)) (sym c.in_ok-push.ensures.items);
}
