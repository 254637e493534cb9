use Rattle.std.proofs.Common.{◌≡◌, ◌∙◌, IfOk, sym, subst}
use Rattle.strkw_regex_grammar.specs.machine.LexerParts.{class_of, lexed_of, mode_of}
use Rattle.strkw_regex_grammar.specs.machine.Lexing.{within, with_item, on_class_number}
use Rattle.strkw_regex_grammar.proofs.lexer.Mode.class_number.Goals as goal

pub returns-in-Makes : goal.returns-in-Makes
returns-in-Makes c =
    subst (λ r. IfOk c.add_item.result (λ l. lexed_of l (mode_of c.add_item.new.self) ≡ on_class_number (class_of c.args.class) r))
    (sym c.in-Makes.is ∙ c.next.ensures)
    (subst (λ i. IfOk c.add_item.result (λ l. lexed_of l (mode_of c.add_item.new.self) ≡ within (with_item (class_of c.args.class) i)))
    c.of_number.ensures c.add_item.ensures)
