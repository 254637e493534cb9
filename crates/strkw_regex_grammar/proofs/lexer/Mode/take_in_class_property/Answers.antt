use Rattle.std.proofs.Common.{◌≡◌, ◌∙◌, IfOk, sym, subst, ap}
use Rattle.strkw_charset.specs.machine.PropertyParts.{property_read_of}
use Rattle.strkw_regex_grammar.specs.machine.LexerParts.{class_of, lexed_of, mode_of}
use Rattle.strkw_regex_grammar.specs.machine.Lexing.{class_property_lexed, on_class_property}
use Rattle.strkw_regex_grammar.proofs.lexer.Mode.take_in_class_property.Goals as goal

pub returns-in-Some : goal.returns-in-Some
returns-in-Some c =
    subst (λ r. IfOk c.add_item.result (λ l. lexed_of l (mode_of c.add_item.new.self) ≡ on_class_property (class_of c.args.class) r))
    (ap property_read_of (sym c.in-Ends.is) ∙ c.in_ok-next.ensures)
    (subst (λ o. IfOk c.add_item.result (λ l. lexed_of l (mode_of c.add_item.new.self) ≡ class_property_lexed (class_of c.args.class) c.in-Ends.lacked o))
    (sym c.in-Some.is ∙ c.known.ensures) c.add_item.ensures)
