-- What the recogniser of the code holds.
use Rattle.std.specs.Prelude.{reverse, map}
use Rattle.strkw_regex_grammar.specs.declared.recogniser.parser_stack.ParserStack.{ParserStack as CodeStack}
use Rattle.strkw_regex_grammar.specs.declared.recogniser.Recogniser.{Recogniser}
use Rattle.strkw_regex_grammar.specs.machine.LexerParts.{mode_of}
use Rattle.strkw_regex_grammar.specs.machine.Lexing.{Read, at}
use Rattle.strkw_regex_grammar.specs.machine.Recognising.{ParserStack}

abbrev pub standing_of : CodeStack → ParserStack
standing_of s = record {
  groups = reverse s.groups.items;
  last = s.last;
  captures = s.captures;
  greatest = s.greatest;
  names = map (λ n. n.items) s.names.items;
  calls = map (λ n. n.items) s.calls.items;
}

abbrev pub state_of : Recogniser → Read ParserStack
state_of r = at (mode_of r.mode) (standing_of r.standing)
