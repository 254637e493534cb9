use Rattle.std.proofs.Common.{◌≡◌, take}
use Rattle.std.specs.List.{list_all}
use Rattle.strkw_coding.specs.Blocks.{is_letter}
use Rattle.strkw_coding.proofs.radix32.Alphabet.are_letters.Given as goal

abbrev pub invariant-loop-character : goal.invariant-loop-character
invariant-loop-character l = l.letters ≡ list_all (is_letter l.self.letters) (take l.character-index l.characters)
