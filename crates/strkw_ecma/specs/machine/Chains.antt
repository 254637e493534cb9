-- Chains: `^`, classes that are read once each, one class that may be read more often or not at
-- all, classes that are read once each, and `$`. The length of a text tells how often the one class
-- is read, and so which class each character is to be of.
use Rattle.std.specs.Prelude.{◌≡◌, ℕ, ◌+◌, ◌-◌, nat_le, Bool, true, false, ◌&&◌, List, [], ◌∷◌}
use Rattle.std.specs.Prelude.{◌++◌, length, replicate, ◌||◌, ◌⊎◌, Option, Some, None}
use Rattle.strkw_ecma.specs.machine.Links.{begins_with, AreTables}
use Rattle.strkw_ecma.specs.declared.sequence_pair.SequencePair.{SequencePair}
use Rattle.strkw_ecma.specs.declared.links.FixedSequence.{FixedSequence}
use Rattle.strkw_ecma.specs.declared.links.Often.{Often}
use Rattle.strkw_ecma.specs.declared.links.Often.TheVariants.{AtMost, AnyTimes, SomeTimes}
use Rattle.strkw_regex_search.specs.declared.code.Class.{Class}
use Rattle.strkw_regex_search.specs.declared.code.Code.{Code}
use Rattle.strkw_regex_search.specs.declared.code.Instruction.{Instruction}
use Rattle.strkw_regex_search.specs.declared.code.Instruction.TheVariants.{Read, Turn}
use Rattle.strkw_regex_search.specs.declared.code.Turn.TheVariants as turn

-- it may be read so often
abbrev pub is_often : Often → ℕ → Bool
is_often (AtMost most) count = nat_le count most
is_often AnyTimes count = true
is_often SomeTimes count = nat_le 1 count

-- the classes of a chain whose one class is read so often
abbrev pub numbers_of : FixedSequence → ℕ → List ℕ
numbers_of c count = c.first.items ++ (replicate count c.middle ++ c.last.items)

-- how many characters stand before and behind those of the one class
abbrev pub ends_of : FixedSequence → ℕ
ends_of c = length c.first.items + length c.last.items

-- the text is one character of each class
abbrev pub is_chained : List Class → FixedSequence → List ℕ → Bool
is_chained classes c text = nat_le (ends_of c) (length text)
    && (is_often c.often (length text - ends_of c)
    && begins_with classes (numbers_of c (length text - ends_of c)) text)

-- the instructions that read a class of each of these numbers
abbrev pub once : List ℕ → List Instruction
once [] = []
once (n ∷ ns) = Read n false false ∷ once ns

-- those that read one class so often
abbrev pub repeated : Often → ℕ → List Instruction
repeated (AtMost most) n = replicate most (Read n false true)
repeated AnyTimes n = Read n true true ∷ []
repeated SomeTimes n = Read n true false ∷ []

-- instructions are these, between `^` and `$`
abbrev pub AreChained : List Instruction → List ℕ → Often → ℕ → List ℕ → Type 0
AreChained all first often middle last = all ≡ Turn turn.Start
    ∷ (once first ++ (repeated often middle ++ (once last ++ (Turn turn.End ∷ []))))

-- the chain is that of these instructions
pub record IsChainIn (c : FixedSequence) (classes : List Class) (all : List Instruction)
    : Type 0 where
  pub written_is : AreChained all c.first.items c.often c.middle c.last.items
  pub tables_are : AreTables classes c.tables.items

-- the text is one character of each class of a chain, if there is one
abbrev pub is_other_chained : List Class → Option FixedSequence → List ℕ → Bool
is_other_chained classes None text = false
is_other_chained classes (Some c) text = is_chained classes c text

-- or of another
abbrev pub are_chained : List Class → SequencePair → List ℕ → Bool
are_chained classes b text = is_chained classes b.one text || is_other_chained classes b.other text

-- instructions have one class that may be missing: without it they are a chain, and with it another
pub record HasOption (b : SequencePair) (code : Code) : Type 0 where
  pub before : List Instruction
  pub behind : List Instruction
  pub number : ℕ
  pub other : FixedSequence
  pub written_is : code.instructions.items ≡ before ++ (Read number false true ∷ behind)
  pub is_there : b.other ≡ Some other
  pub without_it : IsChainIn b.one code.classes.items (before ++ behind)
  pub with_it : IsChainIn other code.classes.items (before ++ (Read number false false ∷ behind))

-- the chain of a program, or the two
abbrev pub AreBranchesOf : SequencePair → Code → Type 0
AreBranchesOf b code =
    ((b.other ≡ None) × IsChainIn b.one code.classes.items code.instructions.items)
    ⊎ HasOption b code

-- each of them has the tables of the classes
abbrev pub AreTabled : SequencePair → List Class → Type 0
AreTabled b classes = AreTables classes b.one.tables.items
    × ((c : FixedSequence) → b.other ≡ Some c → AreTables classes c.tables.items)
