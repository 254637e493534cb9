-- Why a pattern is not taken, said over its text.
use Rattle.std.specs.Prelude.{◌≡◌, ◌⊎◌, ℕ, zero, suc, ◌*◌, ◌<◌, ◌≤◌, Bool, true, List, [], ◌∷◌}
use Rattle.std.specs.Prelude.{◌++◌, length, codes}
use Rattle.std.specs.Str.{byte}
use Rattle.strkw_text.specs.Characters.{is_one_of}
use Rattle.strkw_regex_grammar.specs.Numbers.{number, are_digits}
use Rattle.strkw_charset.specs.Properties.{Expression, has_property_chars, property_spelling}
use Rattle.strkw_charset.specs.Properties.{is_unknown}
use Rattle.strkw_regex_core.specs.Size.{copies, forth, max_term_steps, max_steps, size}
use Rattle.strkw_regex_reader.specs.Patterns.{pattern, atom_pattern, least, most}
use Rattle.strkw_regex_core.specs.WholeSize.{whole_size}
use Rattle.strkw_regex_grammar.specs.Syntax.{Enclosing, enclosing_spelling, IsEnclosing, Quantifier}
use Rattle.strkw_regex_grammar.specs.Syntax.{quantifier_spelling}
use Rattle.strkw_regex_grammar.specs.Regex.{Disjunction, Atom, parts as parts_of, atom_parts, spelling}
use Rattle.strkw_regex_grammar.specs.Regex.{AreParts, AreDecimal, IsRepetition}
use Rattle.strkw_regex_reader.specs.Limits.{max_count, max_nesting, max_length, takes, takes_atom_of}
use Rattle.strkw_regex_grammar.specs.Regex.{IsRegex}
use Rattle.strkw_regex_reader.specs.declared.refusals.PatternRefusal.{PatternRefusal}
use Rattle.strkw_regex_reader.specs.declared.refusals.PatternRefusal.TheVariants.{BackReference}
use Rattle.strkw_regex_reader.specs.declared.refusals.PatternRefusal.TheVariants.{IdentityEscape}
use Rattle.strkw_regex_reader.specs.declared.refusals.PatternRefusal.TheVariants.{Property, TooLong}
use Rattle.strkw_regex_reader.specs.declared.refusals.PatternRefusal.TheVariants.{TooDeep}
use Rattle.strkw_regex_reader.specs.declared.refusals.PatternRefusal.TheVariants.{CountTooGreat}
use Rattle.strkw_regex_reader.specs.declared.refusals.PatternRefusal.TheVariants.{TermTooLarge}
use Rattle.strkw_regex_reader.specs.declared.refusals.PatternRefusal.TheVariants.{TooLarge}
use Rattle.strkw_regex_reader.specs.declared.refusals.PatternRefusal.TheVariants.{NotAPattern}
use Rattle.strkw_regex_reader.specs.declared.refusals.PatternRefusal.TheVariants.{NotTaken}

-- within n groups and lookarounds, a part of a pattern that is taken, as it is written
abbrev pub IsTaken : ℕ → Disjunction → Type 0
IsTaken n d = AreParts (parts_of d) × (takes n d ≡ true)

abbrev pub written : Disjunction → List ℕ
written d = spelling (parts_of d)

-- what a pattern may begin with, up to where a term may stand: n groups and lookarounds are open,
-- one in another, with alternatives before each and behind the last
abbrev pub IsBeginning : ℕ → List ℕ → Type 0
IsBeginning zero text = (d : Disjunction) × IsTaken 0 d × (written d ≡ text)
IsBeginning (suc n) text =
    (outer : List ℕ) × (g : Enclosing) × (d : Disjunction)
    × IsBeginning n outer × IsEnclosing g × IsTaken (suc n) d
    × ((outer ++ enclosing_spelling g) ++ written d ≡ text)

-- this stands in the text
abbrev pub Has : List ℕ → List ℕ → Type 0
Has part text = (before : List ℕ) × (after : List ℕ) × (before ++ (part ++ after) ≡ text)

-- and where a term may, within n groups and lookarounds
abbrev pub HasTermWithin : ℕ → List ℕ → List ℕ → Type 0
HasTermWithin n part text =
    (before : List ℕ) × (after : List ℕ) × IsBeginning n before × (before ++ (part ++ after) ≡ text)

abbrev pub HasTerm : List ℕ → List ℕ → Type 0
HasTerm part text = (n : ℕ) × HasTermWithin n part text

-- behind a backslash: a DecimalEscape begins, or the reference to a name (AtomEscape)
abbrev pub is_reference : ℕ → Bool
is_reference = is_one_of (codes "123456789k")

-- behind a backslash: a character that stands for itself without the flag `u` (22.2.1,
-- IdentityEscape), and in Unicode mode only where nothing is before it. It is one of ASCII that is
-- no letter, no digit, no blank, no SyntaxCharacter and no `/`
abbrev pub is_needlessly_escaped : ℕ → Bool
is_needlessly_escaped = is_one_of (codes "!\"#%&',-:;<=>@_`~")

-- digits whose number is too great, alone or behind the first number of a count
abbrev pub HasGreatCount : List ℕ → List ℕ → Type 0
HasGreatCount text ds =
    HasTerm (byte "{" ∷ ds) text
    ⊎ ((es : List ℕ) × AreDecimal es × (number es ≤ max_count)
    × HasTerm (byte "{" ∷ (es ++ byte "," ∷ ds)) text)

abbrev pub IsTooLong : List ℕ → Type 0
IsTooLong text = max_length < length text

-- what a refusal says of the text of a pattern that is not taken
abbrev pub IsReason : List ℕ → PatternRefusal → Type 0
IsReason text BackReference = (c : ℕ) × (is_reference c ≡ true) × HasTerm (byte "\\" ∷ c ∷ []) text
IsReason text (IdentityEscape c) =
    (is_needlessly_escaped c ≡ true) × HasTerm (byte "\\" ∷ c ∷ []) text
IsReason text Property =
    (b : Bool) × (e : Expression) × (has_property_chars e ≡ true) × (is_unknown e ≡ true)
    × Has (byte "\\" ∷ property_spelling b e) text
IsReason text TooLong = IsTooLong text
-- a group or a lookaround opens within as many as may lie in one another
IsReason text TooDeep =
    (n : ℕ) × (g : Enclosing)
    × (max_nesting ≤ n) × IsEnclosing g × HasTermWithin n (enclosing_spelling g) text
IsReason text CountTooGreat =
    (ds : List ℕ) × (are_digits ds ≡ true) × (max_count < number ds) × HasGreatCount text ds
IsReason text TermTooLarge =
    (n : ℕ) × (a : Atom) × (q : Quantifier)
    × AreParts (atom_parts a) × (takes_atom_of n a ≡ true) × IsRepetition q
    × (max_term_steps < copies (least q) (most q) * size forth (atom_pattern a))
    × HasTermWithin n (spelling (atom_parts a) ++ quantifier_spelling q) text
-- the whole is well formed
IsReason text TooLarge =
    (d : Disjunction) × IsTaken 0 d × (written d ≡ text)
    × (max_steps < whole_size (pattern d))
IsReason text NotAPattern = IsRegex text → ⊥
-- a pattern, and the engine does not take a part of it
IsReason text NotTaken = IsRegex text
