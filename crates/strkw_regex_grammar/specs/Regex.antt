-- The whole of `Pattern` in Unicode mode (ECMA-262 2024, section 22.2.1) with its early errors
-- (section 22.2.1.1): not the flag v, and nothing of Annex B. A pattern is a tree of the rules that
-- hold one another, over the parts that stand in it from left to right.
use Rattle.std.specs.Prelude.{◌≡◌, ℕ, suc, ◌<◌, ◌≤◌, Bool, true, false, ◌&&◌, ◌||◌, ◌==◌, is_some}
use Rattle.std.specs.Prelude.{List, [], ◌∷◌, ◌++◌, codes, bytes_eq, nat_le}
use Rattle.std.specs.List.{list_any, list_all}
use Rattle.std.specs.Str.{byte}
use Rattle.strkw_regex_grammar.specs.Escapes.{itself, control, set, escape}
use Rattle.strkw_regex_grammar.specs.Numbers.{is_digit, are_digits, number}
use Rattle.strkw_regex_grammar.specs.Codes.{Code, unit_code, code_spelling, code_value}
use Rattle.strkw_regex_grammar.specs.Codes.{AreCodeDigits, is_lead, is_trail, hex_number}
use Rattle.strkw_regex_grammar.specs.Codes.{max_code_point, has_digits}
use Rattle.strkw_charset.specs.Properties.{Expression, alone, valued, property_of}
use Rattle.strkw_charset.specs.Properties.{has_property_chars, property_spelling}
use Rattle.strkw_regex_grammar.specs.Names.{NameChar, name_spelling, name_value, IsName, same_name}
use Rattle.strkw_regex_grammar.specs.Names.{are_distinct}
use Rattle.strkw_regex_grammar.specs.Classes.{class_token, class_char, class_escape, ClassAtom}
use Rattle.strkw_regex_grammar.specs.Classes.{class_plain, hyphen, class_escaped, class_control}
use Rattle.strkw_regex_grammar.specs.Classes.{class_set, backspace, class_coded, class_property}
use Rattle.strkw_regex_grammar.specs.Classes.{Ranges, no_ranges, with_one, with_range, item, range}
use Rattle.strkw_regex_grammar.specs.Classes.{MayFollow, MayEnd, ranges_spelling, negation_spelling}
use Rattle.strkw_regex_grammar.specs.Classes.{ending_spelling}
use Rattle.strkw_regex_grammar.specs.NullEscape.{is_apart}
use Rattle.strkw_regex_grammar.specs.Syntax.{token, character, Quantifier, zero_or_more}
use Rattle.strkw_regex_grammar.specs.Syntax.{one_or_more, zero_or_one, exactly, at_least, from_to}
use Rattle.strkw_regex_grammar.specs.Syntax.{quantifier_spelling, Greed, greedy, lazy, Group}
use Rattle.strkw_regex_grammar.specs.Syntax.{capturing, named, Enclosing, of_group, of_lookbehind}
use Rattle.strkw_regex_grammar.specs.Syntax.{of_lookahead, enclosing_spelling, IsEnclosing}
-- Assertion with no Disjunction in it
pub use Rattle.strkw_regex_grammar.specs.declared.tokens.Edge.{Edge}
pub use Rattle.strkw_regex_grammar.specs.declared.tokens.Edge.TheVariants.{Start as at_start}
pub use Rattle.strkw_regex_grammar.specs.declared.tokens.Edge.TheVariants.{End as at_end}
pub use Rattle.strkw_regex_grammar.specs.declared.tokens.Edge.TheVariants.{Boundary as at_boundary}
pub use Rattle.strkw_regex_grammar.specs.declared.tokens.Edge.TheVariants.{NoBoundary as at_no_boundary}

-- Atom with no Disjunction in it: PatternCharacter; `.`; of AtomEscape IdentityEscape,
-- ControlEscape, a letter of CharacterClassEscape, the other escapes of CharacterEscape, a
-- property, DecimalEscape, and `k` and GroupName; and CharacterClass
pub data Leaf : Type 0 where
  plain : ℕ → Leaf
  dot : Leaf
  escaped : ℕ → Leaf
  control_escape : ℕ → Leaf
  set_escape : ℕ → Leaf
  coded : Code → Leaf
  property_escape : Bool → Expression → Leaf
  numbered : List ℕ → Leaf
  called : List NameChar → Leaf
  bracketed : Bool → Ranges → Bool → Leaf

-- what stands in a pattern from left to right
pub data Part : Type 0 where
  bar : Part
  edge : Edge → Part
  leaf : Leaf → Part
  opens : Enclosing → Part
  closes : Part
  repeats : Quantifier → Part

mutual
  -- Disjunction: the first alternative, or more of them before the last
  pub data Disjunction : Type 0 where
    only : Alternative → Disjunction
    either : Disjunction → Alternative → Disjunction

  -- Alternative: nothing, or terms before the last
  pub data Alternative : Type 0 where
    nothing : Alternative
    more : Alternative → Term → Alternative

  -- Term: Assertion, which no quantifier may follow, or Atom; a lookaround is negated or not
  pub data Term : Type 0 where
    asserted : Edge → Term
    looks_behind : Bool → Disjunction → Term
    looks_ahead : Bool → Disjunction → Term
    once : Atom → Term
    quantified : Atom → Quantifier → Greed → Term

  -- Atom
  pub data Atom : Type 0 where
    single : Leaf → Atom
    group : Group → Disjunction → Atom

-- the `?` that makes a quantifier lazy is the part that it is behind an atom
abbrev pub greed_parts : Greed → List Part
greed_parts greedy = []
greed_parts lazy = repeats zero_or_one ∷ []

abbrev mutual
  pub parts : Disjunction → List Part
  parts (only a) = alternative_parts a
  parts (either d a) = parts d ++ bar ∷ alternative_parts a

  pub alternative_parts : Alternative → List Part
  alternative_parts nothing = []
  alternative_parts (more a t) = alternative_parts a ++ term_parts t

  pub term_parts : Term → List Part
  term_parts (asserted e) = edge e ∷ []
  term_parts (looks_behind n d) = opens (of_lookbehind n) ∷ (parts d ++ closes ∷ [])
  term_parts (looks_ahead n d) = opens (of_lookahead n) ∷ (parts d ++ closes ∷ [])
  term_parts (once a) = atom_parts a
  term_parts (quantified a q g) = atom_parts a ++ repeats q ∷ greed_parts g

  pub atom_parts : Atom → List Part
  atom_parts (single l) = leaf l ∷ []
  atom_parts (group g d) = opens (of_group g) ∷ (parts d ++ closes ∷ [])

-- as they are written
abbrev pub edge_spelling : Edge → List ℕ
edge_spelling at_start = byte "^" ∷ []
edge_spelling at_end = byte "$" ∷ []
edge_spelling at_boundary = byte "\\" ∷ byte "b" ∷ []
edge_spelling at_no_boundary = byte "\\" ∷ byte "B" ∷ []

abbrev pub leaf_spelling : Leaf → List ℕ
leaf_spelling (plain c) = c ∷ []
leaf_spelling dot = byte "." ∷ []
leaf_spelling (escaped c) = byte "\\" ∷ c ∷ []
leaf_spelling (control_escape c) = byte "\\" ∷ c ∷ []
leaf_spelling (set_escape c) = byte "\\" ∷ c ∷ []
leaf_spelling (coded k) = byte "\\" ∷ code_spelling k
leaf_spelling (property_escape n e) = byte "\\" ∷ property_spelling n e
leaf_spelling (numbered ds) = byte "\\" ∷ ds
leaf_spelling (called n) = byte "\\" ∷ byte "k" ∷ byte "<" ∷ (name_spelling n ++ byte ">" ∷ [])
leaf_spelling (bracketed n r e) = (negation_spelling n ++ ranges_spelling r) ++ ending_spelling e

abbrev pub part_spelling : Part → List ℕ
part_spelling bar = byte "|" ∷ []
part_spelling (edge e) = edge_spelling e
part_spelling (leaf l) = leaf_spelling l
part_spelling (opens e) = enclosing_spelling e
part_spelling closes = byte ")" ∷ []
part_spelling (repeats q) = quantifier_spelling q

abbrev pub spelling : List Part → List ℕ
spelling [] = []
spelling (p ∷ ps) = part_spelling p ++ spelling ps

-- DecimalDigits
abbrev pub AreDecimal : List ℕ → Type 0
AreDecimal ds = (are_digits ds ≡ true) × (has_digits ds ≡ true)

-- the second count of `{n,m}` is not the smaller (an early error of QuantifierPrefix)
abbrev pub IsRepetition : Quantifier → Type 0
IsRepetition zero_or_more = Unit {0}
IsRepetition one_or_more = Unit {0}
IsRepetition zero_or_one = Unit {0}
IsRepetition (exactly ds) = AreDecimal ds
IsRepetition (at_least ds) = AreDecimal ds
IsRepetition (from_to ds es) = AreDecimal ds × AreDecimal es × (number ds ≤ number es)

-- an escape by a number gives a code point, which may be a surrogate
abbrev pub IsEscape : Code → Type 0
IsEscape k = AreCodeDigits k × (code_value k ≤ max_code_point)

-- the binary property of the standard that the engine does not take (section 22.2.2.9.1)
abbrev pub is_tableless : Expression → Bool
is_tableless (alone v) =
    bytes_eq v (codes "Changes_When_NFKC_Casefolded") || bytes_eq v (codes "CWKCF")
is_tableless (valued n v) = false

-- UnicodePropertyValueExpression
abbrev pub is_property : Expression → Bool
is_property e = is_some (property_of e) || is_tableless e

abbrev pub IsPropertyExpression : Expression → Type 0
IsPropertyExpression e = (has_property_chars e ≡ true) × (is_property e ≡ true)

abbrev pub IsClassItem : ClassAtom → Type 0
IsClassItem (class_plain c) = class_token c ≡ class_char
IsClassItem hyphen = Unit {0}
IsClassItem (class_escaped c) = class_escape c ≡ itself
IsClassItem (class_control c) = class_escape c ≡ control
IsClassItem (class_set c) = class_escape c ≡ set
IsClassItem backspace = Unit {0}
IsClassItem (class_coded k) = IsEscape k
IsClassItem (class_property n e) = IsPropertyExpression e

-- `\u` and four digits of a leading or a trailing surrogate
abbrev pub is_lead_item : ClassAtom → Bool
is_lead_item (class_coded (unit_code ds)) = is_lead (hex_number ds)
is_lead_item x = false

abbrev pub is_trail_item : ClassAtom → Bool
is_trail_item (class_coded (unit_code ds)) = is_trail (hex_number ds)
is_trail_item x = false

abbrev pub ends_in_lead : Ranges → Bool
ends_in_lead no_ranges = false
ends_in_lead (with_one r x) = is_lead_item x
ends_in_lead (with_range r x y) = is_lead_item y

-- a leading surrogate directly before a trailing one is one escape with it (22.2.1,
-- RegExpUnicodeEscapeSequence)
abbrev pub MayStandBehind : Bool → Ranges → ClassAtom → Type 0
MayStandBehind n r x = MayFollow n r x × ((ends_in_lead r && is_trail_item x) ≡ false)

abbrev pub AreItems : Bool → Ranges → Type 0
AreItems n no_ranges = Unit {0}
AreItems n (with_one r x) = AreItems n r × IsClassItem x × MayStandBehind n r x
AreItems n (with_range r x y) =
    AreItems n r × (IsClassItem x × MayStandBehind n r x) × IsClassItem y
    × (is_some (range (item x) (item y)) ≡ true)

-- the first digit of a DecimalEscape is no zero
abbrev pub begins_with_zero : List ℕ → Bool
begins_with_zero [] = false
begins_with_zero (d ∷ ds) = d == byte "0"

abbrev pub IsLeaf : Leaf → Type 0
IsLeaf (plain c) = token c ≡ character
IsLeaf dot = Unit {0}
IsLeaf (escaped c) = escape c ≡ itself
IsLeaf (control_escape c) = escape c ≡ control
IsLeaf (set_escape c) = escape c ≡ set
IsLeaf (coded k) = IsEscape k
IsLeaf (property_escape n e) = IsPropertyExpression e
IsLeaf (numbered ds) = AreDecimal ds × (begins_with_zero ds ≡ false)
IsLeaf (called n) = IsName n
IsLeaf (bracketed n r e) = AreItems n r × MayEnd e r

abbrev pub IsPart : Part → Type 0
IsPart bar = Unit {0}
IsPart (edge e) = Unit {0}
IsPart (leaf l) = IsLeaf l
IsPart (opens e) = IsEnclosing e
IsPart closes = Unit {0}
IsPart (repeats q) = IsRepetition q

abbrev pub begins_with_digit : List ℕ → Bool
begins_with_digit [] = false
begins_with_digit (c ∷ cs) = is_digit c

-- `\u` and four digits of a leading surrogate, and of a trailing one at the beginning
abbrev pub is_lead_code : Code → Bool
is_lead_code (unit_code ds) = is_lead (hex_number ds)
is_lead_code k = false

abbrev pub begins_with_trail : List Part → Bool
begins_with_trail (leaf (coded (unit_code ds)) ∷ ps) = is_trail (hex_number ds)
begins_with_trail ps = false

-- no digit follows a DecimalEscape: it has all that there are. And a leading surrogate directly
-- before a trailing one is one escape with it, as in a class
abbrev pub MayPrecede : Part → List Part → Type 0
MayPrecede (leaf (numbered ds)) ps = begins_with_digit (spelling ps) ≡ false
MayPrecede (leaf (coded k)) ps = (is_lead_code k && begins_with_trail ps) ≡ false
MayPrecede p ps = Unit {0}

abbrev pub AreParts : List Part → Type 0
AreParts [] = Unit {0}
AreParts (p ∷ ps) = IsPart p × MayPrecede p ps × AreParts ps

-- CountLeftCapturingParensWithin (section 22.2.1.2)
abbrev pub captures : List Part → ℕ
captures [] = 0
captures (opens (of_group capturing) ∷ ps) = suc (captures ps)
captures (opens (of_group (named n)) ∷ ps) = suc (captures ps)
captures (p ∷ ps) = captures ps

-- the names of the groups
abbrev pub names : List Part → List (List ℕ)
names [] = []
names (opens (of_group (named n)) ∷ ps) = name_value n ∷ names ps
names (p ∷ ps) = names ps

-- what back references ask for: CapturingGroupNumber, and names
abbrev pub numbers : List Part → List ℕ
numbers [] = []
numbers (leaf (numbered ds) ∷ ps) = number ds ∷ numbers ps
numbers (p ∷ ps) = numbers ps

abbrev pub calls : List Part → List (List ℕ)
calls [] = []
calls (leaf (called n) ∷ ps) = name_value n ∷ calls ps
calls (p ∷ ps) = calls ps

-- there are fewer capturing groups (an early error of Pattern)
abbrev pub capture_limit : ℕ
capture_limit = 0xFFFFFFFF

-- the text has these parts
pub record IsMadeOf (source : List ℕ) (ps : List Part) : Type 0 where
  pub formed : AreParts ps
  pub spelled : spelling ps ≡ source
  -- behind no `\0` a decimal digit stands
  pub apart : is_apart source ≡ true
  pub few : captures ps < capture_limit
  -- no two groups have the same name
  pub distinct : are_distinct (names ps) ≡ true
  -- the group that a back reference asks for is there, before it or behind it
  pub counted : list_all (λ n. nat_le n (captures ps)) (numbers ps) ≡ true
  pub known : list_all (λ n. list_any (same_name n) (names ps)) (calls ps) ≡ true

-- the text is a pattern
abbrev pub IsRegex : List ℕ → Type 0
IsRegex source = (d : Disjunction) × IsMadeOf source (parts d)
