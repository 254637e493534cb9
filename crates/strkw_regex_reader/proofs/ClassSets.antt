-- The sets of a class that is taken, as the lexer keeps them.
use Rattle.std.proofs.Common.{◌≡◌, ℕ, nat_le, Bool, true, false, ◌&&◌, List, [], ◌∷◌, ◌++◌, Option, Some, None, refl, sym, ap, ◌∙◌, true≢false}
use Rattle.std.proofs.Common.{if◌then◌else◌, arith}
use Rattle.std.specs.Prelude.{is_some}
use Rattle.std.proofs.lemmas.Bool.Decides.{nat_tests}
use Rattle.std.specs.Str.{byte}
use Rattle.strkw_charset.specs.Properties.{property_of}
use Rattle.strkw_charset.specs.declared.properties.Property.{Property}
use Rattle.strkw_charset.specs.declared.tree.CharSet.{CharSet}
use Rattle.strkw_charset.specs.declared.tree.CharSet.TheVariants.{Range}
use Rattle.strkw_regex_grammar.specs.Classes.{ClassAtom, class_plain, hyphen, class_escaped, class_control, class_set, backspace, class_coded}
use Rattle.strkw_regex_grammar.specs.Classes.{class_property, Ranges, no_ranges, with_one, with_range, contents, sets_of, item, range, range_list}
use Rattle.strkw_regex_grammar.specs.Classes.{item_sets as sets_of_item, char, set_item as set_of, property_set, Item as SpecItem}
use Rattle.strkw_regex_grammar.specs.Codes.{Code, null_code, letter_code, byte_code, unit_code, pair_code, point_code, code_value, is_scalar, is_lead}
use Rattle.strkw_regex_grammar.specs.Codes.{is_trail, hex_number}
use Rattle.strkw_regex_grammar.specs.Regex.{AreItems}
use Rattle.strkw_regex_grammar.specs.machine.Lexemes.{item_of, item_char, item_sets, range_of, range_sets, scalar_if, property_sets, keep, ranges_sets}
use Rattle.strkw_regex_grammar.specs.machine.Lexemes.{class_sets}
use Rattle.strkw_regex_grammar.specs.declared.lexer.classes.Item.TheVariants as items
use Rattle.strkw_regex_reader.specs.Limits.{takes_code, takes_atom, takes_ranges}

-- some sets, where a test holds
abbrev pub sets_if : Bool → List CharSet → Option (List CharSet)
sets_if false rs = None
sets_if true rs = Some rs

-- sets are kept together where both are
keep_if : (a b : Bool) (rs ss : List CharSet) → keep (sets_if a rs) (sets_if b ss) ≡ sets_if (a && b) (rs ++ ss)
keep_if false b rs ss = refl
keep_if true false rs ss = refl
keep_if true true rs ss = refl

-- a surrogate is no character of a text
no_scalar : (n : ℕ) → is_lead n ≡ true → is_scalar n ≡ false
no_scalar n h = grind (arith, nat_tests)

-- nor is a trailing one
no_scalar_trail : (n : ℕ) → is_trail n ≡ true → is_scalar n ≡ false
no_scalar_trail n h = grind (arith, nat_tests)

-- what an atom of a class is that is one character
unit_char : (n : ℕ) (a b : Bool) → is_lead n ≡ a → is_trail n ≡ b
    → item_char (if a then items.Lead n else if b then items.Trail n else items.Number n) ≡ scalar_if (is_scalar n) n
unit_char n true b h k = sym (ap (λ z. scalar_if z n) (no_scalar n h))
unit_char n false true h k = sym (ap (λ z. scalar_if z n) (no_scalar_trail n k))
unit_char n false false h k = refl

-- so it is with escapes by a number
code_char : (k : Code) → item_char (item_of (class_coded k)) ≡ scalar_if (takes_code k) (code_value k)
code_char null_code = refl
code_char (letter_code c) = refl
code_char (byte_code ds) = refl
code_char (unit_code ds) = unit_char (hex_number ds) (is_lead (hex_number ds)) (is_trail (hex_number ds)) refl refl
code_char (pair_code ds es) = refl
code_char (point_code ds) = refl

-- one character has its range
range_one : (z : Bool) (n : ℕ) → range_of (scalar_if z n) (scalar_if z n) ≡ sets_if z (Range n n ∷ [])
range_one false n = refl
range_one true n = refl

-- the sets of `\u` and four digits are those of its character
unit_sets : (n : ℕ) (a b : Bool) → is_lead n ≡ a → is_trail n ≡ b
    → item_sets (if a then items.Lead n else if b then items.Trail n else items.Number n) ≡ sets_if (is_scalar n) (Range n n ∷ [])
unit_sets n true b h k = sym (ap (λ z. sets_if z (Range n n ∷ [])) (no_scalar n h))
unit_sets n false true h k = sym (ap (λ z. sets_if z (Range n n ∷ [])) (no_scalar_trail n k))
unit_sets n false false h k = range_one (is_scalar n) n

-- so it is with escapes by a number
code_sets : (k : Code) → item_sets (item_of (class_coded k)) ≡ sets_if (takes_code k) (Range (code_value k) (code_value k) ∷ [])
code_sets null_code = refl
code_sets (letter_code c) = range_one (is_scalar (code_value (letter_code c))) (code_value (letter_code c))
code_sets (byte_code ds) = range_one (is_scalar (hex_number ds)) (hex_number ds)
code_sets (unit_code ds) = unit_sets (hex_number ds) (is_lead (hex_number ds)) (is_trail (hex_number ds)) refl refl
code_sets (pair_code ds es) = range_one (is_scalar (code_value (pair_code ds es))) (code_value (pair_code ds es))
code_sets (point_code ds) = range_one (is_scalar (hex_number ds)) (hex_number ds)

-- and with properties
property_sets_of : (n : Bool) (o : Option Property) → property_sets n o ≡ sets_if (is_some o) (property_set n o)
property_sets_of n None = refl
property_sets_of n (Some p) = refl

-- the sets of an atom are kept where it is taken
atom_sets : (x : ClassAtom) → item_sets (item_of x) ≡ sets_if (takes_atom x) (sets_of_item (item x))
atom_sets (class_plain c) = refl
atom_sets hyphen = refl
atom_sets (class_escaped c) = refl
atom_sets (class_control c) = refl
atom_sets (class_set c) = refl
atom_sets backspace = refl
atom_sets (class_coded k) = code_sets k
atom_sets (class_property n e) = property_sets_of n (property_of e)

-- an item, by what it is in the definitions, where it is taken
abbrev spec_char : SpecItem → Option ℕ
spec_char (char c) = Some c
spec_char (set_of rs) = None

-- where the test holds
abbrev if_taken : Bool → Option ℕ → Option ℕ
if_taken false o = None
if_taken true o = o

-- a property is no character
property_none : (z : Bool) → None ≡ if_taken z None
property_none false = refl
property_none true = refl

-- an escape by a number is one where it is taken
code_if : (z : Bool) (n : ℕ) → scalar_if z n ≡ if_taken z (Some n)
code_if false n = refl
code_if true n = refl

-- the character of an atom
atom_char : (x : ClassAtom) → item_char (item_of x) ≡ if_taken (takes_atom x) (spec_char (item x))
atom_char (class_plain c) = refl
atom_char hyphen = refl
atom_char (class_escaped c) = refl
atom_char (class_control c) = refl
atom_char (class_set c) = refl
atom_char backspace = refl
atom_char (class_coded k) = code_char k ∙ code_if (takes_code k) (code_value k)
atom_char (class_property n e) = property_none (is_some (property_of e))

-- the sets of a range whose bounds are in order
bounded : (i j : SpecItem) (a b : Bool) → is_some (range i j) ≡ true
    → range_of (if_taken a (spec_char i)) (if_taken b (spec_char j)) ≡ sets_if (a && b) (range_list (range i j))
bounded i j false b h = refl
bounded (char c) (char d) true false h = refl
bounded (char c) (char d) true true h = by_test (nat_le c d) h
  where
    -- by whether the first is not the greater
    by_test : (z : Bool) → is_some (if z then Some (Range c d) else None) ≡ true
        → Some (Range c d ∷ []) ≡ Some (range_list (if z then Some (Range c d) else None))
    by_test true k = refl
    by_test false k = absurd (true≢false (sym k))
bounded (char c) (set_of rs) true b h = absurd (true≢false (sym h))
bounded (set_of rs) j true b h = absurd (true≢false (sym h))

-- so the sets of atoms and ranges are kept where all are taken
ranges_kept : (n : Bool) (r : Ranges) → AreItems n r → ranges_sets true r ≡ sets_if (takes_ranges r) (sets_of r)
ranges_kept n no_ranges h = refl
ranges_kept n (with_one r x) h =
    ap (λ o. keep o (item_sets (item_of x))) (ranges_kept n r h.0) ∙ ap (keep (sets_if (takes_ranges r) (sets_of r))) (atom_sets x)
    ∙ keep_if (takes_ranges r) (takes_atom x) (sets_of r) (sets_of_item (item x))
ranges_kept n (with_range r x y) h =
    let both = takes_atom x && takes_atom y in
    ap (λ o. keep o (range_sets (item_of x) (item_of y))) (ranges_kept n r h.0)
    ∙ ap (keep (sets_if (takes_ranges r) (sets_of r)))
    (ap (λ o. range_of o (item_char (item_of y))) (atom_char x) ∙ ap (range_of (if_taken (takes_atom x) (spec_char (item x)))) (atom_char y)
    ∙ bounded (item x) (item y) (takes_atom x) (takes_atom y) h.3)
    ∙ keep_if (takes_ranges r) both (sets_of r) (range_list (range (item x) (item y)))
    ∙ ap (λ z. sets_if z (sets_of r ++ range_list (range (item x) (item y)))) (same_tests (takes_ranges r) (takes_atom x) (takes_atom y))
  where
    -- the tests in the order of the definition
    same_tests : (a b c : Bool) → (a && (b && c)) ≡ (a && b && c)
    same_tests false b c = refl
    same_tests true b c = refl

-- and so are those of a whole class
pub class_kept : (n : Bool) (r : Ranges) (e : Bool) → AreItems n r → class_sets true r e ≡ sets_if (takes_ranges r) (contents r e)
class_kept n r false h = ranges_kept n r h
class_kept n r true h =
    ap (λ o. keep o (Some (Range (byte "-") (byte "-") ∷ []))) (ranges_kept n r h)
    ∙ keep_if (takes_ranges r) true (sets_of r) (Range (byte "-") (byte "-") ∷ []) ∙ ap (λ z. sets_if z (contents r true)) (and_last (takes_ranges r))
  where
    -- a test that always holds may be left out
    and_last : (a : Bool) → (a && true) ≡ a
    and_last false = refl
    and_last true = refl
