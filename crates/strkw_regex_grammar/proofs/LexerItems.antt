-- The items of a class by what stands for them, and pairs of surrogates.
use Rattle.std.proofs.Common.{◌≡◌, ◌⊎◌, inl, inr, ℕ, nat_le, ◌≤◌, Bool, true, false, ◌&&◌, List, [], ◌∷◌, ◌++◌, Option, Some, None, refl, sym, ap}
use Rattle.std.proofs.Common.{subst, ◌∙◌, arith, if◌then◌else◌}
use Rattle.std.specs.Prelude.{is_some}
use Rattle.std.proofs.lemmas.Bool.Decides.{nat_tests}
use Rattle.std.specs.Str.{byte}
use Rattle.strkw_regex_grammar.specs.Codes.{Code, null_code, letter_code, byte_code, unit_code, pair_code, point_code, code_value, is_lead, is_trail}
use Rattle.strkw_regex_grammar.specs.Codes.{hex_number, max_code_point}
use Rattle.strkw_regex_grammar.specs.Classes.{ClassAtom, class_plain, hyphen, class_escaped, class_control, class_set, backspace, class_coded}
use Rattle.strkw_regex_grammar.specs.Classes.{class_property, Ranges, no_ranges, with_one, with_range, item, range, char, set_item as set_of_item}
use Rattle.strkw_regex_grammar.specs.Classes.{Item as SpecItem, class_atom_spelling, ranges_spelling, negation_spelling, is_caret, MayFollow}
use Rattle.strkw_charset.specs.Sets.{control_char}
use Rattle.strkw_charset.specs.Properties.{property_of}
use Rattle.strkw_charset.specs.declared.properties.Property.{Property}
use Rattle.strkw_charset.specs.declared.tree.CharSet.{CharSet}
use Rattle.strkw_charset.specs.declared.tree.CharSet.TheVariants.{Range}
use Rattle.strkw_regex_grammar.specs.Regex.{IsClassItem, is_lead_item, is_trail_item, ends_in_lead, MayStandBehind, AreItems}
use Rattle.strkw_regex_grammar.specs.machine.CodeMakers.{pair_value}
use Rattle.strkw_regex_grammar.specs.machine.Lexemes.{Item, set_item, property_item, char_item, code_item, lead_item, trail_item, form, number_item, item_of}
use Rattle.strkw_regex_grammar.specs.machine.Lexemes.{item_char, item_sets, range_of, range_sets, keep, ranges_sets}
use Rattle.strkw_regex_grammar.specs.machine.Lexing.{Pending, fresh, one, dashed, ranged, Class, item_value, is_bounded, is_range, pending_if}
use Rattle.strkw_regex_grammar.specs.machine.Lexing.{took_behind, took_dashed, took_ranged, sets_behind, sets_dashed, sets_ranged}

-- what of a class may still belong to a range: an atom, an atom and a `-`, or a range up to a leading surrogate
pub data Tail : Type 0 where
  no_tail : Tail
  one_tail : ClassAtom → Tail
  dash_tail : ClassAtom → Tail
  range_tail : ClassAtom → ClassAtom → Tail

-- as it is written
abbrev pub tail_spelling : Tail → List ℕ
tail_spelling no_tail = []
tail_spelling (one_tail x) = class_atom_spelling x
tail_spelling (dash_tail x) = class_atom_spelling x ++ byte "-" ∷ []
tail_spelling (range_tail x y) = class_atom_spelling x ++ byte "-" ∷ class_atom_spelling y

-- the value of an escape
abbrev pub lead_value : ClassAtom → ℕ
lead_value (class_coded k) = code_value k
lead_value x = 0

-- what the lexer holds of it
abbrev pub pending_of : Tail → Pending
pending_of no_tail = fresh
pending_of (one_tail x) = one (item_of x)
pending_of (dash_tail x) = dashed (item_of x)
pending_of (range_tail x y) = ranged (item_of x) (lead_value y)

-- it may stand there; where nothing does, each atom with A may come
abbrev pub IsTail : (ClassAtom → Type 0) → Bool → Ranges → Tail → Type 0
IsTail A n r no_tail = ((y : ClassAtom) → A y → MayFollow n r y) × (ends_in_lead r ≡ false)
IsTail A n r (one_tail x) = IsClassItem x × MayStandBehind n r x
IsTail A n r (dash_tail x) = IsClassItem x × MayStandBehind n r x
IsTail A n r (range_tail x y) = (IsClassItem x × MayStandBehind n r x) × IsClassItem y × (is_lead_item y ≡ true)

-- this much of a class has been read
abbrev pub class_text : Bool → Ranges → Tail → List ℕ
class_text n r t = (negation_spelling n ++ ranges_spelling r) ++ tail_spelling t

-- a class, by what the lexer holds of it
abbrev pub class_with : Bool → Option (List CharSet) → Pending → Class
class_with n o p = record { negated = n; sets = o; pending = p }

-- what the lexer holds of a class of which this much has been read, where the first says whether sets are kept
abbrev pub class_at : Bool → Bool → Ranges → Tail → Class
class_at b n r t = class_with n (ranges_sets b r) (pending_of t)

-- the class is one that has been read so
abbrev pub ClassText : Bool → (ClassAtom → Type 0) → Class → List ℕ → Type 0
ClassText b A k v = (n : Bool) × (r : Ranges) × (t : Tail) × AreItems n r × IsTail A n r t × (class_at b n r t ≡ k) × (v ≡ class_text n r t)

-- any atom
abbrev pub Any : ClassAtom → Type 0
Any y = Unit {0}

-- the atom is no `^` that stands for itself
abbrev pub NoCaret : ClassAtom → Type 0
NoCaret y = is_caret y ≡ false

-- the class that comes of one more atom, where there is one, has been read so
abbrev pub MakesClass : Bool → Option Class → List ℕ → Type 0
MakesClass b None v = Unit {0}
MakesClass b (Some k) v = ClassText b Any k v

-- the value of a character
abbrev value_of_item : SpecItem → Option ℕ
value_of_item (char c) = Some c
value_of_item (set_of_item rs) = None

-- an item of a number has its value
number_value : (k : Code) → item_value (number_item (form k) (code_value k)) ≡ Some (code_value k)
number_value null_code = refl
number_value (letter_code c) = refl
number_value (byte_code ds) = refl
number_value (unit_code ds) = by_lead (is_lead (hex_number ds)) (is_trail (hex_number ds))
  where
    -- by whether it is a surrogate
    by_lead : (a b : Bool)
        → item_value (if a then lead_item (hex_number ds) else if b then trail_item (hex_number ds) else code_item (hex_number ds))
        ≡ Some (hex_number ds)
    by_lead true b = refl
    by_lead false true = refl
    by_lead false false = refl
number_value (pair_code ds es) = refl
number_value (point_code ds) = refl

-- so an atom has the same value for both
same_value : (x : ClassAtom) → item_value (item_of x) ≡ value_of_item (item x)
same_value (class_plain c) = refl
same_value hyphen = refl
same_value (class_escaped c) = refl
same_value (class_control c) = refl
same_value (class_set c) = refl
same_value backspace = refl
same_value (class_coded k) = number_value k
same_value (class_property n e) = refl

-- two items bound a range where their values do
bounds : (i j : SpecItem) → is_bounded (value_of_item i) (value_of_item j) ≡ is_some (range i j)
bounds (char c) (char d) = by_test (nat_le c d) (Range c d)
  where
    -- by whether the first is not the greater
    by_test : (b : Bool) (r : CharSet) → b ≡ is_some (if b then Some r else None)
    by_test true r = refl
    by_test false r = refl
bounds (char c) (set_of_item rs) = refl
bounds (set_of_item rs) j = refl

-- two atoms bound a range for the lexer where they do
pub same_range : (x y : ClassAtom) → is_range (item_of x) (item_of y) ≡ is_some (range (item x) (item y))
same_range x y =
    ap (λ o. is_bounded o (item_value (item_of y))) (same_value x) ∙ ap (is_bounded (value_of_item (item x))) (same_value y)
    ∙ bounds (item x) (item y)

-- surrogates
-- the atom is `\u` with a leading one
abbrev pub IsLead : ClassAtom → Type 0
IsLead x = (ds : List ℕ) × (x ≡ class_coded (unit_code ds)) × (is_lead (hex_number ds) ≡ true)

-- or with a trailing one
abbrev pub IsTrail : ClassAtom → Type 0
IsTrail x = (ds : List ℕ) × (x ≡ class_coded (unit_code ds)) × (is_trail (hex_number ds) ≡ true) × (is_lead (hex_number ds) ≡ false)

-- behind the item no trailing surrogate belongs to it, and it does not make a range wait
pub record IsNoLead (i : Item) : Type 0 where
  pub behind : (j : Item) → took_behind i j ≡ one j
  pub dashed : (j : Item) → took_dashed j i ≡ pending_if (is_range j i) fresh
  pub sets : (j : Item) (o : Option (List CharSet)) → sets_behind i j o ≡ keep o (item_sets i)
  pub range_sets : (j : Item) (o : Option (List CharSet)) → sets_dashed j i o ≡ keep o (range_sets j i)

-- the item belongs to none before it
pub record IsNoTrail (i : Item) : Type 0 where
  pub behind : (j : Item) → took_behind j i ≡ one i
  pub ranged : (j : Item) (n : ℕ) → took_ranged j n i ≡ pending_if (is_range j (lead_item n)) (one i)
  pub sets : (j : Item) (o : Option (List CharSet)) → sets_behind j i o ≡ keep o (item_sets j)
  pub range_sets : (j : Item) (n : ℕ) (o : Option (List CharSet)) → sets_ranged j n i o ≡ None

-- a leading surrogate is no trailing one
lead_alone : (n : ℕ) → is_lead n ≡ true → is_trail n ≡ false
lead_alone n h = grind (arith, nat_tests)

-- what two surrogates stand for is not above the greatest
pair_small : (n m : ℕ) → is_lead n ≡ true → is_trail m ≡ true → pair_value n m ≤ max_code_point
pair_small n m h k = grind (arith, nat_tests)

-- a character, a set and a property are no leading surrogates
char_no_lead : (n : ℕ) → IsNoLead (char_item n)
char_no_lead n = record { behind = λ j. refl; dashed = λ j. refl; sets = λ j o. refl; range_sets = λ j o. refl }

-- the same of one by its number
code_no_lead : (n : ℕ) → IsNoLead (code_item n)
code_no_lead n = record { behind = λ j. refl; dashed = λ j. refl; sets = λ j o. refl; range_sets = λ j o. refl }

-- the same of a set
set_no_lead : (c : ℕ) → IsNoLead (set_item c)
set_no_lead c = record { behind = λ j. refl; dashed = λ j. refl; sets = λ j o. refl; range_sets = λ j o. refl }

-- and of a property
property_no_lead : (n : Bool) (p : Option Property) → IsNoLead (property_item n p)
property_no_lead n p = record { behind = λ j. refl; dashed = λ j. refl; sets = λ j o. refl; range_sets = λ j o. refl }

-- an item of which each item behind leaves the same is no trailing surrogate
no_trail : (i : Item) → ((j : Item) → (took_behind j i ≡ one i) × ((o : Option (List CharSet)) → sets_behind j i o ≡ keep o (item_sets j)))
    → ((j : Item) (n : ℕ) → (took_ranged j n i ≡ pending_if (is_range j (lead_item n)) (one i)) × ((o : Option (List CharSet)) → sets_ranged j n i o ≡ None))
    → IsNoTrail i
no_trail i f g = record { behind = λ j. (f j).0; ranged = λ j n. (g j n).0; sets = λ j. (f j).1; range_sets = λ j n. (g j n).1 }

-- what an item that is no trailing surrogate leaves behind any
behind_char_both : (j : Item) (n : ℕ) → (took_behind j (char_item n) ≡ one (char_item n)) × ((o : Option (List CharSet)) → sets_behind j (char_item n) o ≡ keep o (item_sets j))
behind_char_both (set_item d) n = (refl, λ o. refl)
behind_char_both (property_item z e) n = (refl, λ o. refl)
behind_char_both (char_item m) n = (refl, λ o. refl)
behind_char_both (code_item m) n = (refl, λ o. refl)
behind_char_both (lead_item m) n = (refl, λ o. refl)
behind_char_both (trail_item m) n = (refl, λ o. refl)

-- the same of one by its number
behind_code_both : (j : Item) (n : ℕ) → (took_behind j (code_item n) ≡ one (code_item n)) × ((o : Option (List CharSet)) → sets_behind j (code_item n) o ≡ keep o (item_sets j))
behind_code_both (set_item d) n = (refl, λ o. refl)
behind_code_both (property_item z e) n = (refl, λ o. refl)
behind_code_both (char_item m) n = (refl, λ o. refl)
behind_code_both (code_item m) n = (refl, λ o. refl)
behind_code_both (lead_item m) n = (refl, λ o. refl)
behind_code_both (trail_item m) n = (refl, λ o. refl)

-- the same of a set
behind_set_both : (j : Item) (c : ℕ) → (took_behind j (set_item c) ≡ one (set_item c)) × ((o : Option (List CharSet)) → sets_behind j (set_item c) o ≡ keep o (item_sets j))
behind_set_both (set_item d) c = (refl, λ o. refl)
behind_set_both (property_item z e) c = (refl, λ o. refl)
behind_set_both (char_item m) c = (refl, λ o. refl)
behind_set_both (code_item m) c = (refl, λ o. refl)
behind_set_both (lead_item m) c = (refl, λ o. refl)
behind_set_both (trail_item m) c = (refl, λ o. refl)

-- and of a property
behind_property_both : (j : Item) (n : Bool) (p : Option Property) → (took_behind j (property_item n p) ≡ one (property_item n p)) × ((o : Option (List CharSet)) → sets_behind j (property_item n p) o ≡ keep o (item_sets j))
behind_property_both (set_item d) n p = (refl, λ o. refl)
behind_property_both (property_item z e) n p = (refl, λ o. refl)
behind_property_both (char_item m) n p = (refl, λ o. refl)
behind_property_both (code_item m) n p = (refl, λ o. refl)
behind_property_both (lead_item m) n p = (refl, λ o. refl)
behind_property_both (trail_item m) n p = (refl, λ o. refl)

-- and of a leading surrogate
behind_lead_both : (j : Item) (n : ℕ) → (took_behind j (lead_item n) ≡ one (lead_item n)) × ((o : Option (List CharSet)) → sets_behind j (lead_item n) o ≡ keep o (item_sets j))
behind_lead_both (set_item d) n = (refl, λ o. refl)
behind_lead_both (property_item z e) n = (refl, λ o. refl)
behind_lead_both (char_item m) n = (refl, λ o. refl)
behind_lead_both (code_item m) n = (refl, λ o. refl)
behind_lead_both (lead_item m) n = (refl, λ o. refl)
behind_lead_both (trail_item m) n = (refl, λ o. refl)

-- so a character is no trailing surrogate
char_no_trail : (n : ℕ) → IsNoTrail (char_item n)
char_no_trail n = no_trail (char_item n) (λ j. behind_char_both j n) (λ j m. (refl, λ o. refl))

-- nor is one by its number
code_no_trail : (n : ℕ) → IsNoTrail (code_item n)
code_no_trail n = no_trail (code_item n) (λ j. behind_code_both j n) (λ j m. (refl, λ o. refl))

-- nor is a set
set_no_trail : (c : ℕ) → IsNoTrail (set_item c)
set_no_trail c = no_trail (set_item c) (λ j. behind_set_both j c) (λ j m. (refl, λ o. refl))

-- nor a property
property_no_trail : (n : Bool) (p : Option Property) → IsNoTrail (property_item n p)
property_no_trail n p = no_trail (property_item n p) (λ j. behind_property_both j n p) (λ j m. (refl, λ o. refl))

-- nor a leading one
lead_no_trail : (n : ℕ) → IsNoTrail (lead_item n)
lead_no_trail n = no_trail (lead_item n) (λ j. behind_lead_both j n) (λ j m. (refl, λ o. refl))

-- what is no character bounds no range
no_range : (o : Option ℕ) → range_of o None ≡ None
no_range None = refl
no_range (Some n) = refl

-- a range up to a leading surrogate has no sets
pub lead_sets : (i : Item) (n : ℕ) → range_sets i (lead_item n) ≡ None
lead_sets i n = no_range (item_char i)

-- where some sets are not kept, none are
pub keep_none : (o : Option (List CharSet)) → keep o None ≡ None
keep_none None = refl
keep_none (Some rs) = refl

-- what `\u` with four digits is for the lexer, by whether its number is that of a surrogate
abbrev pub item_by : ℕ → Bool → Bool → Item
item_by n a b = if a then lead_item n else if b then trail_item n else code_item n

-- it is no leading surrogate where its number is none
unit_no_lead : (n : ℕ) (b : Bool) → IsNoLead (item_by n false b)
unit_no_lead n true = record { behind = λ j. refl; dashed = λ j. refl; sets = λ j o. refl; range_sets = λ j o. refl }
unit_no_lead n false = code_no_lead n

-- an atom is a leading surrogate, or it is none for the lexer too
abbrev pub LeadView : ClassAtom → Type 0
LeadView x = IsLead x ⊎ ((is_lead_item x ≡ false) × IsNoLead (item_of x))

-- the same of `\u` with four digits
unit_lead_view : (ds : List ℕ) (a : Bool) → is_lead (hex_number ds) ≡ a → LeadView (class_coded (unit_code ds))
unit_lead_view ds true e = inl (ds, refl, e)
unit_lead_view ds false e =
    inr (e, subst (λ a. IsNoLead (item_by (hex_number ds) a (is_trail (hex_number ds)))) (sym e) (unit_no_lead (hex_number ds) (is_trail (hex_number ds))))

-- so it is with each atom
pub lead_view : (x : ClassAtom) → LeadView x
lead_view (class_plain c) = inr (refl, char_no_lead c)
lead_view hyphen = inr (refl, char_no_lead (byte "-"))
lead_view (class_escaped c) = inr (refl, char_no_lead c)
lead_view (class_control c) = inr (refl, char_no_lead (control_char c))
lead_view (class_set c) = inr (refl, set_no_lead c)
lead_view backspace = inr (refl, char_no_lead 8)
lead_view (class_property n e) = inr (refl, property_no_lead n (property_of e))
lead_view (class_coded null_code) = inr (refl, code_no_lead 0)
lead_view (class_coded (letter_code c)) = inr (refl, code_no_lead (code_value (letter_code c)))
lead_view (class_coded (byte_code ds)) = inr (refl, code_no_lead (hex_number ds))
lead_view (class_coded (pair_code ds es)) = inr (refl, code_no_lead (code_value (pair_code ds es)))
lead_view (class_coded (point_code ds)) = inr (refl, code_no_lead (hex_number ds))
lead_view (class_coded (unit_code ds)) = unit_lead_view ds (is_lead (hex_number ds)) refl

-- an atom is a trailing surrogate, or it is none for the lexer too
abbrev pub TrailView : ClassAtom → Type 0
TrailView x = IsTrail x ⊎ ((is_trail_item x ≡ false) × IsNoTrail (item_of x))

-- the same of `\u` with four digits
unit_trail_view : (ds : List ℕ) (a b : Bool) → is_lead (hex_number ds) ≡ a → is_trail (hex_number ds) ≡ b → TrailView (class_coded (unit_code ds))
unit_trail_view ds true b e k =
    inr (
      lead_alone (hex_number ds) e,
      subst (λ a. IsNoTrail (item_by (hex_number ds) a (is_trail (hex_number ds)))) (sym e)
          (lead_no_trail (hex_number ds)),
    )
unit_trail_view ds false true e k = inl (ds, refl, k, e)
unit_trail_view ds false false e k =
    inr (
      k,
      subst (λ a. IsNoTrail (item_by (hex_number ds) a (is_trail (hex_number ds)))) (sym e)
          (subst (λ b. IsNoTrail (item_by (hex_number ds) false b)) (sym k) (code_no_trail (hex_number ds))),
    )

-- so it is with each atom
pub trail_view : (x : ClassAtom) → TrailView x
trail_view (class_plain c) = inr (refl, char_no_trail c)
trail_view hyphen = inr (refl, char_no_trail (byte "-"))
trail_view (class_escaped c) = inr (refl, char_no_trail c)
trail_view (class_control c) = inr (refl, char_no_trail (control_char c))
trail_view (class_set c) = inr (refl, set_no_trail c)
trail_view backspace = inr (refl, char_no_trail 8)
trail_view (class_property n e) = inr (refl, property_no_trail n (property_of e))
trail_view (class_coded null_code) = inr (refl, code_no_trail 0)
trail_view (class_coded (letter_code c)) = inr (refl, code_no_trail (code_value (letter_code c)))
trail_view (class_coded (byte_code ds)) = inr (refl, code_no_trail (hex_number ds))
trail_view (class_coded (pair_code ds es)) = inr (refl, code_no_trail (code_value (pair_code ds es)))
trail_view (class_coded (point_code ds)) = inr (refl, code_no_trail (hex_number ds))
trail_view (class_coded (unit_code ds)) = unit_trail_view ds (is_lead (hex_number ds)) (is_trail (hex_number ds)) refl refl

-- what is taken
-- two tests do not hold together where the second does not
pub and_false : (b c : Bool) → c ≡ false → (b && c) ≡ false
and_false true c h = h
and_false false c h = refl

-- an escape by a number may stand behind any atoms
coded_follows : (n : Bool) (r : Ranges) (k : Code) → MayFollow n r (class_coded k)
coded_follows true no_ranges k = tt
coded_follows false no_ranges k = refl
coded_follows n (with_one r y) k = refl
coded_follows n (with_range r y z) k = tt

-- two surrogates make a pair, which is one atom
pub pair_is_item : (ds es : List ℕ) → IsClassItem (class_coded (unit_code ds)) → IsClassItem (class_coded (unit_code es))
    → is_lead (hex_number ds) ≡ true → is_trail (hex_number es) ≡ true → IsClassItem (class_coded (pair_code ds es))
pair_is_item ds es h k l m = (((h.0, l), k.0, m), pair_small (hex_number ds) (hex_number es) l m)

-- a pair may stand where its first surrogate may
pub pair_stands : (n : Bool) (r : Ranges) (ds es : List ℕ) → MayStandBehind n r (class_coded (pair_code ds es))
pair_stands n r ds es = (coded_follows n r (pair_code ds es), and_false (ends_in_lead r) false refl)
