-- A value is read of its tokens whatever comes behind them; and an object needs its members.
use Rattle.std.proofs.Common.{◌≡◌, ℕ, zero, suc, ◌<◌, ◌≤◌, List, [], ◌∷◌, ◌++◌, length, length-append, Option, Some, None, option_map, option_and_then}
use Rattle.std.proofs.Common.{refl, sym, ap, ◌∙◌, arith}
use Rattle.json.specs.Token.{Token}
use Rattle.json.specs.Json.{Json, array, object, item, member, Items, Members, Parse, parse_map, after_end_array, read_key, items_step, members_step}
use Rattle.json.specs.Json.{items, members, value, value_with}
use Rattle.serde_json.specs.Data.{Data}
use Rattle.serde_json.specs.Read.{of_json, converted}
use Rattle.serde_json.specs.Data as json_data
use Rattle.strkw_json.specs.Passing.{members_read, value_read}
use Rattle.strkw_json.proofs.Reading.{by_first_token}
use Rattle.strkw_cache.specs.Depths.{member_depth, value_depth}

-- so much more is left
abbrev left_more : {A : Type 0} → List Token → A × List Token → A × List Token
left_more more read = (read.0, read.1 ++ more)

-- what the one reads of some tokens, the other reads of them before others, and leaves these
abbrev Reads : {A : Type 0} → Parse A → Parse A → Type 0
Reads {A} one other = (ts more : List Token) (a : A × List Token) → one ts ≡ Some a → other (ts ++ more) ≡ Some (left_more more a)

-- nothing is no value
no_value : {A B : Type 0} (a : A) → None ≡ Some a → B
no_value a e = cc

-- ---- one step

-- what was made of what was read
mapped : {A B : Type 0} (f : A → B) (more : List Token) (r s : Option (A × List Token)) (b : B × List Token)
    → ((a : A × List Token) → r ≡ Some a → s ≡ Some (left_more more a)) → parse_map f r ≡ Some b → parse_map f s ≡ Some (left_more more b)
mapped f more None s b same e = no_value b e
mapped f more (Some a) s b same e = ap (parse_map f) (same a refl) ∙ ap (option_map (left_more more)) e

-- what was read next
next : {A B : Type 0} (f g : A × List Token → Option (B × List Token)) (more : List Token) (r s : Option (A × List Token)) (b : B × List Token)
    → ((a : A × List Token) → r ≡ Some a → s ≡ Some (left_more more a))
    → ((a : A × List Token) → f a ≡ Some b → g (left_more more a) ≡ Some (left_more more b))
    → option_and_then f r ≡ Some b → option_and_then g s ≡ Some (left_more more b)
next f g more None s b same then e = no_value b e
next f g more (Some a) s b same then e = ap (option_and_then g) (same a refl) ∙ then a e

-- the bracket that closes an array
closed : (t : Token) (ts more : List Token) → after_end_array (t ∷ (ts ++ more)) ≡ option_map (λ rest. rest ++ more) (after_end_array (t ∷ ts))
closed Token.begin_object ts more = refl
closed Token.end_object ts more = refl
closed Token.begin_array ts more = refl
closed Token.end_array ts more = refl
closed (Token.key s) ts more = refl
closed (Token.string s) ts more = refl
closed (Token.number s) ts more = refl
closed (Token.boolean b) ts more = refl
closed Token.null ts more = refl
closed Token.bad ts more = refl

-- a key
keyed : Reads read_key read_key
keyed [] more a e = no_value a e
keyed (Token.begin_object ∷ ts) more a e = no_value a e
keyed (Token.end_object ∷ ts) more a e = ap (option_map (left_more more)) e
keyed (Token.begin_array ∷ ts) more a e = no_value a e
keyed (Token.end_array ∷ ts) more a e = no_value a e
keyed (Token.key s ∷ ts) more a e = ap (option_map (left_more more)) e
keyed (Token.string s ∷ ts) more a e = no_value a e
keyed (Token.number s ∷ ts) more a e = no_value a e
keyed (Token.boolean b ∷ ts) more a e = no_value a e
keyed (Token.null ∷ ts) more a e = no_value a e
keyed (Token.bad ∷ ts) more a e = no_value a e

-- ---- items, members and a value

module _ (one : Parse Json) (reads : Reads one one) where
  -- one turn over the items
  items_turn : (fewer other : Parse Items) → Reads fewer other → (ts more : List Token) (a : Items × List Token) (end : Option (List Token))
      → items_step one fewer ts end ≡ Some a
      → items_step one other (ts ++ more) (option_map (λ rest. rest ++ more) end) ≡ Some (left_more more a)
  items_turn fewer other rest ts more a (Some end) e = ap (option_map (left_more more)) e
  items_turn fewer other rest ts more a None e =
      next (λ p. parse_map (item p.0) (fewer p.1)) (λ p. parse_map (item p.0) (other p.1)) more (one ts) (one (ts ++ more)) a (reads ts more)
      (λ p is. mapped (item p.0) more (fewer p.1) (other (p.1 ++ more)) a (rest p.1 more) is) e

  -- one turn over the members
  members_turn : (fewer other : Parse Members) → Reads fewer other → (more : List Token) (a : Members × List Token) (key : Option (List ℕ)) (ts : List Token)
      → members_step one fewer key ts ≡ Some a
      → members_step one other key (ts ++ more) ≡ Some (left_more more a)
  members_turn fewer other rest more a None ts e = ap (option_map (left_more more)) e
  members_turn fewer other rest more a (Some k) ts e =
      next (λ p. parse_map (member k p.0) (fewer p.1)) (λ p. parse_map (member k p.0) (other p.1)) more (one ts) (one (ts ++ more)) a (reads ts more)
      (λ p is. mapped (member k p.0) more (fewer p.1) (other (p.1 ++ more)) a (rest p.1 more) is) e

  -- the items that are left of an array, in as many turns or more
  items_read_before : one [] ≡ None → (n m : ℕ) → n ≤ m → Reads (items one n) (items one m)
  unfolding items
  items_read_before none zero m fits ts more a e = no_value a e
  items_read_before none (suc n) zero fits ts more a e = absurd (omega arith)
  items_read_before none (suc n) (suc m) fits [] more a e =
      no_value a (sym (ap (option_and_then (λ p. parse_map (item p.0) (items one n p.1))) none) ∙ e)
  items_read_before none (suc n) (suc m) fits (t ∷ ts) more a e =
      ap (items_step one (items one m) (t ∷ (ts ++ more))) (closed t ts more)
      ∙ items_turn (items one n) (items one m) (items_read_before none n m (omega arith)) (t ∷ ts) more a (after_end_array (t ∷ ts)) e

  -- the members that are left of an object
  members_read_before : (n m : ℕ) → n ≤ m → Reads (members one n) (members one m)
  unfolding members
  members_read_before zero m fits ts more a e = no_value a e
  members_read_before (suc n) zero fits ts more a e = absurd (omega arith)
  members_read_before (suc n) (suc m) fits ts more a e =
      next (λ p. members_step one (members one n) p.0 p.1) (λ p. members_step one (members one m) p.0 p.1) more (read_key ts) (read_key (ts ++ more)) a
      (keyed ts more)
      (λ p is. members_turn (members one n) (members one m) (members_read_before n m (omega arith)) more a p.0 p.1 is) e

-- a value, by what is read of items and of members
by_first : (a b : Parse Items) (o p : Parse Members) → Reads a b → Reads o p → Reads (value_with a o) (value_with b p)
by_first a b o p items members [] more x e = no_value x e
by_first a b o p items members (Token.begin_object ∷ ts) more x e = mapped object more (o ts) (p (ts ++ more)) x (members ts more) e
by_first a b o p items members (Token.end_object ∷ ts) more x e = no_value x e
by_first a b o p items members (Token.begin_array ∷ ts) more x e = mapped array more (a ts) (b (ts ++ more)) x (items ts more) e
by_first a b o p items members (Token.end_array ∷ ts) more x e = no_value x e
by_first a b o p items members (Token.key s ∷ ts) more x e = no_value x e
by_first a b o p items members (Token.string s ∷ ts) more x e = ap (option_map (left_more more)) e
by_first a b o p items members (Token.number s ∷ ts) more x e = ap (option_map (left_more more)) e
by_first a b o p items members (Token.boolean t ∷ ts) more x e = ap (option_map (left_more more)) e
by_first a b o p items members (Token.null ∷ ts) more x e = ap (option_map (left_more more)) e
by_first a b o p items members (Token.bad ∷ ts) more x e = no_value x e

-- no value is read of no tokens
none_read : (depth : ℕ) → value depth [] ≡ None
unfolding value
none_read zero = refl
none_read (suc depth) = refl

-- what is read of the tokens of a value is read of them before others
value_before : (depth : ℕ) → Reads (value depth) (value depth)
unfolding value
value_before zero = by_first (λ ts. None) (λ ts. None) (λ ts. None) (λ ts. None) (λ ts more a e. no_value a e) (λ ts more a e. no_value a e)
value_before (suc depth) =
    by_first (λ ts. items (value depth) (length ts) ts) (λ ts. items (value depth) (length ts) ts) (λ ts. members (value depth) (length ts) ts)
    (λ ts. members (value depth) (length ts) ts)
    (λ ts more a e. items_read_before (value depth) (value_before depth) (none_read depth) (length ts) (length (ts ++ more))
    (omega (arith, length-append ts more)) ts more a e)
    (λ ts more a e. members_read_before (value depth) (value_before depth) (length ts) (length (ts ++ more)) (omega (arith, length-append ts more)) ts more a e)

-- ---- as `serde_json` reads it

-- what is left stands beside what was made
left_beside : {A : Type 0} (ts more : List Token) (o : Option A)
    → option_map (λ a. (a, ts ++ more)) o ≡ option_map (left_more more) (option_map (λ a. (a, ts)) o)
left_beside ts more None = refl
left_beside ts more (Some a) = refl

-- what was read and converted
converted_before : (more : List Token) (r s : Option (Json × List Token)) (d : Data × List Token)
    → ((a : Json × List Token) → r ≡ Some a → s ≡ Some (left_more more a))
    → converted of_json r ≡ Some d → converted of_json s ≡ Some (left_more more d)
converted_before more None s d same e = no_value d e
converted_before more (Some a) s d same e =
    ap (converted of_json) (same a refl) ∙ left_beside a.1 more (of_json a.0) ∙ ap (option_map (left_more more)) e

-- A value is read of tokens whatever comes behind them, and this is left too.
pub read_with_more : (depth : ℕ) (ts left more : List Token) (d : Data) → value_read depth ts ≡ Some (d, left)
    → value_read depth (ts ++ more) ≡ Some (d, left ++ more)
read_with_more depth ts left more d e = converted_before more (value depth ts) (value depth (ts ++ more)) (d, left) (value_before depth ts more) e

-- A value that all of these tokens are is read of them wherever they come first, and the others are left.
pub read_before : (depth : ℕ) (ts more all : List Token) (d : Data) → value_read depth ts ≡ Some (d, []) → all ≡ ts ++ more
    → value_read depth all ≡ Some (d, more)
read_before depth ts more all d e is =
    ap (value_read depth) is ∙ read_with_more depth ts [] more d e

-- a value has a token
pub some_tokens : (depth : ℕ) (ts : List Token) (d : Data × List Token) → value_read depth ts ≡ Some d → 0 < length ts
some_tokens depth [] d e = no_value d (sym (ap (converted of_json) (none_read depth)) ∙ e)
some_tokens depth (t ∷ ts) d e = omega arith

-- where no members are read behind the bracket that begins an object, there is no value
pub no_members_of_object : (ts start : List Token) → ts ≡ Token.begin_object ∷ start → members_read value_depth start ≡ None → value_read member_depth ts ≡ None
no_members_of_object ts start began none =
    ap (value_read member_depth) began ∙ by_first_token member_depth (Token.begin_object ∷ start) ∙ ap (parse_map json_data.object) none
