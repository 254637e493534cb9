-- Reading a value, an array or an object token by token.
use Rattle.std.proofs.Common.{◌≡◌, ℕ, zero, suc, ◌-◌, ◌<◌, ◌≤◌, nat_lt, lt-ltb, if◌then◌else◌, List, [], ◌∷◌, length, Option, Some, None, option_map}
use Rattle.std.proofs.Common.{option_and_then, refl, sym, ap, ◌∙◌, arith}
use Rattle.json.specs.Token.{Token}
use Rattle.json.specs.Lex.{tokens}
use Rattle.json.specs.Json as json
use Rattle.json.specs.Json.{Json, Parse, parse_map, after_end_array, read_key, items_step, members_step, items, members, value}
use Rattle.json.proofs.Grammar.{after_end_array-shorter, read_key-shorter, value_is}
use Rattle.serde_json.specs.Data.{Num, Data, null, boolean, number, string, array, object, Items, no_items, item, Members, no_members, put}
use Rattle.serde_json.specs.Read.{of_json, of_items, of_members, converted, number_of, read as read_text}
use Rattle.strkw_json.specs.Passing.{value_read, items_read, members_read}

-- ---- what was read, and what is left

-- a step in between may be made first or last
map_last : {A B : Type 0} (f : A → B) (rest : List Token) (o : Option A)
    → option_map (λ b. (b, rest)) (option_map f o) ≡ parse_map f (option_map (λ a. (a, rest)) o)
map_last f rest None = refl
map_last f rest (Some a) = refl

-- to go on with what a function makes is to go on with that function first
then_after_map : {A B C : Type 0} (f : B → Option C) (g : A → B) (o : Option A) → option_and_then f (option_map g o) ≡ option_and_then (λ a. f (g a)) o
then_after_map f g None = refl
then_after_map f g (Some a) = refl

-- an item, before others
-- is read where it and they are, and comes first
first_item : (j : Json) (o : Option Data) → of_json j ≡ o → (more : Option (json.Items × List Token))
    → converted of_items (parse_map (json.item j) more) ≡ option_and_then (λ d. parse_map (item d) (converted of_items more)) o
first_item j None e None = refl
first_item j None e (Some m) = ap (λ o. option_map (λ b. (b, m.1)) (option_and_then (λ d. option_map (item d) (of_items m.0)) o)) e
first_item j (Some d) e None = refl
first_item j (Some d) e (Some m) = ap (λ o. option_map (λ b. (b, m.1)) (option_and_then (λ x. option_map (item x) (of_items m.0)) o)) e
    ∙ map_last (item d) m.1 (of_items m.0)

-- a member, before others
-- is put in where its value is read, and then they are read
first_member : (k : List ℕ) (found : Members) (j : Json) (o : Option Data) → of_json j ≡ o → (more : Option (json.Members × List Token))
    → converted (λ ms. of_members ms found) (parse_map (json.member k j) more) ≡ option_and_then (λ d. converted (λ ms. of_members ms (put k d found)) more) o
first_member k found j None e None = refl
first_member k found j None e (Some m) = ap (λ o. option_map (λ b. (b, m.1)) (option_and_then (λ d. of_members m.0 (put k d found)) o)) e
first_member k found j (Some d) e None = refl
first_member k found j (Some d) e (Some m) = ap (λ o. option_map (λ b. (b, m.1)) (option_and_then (λ x. of_members m.0 (put k x found)) o)) e

-- and so it is with an item that is yet to be read
item_step : (more : Parse json.Items) (r : Option (Json × List Token))
    → converted of_items (option_and_then (λ q. parse_map (json.item q.0) (more q.1)) r)
    ≡ option_and_then (λ q. parse_map (item q.0) (converted of_items (more q.1))) (converted of_json r)
item_step more None = refl
item_step more (Some q) =
    first_item q.0 (of_json q.0) refl (more q.1) ∙ sym (then_after_map (λ p. parse_map (item p.0) (converted of_items (more p.1))) (λ d. (d, q.1))
    (of_json q.0))

-- and with a member whose value is yet to be read
member_step : (k : List ℕ) (found : Members) (more : Parse json.Members) (r : Option (Json × List Token))
    → converted (λ ms. of_members ms found) (option_and_then (λ q. parse_map (json.member k q.0) (more q.1)) r)
    ≡ option_and_then (λ q. converted (λ ms. of_members ms (put k q.0 found)) (more q.1)) (converted of_json r)
member_step k found more None = refl
member_step k found more (Some q) =
    first_member k found q.0 (of_json q.0) refl (more q.1) ∙ sym (then_after_map (λ p. converted (λ ms. of_members ms (put k p.0 found)) (more p.1))
    (λ d. (d, q.1)) (of_json q.0))

-- ---- one turn

module _ (one : Parse Json) where
  -- where the array is closed, there are no more items, and what follows the bracket is left
  pub items_end : (n : ℕ) (ts r : List Token) → length ts ≤ n → after_end_array ts ≡ Some r → converted of_items (items one n ts) ≡ Some (no_items, r)
  unfolding items
  items_end zero ts r enough end = absurd (omega (arith, after_end_array-shorter ts r end))
  items_end (suc n) ts r enough end = ap (λ e. converted of_items (items_step one (items one n) ts e)) end

  -- else the items are the next value, and those behind it
  one_item : (n : ℕ) (ts : List Token) → after_end_array ts ≡ None
      → converted of_items (items one (suc n) ts) ≡ option_and_then (λ q. parse_map (item q.0) (converted of_items (items one n q.1)))
      (converted of_json (one ts))
  unfolding items
  one_item n ts going = ap (λ end. converted of_items (items_step one (items one n) ts end)) going ∙ item_step (items one n) (one ts)

  -- where that value was read, it comes before the items behind it
  pub next_item : (n : ℕ) (ts r : List Token) (d : Data) → 0 < n → after_end_array ts ≡ None → converted of_json (one ts) ≡ Some (d, r)
      → converted of_items (items one n ts) ≡ parse_map (item d) (converted of_items (items one (n - 1) r))
  next_item zero ts r d some going is = absurd (omega arith)
  next_item (suc n) ts r d some going is =
      let left : suc n - 1 ≡ n = omega arith in
      one_item n ts going ∙ ap (option_and_then (λ q. parse_map (item q.0) (converted of_items (items one n q.1)))) is
      ∙ ap (λ m. parse_map (item d) (converted of_items (items one m r))) (sym left)

  -- and where it could not be read, neither could the items
  pub no_next_item : (n : ℕ) (ts : List Token) → after_end_array ts ≡ None → converted of_json (one ts) ≡ None → converted of_items (items one n ts) ≡ None
  unfolding items
  no_next_item zero ts going none = refl
  no_next_item (suc n) ts going none = one_item n ts going ∙ ap (option_and_then (λ q. parse_map (item q.0) (converted of_items (items one n q.1)))) none

  module _ (found : Members) where
    -- where the object is closed, the members are those found before, and what follows is left
    pub members_end : (n : ℕ) (ts r : List Token) → length ts ≤ n → read_key ts ≡ Some (None, r)
        → converted (λ ms. of_members ms found) (members one n ts) ≡ Some (found, r)
    unfolding members
    members_end zero ts r enough end = absurd (omega (arith, read_key-shorter ts None r end))
    members_end (suc n) ts r enough end = ap (λ key. converted (λ ms. of_members ms found)
        (option_and_then (λ p. members_step one (members one n) p.0 p.1) key)) end

    -- at a key, the value behind it is put in, and the members behind that are read
    one_member : (n : ℕ) (k : List ℕ) (ts at_value : List Token) → read_key ts ≡ Some (Some k, at_value)
        → converted (λ ms. of_members ms found) (members one (suc n) ts)
        ≡ option_and_then (λ q. converted (λ ms. of_members ms (put k q.0 found)) (members one n q.1)) (converted of_json (one at_value))
    unfolding members
    one_member n k ts at_value named =
        ap (λ key. converted (λ ms. of_members ms found) (option_and_then (λ p. members_step one (members one n) p.0 p.1) key)) named
        ∙ member_step k found (members one n) (one at_value)

    -- where that value was read, it is put in before the others are read
    pub next_member : (n : ℕ) (k : List ℕ) (ts at_value r : List Token) (d : Data) → 0 < n → read_key ts ≡ Some (Some k, at_value)
        → converted of_json (one at_value) ≡ Some (d, r)
        → converted (λ ms. of_members ms found) (members one n ts) ≡ converted (λ ms. of_members ms (put k d found)) (members one (n - 1) r)
    next_member zero k ts at_value r d some named is = absurd (omega arith)
    next_member (suc n) k ts at_value r d some named is =
        let left : suc n - 1 ≡ n = omega arith in
        one_member n k ts at_value named ∙ ap (option_and_then (λ q. converted (λ ms. of_members ms (put k q.0 found)) (members one n q.1))) is
        ∙ ap (λ m. converted (λ ms. of_members ms (put k d found)) (members one m r)) (sym left)

    -- and where it could not be read, neither could the members
    pub no_next_member : (n : ℕ) (k : List ℕ) (ts at_value : List Token) → read_key ts ≡ Some (Some k, at_value) → converted of_json (one at_value) ≡ None
        → converted (λ ms. of_members ms found) (members one n ts) ≡ None
    unfolding members
    no_next_member zero k ts at_value named none = refl
    no_next_member (suc n) k ts at_value named none = one_member n k ts at_value named
        ∙ ap (option_and_then (λ q. converted (λ ms. of_members ms (put k q.0 found)) (members one n q.1))) none

    -- nor could they where neither a key nor the end of the object comes next
    pub no_key : (n : ℕ) (ts : List Token) → read_key ts ≡ None → converted (λ ms. of_members ms found) (members one n ts) ≡ None
    unfolding members
    no_key zero ts none = refl
    no_key (suc n) ts none = ap (λ key. converted (λ ms. of_members ms found) (option_and_then (λ p. members_step one (members one n) p.0 p.1) key)) none

-- ---- a value, by its first token

-- an array that was read is that of the items that were read
converted-array : (r : Option (json.Items × List Token)) → converted of_json (parse_map json.array r) ≡ parse_map array (converted of_items r)
converted-array None = refl
converted-array (Some p) = map_last array p.1 (of_items p.0)

-- and an object is that of the members that were read
converted-object : (r : Option (json.Members × List Token))
    → converted of_json (parse_map json.object r) ≡ parse_map object (converted (λ ms. of_members ms no_members) r)
converted-object None = refl
converted-object (Some p) = map_last object p.1 (of_members p.0 no_members)

-- what is read of a value, told by its first token
abbrev pub first_read : ℕ → List Token → Option (Data × List Token)
first_read depth [] = None
first_read depth (Token.begin_object ∷ ts) = if nat_lt 0 depth then parse_map object (members_read (depth - 1) ts) else None
first_read depth (Token.end_object ∷ ts) = None
first_read depth (Token.begin_array ∷ ts) = if nat_lt 0 depth then parse_map array (items_read (depth - 1) ts) else None
first_read depth (Token.end_array ∷ ts) = None
first_read depth (Token.key s ∷ ts) = None
first_read depth (Token.string s ∷ ts) = Some (string s, ts)
first_read depth (Token.number s ∷ ts) = option_map (λ n. (number n, ts)) (number_of s)
first_read depth (Token.boolean b ∷ ts) = Some (boolean b, ts)
first_read depth (Token.null ∷ ts) = Some (null, ts)
first_read depth (Token.bad ∷ ts) = None

-- a number may be made a value before or after what is left is added to it
number_read : (ts : List Token) (o : Option Num) → option_map {U = Data × List Token} (λ d. (d, ts)) (option_map number o) ≡ option_map (λ n. (number n, ts)) o
number_read ts None = refl
number_read ts (Some n) = refl

-- the value that is read is what its first token tells
pub by_first_token : (depth : ℕ) (ts : List Token) → value_read depth ts ≡ first_read depth ts
unfolding value
by_first_token depth [] = ap (converted of_json) (value_is depth [])
by_first_token zero (Token.begin_object ∷ ts) = refl
by_first_token (suc depth) (Token.begin_object ∷ ts) =
    let less : suc depth - 1 ≡ depth = omega arith in
    converted-object (members (value depth) (length ts) ts) ∙ ap (λ d. parse_map object (members_read d ts)) (sym less)
    ∙ ap (λ b. if b then parse_map object (members_read (suc depth - 1) ts) else None) (sym (lt-ltb 0 (suc depth) (omega arith)))
by_first_token depth (Token.end_object ∷ ts) = ap (converted of_json) (value_is depth (Token.end_object ∷ ts))
by_first_token zero (Token.begin_array ∷ ts) = refl
by_first_token (suc depth) (Token.begin_array ∷ ts) =
    let less : suc depth - 1 ≡ depth = omega arith in
    converted-array (items (value depth) (length ts) ts) ∙ ap (λ d. parse_map array (items_read d ts)) (sym less)
    ∙ ap (λ b. if b then parse_map array (items_read (suc depth - 1) ts) else None) (sym (lt-ltb 0 (suc depth) (omega arith)))
by_first_token depth (Token.end_array ∷ ts) = ap (converted of_json) (value_is depth (Token.end_array ∷ ts))
by_first_token depth (Token.key s ∷ ts) = ap (converted of_json) (value_is depth (Token.key s ∷ ts))
by_first_token depth (Token.string s ∷ ts) = ap (converted of_json) (value_is depth (Token.string s ∷ ts))
by_first_token depth (Token.number s ∷ ts) = ap (converted of_json) (value_is depth (Token.number s ∷ ts)) ∙ number_read ts (number_of s)
by_first_token depth (Token.boolean b ∷ ts) = ap (converted of_json) (value_is depth (Token.boolean b ∷ ts))
by_first_token depth (Token.null ∷ ts) = ap (converted of_json) (value_is depth (Token.null ∷ ts))
by_first_token depth (Token.bad ∷ ts) = ap (converted of_json) (value_is depth (Token.bad ∷ ts))

-- where the items that are left of an array were read, it is read
pub array_read : (depth : ℕ) (ts : List Token) (t : Token) → t ≡ Token.begin_array → 0 < depth → (is : Items) (rest : List Token)
    → items_read (depth - 1) ts ≡ Some (is, rest) → value_read depth (t ∷ ts) ≡ Some (array is, rest)
array_read depth ts t first some is rest read =
    ap (λ x. converted of_json (value depth (x ∷ ts))) first ∙ by_first_token depth (Token.begin_array ∷ ts)
    ∙ ap (λ b. if b then parse_map array (items_read (depth - 1) ts) else None) (lt-ltb 0 depth some) ∙ ap (parse_map array) read

-- the same of an object
pub object_read : (depth : ℕ) (ts : List Token) (t : Token) → t ≡ Token.begin_object → 0 < depth → (ms : Members) (rest : List Token)
    → members_read (depth - 1) ts ≡ Some (ms, rest) → value_read depth (t ∷ ts) ≡ Some (object ms, rest)
object_read depth ts t first some ms rest read =
    ap (λ x. converted of_json (value depth (x ∷ ts))) first ∙ by_first_token depth (Token.begin_object ∷ ts)
    ∙ ap (λ b. if b then parse_map object (members_read (depth - 1) ts) else None) (lt-ltb 0 depth some) ∙ ap (parse_map object) read

-- ---- a whole text

-- what was read, where nothing is left
abbrev pub at_end : Option (Data × List Token) → Option Data
at_end None = None
at_end (Some (d, [])) = Some d
at_end (Some (d, t ∷ ts)) = None

-- the value of all the tokens is the one that was read, where nothing is left
pub whole : (o : Option (Json × List Token)) → option_and_then of_json (option_and_then (λ p. json.if_last p.0 p.1) o) ≡ at_end (converted of_json o)
whole None = refl
whole (Some (j, [])) = of_value (of_json j)
  where
    of_value : (o : Option Data) → o ≡ at_end (option_map (λ d. (d, [])) o)
    of_value None = refl
    of_value (Some d) = refl
whole (Some (j, t ∷ ts)) = of_value (of_json j)
  where
    of_value : (o : Option Data) → None ≡ at_end (option_map (λ d. (d, t ∷ ts)) o)
    of_value None = refl
    of_value (Some d) = refl

-- a text is read as its first token tells, no deeper than 127, where nothing is left
pub read_by_tokens : (text : List ℕ) → read_text text ≡ at_end (first_read 127 (tokens text))
read_by_tokens text = whole (value 127 (tokens text)) ∙ ap at_end (by_first_token 127 (tokens text))
