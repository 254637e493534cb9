-- What is seen in a value, by its first token.
use Rattle.std.proofs.Common.{◌≡◌, ℕ, zero, suc, ◌-◌, ◌<◌, nat_lt, if◌then◌else◌, List, ◌∷◌, Bool, true}
use Rattle.std.proofs.Common.{false, Option, Some, None, option_map, option_and_then, refl, sym, ap}
use Rattle.std.proofs.Common.{◌∙◌, Bor, arith}
use Rattle.json.specs.Token as spec
use Rattle.json.specs.Json.{parse_map, value}
use Rattle.json.specs.Reads.{token_of}
use Rattle.json.specs.declared.token.Token.{Token}
use Rattle.json.specs.declared.token.Token.TheVariants.{BeginObject, EndObject, BeginArray, EndArray, Key, String, Number, Bad}
use Rattle.json.specs.declared.token.Token.TheVariants as token
use Rattle.json.proofs.Grammar.{left_some}
use Rattle.serde_json.specs.Data.{Num, Data, number, array, object}
use Rattle.serde_json.specs.Find.{as_object, as_str}
use Rattle.serde_json.specs.Read.{of_json, converted, number_of}
use Rattle.strkw_json.specs.Passing.{value_read, items_read, members_read, after_value, scalar_in}
use Rattle.strkw_json.proofs.Reading.{first_read, by_first_token}

-- a value is read as its first token tells
pub by_token : (depth : ℕ) (t is : Token) (ts rest : List spec.Token) → ts ≡ token_of t ∷ rest → t ≡ is
    → value_read depth ts ≡ first_read depth (token_of is ∷ rest)
by_token depth t is ts rest first same =
    ap (λ us. converted of_json (value depth us)) (first ∙ ap (λ u. token_of u ∷ rest) same) ∙ by_first_token depth (token_of is ∷ rest)

-- the part of what was read
abbrev pub seen : {A : Type 0} → (Data → Option A) → Option (Data × List spec.Token) → Option A
seen part r = option_and_then (λ p. part p.0) r

module _ {B : Type 0} (part : Data → Option B) where
  -- nothing is seen in what was read, where no value of its kind has the part
  pub none_seen : {A : Type 0} (f : A → Data) → ((a : A) → part (f a) ≡ None) → (r : Option (A × List spec.Token)) → seen part (parse_map f r) ≡ None
  none_seen f none None = refl
  none_seen f none (Some p) = none p.0

  -- nor is anything where it was read only if a test holds
  pub none_seen_if : (b : Bool) (r : Option (Data × List spec.Token)) → seen part r ≡ None → seen part (if b then r else None) ≡ None
  none_seen_if true r none = none
  none_seen_if false r none = refl

  -- and nothing is seen in a number, where no number has the part
  pub none_in_number : ((n : Num) → part (number n) ≡ None) → (ts : List spec.Token) (o : Option Num)
      → seen part (option_map (λ n. (number n, ts)) o) ≡ None
  none_in_number none ts None = refl
  none_in_number none ts (Some n) = none n

-- no text is seen in a value whose first token is none
no_text : (depth : ℕ) (t : Token) (ts : List spec.Token) → ((s : Bor (List ℕ)) → t ≡ String s → ⊥)
    → seen as_str (first_read depth (token_of t ∷ ts)) ≡ None
no_text depth BeginObject ts other = none_seen_if as_str (nat_lt 0 depth) _ (none_seen as_str object (λ ms. refl) (members_read (depth - 1) ts))
no_text depth EndObject ts other = refl
no_text depth BeginArray ts other = none_seen_if as_str (nat_lt 0 depth) _ (none_seen as_str array (λ is. refl) (items_read (depth - 1) ts))
no_text depth EndArray ts other = refl
no_text depth (Key s) ts other = refl
no_text depth (String s) ts other = absurd (other s refl)
no_text depth (Number s) ts other = none_in_number as_str (λ n. refl) ts (number_of s.now)
no_text depth (token.Bool b) ts other = refl
no_text depth token.Null ts other = refl
no_text depth Bad ts other = refl

-- no number, truth value or null is seen in one whose first token is none
no_scalar : (depth : ℕ) (t : Token) (ts : List spec.Token) → (t ≡ token.Null → ⊥) → ((b : Bool) → t ≡ token.Bool b → ⊥)
    → ((s : Bor (List ℕ)) → t ≡ Number s → ⊥) → seen scalar_in (first_read depth (token_of t ∷ ts)) ≡ None
no_scalar depth BeginObject ts not_null not_bool not_number =
    none_seen_if scalar_in (nat_lt 0 depth) _ (none_seen scalar_in object (λ ms. refl) (members_read (depth - 1) ts))
no_scalar depth EndObject ts not_null not_bool not_number = refl
no_scalar depth BeginArray ts not_null not_bool not_number =
    none_seen_if scalar_in (nat_lt 0 depth) _ (none_seen scalar_in array (λ is. refl) (items_read (depth - 1) ts))
no_scalar depth EndArray ts not_null not_bool not_number = refl
no_scalar depth (Key s) ts not_null not_bool not_number = refl
no_scalar depth (String s) ts not_null not_bool not_number = refl
no_scalar depth (Number s) ts not_null not_bool not_number = absurd (not_number s refl)
no_scalar depth (token.Bool b) ts not_null not_bool not_number = absurd (not_bool b refl)
no_scalar depth token.Null ts not_null not_bool not_number = absurd (not_null refl)
no_scalar depth Bad ts not_null not_bool not_number = refl

-- and no object is seen in one whose first token begins none, or at the depth 0
no_object : (depth : ℕ) (t : Token) (ts : List spec.Token) → (t ≡ BeginObject → 0 < depth → ⊥)
    → seen as_object (first_read depth (token_of t ∷ ts)) ≡ None
no_object zero BeginObject ts other = refl
no_object (suc depth) BeginObject ts other = absurd (other refl (omega arith))
no_object depth EndObject ts other = refl
no_object depth BeginArray ts other = none_seen_if as_object (nat_lt 0 depth) _ (none_seen as_object array (λ is. refl) (items_read (depth - 1) ts))
no_object depth EndArray ts other = refl
no_object depth (Key s) ts other = refl
no_object depth (String s) ts other = refl
no_object depth (Number s) ts other = none_in_number as_object (λ n. refl) ts (number_of s.now)
no_object depth (token.Bool b) ts other = refl
no_object depth token.Null ts other = refl
no_object depth Bad ts other = refl

-- what is not seen in the value that was passed over, it has not
none_passed : {B : Type 0} (part : Data → Option B) (depth : ℕ) (t : spec.Token) (ts rest : List spec.Token)
    → seen part (first_read depth (t ∷ ts)) ≡ None
    → after_value depth (t ∷ ts) ≡ Some rest → (d : Data) × (value_read depth (t ∷ ts) ≡ Some (d, rest)) × (part d ≡ None)
none_passed part depth t ts rest none is =
    let (d, read) = left_some (value_read depth (t ∷ ts)) rest is in
    (d, read, sym (ap (seen part) (sym (by_first_token depth (t ∷ ts)) ∙ read)) ∙ none)

-- so it is no text where its first token is none
pub no_text_passed : (depth : ℕ) (t : Token) (ts rest : List spec.Token) → ((s : Bor (List ℕ)) → t ≡ String s → ⊥)
    → after_value depth (token_of t ∷ ts) ≡ Some rest
    → (d : Data) × (value_read depth (token_of t ∷ ts) ≡ Some (d, rest)) × (as_str d ≡ None)
no_text_passed depth t ts rest other = none_passed as_str depth (token_of t) ts rest (no_text depth t ts other)

-- nor is it a number, a truth value or null
pub no_scalar_passed : (depth : ℕ) (t : Token) (ts rest : List spec.Token) → (t ≡ token.Null → ⊥) → ((b : Bool) → t ≡ token.Bool b → ⊥)
    → ((s : Bor (List ℕ)) → t ≡ Number s → ⊥) → after_value depth (token_of t ∷ ts) ≡ Some rest
    → (d : Data) × (value_read depth (token_of t ∷ ts) ≡ Some (d, rest)) × (scalar_in d ≡ None)
no_scalar_passed depth t ts rest not_null not_bool not_number =
    none_passed scalar_in depth (token_of t) ts rest (no_scalar depth t ts not_null not_bool not_number)

-- nor an object
pub no_object_passed : (depth : ℕ) (t : Token) (ts rest : List spec.Token) → (t ≡ BeginObject → 0 < depth → ⊥)
    → after_value depth (token_of t ∷ ts) ≡ Some rest
    → (d : Data) × (value_read depth (token_of t ∷ ts) ≡ Some (d, rest)) × (as_object d ≡ None)
no_object_passed depth t ts rest other = none_passed as_object depth (token_of t) ts rest (no_object depth t ts other)
