-- The tokens of a line that asks an object of a text.
use Rattle.std.proofs.Common.{◌≡◌, ◌<◌, ◌^◌, ℕ, Bool, List, [], ◌∷◌, ◌++◌, Option, Some, None, option_map, true, false, fold, codes, decimal, refl, sym, ap}
use Rattle.std.proofs.Common.{subst, ◌∙◌, append_assoc, append-nil}
use Rattle.std.proofs.lemmas.Bool.{false≢true}
use Rattle.std.proofs.lemmas.List.Sums.{fold-append}
use Rattle.json.specs.Align.{is_good}
use Rattle.json.specs.Json as json
use Rattle.json.specs.Json.{Json, value}
use Rattle.json.specs.Token.{Token, begin_object, end_object, key, number, string}
use Rattle.json.specs.Lex.{after_value, between, colon, comma, fresh, lex, punctuate, token, tokens}
use Rattle.json.specs.Print.{ArePrintable, IsPrintable, ends, escape}
use Rattle.json.specs.Tree.{json_tokens, members_tokens}
use Rattle.json.specs.Text.{content}
use Rattle.json.proofs.Numbered.{ArePrintableOrBad-tokens, value-HasNumbers}
use Rattle.json.proofs.Printed.Decimals.{IsNumber-decimal}
use Rattle.json.proofs.Printed.Numbers.{lex-number}
use Rattle.json.proofs.Printed.Tokens.{ends_push}
use Rattle.json.proofs.Printed.Trees.{ArePrintable-json_tokens}
use Rattle.json.proofs.Unique.Spelling.{value-json_tokens_back}
use Rattle.serde_json.specs.Data as json_data
use Rattle.serde_json.specs.Data.{Data, Members, object}
use Rattle.serde_json.specs.Read.{converted, number_of, of_items, of_json}
use Rattle.strkw_json.specs.Passing.{value_read}
use Rattle.strkw_report.specs.declared.draft.Draft.{Draft}
use Rattle.strkw_cache.specs.Depths.{member_depth}
use Rattle.strkw_cache.specs.Fronts.{AreFront, AreGood, Asks, HasNoOption, IsFront, Numbered, front_tokens, line_tokens}
use Rattle.strkw_cache.specs.declared.terms.Terms.{Terms}
use Rattle.strkw_cache.proofs.Ahead.{LastAlone, behind, left_at, read_ahead, stands_alone, string_read}
use Rattle.strkw_cache.proofs.Reading.{read_before}

-- ---- tokens that are not bad

-- one more
pub good_push : (ts : List Token) (t : Token) → AreGood ts → is_good t ≡ true → AreGood (ts ++ t ∷ [])
good_push [] t good is = (is, tt)
good_push (u ∷ ts) t good is = (good.0, good_push ts t good.1 is)

-- those that can be written
good_printable : (t : Token) → IsPrintable t → is_good t ≡ true
good_printable begin_object is = refl
good_printable end_object is = refl
good_printable (key s) is = refl
good_printable (string s) is = refl
good_printable (number s) is = refl
good_printable Token.begin_array is = refl
good_printable Token.end_array is = refl
good_printable (Token.boolean b) is = refl
good_printable Token.null is = refl
good_printable Token.bad is = absurd is

-- So it is of all of them.
all_good : (ts : List Token) → ArePrintable ts → AreGood ts
unfolding ArePrintable
all_good [] are = tt
all_good (t ∷ ts) are = (good_printable t are.0, all_good ts are.1)

-- what was read
abbrev first_of : Option (Data × List Token) → Option Data
first_of None = None
first_of (Some x) = Some x.0

-- and what is left behind it
abbrev behind_of : Option (Data × List Token) → List Token
behind_of None = []
behind_of (Some x) = x.1

-- those of a text that is a value
good_value : (depth : ℕ) (text : List ℕ) (d : Data) → value_read depth (tokens text) ≡ Some (d, [])
    → (j : Json) × AreGood (tokens text) × (tokens text ≡ json_tokens j) × (of_json j ≡ Some d)
good_value depth text d read = go (value depth (tokens text)) refl read
  where
    left : (j : Json) (o : Option Data) (r : List Token) → of_json j ≡ o → option_map {U = Data × List Token} (λ x. (x, r)) o ≡ Some (d, [])
        → (r ≡ []) × (of_json j ≡ Some d)
    left j None r is e = cc
    left j (Some x) r is e = (ap behind_of e, is ∙ ap first_of e)

    go : (o : Option (Json × List Token)) → value depth (tokens text) ≡ o → converted of_json o ≡ Some (d, [])
        → (j : Json) × AreGood (tokens text) × (tokens text ≡ json_tokens j) × (of_json j ≡ Some d)
    go None e read = cc
    go (Some (j, r)) e read =
        let (over, is) = left j (of_json j) r refl read in
        let numbers = value-HasNumbers depth (tokens text) r j (ArePrintableOrBad-tokens text) e in
        let whole : tokens text ≡ json_tokens j = value-json_tokens_back depth (tokens text) r j e ∙ ap (λ l. json_tokens j ++ l) over
        ∙ append-nil (json_tokens j) in
        (j, subst AreGood (sym whole) (all_good (json_tokens j) (ArePrintable-json_tokens j numbers)), whole, is)

-- what the tokens of members leave behind is what the brace does that ends them
last_of_members : {A : Type 0} (f : Token → A) (a : A) (ms : json.Members) → fold (λ _ t. f t) a (members_tokens ms) ≡ f end_object
last_of_members f a json.no_members = refl
last_of_members f a (json.member k j ms) = fold-append (λ _ t. f t) (f (key k)) (json_tokens j) (members_tokens ms) ∙ last_of_members f _ ms

-- what was converted is an object
abbrev is_object : Option Data → Bool
is_object None = false
is_object (Some json_data.null) = false
is_object (Some (json_data.boolean b)) = false
is_object (Some (json_data.number n)) = false
is_object (Some (json_data.string s)) = false
is_object (Some (json_data.array ds)) = false
is_object (Some (json_data.object ms)) = true

-- a number is none
no_number : (o : Option json_data.Num) → is_object (option_map json_data.number o) ≡ false
no_number None = refl
no_number (Some n) = refl

-- nor is an array
no_array : (o : Option json_data.Items) → is_object (option_map json_data.array o) ≡ false
no_array None = refl
no_array (Some ds) = refl

-- So it says of an object what it says of the brace that ends it.
last_of_object : {A : Type 0} (f : Token → A) (a : A) (j : Json) (ms : Members) → of_json j ≡ Some (object ms) → fold (λ _ t. f t) a (json_tokens j)
    ≡ f end_object
last_of_object f a json.null ms is = absurd (false≢true (ap is_object is))
last_of_object f a (json.boolean b) ms is = absurd (false≢true (ap is_object is))
last_of_object f a (json.number s) ms is = absurd (false≢true (sym (no_number (number_of s)) ∙ ap is_object is))
last_of_object f a (json.string s) ms is = absurd (false≢true (ap is_object is))
last_of_object f a (json.array js) ms is = absurd (false≢true (sym (no_array (of_items js)) ∙ ap is_object is))
last_of_object f a (json.object js) ms is = last_of_members f (f begin_object) js

-- ---- what stands before the text

-- it is read apart from what stands behind it
pub front_read : (d : Draft) (schema : List Token) (before : List ℕ) → (is : AreFront d schema (tokens before))
    → (rest : List ℕ) → tokens (before ++ rest) ≡ front_tokens is.draft.number schema ++ tokens rest
front_read d schema before is rest =
    let front = line_tokens is.draft.number schema in
    let good : AreGood (tokens before) = subst AreGood (sym is.tokens) (refl, (refl, (refl, (refl, good_push schema (key (codes "instance")) is.good refl)))) in
    let alone : LastAlone true (tokens before) = subst (LastAlone true) (sym is.tokens)
    (fold-append (λ _ t. stands_alone t) true front (key (codes "instance") ∷ [])) in
    let opens : left_at fresh (tokens before) ≡ fresh = ap (left_at fresh) is.tokens ∙ ap behind (ends_push false front (key (codes "instance"))) in
    read_ahead before rest good alone ∙ ap (λ p. tokens before ++ punctuate p (lex between rest)) opens ∙ ap (λ ts. ts ++ tokens rest) is.tokens

-- ---- the text

-- a text with no escape between quotation marks and a brace
text_tokens : (text : List ℕ) → escape text ≡ text → tokens (codes "\"" ++ (text ++ codes "\"}")) ≡ string text ∷ end_object ∷ []
unfolding lex punctuate
text_tokens text plain = ap (punctuate fresh) (string_read text (codes "}") plain)

-- So a line that is a front, such a text and what ends it asks the object of the text.
pub asked : (t : Terms) (schema : List Token) (ms : Members) (front text line : List ℕ) → IsFront t schema front
    → value_read member_depth schema ≡ Some (object ms, []) → escape text ≡ text → line ≡ front ++ (text ++ codes "\"}") → Asks t ms text line
asked t schema ms front text line is read plain stands =
    let before = is.before in
    let asks = key (codes "instance") ∷ string text ∷ end_object ∷ [] in
    record {
      draft = is.draft;
      options = is.options;
      behind = schema ++ asks;
      tokens = ap tokens (stands ∙ ap (λ l. l ++ (text ++ codes "\"}")) is.text ∙ append_assoc before (codes "\"") (text ++ codes "\"}"))
          ∙ is.reads (codes "\"" ++ (text ++ codes "\"}")) ∙ ap (λ l. front_tokens is.draft.number schema ++ l) (text_tokens text plain)
          ∙ ap (line_tokens is.draft.number) (append_assoc schema (key (codes "instance") ∷ []) (string text ∷ end_object ∷ []));
      read = read_before member_depth schema asks (schema ++ asks) (object ms) read refl;
    }

-- ---- a line whose object is read

-- what stands behind the number of the draft and the key of the object
pub draft_read : (n : ℕ) (front behind rest : List ℕ) → n < 2 ^ 64 → front ≡ codes "{\"draft\":" ++ (decimal n ++ (codes ",\"schema\":" ++ behind))
    → tokens (front ++ rest) ≡ line_tokens n (tokens (behind ++ rest))
unfolding lex punctuate content
draft_read n front behind rest small stands =
    let begin = codes "{\"draft\":" in
    let at_schema = codes ",\"schema\":" in
    ap (λ l. tokens (l ++ rest)) stands
    ∙ ap (λ l. tokens (begin ++ l)) (append_assoc (decimal n) (at_schema ++ behind) rest)
    ∙ ap (λ ls. punctuate fresh (token begin_object ∷ token (string (codes "draft")) ∷ colon ∷ ls))
    (lex-number (decimal n) (at_schema ++ (behind ++ rest)) (IsNumber-decimal n small) refl)

-- what stands behind the object
text_behind : (text : List ℕ) → escape text ≡ text
    → punctuate after_value (lex between (codes ",\"instance\":" ++ (codes "\"" ++ (text ++ codes "\"}")))) ≡ key
    (codes "instance") ∷ string text ∷ end_object ∷ []
unfolding lex punctuate content
text_behind text plain = ap (λ ls. punctuate after_value (comma ∷ token (string (codes "instance")) ∷ colon ∷ ls)) (string_read text (codes "}") plain)

-- the object, the key of the instance, and a text
pub asked_anew : (t : Terms) (ms : Members) (before schema text line : List ℕ) → HasNoOption t → (named : Numbered t.draft)
    → line ≡ before ++ (codes "\"" ++ (text ++ codes "\"}")) → escape text ≡ text
    → ((rest : List ℕ) → tokens (before ++ rest) ≡ line_tokens named.number (tokens (schema ++ (codes ",\"instance\":" ++ rest))))
    → value_read member_depth (tokens schema) ≡ Some (object ms, []) → Asks t ms text line
asked_anew t ms before schema text line options named stands plain reads read =
    let (j, good, is, made) = good_value member_depth schema (object ms) read in
    let rest = codes "\"" ++ (text ++ codes "\"}") in
    let behind_it = codes ",\"instance\":" ++ rest in
    let asks = key (codes "instance") ∷ string text ∷ end_object ∷ [] in
    let alone : LastAlone true (tokens schema) = ap (λ ts. fold (λ _ t. stands_alone t) true ts) is ∙ last_of_object stands_alone true j ms made in
    let place : left_at fresh (tokens schema) ≡ after_value = ap behind (ap (λ ts. fold (λ _ t. ends t) false ts) is ∙ last_of_object ends false j ms made) in
    let ahead : tokens (schema ++ behind_it) ≡ tokens schema ++ asks =
    read_ahead schema behind_it good alone ∙ ap (λ p. tokens schema ++ punctuate p (lex between behind_it)) place
    ∙ ap (λ ts. tokens schema ++ ts) (text_behind text plain) in
    record {
      draft = named;
      options = options;
      behind = tokens schema ++ asks;
      tokens = ap tokens stands ∙ reads rest ∙ ap (line_tokens named.number) ahead;
      read = read_before member_depth (tokens schema) asks (tokens schema ++ asks) (object ms) read refl;
    }
