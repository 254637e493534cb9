-- A line that begins with its draft and its schema object.
use Rattle.std.proofs.Common.{◌≡◌, ◌++◌, append-nil, ◌-◌, ◌<◌, ◌^◌, ℕ, List, [], ◌∷◌, length, Bool, Option, option_and_then, option_map, Some, None, codes, decimal, refl, sym, ap, ◌∙◌, arith}
use Rattle.std.specs.Prelude.{IfSome}
use Rattle.json.specs.Lex.{tokens}
use Rattle.json.specs.Token.{Token, begin_object}
use Rattle.json.specs.Json.{value}
use Rattle.serde_json.specs.Data.{Data, Members, no_members, number, put, unsigned}
use Rattle.serde_json.specs.Find.{as_object}
use Rattle.serde_json.specs.Read.{read as read_text}
use Rattle.serde_json.proofs.Numbers.{number_of-decimal}
use Rattle.strkw_json.specs.Passing.{members_read, value_read}
use Rattle.strkw_json.proofs.Reading.{by_first_token, next_member, no_next_member}
use Rattle.strkw_object.specs.declared.values.OwnedValues.{OwnedValues}
use Rattle.strkw_report.specs.Drafts.{draft_numbered}
use Rattle.strkw_report.specs.declared.draft.Draft.{Draft}
use Rattle.strkw_cache.specs.Depths.{member_depth}
use Rattle.strkw_cache.specs.Fronts.{line_tokens}
use Rattle.strkw_cli.specs.Borrowed.{IsObject, IsRight}
use Rattle.strkw_cli.specs.Both.{AreBoth}
use Rattle.strkw_cli.specs.Parts.{AreParts, members_behind, request_left}
use Rattle.strkw_cli.specs.Request.{request_in}
use Rattle.strkw_cli.proofs.Asked.{by_members}
use Rattle.strkw_cli.specs.declared.request.Parts.{Parts}
use Rattle.strkw_cli.specs.declared.request.Schema.{Schema}

-- the draft of this number, the only member
abbrev pub with_draft : ℕ → Members
with_draft n = put (codes "draft") (number (unsigned n)) no_members

-- The parts that a draft and an object come to, where there was none before.
pub are_begun : (n : ℕ) (cached : Bool) (values : OwnedValues) (p : Parts) (draft : Draft) (schema : Option Schema) (d : Data)
    → AreParts cached values p no_members → draft_numbered n ≡ Some draft → AreBoth (IsObject values) schema (as_object d) → IfSome schema (IsRight cached)
    → AreParts cached values (record {
      draft = Some draft;
      schema = schema;
      instance = p.instance;
      validate_formats = p.validate_formats;
      ignore_unknown_formats = p.ignore_unknown_formats;
      fold = p.fold;
      has_only_request_keys = p.has_only_request_keys;
    }) (put (codes "schema") d (with_draft n))
are_begun n cached values p draft schema d none names are right = record {
  draft = sym names;
  schema = are;
  instance = none.instance;
  validate_formats = none.validate_formats;
  ignore_unknown_formats = none.ignore_unknown_formats;
  fold = none.fold;
  known = none.known;
  right = right;
}

module _ (n : ℕ) (small : n < 2 ^ 64) (behind : List Token) where
  -- the tokens from the key of the schema object on
  abbrev at_schema : List Token
  at_schema = Token.key (codes "schema") ∷ behind

  -- and from that of the draft on
  abbrev at_draft : List Token
  at_draft = Token.key (codes "draft") ∷ Token.number (decimal n) ∷ at_schema

  draft_read : value_read 126 (Token.number (decimal n) ∷ at_schema) ≡ Some (number (unsigned n), at_schema)
  draft_read = by_first_token 126 (Token.number (decimal n) ∷ at_schema) ∙ ap (option_map (λ x. (number x, at_schema))) (number_of-decimal n small)

  -- the members behind the draft are to be read
  behind_draft : members_read 126 at_draft ≡ members_behind (length at_draft - 1) (with_draft n) at_schema
  behind_draft = next_member (value 126) no_members (length at_draft) (codes "draft") at_draft _ at_schema (number (unsigned n)) (omega arith) refl draft_read

  -- and those behind the object
  begun : (d : Data) (left : List Token) → value_read member_depth behind ≡ Some (d, left)
      → members_read 126 at_draft ≡ members_behind (length at_draft - 1 - 1) (put (codes "schema") d (with_draft n)) left
  begun d left read = behind_draft ∙ next_member (value 126) (with_draft n) (length at_draft - 1) (codes "schema") at_schema _ left d (omega arith) refl read

  -- where there is no object, and no other value, no members are read
  not_begun : value_read member_depth behind ≡ None → members_read 126 at_draft ≡ None
  not_begun none = behind_draft ∙ no_next_member (value 126) (with_draft n) (length at_draft - 1) (codes "schema") at_schema _ refl none

-- The request that a line is which begins with this draft, and with what stands behind it.
module _ (text behind : List ℕ) (n : ℕ) (small : n < 2 ^ 64)
    (reads : (rest : List ℕ) → tokens (text ++ rest) ≡ line_tokens n (tokens (behind ++ rest))) (ts : List Token) (are : ts ≡ tokens behind) where
  -- its tokens
  first : tokens text ≡ begin_object ∷ at_draft n small ts
  first = ap tokens (sym (append-nil text)) ∙ reads [] ∙ ap (λ l. line_tokens n (tokens l)) (append-nil behind) ∙ ap (λ l. line_tokens n l) (sym are)

  -- it is that of the members behind the object
  pub request_begun : (d : Data) (left : List Token) → value_read member_depth ts ≡ Some (d, left)
      → option_and_then request_in (read_text text)
      ≡ request_left (members_behind (length (at_draft n small ts) - 1 - 1) (put (codes "schema") d (with_draft n)) left)
  request_begun d left read = by_members text _ first ∙ ap request_left (begun n small ts d left read)

  -- there is none where no value stands there
  pub no_request_begun : value_read member_depth ts ≡ None → option_and_then request_in (read_text text) ≡ None
  no_request_begun none = by_members text _ first ∙ ap request_left (not_begun n small ts none)
