-- The request of a line that asks an object of a text, and has no option.
use Rattle.std.proofs.Common.{◌≡◌, ◌-◌, ℕ, List, [], ◌∷◌, length, Some, None, true, false, codes, decimal, option_map, option_and_then, Option, Bool, refl, ap}
use Rattle.std.proofs.Common.{◌∙◌, ◌<◌, arith}
use Rattle.json.specs.Token as spec
use Rattle.json.specs.Json.{Json, value}
use Rattle.json.proofs.Grammar.{left, skip_value-shorter}
use Rattle.serde_json.specs.Data.{Data, Members, no_members, number, object, put, string, unsigned}
use Rattle.serde_json.specs.Read.{converted, of_json, read as read_text}
use Rattle.serde_json.proofs.Numbers.{number_of-decimal}
use Rattle.strkw_json.specs.Passing.{members_read, value_read}
use Rattle.strkw_json.proofs.Reading.{by_first_token, members_end, next_member}
use Rattle.strkw_cache.specs.Depths.{member_depth}
use Rattle.strkw_cache.specs.Fronts.{Asks}
use Rattle.strkw_cache.specs.declared.terms.Terms.{Terms}
use Rattle.strkw_report.specs.declared.draft.Draft.{Draft}
use Rattle.strkw_cli.specs.Request.{Request, request_in, request_of_members}
use Rattle.strkw_cli.proofs.Asked.{asked}

-- what is left behind a value is shorter
shorter : (ts left_over : List spec.Token) (d : Data) → value_read member_depth ts ≡ Some (d, left_over) → length left_over < length ts
shorter ts left_over d read = go (value member_depth ts) refl read
  where
    behind : Option (Data × List spec.Token) → List spec.Token
    behind None = []
    behind (Some x) = x.1

    go : (o : Option (Json × List spec.Token)) → value member_depth ts ≡ o → converted of_json o ≡ Some (d, left_over) → length left_over < length ts
    go None e read = cc
    go (Some (j, r)) e read = skip_value-shorter member_depth ts left_over (ap left e ∙ ap Some (same (of_json j) read))
      where
        same : (o : Option Data) → option_map {U = Data × List spec.Token} (λ x. (x, r)) o ≡ Some (d, left_over) → r ≡ left_over
        same None e = cc
        same (Some x) e = ap behind e

module _ (t : Terms) (text line : List ℕ) (ms : Members) (asks : Asks t ms text line) where
  -- the tokens from the key of the instance on
  abbrev at_instance : List spec.Token
  at_instance = spec.key (codes "instance") ∷ spec.string text ∷ spec.end_object ∷ []

  -- from that of the schema object on
  abbrev at_schema : List spec.Token
  at_schema = spec.key (codes "schema") ∷ asks.behind

  -- and from that of the draft on
  abbrev at_draft : List spec.Token
  at_draft = spec.key (codes "draft") ∷ spec.number (decimal asks.draft.number) ∷ at_schema

  -- the members of the line
  abbrev with_draft : Members
  with_draft = put (codes "draft") (number (unsigned asks.draft.number)) no_members

  abbrev with_schema : Members
  with_schema = put (codes "schema") (object ms) with_draft

  abbrev with_instance : Members
  with_instance = put (codes "instance") (string text) with_schema

  -- the number of the draft is read
  draft_read : value_read 126 (spec.number (decimal asks.draft.number) ∷ at_schema) ≡ Some (number (unsigned asks.draft.number), at_schema)
  draft_read = by_first_token 126 (spec.number (decimal asks.draft.number) ∷ at_schema)
      ∙ ap (option_map (λ n. (number n, at_schema))) (number_of-decimal asks.draft.number asks.draft.small)

  -- there are enough tokens
  tokens_long : 6 < length at_draft
  tokens_long = omega (arith, shorter asks.behind at_instance (object ms) asks.read)

  -- the members are read
  line_read : members_read 126 at_draft ≡ Some (with_instance, [])
  line_read =
      let n = length at_draft in
      next_member (value 126) no_members n (codes "draft") at_draft _ at_schema (number (unsigned asks.draft.number))
      (omega (arith, tokens_long)) refl draft_read
      ∙ next_member (value 126) with_draft (n - 1) (codes "schema") at_schema _ at_instance (object ms) (omega (arith, tokens_long)) refl
      asks.read
      ∙ next_member (value 126) with_schema (n - 1 - 1) (codes "instance") at_instance _ (spec.end_object ∷ []) (string text) (omega (arith, tokens_long)) refl
      (by_first_token 126 (spec.string text ∷ spec.end_object ∷ []))
      ∙ members_end (value 126) with_instance (n - 1 - 1 - 1) (spec.end_object ∷ []) [] (omega (arith, tokens_long)) refl

  -- the request that they make
  abbrev pub shared : Request
  shared = record {
    draft = t.draft;
    schema = ms;
    instance = Some text;
    validate_formats = t.validate_formats;
    ignore_unknown_formats = t.ignore_unknown_formats;
    fold = false;
  }

  -- the request of a draft that is found
  abbrev made_of : Draft → Option Request
  made_of draft = Some (record {
    draft = draft;
    schema = ms;
    instance = Some text;
    validate_formats = None;
    ignore_unknown_formats = true;
    fold = false;
  })

  -- it has the options of the terms
  with_options : (validate : Option Bool) (ignore : Bool) → validate ≡ None → ignore ≡ true → made_of t.draft ≡ Some (record {
    draft = t.draft;
    schema = ms;
    instance = Some text;
    validate_formats = validate;
    ignore_unknown_formats = ignore;
    fold = false;
  })
  with_options validate ignore none is_true = rw (none, is_true) refl

  -- the members make it
  members_made : request_of_members with_instance ≡ Some shared
  members_made = ap (option_and_then made_of) asks.draft.names
      ∙ with_options t.validate_formats t.ignore_unknown_formats asks.options.validate_formats asks.options.ignore_unknown_formats

  -- So the line is read as that request.
  pub line_asks : option_and_then request_in (read_text line) ≡ Some shared
  line_asks = asked line at_draft with_instance asks.tokens line_read ∙ members_made
