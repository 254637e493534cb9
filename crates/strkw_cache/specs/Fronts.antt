-- The line by which a schema object is asked of a text most often: the draft, the object and the
-- text, and no option.
use Rattle.std.specs.Prelude.{◌≡◌, ◌<◌, ◌^◌, ◌++◌, ℕ, List, [], ◌∷◌, Some, None, true, ⊤, codes}
use Rattle.std.specs.Prelude.{decimal}
use Rattle.json.specs.Align.{is_good}
use Rattle.json.specs.Lex.{tokens}
use Rattle.json.specs.Token.{Token, begin_object, end_object, key, number, string}
use Rattle.serde_json.specs.Data.{Members, object}
use Rattle.strkw_json.specs.Passing.{value_read}
use Rattle.strkw_report.specs.Drafts.{draft_numbered}
use Rattle.strkw_report.specs.declared.draft.Draft.{Draft}
use Rattle.strkw_cache.specs.Depths.{member_depth}
use Rattle.strkw_cache.specs.declared.terms.Terms.{Terms}

-- a number names the draft
pub record Numbered (d : Draft) : Type 0 where
  pub number : ℕ
  pub names : draft_numbered number ≡ Some d
  pub small : number < 2 ^ 64

-- a line with no option is compiled under the terms
pub record HasNoOption (t : Terms) : Type 0 where
  pub validate_formats : t.validate_formats ≡ None
  pub ignore_unknown_formats : t.ignore_unknown_formats ≡ true

-- the tokens of a line whose first member is the draft of this number, and whose second is the
-- schema object: those behind its key follow
abbrev pub line_tokens : ℕ → List Token → List Token
line_tokens n behind = begin_object ∷ key (codes "draft") ∷ number (decimal n)
    ∷ key (codes "schema") ∷ behind

-- the tokens of such a line before the text, where the object has these tokens
abbrev pub front_tokens : ℕ → List Token → List Token
front_tokens n schema = line_tokens n (schema ++ key (codes "instance") ∷ [])

-- none of the tokens is bad
abbrev pub AreGood : List Token → Type 0
AreGood [] = ⊤
AreGood (t ∷ ts) = (is_good t ≡ true) × AreGood ts

-- they are the tokens of such a line before the text
pub record AreFront (d : Draft) (schema ts : List Token) : Type 0 where
  pub draft : Numbered d
  pub good : AreGood schema
  pub tokens : ts ≡ front_tokens draft.number schema

-- These bytes are what stands in such a line before the text, and the quotation mark that begins
-- it. Whatever stands in place of the mark, the tokens of such a line are read before it.
pub record IsFront (t : Terms) (schema : List Token) (bytes : List ℕ) : Type 0 where
  pub draft : Numbered t.draft
  pub options : HasNoOption t
  pub before : List ℕ
  pub text : bytes ≡ before ++ codes "\""
  pub reads : (rest : List ℕ) → tokens (before ++ rest)
      ≡ front_tokens draft.number schema ++ tokens rest

-- A line asks the object of these members, compiled under the terms, of a text, and nothing else.
pub record Asks (t : Terms) (ms : Members) (text line : List ℕ) : Type 0 where
  pub draft : Numbered t.draft
  pub options : HasNoOption t
  pub behind : List Token
  pub tokens : tokens line ≡ line_tokens draft.number behind
  pub read : value_read member_depth behind
      ≡ Some (object ms, key (codes "instance") ∷ string text ∷ end_object ∷ [])
