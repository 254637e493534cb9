use Rattle.std.proofs.Common.{◌≡◌, [], ◌∷◌, Some, ap, ◌∙◌, arith}
use Rattle.json.specs.Reads.{token_of}
use Rattle.json.specs.Json.{value}
use Rattle.json.specs.declared.token.Token.TheVariants.{String}
use Rattle.serde_json.specs.Data.{string}
use Rattle.serde_json.specs.Read.{of_json, converted}
use Rattle.strkw_json.proofs.Reading.{by_first_token}
use Rattle.strkw_json.proofs.FirstTokens.{by_token, no_text_passed}
use Rattle.strkw_json.proofs.build.json_text.Goals as goal

pub returns-in_err-token-clause-none : goal.returns-in_err-token-clause-none
returns-in_err-token-clause-none c refused =
    let empty : c.args.tokens.now ≡ [] = grind arith in
    ap (λ ts. converted of_json (value c.args.depth ts)) empty ∙ by_first_token c.args.depth []

pub returns-in-String-clause-ok : goal.returns-in-String-clause-ok
returns-in-String-clause-ok c =
    let text = c.in-String.text in
    let first : c.args.tokens.now ≡ token_of c.in_ok-token.token ∷ c.next.new.self = grind arith in (
      string text.now,
      by_token c.args.depth c.in_ok-token.token (String text) c.args.tokens.now c.next.new.self first c.in-String.is,
      ap (λ s. Some s.now) c.in-String.text-is,
    )

pub returns-in_default-clause-ok : goal.returns-in_default-clause-ok
returns-in_default-clause-ok c =
    let first : c.args.tokens.now ≡ token_of c.in_ok-token.token ∷ c.next.new.self = grind arith in
    let (d, read, none) =
    no_text_passed c.args.depth c.in_ok-token.token c.next.new.self c.passes_json.new.tokens c.in_default.not-String (grind arith) in
    (d, ap (λ ts. converted of_json (value c.args.depth ts)) first ∙ read, none)
