use Rattle.std.proofs.Common.{◌≡◌, [], ◌∷◌, Some, None, option_map, ap, sym, ◌∙◌, arith}
use Rattle.json.specs.Reads.{token_of}
use Rattle.json.specs.Json.{value}
use Rattle.json.specs.declared.token.Token.TheVariants.{Null, Bool, Number}
use Rattle.serde_json.specs.Data.{null, boolean, number}
use Rattle.serde_json.specs.Read.{of_json, converted, number_of}
use Rattle.serde_json.specs.View.{number_view}
use Rattle.strkw_json.proofs.Built.{null_built, bool_built, number_built}
use Rattle.strkw_json.proofs.Reading.{by_first_token}
use Rattle.strkw_json.proofs.FirstTokens.{by_token, no_scalar_passed}
use Rattle.strkw_json.proofs.build.json_scalar.Goals as goal

pub returns-in_err-token-clause-none : goal.returns-in_err-token-clause-none
returns-in_err-token-clause-none c refused =
    let empty : c.args.tokens.now ≡ [] = grind arith in
    ap (λ ts. converted of_json (value c.args.depth ts)) empty ∙ by_first_token c.args.depth []

pub returns-in_err-number-in-Number-clause-none : goal.returns-in_err-number-in-Number-clause-none
returns-in_err-number-in-Number-clause-none c refused =
    let text = c.in-Number.text in
    let rest = c.next.new.self in
    let first : c.args.tokens.now ≡ token_of c.in_ok-token.token ∷ rest = grind arith in
    let none : number_of text.now ≡ None = grind (arith, c.in-Number.text-is) in
    by_token c.args.depth c.in_ok-token.token (Number text) c.args.tokens.now rest first c.in-Number.is ∙ ap (option_map (λ n. (number n, rest))) none

pub returns-in-Null-clause-ok : goal.returns-in-Null-clause-ok
returns-in-Null-clause-ok c =
    let first : c.args.tokens.now ≡ token_of c.in_ok-token.token ∷ c.next.new.self = grind arith in
    (null, by_token c.args.depth c.in_ok-token.token Null c.args.tokens.now c.next.new.self first c.in-Null.is, ap Some (sym null_built))

pub returns-in-Bool-clause-ok : goal.returns-in-Bool-clause-ok
returns-in-Bool-clause-ok c =
    let is_true = c.in-Bool.is_true in
    let first : c.args.tokens.now ≡ token_of c.in_ok-token.token ∷ c.next.new.self = grind arith in (
      boolean is_true,
      by_token c.args.depth c.in_ok-token.token (Bool is_true) c.args.tokens.now c.next.new.self first c.in-Bool.is,
      ap Some (sym (bool_built is_true)),
    )

pub returns-in_ok-number-in-Number-clause-ok : goal.returns-in_ok-number-in-Number-clause-ok
returns-in_ok-number-in-Number-clause-ok c =
    let text = c.in-Number.text in
    let built = c.in_ok-number-in-Number.number in
    let rest = c.next.new.self in
    let first : c.args.tokens.now ≡ token_of c.in_ok-token.token ∷ rest = grind arith in
    let some : number_of text.now ≡ Some (number_view built) = grind (arith, c.in-Number.text-is) in (
      number (number_view built),
      by_token c.args.depth c.in_ok-token.token (Number text) c.args.tokens.now rest first c.in-Number.is ∙ ap (option_map (λ n. (number n, rest))) some,
      ap Some (sym (number_built built)),
    )

pub returns-in_default-clause-ok : goal.returns-in_default-clause-ok
returns-in_default-clause-ok c =
    let other = c.in_default in
    let first : c.args.tokens.now ≡ token_of c.in_ok-token.token ∷ c.next.new.self = grind arith in
    let (d, read, none) =
    no_scalar_passed c.args.depth c.in_ok-token.token c.next.new.self c.passes_json.new.tokens other.not-Null other.not-Bool other.not-Number (grind arith)
    in
    (d, ap (λ ts. converted of_json (value c.args.depth ts)) first ∙ read, none)
