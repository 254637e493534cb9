use Rattle.std.proofs.Common.{◌≡◌, ◌<◌, ◌-◌, [], ◌∷◌, None, if◌then◌else◌, ap, ◌∙◌, lt-ltb, refl, arith}
use Rattle.json.specs.Reads.{token_of}
use Rattle.json.specs.Json.{value, parse_map}
use Rattle.json.specs.declared.token.Token.TheVariants.{BeginObject}
use Rattle.serde_json.specs.Data.{object}
use Rattle.serde_json.specs.Read.{of_json, converted}
use Rattle.serde_json.specs.View.{members_view}
use Rattle.strkw_json.specs.Passing.{members_read}
use Rattle.strkw_json.proofs.Reading.{by_first_token, object_read}
use Rattle.strkw_json.proofs.FirstTokens.{by_token, no_object_passed}
use Rattle.strkw_json.proofs.build.build_object.Goals as goal
use Rattle.strkw_json.proofs.build.build_object.Goals.{in_default-via-in-BeginObject+else-depth-gt0, in_default-via-in_default}

pub returns-in_err-token-clause-none : goal.returns-in_err-token-clause-none
returns-in_err-token-clause-none c refused =
    let empty : c.args.tokens.now ≡ [] = grind arith in
    ap (λ ts. converted of_json (value c.args.depth ts)) empty ∙ by_first_token c.args.depth []

pub returns-in_err-build_members-in-BeginObject-clause-none :
    goal.returns-in_err-build_members-in-BeginObject-clause-none
returns-in_err-build_members-in-BeginObject-clause-none c refused =
    let rest = c.next.new.self in
    let first : c.args.tokens.now ≡ token_of c.in_ok-token.token ∷ rest = grind arith in
    let none : members_read (c.args.depth - 1) rest ≡ None = c.build_members.ensures.none (grind arith) in
    by_token c.args.depth c.in_ok-token.token BeginObject c.args.tokens.now rest first c.in-BeginObject.is
    ∙ ap (λ b. if b then parse_map object (members_read (c.args.depth - 1) rest) else None) (lt-ltb 0 c.args.depth (omega (arith, c.if-depth-gt0.true)))
    ∙ ap (parse_map object) none

pub returns-in_ok-build_members-in-BeginObject-clause-ok :
    goal.returns-in_ok-build_members-in-BeginObject-clause-ok
returns-in_ok-build_members-in-BeginObject-clause-ok c =
    let rest = c.next.new.self in
    let first : c.args.tokens.now ≡ token_of c.in_ok-token.token ∷ rest = grind arith in
    let built = c.in_ok-build_members-in-BeginObject in (
      object (members_view built.field-0.entries),
      ap (λ ts. converted of_json (value c.args.depth ts)) first
          ∙ object_read c.args.depth rest (token_of c.in_ok-token.token) (ap token_of c.in-BeginObject.is)
          (omega (arith, c.if-depth-gt0.true)) _ _ built.ensures.ok,
      refl,
    )

pub returns-in_default-clause-ok : goal.returns-in_default-clause-ok
returns-in_default-clause-ok c =
    let first : c.args.tokens.now ≡ token_of c.in_ok-token.token ∷ c.next.new.self = grind arith in
    let other : c.in_ok-token.token ≡ BeginObject → 0 < c.args.depth → ⊥ = elim c.in_default.branch [
      | in_default-via-in-BeginObject+else-depth-gt0 w ↦ (λ is some. absurd (omega (arith, some, w.if-depth-gt0.false)))
      | in_default-via-in_default w ↦ (λ is some. w.in_default.not-BeginObject is)
    ] in
    let (d, read, none) = no_object_passed c.args.depth c.in_ok-token.token c.next.new.self c.passes_json.new.tokens other (grind arith) in
    (d, ap (λ ts. converted of_json (value c.args.depth ts)) first ∙ read, none)
