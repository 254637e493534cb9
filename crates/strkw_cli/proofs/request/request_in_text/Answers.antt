use Rattle.std.proofs.Common.{◌≡◌, ◌∷◌, IfOk, codes, false, length, sym, subst, ◌∙◌, arith}
use Rattle.json.specs.Token.{begin_object}
use Rattle.json.specs.Lex.{tokens}
use Rattle.serde_json.specs.Data.{no_members, put}
use Rattle.strkw_cli.specs.Borrowed.{IsRequest}
use Rattle.strkw_cli.specs.Both.{AreBoth}
use Rattle.strkw_cli.specs.Tokens.{begins_object}
use Rattle.strkw_cli.proofs.Asked.{by_members, no_object_read}
use Rattle.strkw_cli.proofs.Begun.{are_begun, no_request_begun, request_begun, with_draft}
use Rattle.strkw_cli.proofs.request.request_in_text.Goals as goal
use Rattle.strkw_cli.proofs.request.request_in_text.Goals.{in_default-next-via-in-Some+in_default, in_default-next-via-in_default}

pub returns-in_default-next-clause-ok : goal.returns-in_default-next-clause-ok
returns-in_default-next-clause-ok c =
    let text = c.args.text.now in
    let none : begins_object (tokens text) ≡ false = elim c.in_default-next.branch [
      | in_default-next-via-in-Some+in_default w ↦ grind arith
      | in_default-next-via-in_default w ↦ grind arith
    ] in
    no_object_read text none

pub returns-in_default-clause-ok : goal.returns-in_default-clause-ok
returns-in_default-clause-ok c =
    let text = c.args.text.now in
    let first : tokens text ≡ begin_object ∷ c.next.new.self = grind arith in
    subst (λ r. IfOk c.request_behind.result (λ request. AreBoth (IsRequest c.request_behind.new.values) request r))
    (sym (by_members text c.next.new.self first)) (c.request_behind.ensures.ok _ _ (omega arith) (c.none-parts.ensures _ _))

pub returns-in_default-clause-none : goal.returns-in_default-clause-none
returns-in_default-clause-none c = λ refused.
    let text = c.args.text.now in
    let first : tokens text ≡ begin_object ∷ c.next.new.self = grind arith in
    by_members text c.next.new.self first ∙ c.request_behind.ensures.none _ _ (omega arith) (c.none-parts.ensures _ _) refused

pub returns-in_default-clause-right : goal.returns-in_default-clause-right
returns-in_default-clause-right c = c.request_behind.ensures.right no_members (length c.next.new.self) (omega arith) (c.none-parts.ensures _ _)

pub returns-in_err-parts-clause-none : goal.returns-in_err-parts-clause-none
returns-in_err-parts-clause-none c = λ refused.
    let (named, reads) = c.in-Some.ensures in
    no_request_begun _ _ named.number named.small reads _ c.in_ok-tokens-2.ensures.ok (c.read_schema.ensures.none (grind (arith, refused)))

pub returns-clause-ok : goal.returns-clause-ok
returns-clause-ok c =
    let (named, reads) = c.in-Some.ensures in
    let (d, read, are) = c.in_ok-parts.ensures.ok in
    let same = request_begun _ _ named.number named.small reads _ c.in_ok-tokens-2.ensures.ok d _ read in
    subst (λ r. IfOk c.request_behind-2.result (λ request. AreBoth (IsRequest c.request_behind-2.new.values) request r)) (sym same)
    (c.request_behind-2.ensures.ok _ _ (omega (arith, c.in_ok-parts.ensures.shorter))
    (are_begun named.number _ _ c.none-parts.result _ _ d (c.none-parts.ensures _ _) named.names are c.in_ok-parts.ensures.right))

pub returns-clause-none : goal.returns-clause-none
returns-clause-none c = λ refused.
    let (named, reads) = c.in-Some.ensures in
    let (d, read, are) = c.in_ok-parts.ensures.ok in
    request_begun _ _ named.number named.small reads _ c.in_ok-tokens-2.ensures.ok d _ read
    ∙ c.request_behind-2.ensures.none _ _ (omega (arith, c.in_ok-parts.ensures.shorter))
    (are_begun named.number _ _ c.none-parts.result _ _ d (c.none-parts.ensures _ _) named.names are c.in_ok-parts.ensures.right) refused

pub returns-clause-right : goal.returns-clause-right
returns-clause-right c =
    let (named, _) = c.in-Some.ensures in
    let (d, _, are) = c.in_ok-parts.ensures.ok in
    c.request_behind-2.ensures.right (put (codes "schema") d (with_draft named.number)) (length c.read_schema.new.tokens) (omega arith)
    (are_begun named.number _ _ c.none-parts.result _ _ d (c.none-parts.ensures _ _) named.names are c.in_ok-parts.ensures.right)
