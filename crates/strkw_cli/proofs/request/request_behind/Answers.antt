use Rattle.std.proofs.Common.{◌≡◌, [], ◌∷◌, Some, sym, ap, subst, ◌∙◌, arith}
use Rattle.json.specs.Reads.{token_of}
use Rattle.strkw_cli.specs.Borrowed.{IsRequest}
use Rattle.strkw_cli.specs.Both.{AreBoth}
use Rattle.strkw_cli.specs.Parts.{request_left}
use Rattle.strkw_cli.proofs.request.request_behind.Goals as goal

pub returns-in-None-clause-ok : goal.returns-in-None-clause-ok
returns-in-None-clause-ok c = λ found turns fits are.
    let (ms, read, whole) = c.in_ok-whole.ensures.ok found turns fits are in
    let over : c.parts_in.new.tokens ≡ [] = grind arith in
    subst (AreBoth (IsRequest c.parts_in.new.values) c.into_request.result) (sym (ap request_left (read ∙ ap (λ left. Some (ms, left)) over)))
    (c.into_request.ensures.request _ _ ms whole)

pub returns-in-None-clause-right : goal.returns-in-None-clause-right
returns-in-None-clause-right c = λ found turns fits are.
    let (ms, read, whole) = c.in_ok-whole.ensures.ok found turns fits are in
    c.into_request.ensures.right _ whole.right

pub returns-in-Some-clause-ok : goal.returns-in-Some-clause-ok
returns-in-Some-clause-ok c = λ found turns fits are.
    let (ms, read, whole) = c.in_ok-whole.ensures.ok found turns fits are in
    let more : c.parts_in.new.tokens ≡ token_of c.in-Some.field-0 ∷ c.next.new.self = grind arith in
    ap request_left (read ∙ ap (λ left. Some (ms, left)) more)
