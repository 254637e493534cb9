use Rattle.std.proofs.Common.{◌∙◌, ◌<◌, ◌^◌, ap, arith, length, subst, sym}
use Rattle.std.proofs.lemmas.Result.{IfOk-weaker}
use Rattle.std.proofs.lemmas.Str.{IsCharBoundary-after_ascii}
use Rattle.std.specs.Str.{IsUtf8}
use Rattle.neldrafi_position.proofs.PlaceLemmas.{at_index, first_at, no_index}
use Rattle.neldrafi_position.proofs.values.Values.child_start.Goals as goal

pub element_start-requires : goal.element_start-requires
element_start-requires c =
    let text = c.args.self.now in
    let is = c.as_bytes.ensures.value ∙ c.self.view_is in
    let (within, first) = first_at c.as_bytes.result.now text c.args.start c.in-Some.first is c.in-Some.ensures.lookup in
    IsCharBoundary-after_ascii text c.args.start (subst IsUtf8 is c.as_bytes.ensures.utf8) within (omega arith)

pub member_start-requires : goal.member_start-requires
member_start-requires c =
    let text = c.args.self.now in
    let is = c.as_bytes.ensures.value ∙ c.self.view_is in
    let (within, first) = first_at c.as_bytes.result.now text c.args.start c.in-Some.first is c.in-Some.ensures.lookup in
    IsCharBoundary-after_ascii text c.args.start (subst IsUtf8 is c.as_bytes.ensures.utf8) within (omega arith)

pub returns-in_default-index_of-clause-start : goal.returns-in_default-index_of-clause-start
returns-in_default-index_of-clause-start c =
    let text = c.args.self.now in
    let is = c.as_bytes.ensures.value ∙ c.self.view_is in
    let small : length text < 2 ^ 63 = omega (arith, ap length is) in
    let (within, first) = first_at c.as_bytes.result.now text c.args.start c.in-Some.first is c.in-Some.ensures.lookup in
    no_index text c.args.token.now c.args.start within (first ∙ c.if-first-eq91.true) small (sym c.in_default-index_of.is ∙ c.index_of.ensures)

pub returns-then-first-eq91-clause-start : goal.returns-then-first-eq91-clause-start
returns-then-first-eq91-clause-start c =
    let text = c.args.self.now in
    let is = c.as_bytes.ensures.value ∙ c.self.view_is in
    let small : length text < 2 ^ 63 = omega (arith, ap length is) in
    let (within, first) = first_at c.as_bytes.result.now text c.args.start c.in-Some.first is c.in-Some.ensures.lookup in
    let index = c.in-Some-index_of.index in
    IfOk-weaker c.element_start.result _ _
    (λ found. at_index text c.args.token.now c.args.start within (first ∙ c.if-first-eq91.true) small index found (sym c.in-Some-index_of.is ∙ c.index_of.ensures))
    c.element_start.ensures.start
