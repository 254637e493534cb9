use Rattle.std.proofs.Common.{◌≡◌, ◌∙◌, ◌+◌, ℕ, List, [], Bor, Some, ap, drop, get_or, refl, subst, sym}
use Rattle.std.proofs.lemmas.List.{at_drop_all, at_drop_more}
use Rattle.neldrafi_position.specs.Places.{child, value_along}
use Rattle.neldrafi_position.specs.machine.Kept.{AreStarts, IsStart}
use Rattle.neldrafi_position.proofs.PlaceLemmas.{LeadOn, lead_from_child, lead_from_root, led, not_led}
use Rattle.neldrafi_position.proofs.Pointing.{texts}
use Rattle.neldrafi_position.proofs.values.Values.start_along.Goals as goal

abbrev none : Bor (List ℕ)
none = record { ref_ptr = (0, 0); now = [] }

pub loop-token-init : goal.loop-token-init
loop-token-init c = record {
  text = refl;
  lead = lead_from_root c.args.self.now (texts c.args.tokens.now) c.self.inside.root
      (subst (λ text. IsStart text text c.self.inside.root) c.self.view_is c.self.invariant.whole);
}

pub loop-token-preserved : goal.loop-token-preserved
loop-token-preserved c =
    let text = c.loop-token.self in
    let tokens = c.args.tokens.now in
    let index = c.loop-token.token-index in
    let start = c.loop-token.start in
    let token = (get_or tokens index none).now in
    let others = texts (drop (index + 1) tokens) in
    let all = value_along (texts tokens) text in
    let lead = subst (λ left. LeadOn text left start all) (at_drop_more texts tokens index none c.loop-token-test.true) c.loop-token.invariant.lead in
    let starts = subst (λ found. AreStarts text found (child token (drop start text))) c.in-Some.is c.in_ok-found.ensures.start in
    record {
      text = c.in_ok-found.ensures.text ∙ c.loop-token.invariant.text;
      lead = subst (λ t. LeadOn t others c.in-Some.found (value_along (texts tokens) t)) (sym c.in_ok-found.ensures.text)
          (lead_from_child text token others start all lead c.in-Some.found starts);
    }

pub returns-in_default-clause-start : goal.returns-in_default-clause-start
returns-in_default-clause-start c =
    let text = c.loop-token.self in
    let tokens = c.args.tokens.now in
    let index = c.loop-token.token-index in
    let start = c.loop-token.start in
    let token = (get_or tokens index none).now in
    let all = value_along (texts tokens) text in
    let lead = subst (λ left. LeadOn text left start all) (at_drop_more texts tokens index none c.loop-token-test.true) c.loop-token.invariant.lead in
    let starts = subst (λ found. AreStarts text found (child token (drop start text))) c.in_default.is c.in_ok-found.ensures.start in
    not_led text token (texts (drop (index + 1) tokens)) start all lead starts ∙ ap (value_along (texts tokens)) c.loop-token.invariant.text

pub returns-clause-start : goal.returns-clause-start
returns-clause-start c =
    let text = c.loop-token.self in
    let tokens = c.args.tokens.now in
    let start = c.loop-token.start in
    let all = value_along (texts tokens) text in
    let lead = subst (λ left. LeadOn text left start all) (at_drop_all texts tokens c.loop-token.token-index c.loop-token-test.false) c.loop-token.invariant.lead in
    subst (λ t. Some (drop start t) ≡ value_along (texts tokens) t) c.loop-token.invariant.text (led text start all lead)
