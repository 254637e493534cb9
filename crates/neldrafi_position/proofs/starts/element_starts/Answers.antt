use Rattle.std.proofs.Common.{◌≡◌, ◌∙◌, ◌++◌, ◌∷◌, ℕ, List, [], ap, arith, drop, false, subst, sym}
use Rattle.neldrafi_position.specs.Parts.{begins_with_closing, behind_separators, behind_space, parts}
use Rattle.neldrafi_position.proofs.ElementLemmas.{AreElementsMade, all_elements_made, none_element_made, one_element_made}
use Rattle.neldrafi_position.proofs.Texts.{behind}
use Rattle.neldrafi_position.proofs.starts.element_starts.Goals as goal

pub loop-behind-init : goal.loop-behind-init
loop-behind-init c =
    let text = c.args.text.now in
    let inside = c.args.inside in
    let rest = c.range_from-rest.result.now in
    let whole = c.range_from-rest.ensures.value in
    let all = parts (drop inside text) in
    let none = subst (λ left. AreElementsMade text left all []) (ap parts (sym whole)) (none_element_made text all) in
    let items : c.push.new.self.items ≡ [] ++ c.value_start.result ∷ [] =
    ◌∙◌ {A = List ℕ} c.in_ok-push.ensures.items (ap (λ starts. starts ++ c.value_start.result ∷ []) c.new-starts.ensures.items) in
    record {
      end = record { passed = inside; within = omega arith; rest_is = whole; utf8 = c.range_from-rest.utf8 };
      made = subst (AreElementsMade text (behind_separators 0 rest) all) (sym items)
          (one_element_made text all rest (behind_separators 0 rest) [] c.value_start.result c.value_start.ensures none);
    }

pub loop-behind-preserved : goal.loop-behind-preserved
loop-behind-preserved c =
    let text = c.args.text.now in
    let rest = c.in-Some.behind.now in
    let all = parts (drop c.args.inside text) in
    let starts = c.loop-behind.starts.items in
    let cut = c.in-Some.ensures in
    let made = subst (λ left. AreElementsMade text left all starts) cut.others c.loop-behind.invariant.made in
    record {
      end = behind text c.loop-behind.rest.now rest c.loop-behind.invariant.end cut.end;
      made = subst (AreElementsMade text (behind_separators 0 rest) all) (sym c.in_ok-push-2.ensures.items)
          (one_element_made text all rest (behind_separators 0 rest) starts c.value_start-in-Some.result c.value_start-in-Some.ensures made);
    }

pub returns : goal.returns
returns c =
    let text = c.args.text.now in
    let inside = c.args.inside in
    let starts = c.loop-behind.starts.items in
    let unclosed : begins_with_closing (behind_space (drop inside text)) ≡ false =
    ap (λ t. begins_with_closing (behind_space t)) (sym c.range_from-rest.ensures.value) ∙ ap begins_with_closing (sym c.behind_space.ensures.space)
    ∙ sym c.begins_with_closing.ensures ∙ c.if-begins_with_closing.false in
    all_elements_made text inside starts unclosed
    (subst (λ left. AreElementsMade text left (parts (drop inside text)) starts) c.in_default.ensures c.loop-behind.invariant.made)
