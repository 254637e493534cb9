use Rattle.std.proofs.Common.{rules, ◌∙◌, ◌≤◌, ◌-◌, get_or, le_refl, length, arith, ap, map, sym, subst, string_bytes}
use borrow.Author.Rules.{scaled_fits≤}
use Rattle.std.proofs.lemmas.Result.{on_ok_weaker}
use Rattle.serde_json.specs.View.{view}
use Rattle.strkw_keywords.specs.Errors.{NodeReports}
use Rattle.strkw_keywords.specs.Validators.{assertions_of}
use Rattle.neldrafi_schema.specs.Errors.{of_text}
use Rattle.neldrafi_schema.specs.Meaning.{absolute_below, error_of}
use Rattle.neldrafi_schema.specs.Refusals.{is_in_place}
use Rattle.neldrafi_schema.specs.machine.Closures.{MayFind, MayTest}
use Rattle.neldrafi_schema.specs.machine.Compiled.{header_of, branches_of, keywords_of, rule_of, ruled_of, schemas_of, targets_of}
use Rattle.neldrafi_schema.specs.machine.Found.{kinds_of}
use Rattle.neldrafi_schema.specs.machine.Left.{AreFindings}
use Rattle.neldrafi_schema.specs.machine.Ready.{IsRuledReady, steps_for}
use Rattle.neldrafi_schema.proofs.Appending.{appended_alike, nothing_appended}
use Rattle.neldrafi_schema.proofs.Endings.{ends_inside, ends_some}
use Rattle.neldrafi_schema.proofs.Gathering.{always_appends, keyword_appends, keywords_append, kinds_first, never_appends, no_more_targets, target_appends}
use Rattle.neldrafi_schema.proofs.Visiting.{Within, few_below, keyword_ends, keyword_ready, keywords_below, keywords_ready, next_found}
use Rattle.neldrafi_schema.proofs.collecting.Collector.+push.Goals as goal

pub push_errors-offset_bounds-self-number : goal.push_errors-offset_bounds-self-number
push_errors-offset_bounds-self-number g t c =
    let inside = ends_inside g.E.RegexEngine.outcome c.args.self.now.checker.nodes.now c.args.steps c.args.number c.requires.end in
    search (rules, scaled_fits≤)

pub push_errors-bounds-self-number : goal.push_errors-bounds-self-number
push_errors-bounds-self-number g t c = ends_inside g.E.RegexEngine.outcome c.args.self.now.checker.nodes.now c.args.steps c.args.number c.requires.end

pub push_errors-overflow_sub-steps : goal.push_errors-overflow_sub-steps
push_errors-overflow_sub-steps g t c = let some =
    ends_some (schemas_of g.E.RegexEngine.outcome c.args.self.now.checker.nodes.now) c.args.steps c.args.number c.requires.end in omega arith

pub push_errors-returns-in-Always : goal.push_errors-returns-in-Always
push_errors-returns-in-Always g t c = λ lists tests finds k h.
    always_appends g.E.RegexEngine.outcome c.args.self.now.checker.nodes.now c.args.number c.args.steps c.index-self-number.result c.index-self-number.is c.requires.end
    c.in-Always.is lists (view c.args.visit.now.instance.now) k c.args.visit.now.site.now c.args.errors.now.items h

pub push_errors-returns-in-Never : goal.push_errors-returns-in-Never
push_errors-returns-in-Never g t c = λ lists tests finds k h. on_ok_weaker c.push_false.result
    (never_appends g.E.RegexEngine.outcome c.args.self.now.checker.nodes.now c.args.number c.args.steps c.index-self-number.result c.index-self-number.is c.requires.end
    c.in-Never.is lists (view c.args.visit.now.instance.now) k c.args.visit.now.site.now c.args.errors.now.items c.push_false.new.errors.items h) c.push_false.ensures

pub push_errors-push_keyword-requires : goal.push_errors-push_keyword-requires
push_errors-push_keyword-requires g t c κs within =
    let outcome = g.E.RegexEngine.outcome in
    let nodes = c.args.self.now.checker.nodes.now in
    let node = c.index-self-number.result in
    let items = c.deref-keyword-items.result.now in
    let MayCall = MayTest g.T.Fn c.args.self.now.checker.text_accepts.now in
    let some = ends_some (schemas_of outcome nodes) c.args.steps c.args.number c.requires.end in
    let few : c.args.steps - 1 ≤ length nodes = omega (arith, c.requires.few) in
    let this = keyword_ready outcome nodes c.args.number c.args.steps node c.index-self-number.is c.requires.end
    c.in-Keywords.keywords items c.in-Keywords.is c.deref-keyword-items.ensures.value
    (MayFind g.F.Fn c.args.self.now.text_errors.now) c.loop-keyword.keyword-index c.keyword-item.result c.loop-keyword-test.true c.keyword-item.is c.requires.finds.each in
    let also = keyword_ready outcome nodes c.args.number c.args.steps node c.index-self-number.is c.requires.end
    c.in-Keywords.keywords items c.in-Keywords.is c.deref-keyword-items.ensures.value
    MayCall c.loop-keyword.keyword-index c.keyword-item.result c.loop-keyword-test.true c.keyword-item.is c.requires.tests.each in
    let others = keywords_ready outcome nodes c.args.number c.args.steps node c.index-self-number.is c.requires.end
    c.in-Keywords.keywords c.deref.result.now c.in-Keywords.is c.deref.ensures.value MayCall c.requires.tests.each in
    let ends = keywords_below outcome nodes c.args.number c.args.steps node c.index-self-number.is c.requires.end
    c.in-Keywords.keywords c.deref.result.now c.in-Keywords.is c.deref.ensures.value in
    let end = keyword_ends outcome nodes c.args.number c.args.steps node c.index-self-number.is c.requires.end
    c.in-Keywords.keywords items c.in-Keywords.is c.deref-keyword-items.ensures.value
    c.loop-keyword.keyword-index c.keyword-item.result c.loop-keyword-test.true c.keyword-item.is in
    (omega (arith, c.decreases), (within.0, (within.1.0, (within.1.1, (c.requires.tests, (c.requires.finds, (c.requires.answers, (few, (this, (also, (others, (ends, end))))))))))))

pub push_errors-loop-keyword-init : goal.push_errors-loop-keyword-init
push_errors-loop-keyword-init g t c = λ lists tests finds k h. nothing_appended _ c.args.errors.now.items (λ later x. x)

pub push_errors-loop-keyword-preserved : goal.push_errors-loop-keyword-preserved
push_errors-loop-keyword-preserved g t c = λ lists tests finds k h.
    let outcome = g.E.RegexEngine.outcome in
    let nodes = c.args.self.now.checker.nodes.now in
    keyword_appends outcome (schemas_of outcome nodes) (Within outcome nodes lists k) lists (header_of (get_or nodes c.args.number c.index-self-number.result).header) (view c.args.visit.now.instance.now) c.args.visit.now.site.now c.deref-keyword-items.result.now c.deref.result.now
    c.loop-keyword.keyword-index c.keyword-item.result c.loop-keyword-test.true c.keyword-item.is (c.deref.ensures.value ∙ sym c.deref-keyword-items.ensures.value)
    c.args.errors.now.items c.loop-keyword.errors.items c.push_keyword.new.errors.items
    (c.loop-keyword.invariant lists tests finds k h) (c.in_ok-push_keyword-in-Keywords.ensures lists tests finds k h)

pub push_errors-returns-after-loop-keyword : goal.push_errors-returns-after-loop-keyword
push_errors-returns-after-loop-keyword g t c = λ lists tests finds k h.
    let outcome = g.E.RegexEngine.outcome in
    let nodes = c.args.self.now.checker.nodes.now in
    let node = c.index-self-number.result in
    let items = c.deref-keyword-items.result.now in
    keywords_append outcome nodes c.args.number c.args.steps node c.index-self-number.is c.requires.end
    c.in-Keywords.keywords items c.in-Keywords.is c.deref-keyword-items.ensures.value lists (view c.args.visit.now.instance.now) k c.args.visit.now.site.now
    c.args.errors.now.items c.loop-keyword.errors.items c.loop-keyword.keyword-index c.loop-keyword-test.false h (c.loop-keyword.invariant lists tests finds)

pub push_keyword-push_rule-requires : goal.push_keyword-push_rule-requires
push_keyword-push_rule-requires g t c κs within =
    let outcome = g.E.RegexEngine.outcome in
    let nodes = c.args.self.now.checker.nodes.now in
    let this : IsRuledReady outcome (MayTest g.T.Fn c.args.self.now.checker.text_accepts.now) (length nodes) c.in-Rule.ruled = rw c.in-Rule.is at c.requires.also in (
      omega (arith, c.decreases),
      (
        within.0,
        (
          within.1.0,
          (
            within.1.1,
            (
              c.requires.tests,
              (
                c.requires.finds,
                (
                  c.requires.answers,
                  (c.requires.few, (this, (c.requires.others, (c.requires.ends, rw c.in-Rule.is at c.requires.end)))),
                ),
              ),
            ),
          ),
        ),
      ),
    )

pub push_keyword-returns-in-Rule : goal.push_keyword-returns-in-Rule
push_keyword-returns-in-Rule g t c = λ lists tests finds k h. rw c.in-Rule.is (c.push_rule.ensures lists tests finds k h)

pub push_keyword-returns-in_ok-found-in-Text : goal.push_keyword-returns-in_ok-found-in-Text
push_keyword-returns-in_ok-found-in-Text g t c = λ lists tests finds k h.
    let found = c.in_ok-found-in-Text.found.items in
    on_ok_weaker c.push_texts.result
    (appended_alike _ _ c.args.errors.now.items c.push_texts.new.errors.items (λ es r. rw c.in-Text.is (
      found,
      subst (λ o. NodeReports (assertions_of g.E.RegexEngine.outcome c.in-Text.validator) lists c.args.visit.now.site.now o found) c.as_str.ensures (finds _ _ _ _ c.in_ok-found-in-Text.ensures),
      r ∙ ap (λ w. map (of_text (absolute_below (string_bytes c.args.node.now.header.absolute) w)) found) c.as_str-in-Text.ensures,
    )))
    c.push_texts.ensures

pub push_rule-findings-requires : goal.push_rule-findings-requires
push_rule-findings-requires g t c = record {
  ready = c.requires.tests;
  answers = c.requires.answers;
  few = c.requires.few;
  this = c.requires.this;
  others = c.requires.others;
  ends = c.requires.ends;
  end = c.requires.end;
}

pub push_rule-loop-target-init : goal.push_rule-loop-target-init
push_rule-loop-target-init g t c = λ lists tests finds k h.
    let outcome = g.E.RegexEngine.outcome in
    let nodes = c.args.self.now.checker.nodes.now in
    let below = Within outcome nodes lists k in
    let d = view c.args.visit.now.instance.now in
    let site = c.args.visit.now.site.now in
    let ruled = c.args.ruled.now in
    let word = string_bytes ruled.name in
    let r = rule_of outcome ruled.rule in
    let bs = branches_of ruled.branches.items in
    let beside = keywords_of outcome c.args.beside.now in
    let items = c.deref-target-items.result.now in
    let header = header_of c.args.node.now.header in
    let kinds = kinds_of c.in_ok-kinds.kinds.items in
    let found : AreFindings (schemas_of outcome nodes) below beside (ruled_of outcome ruled) d site kinds (targets_of items) =
    subst (λ ts. AreFindings (schemas_of outcome nodes) below beside (ruled_of outcome ruled) d site kinds (targets_of ts)) (sym c.deref-target-items.ensures.value)
    (c.in_ok-kinds.ensures lists tests k site h) in
    kinds_first (schemas_of outcome nodes) below lists header beside word r bs d site items kinds c.args.errors.now.items c.push_kinds.new.errors.items found
    (appended_alike _ _ c.args.errors.now.items c.push_kinds.new.errors.items (λ es e. e
    ∙ ap (λ w. map (error_of header site w d) kinds) c.as_str.ensures.value) c.in_ok-push_kinds.ensures)

pub push_rule-loop-target-preserved : goal.push_rule-loop-target-preserved
push_rule-loop-target-preserved g t c = λ lists tests finds k h.
    let outcome = g.E.RegexEngine.outcome in
    let nodes = c.args.self.now.checker.nodes.now in
    let below = Within outcome nodes lists k in
    let d = view c.args.visit.now.instance.now in
    let site = c.args.visit.now.site.now in
    let ruled = c.args.ruled.now in
    let word = string_bytes ruled.name in
    let r = rule_of outcome ruled.rule in
    let bs = branches_of ruled.branches.items in
    let beside = keywords_of outcome c.args.beside.now in
    let items = c.deref-target-items.result.now in
    let kinds = kinds_of c.in_ok-kinds.kinds.items in
    let found : AreFindings (schemas_of outcome nodes) below beside (ruled_of outcome ruled) d site kinds (targets_of items) =
    subst (λ ts. AreFindings (schemas_of outcome nodes) below beside (ruled_of outcome ruled) d site kinds (targets_of ts)) (sym c.deref-target-items.ensures.value)
    (c.in_ok-kinds.ensures lists tests k site h) in
    let next = next_found outcome nodes (MayTest g.T.Fn c.args.self.now.checker.text_accepts.now) c.requires.tests ruled d c.args.steps c.steps_below-left.result c.requires.this c.requires.end
    c.steps_below-left.ensures below beside site kinds items c.loop-target.target-index c.target-item.result found c.loop-target-test.true c.target-item.is in
    let fewer = next.1 in
    target_appends (schemas_of outcome nodes) below lists (header_of c.args.node.now.header) beside word r bs d site items c.loop-target.target-index c.target-item.result c.loop-target-test.true c.target-item.is
    c.args.errors.now.items c.loop-target.errors.items c.push_target.new.errors.items (c.loop-target.invariant lists tests finds k h)
    (c.in_ok-push_target.ensures lists tests finds k (omega (arith, fewer)))

pub push_rule-push_target-requires : goal.push_rule-push_target-requires
push_rule-push_target-requires g t c κs within =
    let (lists, tests) = c.requires.answers in
    let k = steps_for (length c.args.self.now.checker.nodes.now) (view c.args.visit.now.instance.now) c.args.steps in
    let outcome = g.E.RegexEngine.outcome in
    let nodes = c.args.self.now.checker.nodes.now in
    let below = Within outcome nodes lists k in
    let d = view c.args.visit.now.instance.now in
    let site = c.args.visit.now.site.now in
    let ruled = c.args.ruled.now in
    let word = string_bytes ruled.name in
    let r = rule_of outcome ruled.rule in
    let bs = branches_of ruled.branches.items in
    let beside = keywords_of outcome c.args.beside.now in
    let items = c.deref-target-items.result.now in
    let kinds = kinds_of c.in_ok-kinds.kinds.items in
    let found : AreFindings (schemas_of outcome nodes) below beside (ruled_of outcome ruled) d site kinds (targets_of items) =
    subst (λ ts. AreFindings (schemas_of outcome nodes) below beside (ruled_of outcome ruled) d site kinds (targets_of ts)) (sym c.deref-target-items.ensures.value)
    (c.in_ok-kinds.ensures lists tests k site (le_refl k)) in
    let next = next_found outcome nodes (MayTest g.T.Fn c.args.self.now.checker.text_accepts.now) c.requires.tests ruled d c.args.steps c.steps_below-left.result c.requires.this c.requires.end
    c.steps_below-left.ensures below beside site kinds items c.loop-target.target-index c.target-item.result found c.loop-target-test.true c.target-item.is in
    let fewer = next.1 in
    let few : c.steps_below-left.result ≤ length nodes = few_below (is_in_place r) c.args.steps (length nodes) c.steps_below-left.result c.requires.few c.steps_below-left.ensures in
    (omega (arith, c.decreases, fewer), (within.0, (within.1.0, (within.1.1, (c.requires.tests, (c.requires.finds, (c.requires.answers, (few, next.0))))))))

pub push_rule-returns : goal.push_rule-returns
push_rule-returns g t c = λ lists tests finds k h.
    let outcome = g.E.RegexEngine.outcome in
    let nodes = c.args.self.now.checker.nodes.now in
    let below = Within outcome nodes lists k in
    let d = view c.args.visit.now.instance.now in
    let site = c.args.visit.now.site.now in
    let ruled = c.args.ruled.now in
    let word = string_bytes ruled.name in
    let r = rule_of outcome ruled.rule in
    let bs = branches_of ruled.branches.items in
    let beside = keywords_of outcome c.args.beside.now in
    let items = c.deref-target-items.result.now in
    no_more_targets (schemas_of outcome nodes) below lists (header_of c.args.node.now.header) beside word r bs d site items c.loop-target.target-index c.args.errors.now.items c.loop-target.errors.items
    c.loop-target-test.false (c.loop-target.invariant lists tests finds k h)

pub push_target-push_errors-requires : goal.push_target-push_errors-requires
push_target-push_errors-requires g t c κs within =
    let same = ap (λ v. steps_for (length c.args.self.now.checker.nodes.now) v c.args.steps) c.as_value.ensures in
    (omega (arith, c.decreases, same), (within.0, (within.1.0, (within.1.1, (c.requires.tests, (c.requires.finds, (c.requires.answers, (c.requires.few, c.requires.end))))))))
