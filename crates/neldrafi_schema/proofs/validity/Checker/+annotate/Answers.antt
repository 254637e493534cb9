use Rattle.std.proofs.Common.{rules, ◌∙◌, ◌≤◌, ◌-◌, le_refl, length, arith, ap, refl, sym, subst, string_bytes}
use borrow.Author.Rules.{scaled_fits≤}
use Rattle.serde_json.specs.View.{view}
use Rattle.neldrafi_schema.specs.Annotations.{Annotates}
use Rattle.neldrafi_schema.specs.Refusals.{is_in_place}
use Rattle.neldrafi_schema.specs.machine.Annotated.{AreAnnotated}
use Rattle.neldrafi_schema.specs.machine.Closures.{MayTest}
use Rattle.neldrafi_schema.specs.machine.Compiled.{branches_of, keywords_of, rule_of, ruled_of, schemas_of, targets_of}
use Rattle.neldrafi_schema.specs.machine.Ready.{steps_for}
use Rattle.neldrafi_schema.proofs.Added.{keyword_annotated, keywords_annotated, no_targets_left, no_targets_yet, nothing_annotated, target_annotated}
use Rattle.neldrafi_schema.proofs.Appending.{nothing_appended}
use Rattle.neldrafi_schema.proofs.Endings.{ends_inside, ends_some}
use Rattle.neldrafi_schema.proofs.Visiting.{Within, few_below, keyword_ends, keyword_ready, keywords_below, keywords_ready, next_annotated}
use Rattle.neldrafi_schema.proofs.validity.Checker.+annotate.Goals as goal

pub annotate-offset_bounds-self-number : goal.annotate-offset_bounds-self-number
annotate-offset_bounds-self-number g t c =
    let inside = ends_inside g.E.RegexEngine.outcome c.args.self.now.nodes.now c.args.steps c.args.number c.requires.end in
    search (rules, scaled_fits≤)

pub annotate-bounds-self-number : goal.annotate-bounds-self-number
annotate-bounds-self-number g t c = ends_inside g.E.RegexEngine.outcome c.args.self.now.nodes.now c.args.steps c.args.number c.requires.end

pub annotate-overflow_sub-steps : goal.annotate-overflow_sub-steps
annotate-overflow_sub-steps g t c = let some =
    ends_some (schemas_of g.E.RegexEngine.outcome c.args.self.now.nodes.now) c.args.steps c.args.number c.requires.end in omega arith

pub annotate-returns-in_default : goal.annotate-returns-in_default
annotate-returns-in_default g t c = λ lists tests k h.
    nothing_annotated g.E.RegexEngine.outcome c.args.self.now.nodes.now c.args.number c.args.steps c.index-self-number.result c.index-self-number.is c.requires.end
    c.in_default.not-Keywords lists (view c.args.visit.now.instance.now) k c.args.visit.now.site.now c.args.found.now.items h

pub annotate-annotate_by_keyword-requires : goal.annotate-annotate_by_keyword-requires
annotate-annotate_by_keyword-requires g t c κs within =
    let outcome = g.E.RegexEngine.outcome in
    let nodes = c.args.self.now.nodes.now in
    let node = c.index-self-number.result in
    let items = c.deref-keyword-items.result.now in
    let MayCall = MayTest g.T.Fn c.args.self.now.text_accepts.now in
    let some = ends_some (schemas_of outcome nodes) c.args.steps c.args.number c.requires.end in
    let few : c.args.steps - 1 ≤ length nodes = omega (arith, c.requires.few) in
    let this = keyword_ready outcome nodes c.args.number c.args.steps node c.index-self-number.is c.requires.end
    c.in-Keywords.keywords items c.in-Keywords.is c.deref-keyword-items.ensures.value
    MayCall c.loop-keyword.keyword-index c.keyword-item.result c.loop-keyword-test.true c.keyword-item.is c.requires.ready.each in
    let others = keywords_ready outcome nodes c.args.number c.args.steps node c.index-self-number.is c.requires.end
    c.in-Keywords.keywords c.deref.result.now c.in-Keywords.is c.deref.ensures.value MayCall c.requires.ready.each in
    let ends = keywords_below outcome nodes c.args.number c.args.steps node c.index-self-number.is c.requires.end
    c.in-Keywords.keywords c.deref.result.now c.in-Keywords.is c.deref.ensures.value in
    let end = keyword_ends outcome nodes c.args.number c.args.steps node c.index-self-number.is c.requires.end
    c.in-Keywords.keywords items c.in-Keywords.is c.deref-keyword-items.ensures.value
    c.loop-keyword.keyword-index c.keyword-item.result c.loop-keyword-test.true c.keyword-item.is in
    (omega (arith, c.decreases), (within.0, (within.1, (c.requires.ready, (c.requires.answers, (few, (this, (others, (ends, end)))))))))

pub annotate-loop-keyword-init : goal.annotate-loop-keyword-init
annotate-loop-keyword-init g t c = λ lists tests k h. nothing_appended _ c.push_own.new.found.items (λ later x. x)

pub annotate-loop-keyword-preserved : goal.annotate-loop-keyword-preserved
annotate-loop-keyword-preserved g t c = λ lists tests k h.
    let outcome = g.E.RegexEngine.outcome in
    let schemas = schemas_of outcome c.args.self.now.nodes.now in
    keyword_annotated outcome schemas (Within outcome c.args.self.now.nodes.now lists k) (Annotates schemas lists k) (view c.args.visit.now.instance.now) c.args.visit.now.site.now
    c.deref-keyword-items.result.now c.deref.result.now c.loop-keyword.keyword-index c.keyword-item.result c.loop-keyword-test.true c.keyword-item.is
    (c.deref.ensures.value ∙ sym c.deref-keyword-items.ensures.value)
    c.push_own.new.found.items c.loop-keyword.found.items c.annotate_by_keyword.new.found.items
    (c.loop-keyword.invariant lists tests k h) (c.in_ok-annotate_by_keyword.ensures lists tests k h)

pub annotate-returns : goal.annotate-returns
annotate-returns g t c = λ lists tests k h.
    let outcome = g.E.RegexEngine.outcome in
    let nodes = c.args.self.now.nodes.now in
    let node = c.index-self-number.result in
    let items = c.deref-keyword-items.result.now in
    keywords_annotated outcome nodes c.args.number c.args.steps node c.index-self-number.is c.requires.end
    c.in-Keywords.keywords items c.in-Keywords.is c.deref-keyword-items.ensures.value lists (view c.args.visit.now.instance.now) k c.args.visit.now.site.now
    c.args.found.now.items c.push_own.new.found.items c.loop-keyword.found.items c.loop-keyword.keyword-index c.loop-keyword-test.false h c.in_ok-push_own.ensures
    (c.loop-keyword.invariant lists tests)

pub annotate_by_keyword-returns-in_default : goal.annotate_by_keyword-returns-in_default
annotate_by_keyword-returns-in_default g t c = λ lists tests k h. rw c.in_default.is (nothing_appended _ c.args.found.now.items refl)

pub annotate_by_keyword-annotated-requires : goal.annotate_by_keyword-annotated-requires
annotate_by_keyword-annotated-requires g t c = record {
  ready = c.requires.ready;
  answers = c.requires.answers;
  few = c.requires.few;
  this = rw c.in-Rule.is at c.requires.this;
  others = c.requires.others;
  ends = c.requires.ends;
  end = rw c.in-Rule.is at c.requires.end;
}

pub annotate_by_keyword-loop-target-init : goal.annotate_by_keyword-loop-target-init
annotate_by_keyword-loop-target-init g t c = λ lists tests k h.
    let outcome = g.E.RegexEngine.outcome in
    let nodes = c.args.self.now.nodes.now in
    let schemas = schemas_of outcome nodes in
    let below = Within outcome nodes lists k in
    let d = view c.args.visit.now.instance.now in
    let site = c.args.visit.now.site.now in
    let ruled = c.in-Rule.ruled in
    let word = string_bytes ruled.name in
    let r = rule_of outcome ruled.rule in
    let bs = branches_of ruled.branches.items in
    let beside = keywords_of outcome c.args.beside.now in
    let items = c.deref-target-items.result.now in
    let are : AreAnnotated schemas below beside (ruled_of outcome ruled) d site (targets_of items) =
    subst (λ ts. AreAnnotated schemas below beside (ruled_of outcome ruled) d site (targets_of ts)) (sym c.deref-target-items.ensures.value)
    (c.in_ok-annotated.ensures lists tests k site h) in
    no_targets_yet schemas below (Annotates schemas lists k) beside word r bs d site items c.args.found.now.items are

pub annotate_by_keyword-loop-target-preserved : goal.annotate_by_keyword-loop-target-preserved
annotate_by_keyword-loop-target-preserved g t c = λ lists tests k h.
    let outcome = g.E.RegexEngine.outcome in
    let nodes = c.args.self.now.nodes.now in
    let schemas = schemas_of outcome nodes in
    let below = Within outcome nodes lists k in
    let d = view c.args.visit.now.instance.now in
    let site = c.args.visit.now.site.now in
    let ruled = c.in-Rule.ruled in
    let word = string_bytes ruled.name in
    let r = rule_of outcome ruled.rule in
    let bs = branches_of ruled.branches.items in
    let beside = keywords_of outcome c.args.beside.now in
    let items = c.deref-target-items.result.now in
    let are : AreAnnotated schemas below beside (ruled_of outcome ruled) d site (targets_of items) =
    subst (λ ts. AreAnnotated schemas below beside (ruled_of outcome ruled) d site (targets_of ts)) (sym c.deref-target-items.ensures.value)
    (c.in_ok-annotated.ensures lists tests k site h) in
    let next = next_annotated outcome nodes (MayTest g.T.Fn c.args.self.now.text_accepts.now) c.requires.ready ruled d c.args.steps c.steps_below-left.result
    (rw c.in-Rule.is at c.requires.this) (rw c.in-Rule.is at c.requires.end) c.steps_below-left.ensures below beside site items c.loop-target.target-index c.target-item.result are
    c.loop-target-test.true c.target-item.is in
    let fewer = next.1 in
    target_annotated schemas below (Annotates schemas lists k) beside word r bs d site items c.loop-target.target-index c.target-item.result c.loop-target-test.true c.target-item.is
    c.args.found.now.items c.loop-target.found.items c.annotate_by_target.new.found.items (c.loop-target.invariant lists tests k h)
    (c.in_ok-annotate_by_target.ensures lists tests k (omega (arith, fewer)))

pub annotate_by_keyword-annotate_by_target-requires : goal.annotate_by_keyword-annotate_by_target-requires
annotate_by_keyword-annotate_by_target-requires g t c κs within =
    let (lists, tests) = c.requires.answers in
    let k = steps_for (length c.args.self.now.nodes.now) (view c.args.visit.now.instance.now) c.args.steps in
    let outcome = g.E.RegexEngine.outcome in
    let nodes = c.args.self.now.nodes.now in
    let schemas = schemas_of outcome nodes in
    let below = Within outcome nodes lists k in
    let d = view c.args.visit.now.instance.now in
    let site = c.args.visit.now.site.now in
    let ruled = c.in-Rule.ruled in
    let word = string_bytes ruled.name in
    let r = rule_of outcome ruled.rule in
    let bs = branches_of ruled.branches.items in
    let beside = keywords_of outcome c.args.beside.now in
    let items = c.deref-target-items.result.now in
    let are : AreAnnotated schemas below beside (ruled_of outcome ruled) d site (targets_of items) =
    subst (λ ts. AreAnnotated schemas below beside (ruled_of outcome ruled) d site (targets_of ts)) (sym c.deref-target-items.ensures.value)
    (c.in_ok-annotated.ensures lists tests k site (le_refl k)) in
    let next = next_annotated outcome nodes (MayTest g.T.Fn c.args.self.now.text_accepts.now) c.requires.ready ruled d c.args.steps c.steps_below-left.result
    (rw c.in-Rule.is at c.requires.this) (rw c.in-Rule.is at c.requires.end) c.steps_below-left.ensures below beside site items c.loop-target.target-index c.target-item.result are
    c.loop-target-test.true c.target-item.is in
    let fewer = next.1 in
    let few : c.steps_below-left.result ≤ length nodes = few_below (is_in_place r) c.args.steps (length nodes) c.steps_below-left.result c.requires.few c.steps_below-left.ensures in
    (omega (arith, c.decreases, fewer), (within.0, (within.1, (c.requires.ready, (c.requires.answers, (few, next.0))))))

pub annotate_by_keyword-returns : goal.annotate_by_keyword-returns
annotate_by_keyword-returns g t c = λ lists tests k h.
    let outcome = g.E.RegexEngine.outcome in
    let nodes = c.args.self.now.nodes.now in
    let schemas = schemas_of outcome nodes in
    let below = Within outcome nodes lists k in
    let d = view c.args.visit.now.instance.now in
    let site = c.args.visit.now.site.now in
    let ruled = c.in-Rule.ruled in
    let word = string_bytes ruled.name in
    let r = rule_of outcome ruled.rule in
    let bs = branches_of ruled.branches.items in
    let beside = keywords_of outcome c.args.beside.now in
    let items = c.deref-target-items.result.now in
    rw c.in-Rule.is (no_targets_left schemas below (Annotates schemas lists k) beside word r bs d site items c.loop-target.target-index c.args.found.now.items c.loop-target.found.items
    c.loop-target-test.false (c.loop-target.invariant lists tests k h))

pub annotate_by_target-annotate-requires : goal.annotate_by_target-annotate-requires
annotate_by_target-annotate-requires g t c κs within =
    let same = ap (λ v. steps_for (length c.args.self.now.nodes.now) v c.args.steps) c.as_value.ensures in
    (omega (arith, c.decreases, same), (within.0, (within.1, (c.requires.ready, (c.requires.answers, (c.requires.few, c.requires.end))))))
