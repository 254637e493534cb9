use Rattle.std.proofs.Common.{rules, drop, inl, inr, map, ℕ, List, ◌+◌, ◌∷◌, ◌≡◌, ◌↔◌, ◌∙◌, ◌<◌, ◌≤◌, ◌-◌, le_refl, length, arith, None, Some, ap, sym, subst, refl, [], append-nil, true, false, IsTrue, string_bytes}
use borrow.Author.Rules.{scaled_fits≤}
use Rattle.std.proofs.lemmas.Bool.{false≢true}
use Rattle.std.proofs.lemmas.List.{length-map}
use Rattle.std.proofs.lemmas.Result.{IfOk-weaker, on_ok_weaker}
use Rattle.std.specs.Iterator.Adapters.{zip_first, zip_second}
use Rattle.std.specs.List.{AllByRecursion, filter, flat_map}
use Rattle.std.specs.Slice.Iter.{iter_rest}
use Rattle.std.specs.Prelude.{option_map}
use Rattle.std.proofs.lemmas.Grind.{common_steps}
use Rattle.serde_json.specs.Data.{depth, Data}
use Rattle.serde_json.specs.Find.{as_array, as_object}
use Rattle.serde_json.specs.View.{items_view, view, members_view}
use Rattle.strkw_keywords.specs.Keywords.{keyword_name}
use Rattle.strkw_keywords.specs.Validators.{assertions_of}
use Rattle.neldrafi_schema.specs.Meaning.{AreLeft, AreVerdicts, BesideEvaluates, EachReports, Evaluates, KeywordEvaluates, Reports, TargetEvaluates, TextReports, root_site, site_of}
use Rattle.neldrafi_schema.specs.Refusals.{ends, is_in_place}
use Rattle.neldrafi_schema.specs.Rules.{applied, child_at, children, counts_nothing, kinds, left_kinds, on_child, on_each, on_items, part_of, path_of as path_to, placed_items, reached, tested, is_matched, is_present, member_list, members_in, missing_beside, on_itself, on_matched, on_members, other_members_in}
use Rattle.neldrafi_schema.specs.Schemas.{rule}
use Rattle.neldrafi_schema.specs.machine.Chosen.{chosen_members, is_chosen}
use Rattle.neldrafi_schema.specs.machine.Closures.{MayTest}
use Rattle.neldrafi_schema.specs.machine.Compiled.{branch_of, branches_of, children_of, dependency_of, keyword_of, keywords_of, rule_of, ruled_of, schema_of, schemas_of, step_of, target_of, targets_of, header_of}
use Rattle.neldrafi_schema.specs.declared.conditions.Choice.TheVariants.{Leads}
use Rattle.neldrafi_schema.specs.machine.Conditions.{Ends, Means}
use Rattle.neldrafi_schema.specs.machine.Counted.{AreCounted}
use Rattle.neldrafi_schema.specs.machine.Found.{kind_of, kinds_of}
use Rattle.neldrafi_schema.specs.machine.Left.{AreFindings, AreSpans}
use Rattle.neldrafi_schema.specs.machine.Ready.{IsKeywordReady, IsPatternReady, IsRuledReady, steps_for}
use Rattle.neldrafi_schema.proofs.Applied.{all_of_report, contains_report, counting_report, dependent_report, dependent_stops, matching_report, no_other_items_report, no_other_members_report, other_members_report, reference_report}
use Rattle.neldrafi_schema.proofs.Choosing.{AreLess, first_less, member_passes, member_skipped, member_stops}
use Rattle.neldrafi_schema.proofs.Counts.{Counted, all_counted}
use Rattle.neldrafi_schema.proofs.Endings.{ends_inside, ends_some, keyword_end}
use Rattle.neldrafi_schema.proofs.Entering.{span_ends}
use Rattle.neldrafi_schema.proofs.Leaving.{AllLeft, as_items, branch_ends, item_counted, item_not_counted, item_too_many, items_start, no_items_counted, no_items_left, one_too_many, present_passes, present_skipped, present_stops, schema_counted, schema_not_counted, schema_passes, schema_stops, several_pass, several_stop}
use Rattle.neldrafi_schema.proofs.Lists.{all_at, drop_one, drop_past, empty_by, not_empty_by}
use Rattle.neldrafi_schema.proofs.Plain.{child_passes, child_stops, no_child, none_by, other_items_report, placed_report, plain_reports, properties_report}
use Rattle.neldrafi_schema.proofs.Depth.{child_depth, fewer_steps}
use Rattle.neldrafi_schema.proofs.Each.{all_items, branch_passes, branch_stops, item_depth, item_passes, item_skipped, item_stops, no_items, none_from}
use Rattle.neldrafi_schema.proofs.Items.{array_items, no_array_items, no_branches, no_object_members, no_patterns, object_members}
use Rattle.neldrafi_schema.proofs.Taken.{beside_left, inside_left, itself_left, keywords_left, left_found, no_keywords_left, not_beside, own_found, part_left, some_spanned, speaks_of_none, text_beside, text_left}
use Rattle.neldrafi_schema.proofs.Taking.{keyword_left, left_all_seen, left_more, left_none}
use Rattle.neldrafi_schema.proofs.Within.{members_in_less}
use Rattle.neldrafi_schema.proofs.Visited.{holds, no_kinds, no_targets, nothing_mapped, refutes, rule_passes}
use Rattle.neldrafi_schema.proofs.Visiting.{Next, Within, always_accepts, few_below, goes_on, goes_on_target, is_body, keyword_ends, keyword_ready, keywords_accept, keywords_below, keywords_ready, keywords_refuse, never_accepts, next_found, next_tested, stops, stops_target, verdict_more}
use Rattle.neldrafi_schema.proofs.validity.Checker.+accepts.Goals.{children_accept-in-Some+in_ok-accepts+else-not-branch, children_accept-in_default, items_accept_by-then-place-from+in_ok-accepts+else-not-branch, items_accept_by-else-place-from, present_accept-then-is_present+in_ok-accepts+else-not-branch, present_accept-else-is_present, items_counted-then-branch+else-is_past, items_counted-else-branch, counted_accept-then-branch+else-is_past, counted_accept-else-branch}
use Rattle.neldrafi_schema.proofs.validity.Checker.+accepts.Goals as goal

pub accepts-offset_bounds-self-number : goal.accepts-offset_bounds-self-number
accepts-offset_bounds-self-number g t c =
    let inside = ends_inside g.E.RegexEngine.outcome c.args.self.now.nodes.now c.args.steps c.args.number c.requires.end in
    search (rules, scaled_fits≤)

pub accepts-bounds-self-number : goal.accepts-bounds-self-number
accepts-bounds-self-number g t c = ends_inside g.E.RegexEngine.outcome c.args.self.now.nodes.now c.args.steps c.args.number c.requires.end

pub accepts-overflow_sub-steps : goal.accepts-overflow_sub-steps
accepts-overflow_sub-steps g t c = let some =
    ends_some (schemas_of g.E.RegexEngine.outcome c.args.self.now.nodes.now) c.args.steps c.args.number c.requires.end in omega arith

pub accepts-returns-in-Always : goal.accepts-returns-in-Always
accepts-returns-in-Always g t c = λ lists tests.
    always_accepts g.E.RegexEngine.outcome c.args.self.now.nodes.now c.args.number c.args.steps c.index-self-number.result c.index-self-number.is c.requires.end
    c.in-Always.is lists (view c.args.instance.now)

pub accepts-returns-in-Never : goal.accepts-returns-in-Never
accepts-returns-in-Never g t c = λ lists tests.
    never_accepts g.E.RegexEngine.outcome c.args.self.now.nodes.now c.args.number c.args.steps c.index-self-number.result c.index-self-number.is c.requires.end
    c.in-Never.is lists (view c.args.instance.now)

pub accepts-condition-requires : goal.accepts-condition-requires
accepts-condition-requires g t c κs within =
    let outcome = g.E.RegexEngine.outcome in
    let nodes = c.args.self.now.nodes.now in
    let some = ends_some (schemas_of outcome nodes) c.args.steps c.args.number c.requires.end in
    let few : c.args.steps - 1 ≤ length nodes = omega (arith, c.requires.few) in
    let ends = keywords_below outcome nodes c.args.number c.args.steps c.index-self-number.result c.index-self-number.is c.requires.end
    c.in-Keywords.keywords c.deref.result.now c.in-Keywords.is c.deref.ensures.value in
    (omega (arith, c.decreases), (within.0, (within.1, (c.requires.ready, (c.requires.answers, (few, ends))))))

pub accepts-overflow_sub-steps-in-loop-keyword : goal.accepts-overflow_sub-steps-in-loop-keyword
accepts-overflow_sub-steps-in-loop-keyword g t c = let some =
    ends_some (schemas_of g.E.RegexEngine.outcome c.args.self.now.nodes.now) c.args.steps c.args.number c.requires.end in omega arith

pub accepts-conditional_accepts-requires : goal.accepts-conditional_accepts-requires
accepts-conditional_accepts-requires g t c κs within =
    let outcome = g.E.RegexEngine.outcome in
    let nodes = c.args.self.now.nodes.now in
    let node = c.index-self-number.result in
    let items = c.deref-keyword-items.result.now in
    let MayCall = MayTest g.T.Fn c.args.self.now.text_accepts.now in
    let some = ends_some (schemas_of outcome nodes) c.args.steps c.args.number c.requires.end in
    let few : c.args.steps - 1 ≤ length nodes = omega (arith, c.requires.few) in
    let this = keyword_ready outcome nodes c.args.number c.args.steps node c.index-self-number.is c.requires.end
    c.in-Keywords.keywords items c.in-Keywords.is c.deref-keyword-items.ensures.value
    MayCall c.loop-keyword.keyword-index c.keyword-item.result c.loop-keyword-test.true c.keyword-item.is c.requires.ready.each in
    let others = keywords_ready outcome nodes c.args.number c.args.steps node c.index-self-number.is c.requires.end
    c.in-Keywords.keywords c.deref-in-loop-keyword.result.now c.in-Keywords.is c.deref-in-loop-keyword.ensures.value MayCall c.requires.ready.each in
    let ends = keywords_below outcome nodes c.args.number c.args.steps node c.index-self-number.is c.requires.end
    c.in-Keywords.keywords c.deref-in-loop-keyword.result.now c.in-Keywords.is c.deref-in-loop-keyword.ensures.value in
    let end = keyword_ends outcome nodes c.args.number c.args.steps node c.index-self-number.is c.requires.end
    c.in-Keywords.keywords items c.in-Keywords.is c.deref-keyword-items.ensures.value
    c.loop-keyword.keyword-index c.keyword-item.result c.loop-keyword-test.true c.keyword-item.is in
    (omega (arith, c.decreases), (within.0, (within.1, (c.requires.ready, (c.requires.answers, (few, (this, (others, (ends, (end, c.in_ok-condition.ensures))))))))))

pub accepts-returns-then-not-branch : goal.accepts-returns-then-not-branch
accepts-returns-then-not-branch g t c = λ lists tests k site h.
    let outcome = g.E.RegexEngine.outcome in
    let nodes = c.args.self.now.nodes.now in
    let node = c.index-self-number.result in
    let items = c.deref-keyword-items.result.now in
    keywords_refuse outcome nodes c.args.number c.args.steps node c.index-self-number.is c.requires.end
    c.in-Keywords.keywords items c.in-Keywords.is c.deref-keyword-items.ensures.value lists (view c.args.instance.now) k site h
    (λ j less. stops outcome nodes (Within outcome nodes lists j) lists (header_of node.header) (view c.args.instance.now) site items c.deref-in-loop-keyword.result.now
    c.loop-keyword.keyword-index c.keyword-item.result c.loop-keyword-test.true c.keyword-item.is
    (c.deref-in-loop-keyword.ensures.value ∙ sym c.deref-keyword-items.ensures.value) c.in_ok-conditional_accepts.field-0
    (c.in_ok-conditional_accepts.ensures lists tests j (header_of node.header) site less) c.if-not-branch.true (c.loop-keyword.invariant lists tests j (header_of node.header) site less))

pub accepts-loop-keyword-preserved : goal.accepts-loop-keyword-preserved
accepts-loop-keyword-preserved g t c = λ lists tests k header site h.
    let outcome = g.E.RegexEngine.outcome in
    let nodes = c.args.self.now.nodes.now in
    goes_on outcome nodes (Within outcome nodes lists k) lists header (view c.args.instance.now) site c.deref-keyword-items.result.now c.deref-in-loop-keyword.result.now
    c.loop-keyword.keyword-index c.keyword-item.result c.loop-keyword-test.true c.keyword-item.is
    (c.deref-in-loop-keyword.ensures.value ∙ sym c.deref-keyword-items.ensures.value) c.in_ok-conditional_accepts.field-0
    (c.in_ok-conditional_accepts.ensures lists tests k header site h) c.if-not-branch.false (c.loop-keyword.invariant lists tests k header site h)

pub accepts-returns : goal.accepts-returns
accepts-returns g t c = λ lists tests k site h.
    let outcome = g.E.RegexEngine.outcome in
    let nodes = c.args.self.now.nodes.now in
    let node = c.index-self-number.result in
    let items = c.deref-keyword-items.result.now in
    keywords_accept outcome nodes c.args.number c.args.steps node c.index-self-number.is c.requires.end
    c.in-Keywords.keywords items c.in-Keywords.is c.deref-keyword-items.ensures.value lists (view c.args.instance.now) k site h
    (λ j less. (c.loop-keyword.invariant lists tests j (header_of node.header) site less).1 (rw (drop_past items c.loop-keyword.keyword-index c.loop-keyword-test.false) refl))

-- ---- the verdict on `if`

pub condition-accepts-requires : goal.condition-accepts-requires
condition-accepts-requires g t c κs within =
    let outcome = g.E.RegexEngine.outcome in
    let end = ends (schemas_of outcome c.args.self.now.nodes.now) c.args.steps in (
      omega (arith, c.decreases),
      (
        within.0,
        (
          within.1,
          (
            c.requires.ready,
            (
              c.requires.answers,
              (
                c.requires.few,
                c.in-Some.ensures outcome end
                    (keyword_end (keyword_of outcome) end c.args.keywords.now c.loop-keyword.keyword-index c.keyword-item.result c.requires.ends c.loop-keyword-test.true c.keyword-item.is),
              ),
            ),
          ),
        ),
      ),
    )

pub condition-returns-in-Some : goal.condition-returns-in-Some
condition-returns-in-Some g t c = λ lists tests k h site. c.in_ok-valid.ensures lists tests k site h

pub conditional_accepts-keyword_accepts-requires : goal.conditional_accepts-keyword_accepts-requires
conditional_accepts-keyword_accepts-requires g t c κs within =
    (omega (arith, c.decreases), (within.0, (within.1, (c.requires.ready, (c.requires.answers, (c.requires.few, (c.requires.this, (c.requires.others, (c.requires.ends, c.requires.end)))))))))

pub conditional_accepts-accepts-requires : goal.conditional_accepts-accepts-requires
conditional_accepts-accepts-requires g t c κs within =
    let outcome = g.E.RegexEngine.outcome in
    let end = ends (schemas_of outcome c.args.self.now.nodes.now) c.args.steps in
    let leads : Ends end (Leads c.in-Leads.number) = subst (Ends end) c.in-Leads.is (c.choice_of.ensures.end outcome end c.requires.end) in
    (omega (arith, c.decreases), (within.0, (within.1, (c.requires.ready, (c.requires.answers, (c.requires.few, leads))))))

pub conditional_accepts-returns-in-Passes : goal.conditional_accepts-returns-in-Passes
conditional_accepts-returns-in-Passes g t c = λ lists tests k header site h.
    let outcome = g.E.RegexEngine.outcome in
    let schemas = schemas_of outcome c.args.self.now.nodes.now in
    let beside = keywords_of outcome c.args.beside.now in
    let key = keyword_of outcome c.args.conditional.now.keyword.now in
    let d = view c.args.instance.now in
    let means = subst (Means schemas (Reports schemas lists k) lists header beside key d site) c.in-Passes.is
    (c.choice_of.ensures.means outcome schemas lists k header beside d site (c.requires.condition lists tests k h)) in
    holds _ true refl means

pub conditional_accepts-returns-in-Leads : goal.conditional_accepts-returns-in-Leads
conditional_accepts-returns-in-Leads g t c = λ lists tests. IfOk-weaker c.accepts.result _ _ (λ b p k header site h.
    let outcome = g.E.RegexEngine.outcome in
    let schemas = schemas_of outcome c.args.self.now.nodes.now in
    let beside = keywords_of outcome c.args.beside.now in
    let key = keyword_of outcome c.args.conditional.now.keyword.now in
    let d = view c.args.instance.now in
    let means = subst (Means schemas (Reports schemas lists k) lists header beside key d site) c.in-Leads.is
    (c.choice_of.ensures.means outcome schemas lists k header beside d site (c.requires.condition lists tests k h)) in
    means b (λ at. p k at h)) (c.accepts.ensures lists tests)

pub keyword_accepts-returns-in-Text : goal.keyword_accepts-returns-in-Text
keyword_accepts-returns-in-Text g t c = λ lists tests. IfOk-weaker c.text_accepts.result _ _
    (λ b p k header site h. rw c.in-Text.is
    (subst (λ o. IsTrue b ↔ TextReports lists header (keyword_name c.in-Text.field-0) (assertions_of g.E.RegexEngine.outcome c.in-Text.validator) o site []) c.as_str.ensures (p header _ site)))
    (tests _ _ _ c.text_accepts.ensures)

pub keyword_accepts-rule_accepts-requires : goal.keyword_accepts-rule_accepts-requires
keyword_accepts-rule_accepts-requires g t c κs within =
    let outcome = g.E.RegexEngine.outcome in
    let MayCall = MayTest g.T.Fn c.args.self.now.text_accepts.now in
    let this : IsRuledReady outcome MayCall (length c.args.self.now.nodes.now) c.in-Rule.ruled = rw c.in-Rule.is at c.requires.this in
    (omega (arith, c.decreases), (within.0, (within.1, (c.requires.ready, (c.requires.answers, (c.requires.few, (this, (c.requires.others, (c.requires.ends, rw c.in-Rule.is at c.requires.end)))))))))

pub found_accepts-findings-requires : goal.found_accepts-findings-requires
found_accepts-findings-requires g t c κs within =
    (omega (arith, c.decreases), (within.0, (within.1, (c.requires.ready, (c.requires.answers, (c.requires.few, (c.requires.this, (c.requires.others, (c.requires.ends, c.requires.end)))))))))

pub rule_accepts-returns-in-Some-default : goal.rule_accepts-returns-in-Some-default
rule_accepts-returns-in-Some-default g t c = λ lists tests k header site h.
    let outcome = g.E.RegexEngine.outcome in
    let nodes = c.args.self.now.nodes.now in
    let ruled = c.args.ruled.now in
    plain_reports (schemas_of outcome nodes) (Within outcome nodes lists k) lists header (keywords_of outcome c.args.beside.now) (string_bytes ruled.name)
    (rule_of outcome ruled.rule) (branches_of ruled.branches.items) (view c.args.instance.now) site c.in-Some-default.holds (c.in-Some-default.ensures outcome)

pub rule_accepts-returns-in-None-Some : goal.rule_accepts-returns-in-None-Some
rule_accepts-returns-in-None-Some g t c = λ lists tests. IfOk-weaker c.counted_accept.result _ _ (λ b says k header site h.
    let outcome = g.E.RegexEngine.outcome in
    let nodes = c.args.self.now.nodes.now in
    let ruled = c.args.ruled.now in
    let d = view c.args.instance.now in
    let word = string_bytes ruled.name in
    let below = Within outcome nodes lists k in
    let bounds = c.in-None-Some.bounds in
    let reports = subst (λ l. IsTrue b ↔ AreCounted below site word (on_itself d (branches_of l)) bounds.least bounds.most) c.deref-in-None-Some.ensures.value (says k site word h) in
    counting_report (schemas_of outcome nodes) below lists header (keywords_of outcome c.args.beside.now) word (branches_of ruled.branches.items) d site b
    (rule_of outcome ruled.rule) bounds.least bounds.most (c.in-None-Some.ensures' outcome) reports)
    (c.counted_accept.ensures lists tests)

pub rule_accepts-returns-in-Reference : goal.rule_accepts-returns-in-Reference
rule_accepts-returns-in-Reference g t c = λ lists tests. IfOk-weaker c.all_accept.result _ _ (λ b says k header site h.
    let outcome = g.E.RegexEngine.outcome in
    let nodes = c.args.self.now.nodes.now in
    let ruled = c.args.ruled.now in
    let d = view c.args.instance.now in
    let word = string_bytes ruled.name in
    let below = Within outcome nodes lists k in
    let reports = subst (λ l. IsTrue b ↔ EachReports below site word (on_itself d (branches_of l)) []) c.deref-in-Reference.ensures.value (says k site word h) in
    rw c.in-Reference.is (reference_report (schemas_of outcome nodes) below lists header (keywords_of outcome c.args.beside.now) word (branches_of ruled.branches.items) d site b reports))
    (c.all_accept.ensures lists tests)

pub rule_accepts-returns-in-AllOf : goal.rule_accepts-returns-in-AllOf
rule_accepts-returns-in-AllOf g t c = λ lists tests. IfOk-weaker c.all_accept-in-AllOf.result _ _ (λ b says k header site h.
    let outcome = g.E.RegexEngine.outcome in
    let nodes = c.args.self.now.nodes.now in
    let ruled = c.args.ruled.now in
    let d = view c.args.instance.now in
    let word = string_bytes ruled.name in
    let below = Within outcome nodes lists k in
    let reports = subst (λ l. IsTrue b ↔ EachReports below site word (on_itself d (branches_of l)) []) c.deref-in-AllOf.ensures.value (says k site word h) in
    rw c.in-AllOf.is (all_of_report (schemas_of outcome nodes) below lists header (keywords_of outcome c.args.beside.now) word (branches_of ruled.branches.items) d site b reports))
    (c.all_accept-in-AllOf.ensures lists tests)

pub rule_accepts-returns-in-OtherMembers : goal.rule_accepts-returns-in-OtherMembers
rule_accepts-returns-in-OtherMembers g t c = λ lists tests. IfOk-weaker c.others_accept.result _ _ (λ b says k header site h.
    let outcome = g.E.RegexEngine.outcome in
    let nodes = c.args.self.now.nodes.now in
    let ruled = c.args.ruled.now in
    let d = view c.args.instance.now in
    let word = string_bytes ruled.name in
    let below = Within outcome nodes lists k in
    let beside = keywords_of outcome c.args.beside.now in
    let bs = branches_of ruled.branches.items in
    let others = on_members (other_members_in beside d) in
    let reports = subst (λ l. IsTrue b ↔ EachReports below site word (flat_map others (branches_of l)) []) c.deref-in-OtherMembers.ensures.value (says k site word (omega (arith, h))) in
    rw c.in-OtherMembers.is (other_members_report (schemas_of outcome nodes) below lists header beside word bs d site b reports))
    (c.others_accept.ensures lists tests)

pub rule_accepts-returns-in-NoOtherMembers : goal.rule_accepts-returns-in-NoOtherMembers
rule_accepts-returns-in-NoOtherMembers g t c = λ lists tests. IfOk-weaker c.leads_to_all.result _ _ (λ b says k header site h.
    let outcome = g.E.RegexEngine.outcome in
    let nodes = c.args.self.now.nodes.now in
    let ruled = c.args.ruled.now in
    let d = view c.args.instance.now in
    let word = string_bytes ruled.name in
    let below = Within outcome nodes lists k in
    let beside = keywords_of outcome c.args.beside.now in
    let bs = branches_of ruled.branches.items in
    rw c.in-NoOtherMembers.is (no_other_members_report (schemas_of outcome nodes) below lists header beside word bs d site b says))
    (c.leads_to_all.ensures lists tests)

pub rule_accepts-returns-in-Matching : goal.rule_accepts-returns-in-Matching
rule_accepts-returns-in-Matching g t c = λ lists tests. IfOk-weaker c.matched_accept.result _ _ (λ b says k header site h.
    let outcome = g.E.RegexEngine.outcome in
    let nodes = c.args.self.now.nodes.now in
    let ruled = c.args.ruled.now in
    let d = view c.args.instance.now in
    let word = string_bytes ruled.name in
    let below = Within outcome nodes lists k in
    let beside = keywords_of outcome c.args.beside.now in
    let bs = branches_of ruled.branches.items in
    let of = assertions_of outcome in
    let patterns = map of c.in-Matching.patterns.items in
    let read = subst (λ l. IsTrue b ↔ EachReports below site word (on_matched d (map of l) (branches_of c.deref-in-Matching-2.result.now)) []) c.deref-in-Matching.ensures.value
    (says k site word (omega (arith, h))) in
    let reports = subst (λ l. IsTrue b ↔ EachReports below site word (on_matched d patterns (branches_of l)) []) c.deref-in-Matching-2.ensures.value read in
    rw c.in-Matching.is (matching_report (schemas_of outcome nodes) below lists header beside word bs d site b patterns reports))
    (c.matched_accept.ensures lists tests)

pub rule_accepts-returns-then-not-has_all_dependents : goal.rule_accepts-returns-then-not-has_all_dependents
rule_accepts-returns-then-not-has_all_dependents g t c = λ lists tests k header site h.
    let outcome = g.E.RegexEngine.outcome in
    let nodes = c.args.self.now.nodes.now in
    let ruled = c.args.ruled.now in
    let d = view c.args.instance.now in
    let word = string_bytes ruled.name in
    let below = Within outcome nodes lists k in
    let beside = keywords_of outcome c.args.beside.now in
    let bs = branches_of ruled.branches.items in
    let ds = map dependency_of c.in-Dependent.dependencies.items in
    rw c.in-Dependent.is (refutes _ false refl (λ reported.
    let none : flat_map (missing_beside d) ds ≡ [] = dependent_stops (schemas_of outcome nodes) below lists header beside word bs d site false ds reported in
    absurd (false≢true (sym c.if-not-has_all_dependents.true
    ∙ c.has_all_dependents.ensures.1 (ap (λ l. flat_map (missing_beside d) (map dependency_of l)) c.deref-in-Dependent.ensures.value ∙ none)))))

pub rule_accepts-returns-else-not-has_all_dependents : goal.rule_accepts-returns-else-not-has_all_dependents
rule_accepts-returns-else-not-has_all_dependents g t c = λ lists tests. IfOk-weaker c.present_accept.result _ _ (λ b says k header site h.
    let outcome = g.E.RegexEngine.outcome in
    let nodes = c.args.self.now.nodes.now in
    let ruled = c.args.ruled.now in
    let d = view c.args.instance.now in
    let word = string_bytes ruled.name in
    let below = Within outcome nodes lists k in
    let beside = keywords_of outcome c.args.beside.now in
    let bs = branches_of ruled.branches.items in
    let ds = map dependency_of c.in-Dependent.dependencies.items in
    let none : flat_map (missing_beside d) ds ≡ [] = ap (λ l. flat_map (missing_beside d) (map dependency_of l)) (sym c.deref-in-Dependent.ensures.value)
    ∙ c.has_all_dependents.ensures.0 c.if-not-has_all_dependents.false in
    let reports = subst (λ l. IsTrue b ↔ EachReports below site word (on_itself d (filter (is_present d) (branches_of l))) []) c.deref-in-Dependent-2.ensures.value (says k site word h) in
    rw c.in-Dependent.is (dependent_report (schemas_of outcome nodes) below lists header beside word bs d site b ds none reports))
    (c.present_accept.ensures lists tests)

pub rule_accepts-returns-in-Some : goal.rule_accepts-returns-in-Some
rule_accepts-returns-in-Some g t c = λ lists tests. IfOk-weaker c.items_counted.result _ _ (λ b says k header site h.
    let outcome = g.E.RegexEngine.outcome in
    let nodes = c.args.self.now.nodes.now in
    let ruled = c.args.ruled.now in
    let d = view c.args.instance.now in
    let word = string_bytes ruled.name in
    let below = Within outcome nodes lists k in
    let beside = keywords_of outcome c.args.beside.now in
    let bs = branches_of ruled.branches.items in
    let only = branch_of c.in-Some.branch.now in
    let one : bs ≡ only ∷ [] = ap branches_of (sym c.deref-in-Contains.ensures.value ∙ c.in-Some.ensures) in
    rw c.in-Contains.is (contains_report (schemas_of outcome nodes) below lists header beside word bs d site b only c.in-Contains.least c.in-Contains.most c.in-Contains.field-2 one
    (says k site word (omega (arith, h)))))
    (c.items_counted.ensures lists tests)

pub rule_accepts-returns-in-NoOtherItems : goal.rule_accepts-returns-in-NoOtherItems
rule_accepts-returns-in-NoOtherItems g t c = λ lists tests k header site h.
    let outcome = g.E.RegexEngine.outcome in
    let nodes = c.args.self.now.nodes.now in
    let ruled = c.args.ruled.now in
    let d = view c.args.instance.now in
    let word = string_bytes ruled.name in
    let below = Within outcome nodes lists k in
    let beside = keywords_of outcome c.args.beside.now in
    let bs = branches_of ruled.branches.items in
    rw c.in-NoOtherItems.is (no_other_items_report (schemas_of outcome nodes) below lists header beside word bs d site c.has_no_items_from.result
    c.placed_count-in-NoOtherItems.result (c.placed_count-in-NoOtherItems.ensures outcome) c.has_no_items_from.ensures)

pub rule_accepts-found_accepts-requires : goal.rule_accepts-found_accepts-requires
rule_accepts-found_accepts-requires g t c κs within =
    (omega (arith, c.decreases), (within.0, (within.1, (c.requires.ready, (c.requires.answers, (c.requires.few, (c.requires.this, (c.requires.others, (c.requires.ends, c.requires.end)))))))))

pub rule_accepts-children_accept-requires : goal.rule_accepts-children_accept-requires
rule_accepts-children_accept-requires g t c κs within =
    (omega (arith, c.decreases), (within.0, (within.1, (c.requires.ready, (c.requires.answers, rw c.deref.ensures.value c.requires.this.1)))))

pub rule_accepts-returns-in-Properties : goal.rule_accepts-returns-in-Properties
rule_accepts-returns-in-Properties g t c = λ lists tests. IfOk-weaker c.children_accept.result _ _ (λ b says k header site h.
    let outcome = g.E.RegexEngine.outcome in
    let nodes = c.args.self.now.nodes.now in
    let ruled = c.args.ruled.now in
    let d = view c.args.instance.now in
    let word = string_bytes ruled.name in
    let below = Within outcome nodes lists k in
    let reports = subst (λ l. IsTrue b ↔ EachReports below site word (flat_map (on_child d) (branches_of l)) []) c.deref.ensures.value (says k site word (omega (arith, h))) in
    rw c.in-Properties.is (properties_report (schemas_of outcome nodes) below lists header (keywords_of outcome c.args.beside.now) word (branches_of ruled.branches.items) d site b reports))
    (c.children_accept.ensures lists tests)

pub rule_accepts-returns-in-Placed : goal.rule_accepts-returns-in-Placed
rule_accepts-returns-in-Placed g t c = λ lists tests. IfOk-weaker c.children_accept-in-Placed.result _ _ (λ b says k header site h.
    let outcome = g.E.RegexEngine.outcome in
    let nodes = c.args.self.now.nodes.now in
    let ruled = c.args.ruled.now in
    let d = view c.args.instance.now in
    let word = string_bytes ruled.name in
    let below = Within outcome nodes lists k in
    let reports = subst (λ l. IsTrue b ↔ EachReports below site word (flat_map (on_child d) (branches_of l)) []) c.deref-in-Placed.ensures.value (says k site word (omega (arith, h))) in
    rw c.in-Placed.is (placed_report (schemas_of outcome nodes) below lists header (keywords_of outcome c.args.beside.now) word (branches_of ruled.branches.items) d site b reports))
    (c.children_accept-in-Placed.ensures lists tests)

pub rule_accepts-items_accept-requires : goal.rule_accepts-items_accept-requires
rule_accepts-items_accept-requires g t c κs within =
    (omega (arith, c.decreases), (within.0, (within.1, (c.requires.ready, (c.requires.answers, rw c.deref-in-OtherItems.ensures.value c.requires.this.1)))))

pub rule_accepts-returns-in-OtherItems : goal.rule_accepts-returns-in-OtherItems
rule_accepts-returns-in-OtherItems g t c = λ lists tests. IfOk-weaker c.items_accept.result _ _ (λ b says k header site h.
    let outcome = g.E.RegexEngine.outcome in
    let nodes = c.args.self.now.nodes.now in
    let ruled = c.args.ruled.now in
    let d = view c.args.instance.now in
    let word = string_bytes ruled.name in
    let below = Within outcome nodes lists k in
    let from = c.placed_count.result in
    let reports = subst (λ l. IsTrue b ↔ EachReports below site word (flat_map (on_items (drop from (placed_items d))) (branches_of l)) []) c.deref-in-OtherItems.ensures.value
    (says k site word (omega (arith, h))) in
    rw c.in-OtherItems.is (other_items_report (schemas_of outcome nodes) below lists header (keywords_of outcome c.args.beside.now) word (branches_of ruled.branches.items) d site b
    from (c.placed_count.ensures outcome) reports))
    (c.items_accept.ensures lists tests)

-- ---- schemas of the instance itself

pub all_accept-accepts-requires : goal.all_accept-accepts-requires
all_accept-accepts-requires g t c κs within =
    let end = branch_ends (ends (schemas_of g.E.RegexEngine.outcome c.args.self.now.nodes.now) c.args.steps) c.args.branches.now c.loop-branch.branch-index c.branch-item.result
    c.requires.end c.loop-branch-test.true c.branch-item.is in
    (omega (arith, c.decreases), (within.0, (within.1, (c.requires.ready, (c.requires.answers, (c.requires.few, end))))))

pub all_accept-loop-branch-preserved : goal.all_accept-loop-branch-preserved
all_accept-loop-branch-preserved g t c = λ lists tests k site word h.
    schema_passes (Within g.E.RegexEngine.outcome c.args.self.now.nodes.now lists k) site word (view c.args.instance.now) c.args.branches.now c.loop-branch.branch-index c.branch-item.result
    c.loop-branch-test.true c.branch-item.is c.in_ok-accepts.field-0 (λ at. c.in_ok-accepts.ensures lists tests k at h) c.if-not-branch.false
    (c.loop-branch.invariant lists tests k site word h)

pub all_accept-returns-then-not-branch : goal.all_accept-returns-then-not-branch
all_accept-returns-then-not-branch g t c = λ lists tests k site word h. refutes _ false refl (λ reported. absurd (
    schema_stops (Within g.E.RegexEngine.outcome c.args.self.now.nodes.now lists k) site word (view c.args.instance.now) c.args.branches.now c.loop-branch.branch-index c.branch-item.result
    c.loop-branch-test.true c.branch-item.is c.in_ok-accepts.field-0 (λ at. c.in_ok-accepts.ensures lists tests k at h) c.if-not-branch.true
    (c.loop-branch.invariant lists tests k site word h) reported))

pub counted_accept-accepts-requires : goal.counted_accept-accepts-requires
counted_accept-accepts-requires g t c κs within =
    let end = branch_ends (ends (schemas_of g.E.RegexEngine.outcome c.args.self.now.nodes.now) c.args.steps) c.args.branches.now c.loop-branch.branch-index c.branch-item.result
    c.requires.end c.loop-branch-test.true c.branch-item.is in
    (omega (arith, c.decreases), (within.0, (within.1, (c.requires.ready, (c.requires.answers, (c.requires.few, end))))))

pub counted_accept-returns : goal.counted_accept-returns
counted_accept-returns g t c = λ lists tests k site word h.
    let below = Within g.E.RegexEngine.outcome c.args.self.now.nodes.now lists k in
    let all = on_itself (view c.args.instance.now) (branches_of c.args.branches.now) in
    all_counted below site word all c.loop-branch.count c.args.bounds.least c.args.bounds.most c.is_between.result c.is_between.ensures
    (subst (λ bs. Counted below site word all c.loop-branch.count (on_itself (view c.args.instance.now) (branches_of bs)))
    (drop_past c.args.branches.now c.loop-branch.branch-index c.loop-branch-test.false) (c.loop-branch.invariant.counted lists tests k site word h))

pub counted_accept-loop-branch-preserved : goal.counted_accept-loop-branch-preserved
counted_accept-loop-branch-preserved g t c =
    let d = view c.args.instance.now in
    let items = c.args.branches.now in
    let i = c.loop-branch.branch-index in
    let b = c.branch-item.result in elim c.if-branch.branch [
      | counted_accept-then-branch+else-is_past w ↦ record {
        small = omega (arith, c.loop-branch.invariant.small, w.count-is);
        counted = λ lists tests k site word h. rw w.count-is (schema_counted (Within g.E.RegexEngine.outcome c.args.self.now.nodes.now lists k) site word d items i b
            c.loop-branch-test.true c.branch-item.is c.in_ok-accepts.field-0 (λ at. c.in_ok-accepts.ensures lists tests k at h) c.loop-branch.count
            (c.loop-branch.invariant.counted lists tests k site word h) w.if-branch.true);
      }
      | counted_accept-else-branch w ↦ record {
        small = omega (arith, c.loop-branch.invariant.small, w.count-is);
        counted = λ lists tests k site word h. rw w.count-is (schema_not_counted (Within g.E.RegexEngine.outcome c.args.self.now.nodes.now lists k) site word d items i b
            c.loop-branch-test.true c.branch-item.is c.in_ok-accepts.field-0 (λ at. c.in_ok-accepts.ensures lists tests k at h) c.loop-branch.count
            (c.loop-branch.invariant.counted lists tests k site word h) w.if-branch.false);
      }
    ]

pub counted_accept-returns-then-is_past : goal.counted_accept-returns-then-is_past
counted_accept-returns-then-is_past g t c = λ lists tests k site word h. refutes _ false refl (λ reported. absurd (
    one_too_many (Within g.E.RegexEngine.outcome c.args.self.now.nodes.now lists k) site word (view c.args.instance.now) c.args.branches.now c.loop-branch.branch-index c.branch-item.result
    c.loop-branch-test.true c.branch-item.is c.in_ok-accepts.field-0 (λ at. c.in_ok-accepts.ensures lists tests k at h) c.loop-branch.count
    (c.loop-branch.invariant.counted lists tests k site word h) c.args.bounds.least c.args.bounds.most c.if-branch.true (sym c.is_past.ensures ∙ c.if-is_past.true) reported))

-- ---- schemas of the instance itself whose keys it has

pub present_accept-accepts-requires : goal.present_accept-accepts-requires
present_accept-accepts-requires g t c κs within =
    let end = branch_ends (ends (schemas_of g.E.RegexEngine.outcome c.args.self.now.nodes.now) c.args.steps) c.args.branches.now c.loop-branch.branch-index c.branch-item.result
    c.requires.end c.loop-branch-test.true c.branch-item.is in
    (omega (arith, c.decreases), (within.0, (within.1, (c.requires.ready, (c.requires.answers, (c.requires.few, end))))))

pub present_accept-returns-then-not-branch : goal.present_accept-returns-then-not-branch
present_accept-returns-then-not-branch g t c = λ lists tests k site word h. refutes _ false refl (λ reported. absurd (
    present_stops (Within g.E.RegexEngine.outcome c.args.self.now.nodes.now lists k) site word (view c.args.instance.now) c.args.branches.now c.loop-branch.branch-index c.branch-item.result
    c.loop-branch-test.true c.branch-item.is c.is_present.result c.is_present.ensures (c.loop-branch.invariant lists tests k site word h) c.if-is_present.true
    c.in_ok-accepts.field-0 (λ at. c.in_ok-accepts.ensures lists tests k at h) c.if-not-branch.true reported))

pub present_accept-loop-branch-preserved : goal.present_accept-loop-branch-preserved
present_accept-loop-branch-preserved g t c = λ lists tests k site word h.
    let below = Within g.E.RegexEngine.outcome c.args.self.now.nodes.now lists k in
    let d = view c.args.instance.now in
    let items = c.args.branches.now in
    let i = c.loop-branch.branch-index in
    let before = c.loop-branch.invariant lists tests k site word h in elim c.if-is_present.branch [
      | present_accept-then-is_present+in_ok-accepts+else-not-branch w ↦
          present_passes below site word d items i c.branch-item.result c.loop-branch-test.true c.branch-item.is c.is_present.result c.is_present.ensures before w.if-is_present.true
          w.in_ok-accepts.field-0 (λ at. w.in_ok-accepts.ensures lists tests k at h) w.if-not-branch.false
      | present_accept-else-is_present w ↦
          present_skipped below site word d items i c.branch-item.result c.loop-branch-test.true c.branch-item.is c.is_present.result c.is_present.ensures before w.if-is_present.false
    ]

-- ---- member by member

pub members_accept-returns-in_default : goal.members_accept-returns-in_default
members_accept-returns-in_default g t c = λ lists tests k site word h.
    let d = view c.args.instance.now in
    let none : as_object d ≡ None = sym c.as_object.ensures ∙ ap (option_map (λ v. members_view v.now.entries)) (none_by c.as_object.result c.in_default.not-Some) in
    holds _ true refl (rw (no_object_members d none) refl)

pub members_accept-loop-name-init : goal.members_accept-loop-name-init
members_accept-loop-name-init g t c =
    let d = view c.args.instance.now in
    let all = c.in-Some.members.now.entries in
    let same : c.into_iter-name-iterator.result ≡ all = search rules in
    let found : as_object d ≡ Some (members_view all) = search rules in record {
      all = λ lists tests k site word h. rw (same, object_members d (members_view all) found) (λ x. x, λ x. x);
      less = rw same (subst (AreLess d) (object_members d (members_view all) found) (members_in_less d));
    }

pub members_accept-accepts-requires : goal.members_accept-accepts-requires
members_accept-accepts-requires g t c κs within =
    let nodes = c.args.self.now.nodes.now in
    let d = view c.args.instance.now in
    let v = view c.in-Some-2.value.now in
    let less = first_less d (string_bytes c.in-Some-2.name.now, v) (member_list (members_view c.next.new.self)) (member_list (members_view c.loop-name.name-iterator))
    (ap (λ es. member_list (members_view es)) c.in-Some-2.ensures.steps) c.loop-name.invariant.less in
    let fewer = fewer_steps (length nodes) (depth v) (depth d) 0 less.0 in
    (omega (arith, c.decreases, fewer), (within.0, (within.1, (c.requires.ready, (c.requires.answers, (le_refl (length nodes), c.requires.ready.end c.args.branch.now.schema c.requires.there))))))

pub members_accept-returns-then-not-branch : goal.members_accept-returns-then-not-branch
members_accept-returns-then-not-branch g t c = λ lists tests k site word h.
    let outcome = g.E.RegexEngine.outcome in
    let nodes = c.args.self.now.nodes.now in
    let below = Within outcome nodes lists k in
    let d = view c.args.instance.now in
    let v = view c.in-Some-2.value.now in
    let m : List ℕ × Data = (string_bytes c.in-Some-2.name.now, v) in
    let b = branch_of c.args.branch.now in
    let chosen = c.args.chosen.now in
    let rest = member_list (members_view c.next.new.self) in
    let it = member_list (members_view c.loop-name.name-iterator) in
    let step : it ≡ m ∷ rest = ap (λ es. member_list (members_view es)) c.in-Some-2.ensures.steps in
    let less = first_less d m rest it step c.loop-name.invariant.less in
    let fewer = fewer_steps (length nodes) (depth v) (depth d) 0 less.0 in
    let is : c.in_ok-chooses.field-0 ≡ is_chosen outcome chosen (string_bytes c.in-Some-2.name.now) = c.in_ok-chooses.ensures lists tests ∙ ap (is_chosen outcome chosen) c.as_str.ensures.value in
    refutes _ false refl (λ reported. absurd (member_stops below site word (on_members (chosen_members outcome chosen d) b) b (λ (x : List ℕ × Data). is_chosen outcome chosen x.0)
    m rest it step c.in_ok-chooses.field-0 is (c.loop-name.invariant.all lists tests k site word h) c.if-branch.true c.in_ok-accepts.field-0
    (λ at. c.in_ok-accepts.ensures lists tests k at (omega (arith, fewer, h))) c.if-not-branch.true reported))

pub members_accept-loop-name-preserved : goal.members_accept-loop-name-preserved
members_accept-loop-name-preserved g t c =
    let outcome = g.E.RegexEngine.outcome in
    let d = view c.args.instance.now in
    let v = view c.in-Some-2.value.now in
    let m : List ℕ × Data = (string_bytes c.in-Some-2.name.now, v) in
    let b = branch_of c.args.branch.now in
    let chosen = c.args.chosen.now in
    let rest = member_list (members_view c.next.new.self) in
    let it = member_list (members_view c.loop-name.name-iterator) in
    let step : it ≡ m ∷ rest = ap (λ es. member_list (members_view es)) c.in-Some-2.ensures.steps in
    let less = first_less d m rest it step c.loop-name.invariant.less in
    record {
      all = λ lists tests k site word h.
          let below = Within outcome c.args.self.now.nodes.now lists k in
          let is : c.in_ok-chooses.field-0 ≡ is_chosen outcome chosen (string_bytes c.in-Some-2.name.now) = c.in_ok-chooses.ensures lists tests ∙ ap (is_chosen outcome chosen) c.as_str.ensures.value in
          member_skipped below site word (on_members (chosen_members outcome chosen d) b) b (λ (x : List ℕ × Data). is_chosen outcome chosen x.0)
          m rest it step c.in_ok-chooses.field-0 is (c.loop-name.invariant.all lists tests k site word h) c.if-branch.false;
      less = less.1;
    }

pub members_accept-loop-name-preserved-else-not-branch : goal.members_accept-loop-name-preserved-else-not-branch
members_accept-loop-name-preserved-else-not-branch g t c =
    let outcome = g.E.RegexEngine.outcome in
    let d = view c.args.instance.now in
    let v = view c.in-Some-2.value.now in
    let m : List ℕ × Data = (string_bytes c.in-Some-2.name.now, v) in
    let b = branch_of c.args.branch.now in
    let chosen = c.args.chosen.now in
    let rest = member_list (members_view c.next.new.self) in
    let it = member_list (members_view c.loop-name.name-iterator) in
    let step : it ≡ m ∷ rest = ap (λ es. member_list (members_view es)) c.in-Some-2.ensures.steps in
    let less = first_less d m rest it step c.loop-name.invariant.less in
    let nodes = c.args.self.now.nodes.now in
    let fewer = fewer_steps (length nodes) (depth v) (depth d) 0 less.0 in
    record {
      all = λ lists tests k site word h.
          let below = Within outcome nodes lists k in
          let is : c.in_ok-chooses.field-0 ≡ is_chosen outcome chosen (string_bytes c.in-Some-2.name.now) = c.in_ok-chooses.ensures lists tests ∙ ap (is_chosen outcome chosen) c.as_str.ensures.value in
          member_passes below site word (on_members (chosen_members outcome chosen d) b) b (λ (x : List ℕ × Data). is_chosen outcome chosen x.0)
          m rest it step c.in_ok-chooses.field-0 is (c.loop-name.invariant.all lists tests k site word h) c.if-branch.true c.in_ok-accepts.field-0
          (λ at. c.in_ok-accepts.ensures lists tests k at (omega (arith, fewer, h))) c.if-not-branch.false;
      less = less.1;
    }

pub members_accept-returns : goal.members_accept-returns
members_accept-returns g t c = λ lists tests k site word h.
    let outcome = g.E.RegexEngine.outcome in
    let b = branch_of c.args.branch.now in
    let chosen = c.args.chosen.now in
    let none : member_list (members_view c.loop-name.name-iterator) ≡ [] = ap (λ es. member_list (members_view es)) c.in-None.ensures.steps.0 in
    holds _ true refl ((c.loop-name.invariant.all lists tests k site word h).1 (rw none refl))

-- ---- the other members, by schemas

pub others_accept-members_accept-requires : goal.others_accept-members_accept-requires
others_accept-members_accept-requires g t c κs within =
    let nodes = c.args.self.now.nodes.now in
    let inside = all_at (λ b. b.schema < length nodes) c.args.branches.now c.loop-branch.branch-index c.branch-item.result c.requires.there c.loop-branch-test.true c.branch-item.is in
    (omega (arith, c.decreases), (within.0, (within.1, (c.requires.ready, (c.requires.answers, ((c.requires.others, c.are_all_in_order.ensures), inside))))))

pub others_accept-loop-branch-preserved : goal.others_accept-loop-branch-preserved
others_accept-loop-branch-preserved g t c = λ lists tests k site word h.
    let outcome = g.E.RegexEngine.outcome in
    let below = Within outcome c.args.self.now.nodes.now lists k in
    let items = c.args.branches.now in
    let i = c.loop-branch.branch-index in
    let b = c.branch-item.result in
    let f = on_members (other_members_in (keywords_of outcome c.args.beside.now) (view c.args.instance.now)) in
    let all = flat_map f (branches_of items) in
    several_pass below site word all (f (branch_of b)) (flat_map f (branches_of (drop (i + 1) items))) c.in_ok-members_accept.field-0
    (c.in_ok-members_accept.ensures lists tests k site word h)
    (subst (λ l. AllLeft below site word all (flat_map f (branches_of l))) (drop_one items i b c.loop-branch-test.true c.branch-item.is) (c.loop-branch.invariant lists tests k site word h))
    c.if-not-branch.false

pub others_accept-returns-then-not-branch : goal.others_accept-returns-then-not-branch
others_accept-returns-then-not-branch g t c = λ lists tests k site word h.
    let outcome = g.E.RegexEngine.outcome in
    let below = Within outcome c.args.self.now.nodes.now lists k in
    let items = c.args.branches.now in
    let i = c.loop-branch.branch-index in
    let b = c.branch-item.result in
    let f = on_members (other_members_in (keywords_of outcome c.args.beside.now) (view c.args.instance.now)) in
    let all = flat_map f (branches_of items) in
    refutes _ false refl (λ reported. absurd (several_stop below site word all (f (branch_of b)) (flat_map f (branches_of (drop (i + 1) items))) c.in_ok-members_accept.field-0
    (c.in_ok-members_accept.ensures lists tests k site word h)
    (subst (λ l. AllLeft below site word all (flat_map f (branches_of l))) (drop_one items i b c.loop-branch-test.true c.branch-item.is) (c.loop-branch.invariant lists tests k site word h))
    c.if-not-branch.true reported))

pub others_accept-returns : goal.others_accept-returns
others_accept-returns g t c = λ lists tests k site word h.
    holds _ true refl ((c.loop-branch.invariant lists tests k site word h).1 (rw (drop_past c.args.branches.now c.loop-branch.branch-index c.loop-branch-test.false) refl))

-- ---- pattern by pattern

pub matched_accept-members_accept-requires : goal.matched_accept-members_accept-requires
matched_accept-members_accept-requires g t c κs within =
    let outcome = g.E.RegexEngine.outcome in
    let nodes = c.args.self.now.nodes.now in
    let step = c.in-Some.ensures.steps in
    let ready = subst (AllByRecursion (IsPatternReady outcome (MayTest g.T.Fn c.args.self.now.text_accepts.now) (length nodes))) step.0 c.loop-pattern.invariant.ready in
    let there = subst (AllByRecursion (λ b. b.schema < length nodes)) step.1 c.loop-pattern.invariant.there in
    (omega (arith, c.decreases), (within.0, (within.1, (c.requires.ready, (c.requires.answers, (ready.0, there.0))))))

pub matched_accept-loop-pattern-preserved : goal.matched_accept-loop-pattern-preserved
matched_accept-loop-pattern-preserved g t c =
    let outcome = g.E.RegexEngine.outcome in
    let nodes = c.args.self.now.nodes.now in
    let d = view c.args.instance.now in
    let step = c.in-Some.ensures.steps in
    let patterns = iter_rest (zip_first c.next.new.self) in
    let branches = iter_rest (zip_second c.next.new.self) in
    let all = on_matched d (map (assertions_of outcome) c.args.patterns.now) (branches_of c.args.branches.now) in
    let ts = on_members (filter (λ m. is_matched m.0 (assertions_of outcome c.in-Some.pattern.now)) (members_in d)) (branch_of c.in-Some.branch.now) in
    let us = on_matched d (map (assertions_of outcome) patterns) (branches_of branches) in record {
      ready = (subst (AllByRecursion (IsPatternReady outcome (MayTest g.T.Fn c.args.self.now.text_accepts.now) (length nodes))) step.0 c.loop-pattern.invariant.ready).1;
      there = (subst (AllByRecursion (λ b. b.schema < length nodes)) step.1 c.loop-pattern.invariant.there).1;
      all = λ lists tests k site word h.
          let below = Within outcome nodes lists k in
          several_pass below site word all ts us c.in_ok-members_accept.field-0 (c.in_ok-members_accept.ensures lists tests k site word h)
          (subst (λ l. AllLeft below site word all (on_matched d (map (assertions_of outcome) (c.in-Some.pattern.now ∷ patterns)) (branches_of l))) step.1
          (subst (λ l. AllLeft below site word all (on_matched d (map (assertions_of outcome) l) (branches_of (iter_rest (zip_second c.loop-pattern.pattern-iterator))))) step.0
          (c.loop-pattern.invariant.all lists tests k site word h)))
          c.if-not-branch.false;
    }

pub matched_accept-returns-then-not-branch : goal.matched_accept-returns-then-not-branch
matched_accept-returns-then-not-branch g t c = λ lists tests k site word h.
    let outcome = g.E.RegexEngine.outcome in
    let nodes = c.args.self.now.nodes.now in
    let below = Within outcome nodes lists k in
    let d = view c.args.instance.now in
    let step = c.in-Some.ensures.steps in
    let patterns = iter_rest (zip_first c.next.new.self) in
    let branches = iter_rest (zip_second c.next.new.self) in
    let all = on_matched d (map (assertions_of outcome) c.args.patterns.now) (branches_of c.args.branches.now) in
    let ts = on_members (filter (λ m. is_matched m.0 (assertions_of outcome c.in-Some.pattern.now)) (members_in d)) (branch_of c.in-Some.branch.now) in
    let us = on_matched d (map (assertions_of outcome) patterns) (branches_of branches) in
    refutes _ false refl (λ reported. absurd (several_stop below site word all ts us c.in_ok-members_accept.field-0 (c.in_ok-members_accept.ensures lists tests k site word h)
    (subst (λ l. AllLeft below site word all (on_matched d (map (assertions_of outcome) (c.in-Some.pattern.now ∷ patterns)) (branches_of l))) step.1
    (subst (λ l. AllLeft below site word all (on_matched d (map (assertions_of outcome) l) (branches_of (iter_rest (zip_second c.loop-pattern.pattern-iterator))))) step.0
    (c.loop-pattern.invariant.all lists tests k site word h)))
    c.if-not-branch.true reported))

pub matched_accept-returns : goal.matched_accept-returns
matched_accept-returns g t c = λ lists tests k site word h.
    let d = view c.args.instance.now in
    let of = assertions_of g.E.RegexEngine.outcome in
    let patterns = iter_rest (zip_first c.loop-pattern.pattern-iterator) in
    let branches = iter_rest (zip_second c.loop-pattern.pattern-iterator) in
    let ended : on_matched d (map of patterns) (branches_of branches) ≡ [] = elim c.in-None.ensures.steps [
      | inl p ↦ no_patterns d of branch_of patterns branches p.1.0
      | inr p ↦ no_branches d of branch_of patterns branches p.1.0
    ] in
    holds _ true refl ((c.loop-pattern.invariant.all lists tests k site word h).1 (rw ended refl))

-- ---- the items that are valid

pub items_counted-returns-in_default : goal.items_counted-returns-in_default
items_counted-returns-in_default g t c = λ lists tests k site word h.
    let d = view c.args.instance.now in
    let none : as_array d ≡ None = sym c.as_array.ensures ∙ ap (option_map (λ v. items_view v.now.items)) (none_by c.as_array.result c.in_default.not-Some) in
    holds _ true refl (no_items_counted (Within g.E.RegexEngine.outcome c.args.self.now.nodes.now lists k) site word d (branch_of c.args.branch.now) c.args.bounds.least c.args.bounds.most none)

pub items_counted-accepts-requires : goal.items_counted-accepts-requires
items_counted-accepts-requires g t c κs within =
    let nodes = c.args.self.now.nodes.now in
    let d = view c.args.instance.now in
    let vs = c.deref-item-items.result.now in
    let v = c.item-item.result in
    let found : as_array d ≡ Some (items_view vs) = grind (arith, common_steps) in
    let less = item_depth d vs c.loop-item.item-index v (array_items d vs found) c.loop-item-test.true c.item-item.is in
    let fewer = fewer_steps (length nodes) (depth (view v)) (depth d) 0 less in
    (omega (arith, c.decreases, fewer), (within.0, (within.1, (c.requires.ready, (c.requires.answers, (le_refl (length nodes), c.requires.ready.end c.args.branch.now.schema c.requires.there))))))

pub items_counted-loop-item-init : goal.items_counted-loop-item-init
items_counted-loop-item-init g t c =
    let d = view c.args.instance.now in
    let b = branch_of c.args.branch.now in
    let vs = c.deref-item-items.result.now in
    let found : as_array d ≡ Some (items_view vs) = grind (arith, common_steps) in record {
      small = omega arith;
      counted = λ lists tests k site word h. items_start (Within g.E.RegexEngine.outcome c.args.self.now.nodes.now lists k) site word d b vs (array_items d vs found);
    }

pub items_counted-loop-item-preserved : goal.items_counted-loop-item-preserved
items_counted-loop-item-preserved g t c =
    let nodes = c.args.self.now.nodes.now in
    let d = view c.args.instance.now in
    let b = branch_of c.args.branch.now in
    let vs = c.deref-item-items.result.now in
    let i = c.loop-item.item-index in
    let v = c.item-item.result in
    let all = on_items (placed_items d) b in
    let found : as_array d ≡ Some (items_view vs) = grind (arith, common_steps) in
    let less = item_depth d vs i v (array_items d vs found) c.loop-item-test.true c.item-item.is in
    let fewer = fewer_steps (length nodes) (depth (view v)) (depth d) 0 less in
    elim c.if-branch.branch [
      | items_counted-then-branch+else-is_past w ↦ record {
        small = omega (arith, c.loop-item.invariant.small, w.count-is);
        counted = λ lists tests k site word h. rw w.count-is (item_counted (Within g.E.RegexEngine.outcome nodes lists k) site word all b vs i v
            c.loop-item-test.true c.item-item.is c.in_ok-accepts.field-0 (λ at. c.in_ok-accepts.ensures lists tests k at (omega (arith, fewer, h))) c.loop-item.count
            (c.loop-item.invariant.counted lists tests k site word h) w.if-branch.true);
      }
      | items_counted-else-branch w ↦ record {
        small = omega (arith, c.loop-item.invariant.small, w.count-is);
        counted = λ lists tests k site word h. rw w.count-is (item_not_counted (Within g.E.RegexEngine.outcome nodes lists k) site word all b vs i v
            c.loop-item-test.true c.item-item.is c.in_ok-accepts.field-0 (λ at. c.in_ok-accepts.ensures lists tests k at (omega (arith, fewer, h))) c.loop-item.count
            (c.loop-item.invariant.counted lists tests k site word h) w.if-branch.false);
      }
    ]

pub items_counted-returns-then-is_past : goal.items_counted-returns-then-is_past
items_counted-returns-then-is_past g t c = λ lists tests k site word h.
    let nodes = c.args.self.now.nodes.now in
    let d = view c.args.instance.now in
    let b = branch_of c.args.branch.now in
    let vs = c.deref-item-items.result.now in
    let i = c.loop-item.item-index in
    let v = c.item-item.result in
    let all = on_items (placed_items d) b in
    let found : as_array d ≡ Some (items_view vs) = grind (arith, common_steps) in
    let less = item_depth d vs i v (array_items d vs found) c.loop-item-test.true c.item-item.is in
    let fewer = fewer_steps (length nodes) (depth (view v)) (depth d) 0 less in
    let below = Within g.E.RegexEngine.outcome nodes lists k in
    let least = c.args.bounds.least in
    let most = c.args.bounds.most in
    as_items below site word d b (items_view vs) least most (IsTrue false) found (refutes _ false refl (λ reported. absurd (item_too_many below site word all b vs i v
    c.loop-item-test.true c.item-item.is c.in_ok-accepts.field-0 (λ at. c.in_ok-accepts.ensures lists tests k at (omega (arith, fewer, h))) c.loop-item.count
    (c.loop-item.invariant.counted lists tests k site word h) least most c.if-branch.true (sym c.is_past.ensures ∙ c.if-is_past.true) reported)))

pub items_counted-returns : goal.items_counted-returns
items_counted-returns g t c = λ lists tests k site word h.
    let d = view c.args.instance.now in
    let b = branch_of c.args.branch.now in
    let vs = c.deref-item-items.result.now in
    let all = on_items (placed_items d) b in
    let found : as_array d ≡ Some (items_view vs) = grind (arith, common_steps) in
    let below = Within g.E.RegexEngine.outcome c.args.self.now.nodes.now lists k in
    let least = c.args.bounds.least in
    let most = c.args.bounds.most in
    as_items below site word d b (items_view vs) least most (IsTrue c.is_between.result) found
    (all_counted below site word all c.loop-item.count least most c.is_between.result c.is_between.ensures
    (subst (Counted below site word all c.loop-item.count) (no_items_left below site word all b vs c.loop-item.item-index (drop_past vs c.loop-item.item-index c.loop-item-test.false))
    (c.loop-item.invariant.counted lists tests k site word h)))

-- ---- item by item

pub items_accept-items_accept_by-requires : goal.items_accept-items_accept_by-requires
items_accept-items_accept_by-requires g t c κs within =
    let nodes = c.args.self.now.nodes.now in
    let inside = all_at (λ b. b.schema < length nodes) c.args.branches.now c.loop-branch.branch-index c.branch-item.result c.requires.there c.loop-branch-test.true c.branch-item.is in
    (omega (arith, c.decreases), (within.0, (within.1, (c.requires.ready, (c.requires.answers, inside)))))

pub items_accept-loop-branch-init : goal.items_accept-loop-branch-init
items_accept-loop-branch-init g t c = λ lists tests k site word h. (λ x. x, λ x. x)

pub items_accept-loop-branch-preserved : goal.items_accept-loop-branch-preserved
items_accept-loop-branch-preserved g t c = λ lists tests k site word h.
    branch_passes (Within g.E.RegexEngine.outcome c.args.self.now.nodes.now lists k) site word (drop c.args.from (placed_items (view c.args.instance.now))) c.args.branches.now
    c.loop-branch.branch-index c.branch-item.result c.loop-branch-test.true c.branch-item.is c.in_ok-items_accept_by.field-0
    (c.in_ok-items_accept_by.ensures lists tests k site word h) c.if-not-branch.false (c.loop-branch.invariant lists tests k site word h)

pub items_accept-returns-then-not-branch : goal.items_accept-returns-then-not-branch
items_accept-returns-then-not-branch g t c = λ lists tests k site word h. refutes _ false refl (λ reported. absurd (
    branch_stops (Within g.E.RegexEngine.outcome c.args.self.now.nodes.now lists k) site word (drop c.args.from (placed_items (view c.args.instance.now))) c.args.branches.now
    c.loop-branch.branch-index c.branch-item.result c.loop-branch-test.true c.branch-item.is c.in_ok-items_accept_by.field-0
    (c.in_ok-items_accept_by.ensures lists tests k site word h) c.if-not-branch.true (c.loop-branch.invariant lists tests k site word h) reported))

pub items_accept-returns : goal.items_accept-returns
items_accept-returns g t c = λ lists tests k site word h.
    holds _ true refl ((c.loop-branch.invariant lists tests k site word h).1 (rw (drop_past c.args.branches.now c.loop-branch.branch-index c.loop-branch-test.false) refl))

pub items_accept_by-returns-in_default : goal.items_accept_by-returns-in_default
items_accept_by-returns-in_default g t c = λ lists tests k site word h.
    let d = view c.args.instance.now in
    let none : as_array d ≡ None = sym c.as_array.ensures ∙ ap (option_map (λ v. items_view v.now.items)) (none_by c.as_array.result c.in_default.not-Some) in
    holds _ true refl (rw (no_array_items d none, no_items c.args.from) refl)

pub items_accept_by-loop-place-init : goal.items_accept_by-loop-place-init
items_accept_by-loop-place-init g t c = λ lists tests k site word h.
    let d = view c.args.instance.now in
    let vs = c.deref-item-items.result.now in
    let found : as_array d ≡ Some (items_view vs) = grind (arith, common_steps) in
    all_items (Within g.E.RegexEngine.outcome c.args.self.now.nodes.now lists k) site word d (branch_of c.args.branch.now) vs c.args.from (array_items d vs found)

pub items_accept_by-accepts-requires : goal.items_accept_by-accepts-requires
items_accept_by-accepts-requires g t c κs within =
    let nodes = c.args.self.now.nodes.now in
    let d = view c.args.instance.now in
    let vs = c.deref-item-items.result.now in
    let v = c.item-item.result in
    let found : as_array d ≡ Some (items_view vs) = grind (arith, common_steps) in
    let less = item_depth d vs c.loop-place.place v (array_items d vs found) c.loop-place-test.true c.item-item.is in
    let fewer = fewer_steps (length nodes) (depth (view v)) (depth d) 0 less in
    (omega (arith, c.decreases, fewer), (within.0, (within.1, (c.requires.ready, (c.requires.answers, (le_refl (length nodes), c.requires.ready.end c.args.branch.now.schema c.requires.there))))))

pub items_accept_by-loop-place-preserved : goal.items_accept_by-loop-place-preserved
items_accept_by-loop-place-preserved g t c = λ lists tests k site word h.
    let nodes = c.args.self.now.nodes.now in
    let below = Within g.E.RegexEngine.outcome nodes lists k in
    let d = view c.args.instance.now in
    let vs = c.deref-item-items.result.now in
    let v = c.item-item.result in
    let b = branch_of c.args.branch.now in
    let found : as_array d ≡ Some (items_view vs) = grind (arith, common_steps) in
    let less = item_depth d vs c.loop-place.place v (array_items d vs found) c.loop-place-test.true c.item-item.is in
    let fewer = fewer_steps (length nodes) (depth (view v)) (depth d) 0 less in
    let before = c.loop-place.invariant lists tests k site word h in elim c.if-place-from.branch [
      | items_accept_by-then-place-from+in_ok-accepts+else-not-branch w ↦
          item_passes below site word d b vs c.args.from c.loop-place.place v c.loop-place-test.true c.item-item.is w.if-place-from.true w.in_ok-accepts.field-0
          (λ at. w.in_ok-accepts.ensures lists tests k at (omega (arith, fewer, h))) w.if-not-branch.false before
      | items_accept_by-else-place-from w ↦
          item_skipped below site word d b vs c.args.from c.loop-place.place v c.loop-place-test.true c.item-item.is w.if-place-from.false before
    ]

pub items_accept_by-returns-then-not-branch : goal.items_accept_by-returns-then-not-branch
items_accept_by-returns-then-not-branch g t c = λ lists tests k site word h.
    let nodes = c.args.self.now.nodes.now in
    let below = Within g.E.RegexEngine.outcome nodes lists k in
    let d = view c.args.instance.now in
    let vs = c.deref-item-items.result.now in
    let v = c.item-item.result in
    let found : as_array d ≡ Some (items_view vs) = grind (arith, common_steps) in
    let less = item_depth d vs c.loop-place.place v (array_items d vs found) c.loop-place-test.true c.item-item.is in
    let fewer = fewer_steps (length nodes) (depth (view v)) (depth d) 0 less in
    refutes _ false refl (λ reported. absurd (item_stops below site word d (branch_of c.args.branch.now) vs c.args.from c.loop-place.place v c.loop-place-test.true c.item-item.is
    c.if-place-from.true c.in_ok-accepts.field-0 (λ at. c.in_ok-accepts.ensures lists tests k at (omega (arith, fewer, h))) c.if-not-branch.true
    (c.loop-place.invariant lists tests k site word h) reported))

pub items_accept_by-returns : goal.items_accept_by-returns
items_accept_by-returns g t c = λ lists tests k site word h.
    let vs = c.deref-item-items.result.now in
    holds _ true refl ((c.loop-place.invariant lists tests k site word h).1
    (rw (none_from (branch_of c.args.branch.now) vs c.args.from c.loop-place.place (drop_past vs c.loop-place.place c.loop-place-test.false)) refl))

-- ---- child by child

pub children_accept-accepts-requires : goal.children_accept-accepts-requires
children_accept-accepts-requires g t c κs within =
    let nodes = c.args.self.now.nodes.now in
    let d = view c.args.instance.now in
    let branch = c.branch-item.result in
    let child : child_at d (branch_of branch) ≡ Some (view c.in-Some.value.now) = sym c.child_of.ensures ∙ ap (option_map (λ v. view v.now)) c.in-Some.is in
    let fewer = fewer_steps (length nodes) (depth (view c.in-Some.value.now)) (depth d) 0 (child_depth d (branch_of branch) (view c.in-Some.value.now) child) in
    let inside = all_at (λ b. b.schema < length nodes) c.args.branches.now c.loop-branch.branch-index branch c.requires.there c.loop-branch-test.true c.branch-item.is in
    (omega (arith, c.decreases, fewer), (within.0, (within.1, (c.requires.ready, (c.requires.answers, (le_refl (length nodes), c.requires.ready.end branch.schema inside))))))

pub children_accept-loop-branch-init : goal.children_accept-loop-branch-init
children_accept-loop-branch-init g t c = λ lists tests k site word h. (λ x. x, λ x. x)

pub children_accept-returns : goal.children_accept-returns
children_accept-returns g t c = λ lists tests k site word h.
    holds _ true refl ((c.loop-branch.invariant lists tests k site word h).1 (rw (drop_past c.args.branches.now c.loop-branch.branch-index c.loop-branch-test.false) refl))

pub children_accept-loop-branch-preserved : goal.children_accept-loop-branch-preserved
children_accept-loop-branch-preserved g t c = λ lists tests k site word h.
    let nodes = c.args.self.now.nodes.now in
    let below = Within g.E.RegexEngine.outcome nodes lists k in
    let d = view c.args.instance.now in
    let items = c.args.branches.now in
    let branch = c.branch-item.result in
    let before = c.loop-branch.invariant lists tests k site word h in elim c.match-child_of.branch [
      | children_accept-in-Some+in_ok-accepts+else-not-branch w ↦
          let v = view w.in-Some.value.now in
          let child : child_at d (branch_of branch) ≡ Some v = sym c.child_of.ensures ∙ ap (option_map (λ x. view x.now)) w.in-Some.is in
          let fewer = fewer_steps (length nodes) (depth v) (depth d) 0 (child_depth d (branch_of branch) v child) in
          child_passes below site word d items c.loop-branch.branch-index branch c.loop-branch-test.true c.branch-item.is v child w.in_ok-accepts.field-0
          (λ at. w.in_ok-accepts.ensures lists tests k at (omega (arith, fewer, h))) w.if-not-branch.false before
      | children_accept-in_default w ↦
          no_child below site word d items c.loop-branch.branch-index branch c.loop-branch-test.true c.branch-item.is
          (sym c.child_of.ensures ∙ ap (option_map (λ x. view x.now)) (none_by c.child_of.result w.in_default.not-Some)) before
    ]

pub children_accept-returns-then-not-branch : goal.children_accept-returns-then-not-branch
children_accept-returns-then-not-branch g t c = λ lists tests k site word h.
    let nodes = c.args.self.now.nodes.now in
    let below = Within g.E.RegexEngine.outcome nodes lists k in
    let d = view c.args.instance.now in
    let branch = c.branch-item.result in
    let v = view c.in-Some.value.now in
    let child : child_at d (branch_of branch) ≡ Some v = sym c.child_of.ensures ∙ ap (option_map (λ x. view x.now)) c.in-Some.is in
    let fewer = fewer_steps (length nodes) (depth v) (depth d) 0 (child_depth d (branch_of branch) v child) in
    refutes _ false refl (λ reported. absurd (child_stops below site word d c.args.branches.now c.loop-branch.branch-index branch c.loop-branch-test.true c.branch-item.is v child
    c.in_ok-accepts.field-0 (λ at. c.in_ok-accepts.ensures lists tests k at (omega (arith, fewer, h))) c.if-not-branch.true (c.loop-branch.invariant lists tests k site word h) reported))

pub found_accepts-returns-then-not-is_empty : goal.found_accepts-returns-then-not-is_empty
found_accepts-returns-then-not-is_empty g t c = λ lists tests k header site h.
    let outcome = g.E.RegexEngine.outcome in
    let nodes = c.args.self.now.nodes.now in
    let below = Within outcome nodes lists k in
    let d = view c.args.instance.now in
    let ruled = c.args.ruled.now in
    let word = string_bytes ruled.name in
    let r = rule_of outcome ruled.rule in
    let bs = branches_of ruled.branches.items in
    let beside = keywords_of outcome c.args.beside.now in
    let kinds = c.in_ok-kinds.kinds.items in
    refutes _ false refl (λ reported.
    let none : kinds ≡ [] = nothing_mapped kind_of kinds
    (no_kinds (schemas_of outcome nodes) below lists header beside word r bs d site (kinds_of kinds) (targets_of c.in_ok-kinds.targets.items)
    (c.in_ok-kinds.ensures lists tests k site h) reported) in
    absurd (not_empty_by kinds _ c.is_empty.result c.is_empty.ensures c.in_ok-kinds.kinds.ok.0 c.if-not-is_empty.true none))

pub found_accepts-loop-target-init : goal.found_accepts-loop-target-init
found_accepts-loop-target-init g t c = λ lists tests k site h. (λ x. x, λ x. x)

pub found_accepts-accepts-requires : goal.found_accepts-accepts-requires
found_accepts-accepts-requires g t c κs within =
    let (lists, tests) = c.requires.answers in
    let k = steps_for (length c.args.self.now.nodes.now) (view c.args.instance.now) c.args.steps in
    let outcome = g.E.RegexEngine.outcome in
    let nodes = c.args.self.now.nodes.now in
    let below = Within outcome nodes lists k in
    let d = view c.args.instance.now in
    let ruled = c.args.ruled.now in
    let word = string_bytes ruled.name in
    let r = rule_of outcome ruled.rule in
    let bs = branches_of ruled.branches.items in
    let beside = keywords_of outcome c.args.beside.now in
    let items = c.deref-target-items.result.now in
    let kinds = kinds_of c.in_ok-kinds.kinds.items in
    let found : AreFindings (schemas_of outcome nodes) below beside (ruled_of outcome ruled) d root_site kinds (targets_of items) =
    subst (λ ts. AreFindings (schemas_of outcome nodes) below beside (ruled_of outcome ruled) d root_site kinds (targets_of ts)) (sym c.deref-target-items.ensures.value)
    (c.in_ok-kinds.ensures lists tests k root_site (le_refl k)) in
    let MayCall = MayTest g.T.Fn c.args.self.now.text_accepts.now in
    let left = c.steps_below-left.result in
    let there = next_found outcome nodes MayCall c.requires.ready ruled d c.args.steps left c.requires.this c.requires.end c.steps_below-left.ensures
    below beside root_site kinds items c.loop-target.target-index c.target-item.result found c.loop-target-test.true c.target-item.is in
    let next = subst (Next outcome nodes MayCall c.requires.ready ruled d c.args.steps left c.requires.this c.requires.end c.steps_below-left.ensures c.target-item.result.schema)
    (sym c.as_value.ensures) there in
    let fewer = next.1 in
    let few : left ≤ length nodes = few_below (is_in_place (rule_of outcome ruled.rule)) c.args.steps (length nodes) left c.requires.few c.steps_below-left.ensures in
    (omega (arith, c.decreases, fewer), (within.0, (within.1, (c.requires.ready, (c.requires.answers, (few, next.0))))))

pub verdicts-accepts-requires : goal.verdicts-accepts-requires
verdicts-accepts-requires g t c κs within =
    let outcome = g.E.RegexEngine.outcome in
    let nodes = c.args.self.now.nodes.now in
    let MayCall = MayTest g.T.Fn c.args.self.now.text_accepts.now in
    let d = view c.args.instance.now in
    let ruled = c.args.ruled.now in
    let items = c.deref-target-items.result.now in
    let left = c.steps_below-left.result in
    let same : targets_of items ≡ tested (rule_of outcome ruled.rule) (branches_of ruled.branches.items) d =
    ap targets_of c.deref-target-items.ensures.value ∙ c.in_ok-tested.ensures outcome
    ∙ ap (λ bs. tested (rule_of outcome ruled.rule) (branches_of bs) d) c.deref.ensures.value in
    let there = next_tested outcome nodes MayCall c.requires.ready ruled d c.args.steps left c.requires.this c.requires.end c.steps_below-left.ensures
    items c.loop-target.target-index c.target-item.result same c.loop-target-test.true c.target-item.is in
    let next = subst (Next outcome nodes MayCall c.requires.ready ruled d c.args.steps left c.requires.this c.requires.end c.steps_below-left.ensures c.target-item.result.schema)
    (sym c.as_value.ensures) there in
    let fewer = next.1 in
    let few : left ≤ length nodes = few_below (is_in_place (rule_of outcome ruled.rule)) c.args.steps (length nodes) left c.requires.few c.steps_below-left.ensures in
    (omega (arith, c.decreases, fewer), (within.0, (within.1, (c.requires.ready, (c.requires.answers, (few, next.0))))))

pub verdicts-loop-target-preserved : goal.verdicts-loop-target-preserved
verdicts-loop-target-preserved g t c = λ lists tests k site word h.
    let outcome = g.E.RegexEngine.outcome in
    let nodes = c.args.self.now.nodes.now in
    let MayCall = MayTest g.T.Fn c.args.self.now.text_accepts.now in
    let d = view c.args.instance.now in
    let ruled = c.args.ruled.now in
    let items = c.deref-target-items.result.now in
    let left = c.steps_below-left.result in
    let same : targets_of items ≡ tested (rule_of outcome ruled.rule) (branches_of ruled.branches.items) d =
    ap targets_of c.deref-target-items.ensures.value ∙ c.in_ok-tested.ensures outcome
    ∙ ap (λ bs. tested (rule_of outcome ruled.rule) (branches_of bs) d) c.deref.ensures.value in
    let there = next_tested outcome nodes MayCall c.requires.ready ruled d c.args.steps left c.requires.this c.requires.end c.steps_below-left.ensures
    items c.loop-target.target-index c.target-item.result same c.loop-target-test.true c.target-item.is in
    let next = subst (Next outcome nodes MayCall c.requires.ready ruled d c.args.steps left c.requires.this c.requires.end c.steps_below-left.ensures c.target-item.result.schema)
    (sym c.as_value.ensures) there in
    let fewer = next.1 in
    let below = Within outcome nodes lists k in
    let at = site_of site word (target_of c.target-item.result) in
    let says = subst (λ v. IsTrue c.in_ok-accepts.field-0 ↔ below c.target-item.result.schema v at []) c.as_value.ensures (c.in_ok-accepts.ensures lists tests k at (omega (arith, fewer))) in
    verdict_more below site word items c.loop-target.target-index c.target-item.result c.loop-target-test.true c.target-item.is c.in_ok-accepts.field-0 says
    c.loop-target.verdicts.items c.push.new.self.items c.in_ok-push.ensures.items (c.loop-target.invariant lists tests k site word h)

pub verdicts-returns : goal.verdicts-returns
verdicts-returns g t c = λ lists tests k site word h.
    let outcome = g.E.RegexEngine.outcome in
    let nodes = c.args.self.now.nodes.now in
    let MayCall = MayTest g.T.Fn c.args.self.now.text_accepts.now in
    let d = view c.args.instance.now in
    let ruled = c.args.ruled.now in
    let items = c.deref-target-items.result.now in
    let left = c.steps_below-left.result in
    let same : targets_of items ≡ tested (rule_of outcome ruled.rule) (branches_of ruled.branches.items) d =
    ap targets_of c.deref-target-items.ensures.value ∙ c.in_ok-tested.ensures outcome
    ∙ ap (λ bs. tested (rule_of outcome ruled.rule) (branches_of bs) d) c.deref.ensures.value in
    let below = Within outcome nodes lists k in
    let vs = c.loop-target.verdicts.items in
    subst (λ ts. AreVerdicts below site word ts vs) same (subst (λ l. AreVerdicts below site word (targets_of items) l) (append-nil vs)
    (c.loop-target.invariant lists tests k site word h [] (rw (drop_past items c.loop-target.target-index c.loop-target-test.false) refl)))

pub found_accepts-loop-target-preserved : goal.found_accepts-loop-target-preserved
found_accepts-loop-target-preserved g t c = λ lists tests k site h.
    let outcome = g.E.RegexEngine.outcome in
    let nodes = c.args.self.now.nodes.now in
    let below = Within outcome nodes lists k in
    let d = view c.args.instance.now in
    let ruled = c.args.ruled.now in
    let word = string_bytes ruled.name in
    let r = rule_of outcome ruled.rule in
    let bs = branches_of ruled.branches.items in
    let beside = keywords_of outcome c.args.beside.now in
    let items = c.deref-target-items.result.now in
    let kinds = kinds_of c.in_ok-kinds.kinds.items in
    let found : AreFindings (schemas_of outcome nodes) below beside (ruled_of outcome ruled) d site kinds (targets_of items) =
    subst (λ ts. AreFindings (schemas_of outcome nodes) below beside (ruled_of outcome ruled) d site kinds (targets_of ts)) (sym c.deref-target-items.ensures.value)
    (c.in_ok-kinds.ensures lists tests k site h) in
    let MayCall = MayTest g.T.Fn c.args.self.now.text_accepts.now in
    let left = c.steps_below-left.result in
    let there = next_found outcome nodes MayCall c.requires.ready ruled d c.args.steps left c.requires.this c.requires.end c.steps_below-left.ensures
    below beside site kinds items c.loop-target.target-index c.target-item.result found c.loop-target-test.true c.target-item.is in
    let next = subst (Next outcome nodes MayCall c.requires.ready ruled d c.args.steps left c.requires.this c.requires.end c.steps_below-left.ensures c.target-item.result.schema)
    (sym c.as_value.ensures) there in
    let fewer = next.1 in
    let at = site_of site word (target_of c.target-item.result) in
    let says = subst (λ v. IsTrue c.in_ok-accepts.field-0 ↔ below c.target-item.result.schema v at []) c.as_value.ensures (c.in_ok-accepts.ensures lists tests k at (omega (arith, fewer))) in
    goes_on_target below site word items c.loop-target.target-index c.target-item.result c.loop-target-test.true c.target-item.is c.in_ok-accepts.field-0 says
    c.if-not-branch.false (c.loop-target.invariant lists tests k site h)

pub found_accepts-returns-then-not-branch : goal.found_accepts-returns-then-not-branch
found_accepts-returns-then-not-branch g t c = λ lists tests k header site h.
    let outcome = g.E.RegexEngine.outcome in
    let nodes = c.args.self.now.nodes.now in
    let below = Within outcome nodes lists k in
    let d = view c.args.instance.now in
    let ruled = c.args.ruled.now in
    let word = string_bytes ruled.name in
    let r = rule_of outcome ruled.rule in
    let bs = branches_of ruled.branches.items in
    let beside = keywords_of outcome c.args.beside.now in
    let items = c.deref-target-items.result.now in
    let kinds = kinds_of c.in_ok-kinds.kinds.items in
    let found : AreFindings (schemas_of outcome nodes) below beside (ruled_of outcome ruled) d site kinds (targets_of items) =
    subst (λ ts. AreFindings (schemas_of outcome nodes) below beside (ruled_of outcome ruled) d site kinds (targets_of ts)) (sym c.deref-target-items.ensures.value)
    (c.in_ok-kinds.ensures lists tests k site h) in
    let MayCall = MayTest g.T.Fn c.args.self.now.text_accepts.now in
    let left = c.steps_below-left.result in
    let there = next_found outcome nodes MayCall c.requires.ready ruled d c.args.steps left c.requires.this c.requires.end c.steps_below-left.ensures
    below beside site kinds items c.loop-target.target-index c.target-item.result found c.loop-target-test.true c.target-item.is in
    let next = subst (Next outcome nodes MayCall c.requires.ready ruled d c.args.steps left c.requires.this c.requires.end c.steps_below-left.ensures c.target-item.result.schema)
    (sym c.as_value.ensures) there in
    let fewer = next.1 in
    let at = site_of site word (target_of c.target-item.result) in
    let says = subst (λ v. IsTrue c.in_ok-accepts.field-0 ↔ below c.target-item.result.schema v at []) c.as_value.ensures (c.in_ok-accepts.ensures lists tests k at (omega (arith, fewer))) in
    refutes _ false refl (λ reported. absurd (
    stops_target below site word items c.loop-target.target-index c.target-item.result c.loop-target-test.true c.target-item.is c.in_ok-accepts.field-0 says
    c.if-not-branch.true (c.loop-target.invariant lists tests k site h)
    (no_targets (schemas_of outcome nodes) below lists header beside word r bs d site kinds (targets_of items) found reported)))

pub found_accepts-returns : goal.found_accepts-returns
found_accepts-returns g t c = λ lists tests k header site h.
    let outcome = g.E.RegexEngine.outcome in
    let nodes = c.args.self.now.nodes.now in
    let below = Within outcome nodes lists k in
    let d = view c.args.instance.now in
    let ruled = c.args.ruled.now in
    let word = string_bytes ruled.name in
    let r = rule_of outcome ruled.rule in
    let bs = branches_of ruled.branches.items in
    let beside = keywords_of outcome c.args.beside.now in
    let items = c.deref-target-items.result.now in
    let kinds = kinds_of c.in_ok-kinds.kinds.items in
    let found : AreFindings (schemas_of outcome nodes) below beside (ruled_of outcome ruled) d site kinds (targets_of items) =
    subst (λ ts. AreFindings (schemas_of outcome nodes) below beside (ruled_of outcome ruled) d site kinds (targets_of ts)) (sym c.deref-target-items.ensures.value)
    (c.in_ok-kinds.ensures lists tests k site h) in
    let none : c.in_ok-kinds.kinds.items ≡ [] =
    empty_by c.in_ok-kinds.kinds.items _ c.is_empty.result c.is_empty.ensures c.in_ok-kinds.kinds.ok.0 c.if-not-is_empty.false in
    holds _ true refl (rule_passes (schemas_of outcome nodes) below lists header beside word r bs d site kinds (targets_of items) found (ap kinds_of none)
    ((c.loop-target.invariant lists tests k site h).1 (rw (drop_past items c.loop-target.target-index c.loop-target-test.false) refl)))

pub keyword_accepts-returns-in-Rule : goal.keyword_accepts-returns-in-Rule
keyword_accepts-returns-in-Rule g t c = λ lists tests. IfOk-weaker c.rule_accepts.result _ _
    (λ b p k header site h. rw c.in-Rule.is (p k header site h)) (c.rule_accepts.ensures lists tests)

-- ---- what is found

pub findings-left-requires : goal.findings-left-requires
findings-left-requires g t c κs within =
    (omega (arith, c.decreases), (within.0, (within.1, (c.requires.ready, (c.requires.answers, (c.requires.few, (c.requires.others, c.requires.ends)))))))

pub findings-verdicts-requires : goal.findings-verdicts-requires
findings-verdicts-requires g t c κs within =
    (omega (arith, c.decreases), (within.0, (within.1, (c.requires.ready, (c.requires.answers, (c.requires.few, (c.requires.this, c.requires.end)))))))

pub spans-verdicts-requires : goal.spans-verdicts-requires
spans-verdicts-requires g t c κs within =
    (omega (arith, c.decreases), (within.0, (within.1, (c.requires.ready, (c.requires.answers, (c.requires.few, (c.requires.this, c.requires.end)))))))

pub findings-returns-in-Unevaluated : goal.findings-returns-in-Unevaluated
findings-returns-in-Unevaluated g t c = λ lists tests k site h.
    let outcome = g.E.RegexEngine.outcome in
    let nodes = c.args.self.now.nodes.now in
    let below = Within outcome nodes lists k in
    let d = view c.args.instance.now in
    let ruled = c.args.ruled.now in
    let word = string_bytes ruled.name in
    let bs = branches_of ruled.branches.items in
    let beside = keywords_of outcome c.args.beside.now in
    let x = c.in-Unevaluated.part in
    let kinds = kinds_of c.in_ok-kinds.kinds.items in
    let targets = targets_of c.in_ok-on_each.field-0.items in
    let left = children_of c.in_ok-left.left.items in
    let told : kinds ≡ left_kinds (Some x) bs left = c.in_ok-kinds.ensures
    ∙ ap (λ l. left_kinds (Some x) (branches_of l) (children_of c.deref-in-Unevaluated.result.now)) c.deref.ensures.value
    ∙ ap (λ l. left_kinds (Some x) bs (children_of l)) c.deref-in-Unevaluated.ensures.value in
    let each : targets ≡ flat_map (on_each left) bs = c.in_ok-on_each.ensures
    ∙ ap (λ l. flat_map (on_each (children_of c.deref-in-Unevaluated-3.result.now)) (branches_of l)) c.deref-in-Unevaluated-2.ensures.value
    ∙ ap (λ l. flat_map (on_each (children_of l)) bs) c.deref-in-Unevaluated-3.ensures.value in
    subst (λ said. AreFindings (schemas_of outcome nodes) below beside (rule word (rule_of outcome said) bs) d site kinds targets) (sym c.in-Unevaluated.is)
    (left_found (schemas_of outcome nodes) below beside word x bs d site kinds targets left (c.in_ok-left.ensures lists tests k h) told each)

pub findings-returns : goal.findings-returns
findings-returns g t c = λ lists tests k site h.
    let outcome = g.E.RegexEngine.outcome in
    let nodes = c.args.self.now.nodes.now in
    let below = Within outcome nodes lists k in
    let d = view c.args.instance.now in
    let ruled = c.args.ruled.now in
    let word = string_bytes ruled.name in
    let r = rule_of outcome ruled.rule in
    let bs = branches_of ruled.branches.items in
    let beside = keywords_of outcome c.args.beside.now in
    let vs = c.in_ok-verdicts.verdicts.items in
    let none = speaks_of_none outcome ruled.rule c.in_default.not-Unevaluated in
    own_found (schemas_of outcome nodes) below beside word r bs d site (kinds_of c.in_ok-kinds-2.kinds.items) (targets_of c.in_ok-applied.field-0.items) vs none
    (c.in_ok-verdicts.ensures lists tests k site word h) (c.in_ok-kinds-2.ensures lists tests ∙ ap (kinds beside word r d) c.deref-2.ensures.value)
    (c.in_ok-applied.ensures lists tests ∙ ap (applied beside r bs d) c.deref-3.ensures.value)

pub spans-returns : goal.spans-returns
spans-returns g t c = λ lists tests.
    let outcome = g.E.RegexEngine.outcome in
    let nodes = c.args.self.now.nodes.now in
    let d = view c.args.instance.now in
    let ruled = c.args.ruled.now in
    let word = string_bytes ruled.name in
    let r = rule_of outcome ruled.rule in
    let bs = branches_of ruled.branches.items in
    let beside = keywords_of outcome c.args.beside.now in
    let vs = c.in_ok-verdicts.verdicts.items in
    let counts : counts_nothing r ≡ false = sym (c.counts_nothing.ensures outcome) ∙ c.if-counts_nothing.false in
    IfOk-weaker c.reached.result _ _ (λ found same k h. some_spanned (schemas_of outcome nodes) (Within outcome nodes lists k) beside word r bs d counts vs (targets_of found.items)
    (c.in_ok-verdicts.ensures lists tests k root_site word h) (same ∙ ap (reached beside r bs d) c.deref.ensures.value)) (c.reached.ensures lists tests)

-- ---- what is left

pub left-take_beside-requires : goal.left-take_beside-requires
left-take_beside-requires g t c κs within =
    let outcome = g.E.RegexEngine.outcome in
    let nodes = c.args.self.now.nodes.now in
    let MayCall = MayTest g.T.Fn c.args.self.now.text_accepts.now in
    let items = c.args.keywords.now in
    let this = all_at (IsKeywordReady outcome MayCall (length nodes)) items c.loop-keyword.keyword-index c.keyword-item.result c.requires.others c.loop-keyword-test.true c.keyword-item.is in
    let end = keyword_end (keyword_of outcome) (ends (schemas_of outcome nodes) c.args.steps) items c.loop-keyword.keyword-index c.keyword-item.result c.requires.ends
    c.loop-keyword-test.true c.keyword-item.is in
    (omega (arith, c.decreases), (within.0, (within.1, (c.requires.ready, (c.requires.answers, (c.requires.few, (this, (c.requires.others, end))))))))

pub left-loop-keyword-init : goal.left-loop-keyword-init
left-loop-keyword-init g t c = λ lists tests k h.
    subst (λ cs. AreLeft (λ s. ⊥) cs (children_of c.in_ok-left.left.items)) c.in_ok-left.ensures (left_none (λ s. ⊥) (λ s x. x) (children_of c.in_ok-left.left.items))

pub left-loop-keyword-preserved : goal.left-loop-keyword-preserved
left-loop-keyword-preserved g t c = λ lists tests k h.
    let outcome = g.E.RegexEngine.outcome in
    let nodes = c.args.self.now.nodes.now in
    let items = c.args.keywords.now in
    let d = view c.args.instance.now in
    left_more (λ s key. BesideEvaluates (schemas_of outcome nodes) (Within outcome nodes lists k) (keywords_of outcome items) d s (keyword_of outcome key))
    items c.loop-keyword.keyword-index c.keyword-item.result (children c.args.part d) (children_of c.loop-keyword.left.items) (children_of c.take_beside.new.left.items)
    c.loop-keyword-test.true c.keyword-item.is (c.loop-keyword.invariant lists tests k h) (c.in_ok-take_beside.ensures lists tests k h)

pub left-returns : goal.left-returns
left-returns g t c = λ lists tests k h.
    let outcome = g.E.RegexEngine.outcome in
    let nodes = c.args.self.now.nodes.now in
    let items = c.args.keywords.now in
    let d = view c.args.instance.now in
    left_all_seen (λ s key. BesideEvaluates (schemas_of outcome nodes) (Within outcome nodes lists k) (keywords_of outcome items) d s key) (keyword_of outcome)
    items c.loop-keyword.keyword-index (children c.args.part d) (children_of c.loop-keyword.left.items) c.loop-keyword-test.false (c.loop-keyword.invariant lists tests k h)

pub take_beside-take_evaluated-requires : goal.take_beside-take_evaluated-requires
take_beside-take_evaluated-requires g t c κs within =
    let outcome = g.E.RegexEngine.outcome in
    let MayCall = MayTest g.T.Fn c.args.self.now.text_accepts.now in
    let this : IsRuledReady outcome MayCall (length c.args.self.now.nodes.now) c.in-Rule.ruled = rw c.in-Rule.is at c.requires.this in
    let speaks = speaks_of_none outcome c.in-Rule.ruled.rule c.in_default-rule.not-Unevaluated in
    (omega (arith, c.decreases), (within.0, (within.1, (c.requires.ready, (c.requires.answers, (c.requires.few, (this, (c.requires.others, (rw c.in-Rule.is at c.requires.end, speaks)))))))))

pub take_by_keyword-take_evaluated-requires : goal.take_by_keyword-take_evaluated-requires
take_by_keyword-take_evaluated-requires g t c κs within =
    let outcome = g.E.RegexEngine.outcome in
    let MayCall = MayTest g.T.Fn c.args.self.now.text_accepts.now in
    let this : IsRuledReady outcome MayCall (length c.args.self.now.nodes.now) c.in-Rule.ruled = rw c.in-Rule.is at c.requires.this in
    let speaks = speaks_of_none outcome c.in-Rule.ruled.rule c.in_default-rule.not-Unevaluated in
    (omega (arith, c.decreases), (within.0, (within.1, (c.requires.ready, (c.requires.answers, (c.requires.few, (this, (c.requires.others, (rw c.in-Rule.is at c.requires.end, speaks)))))))))

pub take_beside-returns-in_default : goal.take_beside-returns-in_default
take_beside-returns-in_default g t c = λ lists tests k h.
    let outcome = g.E.RegexEngine.outcome in
    let nodes = c.args.self.now.nodes.now in
    let schemas = schemas_of outcome nodes in
    let below = Within outcome nodes lists k in
    let d = view c.args.instance.now in
    let beside = keywords_of outcome c.args.beside.now in
    let cs = children_of c.args.left.now.items in
    text_beside outcome below beside d schemas c.args.keyword.now c.in_default.not-Rule cs

pub take_beside-returns-in-Unevaluated : goal.take_beside-returns-in-Unevaluated
take_beside-returns-in-Unevaluated g t c = λ lists tests k h.
    let outcome = g.E.RegexEngine.outcome in
    let nodes = c.args.self.now.nodes.now in
    let schemas = schemas_of outcome nodes in
    let below = Within outcome nodes lists k in
    let d = view c.args.instance.now in
    let beside = keywords_of outcome c.args.beside.now in
    let cs = children_of c.args.left.now.items in
    let ruled = c.in-Rule.ruled in
    let word = string_bytes ruled.name in
    let bs = branches_of ruled.branches.items in
    subst (λ key. AreLeft (λ s. BesideEvaluates schemas below beside d s (keyword_of outcome key)) cs cs) (sym c.in-Rule.is)
    (not_beside schemas below beside word (rule_of outcome ruled.rule) bs d cs c.in-Unevaluated.field-0 (ap (λ r. part_of (rule_of outcome r)) c.in-Unevaluated.is))

pub take_beside-returns-in_default-rule : goal.take_beside-returns-in_default-rule
take_beside-returns-in_default-rule g t c = λ lists tests. on_ok_weaker c.take_evaluated.result (λ p k h.
    let outcome = g.E.RegexEngine.outcome in
    let nodes = c.args.self.now.nodes.now in
    let schemas = schemas_of outcome nodes in
    let below = Within outcome nodes lists k in
    let d = view c.args.instance.now in
    let beside = keywords_of outcome c.args.beside.now in
    let cs = children_of c.args.left.now.items in
    let ruled = c.in-Rule.ruled in
    let word = string_bytes ruled.name in
    let bs = branches_of ruled.branches.items in
    let ls = children_of c.take_evaluated.new.left.items in
    let few : c.args.steps ≤ length schemas = subst (λ n. c.args.steps ≤ n) (sym (length-map nodes (schema_of outcome))) c.requires.few in
    let none = speaks_of_none outcome ruled.rule c.in_default-rule.not-Unevaluated in
    subst (λ key. AreLeft (λ s. BesideEvaluates schemas below beside d s (keyword_of outcome key)) cs ls) (sym c.in-Rule.is)
    (beside_left schemas below beside word (rule_of outcome ruled.rule) bs d cs ls none (p (length schemas) k few h))) (c.take_evaluated.ensures lists tests)

pub take_by_keyword-returns-in_default : goal.take_by_keyword-returns-in_default
take_by_keyword-returns-in_default g t c = λ lists tests j k more h.
    let outcome = g.E.RegexEngine.outcome in
    let nodes = c.args.self.now.nodes.now in
    let schemas = schemas_of outcome nodes in
    let below = Within outcome nodes lists k in
    let d = view c.args.instance.now in
    let beside = keywords_of outcome c.args.beside.now in
    let cs = children_of c.args.left.now.items in
    text_left outcome below beside d (λ s. Evaluates schemas below s j) c.args.keyword.now c.in_default.not-Rule cs

pub take_by_keyword-returns-in-Unevaluated : goal.take_by_keyword-returns-in-Unevaluated
take_by_keyword-returns-in-Unevaluated g t c = λ lists tests j k more h.
    let outcome = g.E.RegexEngine.outcome in
    let nodes = c.args.self.now.nodes.now in
    let schemas = schemas_of outcome nodes in
    let below = Within outcome nodes lists k in
    let d = view c.args.instance.now in
    let beside = keywords_of outcome c.args.beside.now in
    let cs = children_of c.args.left.now.items in
    let ruled = c.in-Rule.ruled in
    let word = string_bytes ruled.name in
    let bs = branches_of ruled.branches.items in
    let ls = children_of c.take_part.new.left.items in
    subst (λ key. AreLeft (λ s. KeywordEvaluates below (Evaluates schemas below s j) beside d s (keyword_of outcome key)) cs ls) (sym c.in-Rule.is)
    (subst (λ r. AreLeft (λ s. KeywordEvaluates below (Evaluates schemas below s j) beside d s (rule word (rule_of outcome r) bs)) cs ls) (sym c.in-Unevaluated.is)
    (part_left below (λ s. Evaluates schemas below s j) beside word c.in-Unevaluated.part bs d cs ls c.take_part.ensures))

pub take_by_keyword-returns-in_default-rule : goal.take_by_keyword-returns-in_default-rule
take_by_keyword-returns-in_default-rule g t c = λ lists tests. on_ok_weaker c.take_evaluated.result (λ p j k more h.
    let outcome = g.E.RegexEngine.outcome in
    let nodes = c.args.self.now.nodes.now in
    let schemas = schemas_of outcome nodes in
    let below = Within outcome nodes lists k in
    let d = view c.args.instance.now in
    let beside = keywords_of outcome c.args.beside.now in
    let cs = children_of c.args.left.now.items in
    let ls = children_of c.take_evaluated.new.left.items in
    subst (λ key. AreLeft (λ s. KeywordEvaluates below (Evaluates schemas below s j) beside d s (keyword_of outcome key)) cs ls) (sym c.in-Rule.is) (p j k more h))
    (c.take_evaluated.ensures lists tests)

pub take_evaluated-spans-requires : goal.take_evaluated-spans-requires
take_evaluated-spans-requires g t c κs within =
    (omega (arith, c.decreases), (within.0, (within.1, (c.requires.ready, (c.requires.answers, (c.requires.few, (c.requires.this, (c.requires.others, c.requires.end))))))))

pub take_evaluated-take_by_target-requires : goal.take_evaluated-take_by_target-requires
take_evaluated-take_by_target-requires g t c κs within =
    let (lists, tests) = c.requires.answers in
    let k = steps_for (length c.args.self.now.nodes.now) (view c.args.instance.now) c.args.steps in
    let outcome = g.E.RegexEngine.outcome in
    let nodes = c.args.self.now.nodes.now in
    let below = Within outcome nodes lists k in
    let d = view c.args.instance.now in
    let ruled = c.args.ruled.now in
    let word = string_bytes ruled.name in
    let r = rule_of outcome ruled.rule in
    let bs = branches_of ruled.branches.items in
    let beside = keywords_of outcome c.args.beside.now in
    let items = c.deref-target-items.result.now in
    let spanned : AreSpans below beside (ruled_of outcome ruled) d (targets_of items) =
    subst (λ ts. AreSpans below beside (ruled_of outcome ruled) d (targets_of ts)) (sym c.deref-target-items.ensures.value) (c.in_ok-spans.ensures lists tests k (le_refl k)) in
    let end = span_ends d (schemas_of outcome nodes) below c.args.steps beside word r bs items c.loop-target.target-index c.target-item.result c.requires.end spanned
    c.loop-target-test.true c.target-item.is in
    (omega (arith, c.decreases), (within.0, (within.1, (c.requires.ready, (c.requires.answers, (c.requires.few, end))))))

pub take_evaluated-loop-target-init : goal.take_evaluated-loop-target-init
take_evaluated-loop-target-init g t c = λ lists tests j k more h. left_none (λ s. ⊥) (λ s x. x) (children_of c.args.left.now.items)

pub take_evaluated-loop-target-preserved : goal.take_evaluated-loop-target-preserved
take_evaluated-loop-target-preserved g t c = λ lists tests j k more h.
    let outcome = g.E.RegexEngine.outcome in
    let nodes = c.args.self.now.nodes.now in
    left_more (λ s x. TargetEvaluates (Evaluates (schemas_of outcome nodes) (Within outcome nodes lists k) s j) s (target_of x))
    c.deref-target-items.result.now c.loop-target.target-index c.target-item.result (children_of c.args.left.now.items) (children_of c.loop-target.left.items)
    (children_of c.take_by_target.new.left.items) c.loop-target-test.true c.target-item.is (c.loop-target.invariant lists tests j k more h)
    (c.in_ok-take_by_target.ensures lists tests j k more h)

pub take_evaluated-returns : goal.take_evaluated-returns
take_evaluated-returns g t c = λ lists tests j k more h.
    let outcome = g.E.RegexEngine.outcome in
    let nodes = c.args.self.now.nodes.now in
    let below = Within outcome nodes lists k in
    let d = view c.args.instance.now in
    let ruled = c.args.ruled.now in
    let word = string_bytes ruled.name in
    let r = rule_of outcome ruled.rule in
    let bs = branches_of ruled.branches.items in
    let beside = keywords_of outcome c.args.beside.now in
    let items = c.deref-target-items.result.now in
    let spanned : AreSpans below beside (ruled_of outcome ruled) d (targets_of items) =
    subst (λ ts. AreSpans below beside (ruled_of outcome ruled) d (targets_of ts)) (sym c.deref-target-items.ensures.value) (c.in_ok-spans.ensures lists tests k h) in
    keyword_left (schemas_of outcome nodes) lists k (λ s. Evaluates (schemas_of outcome nodes) below s j) beside word r bs d (targets_of items)
    (children_of c.args.left.now.items) (children_of c.loop-target.left.items) c.requires.speaks spanned
    (left_all_seen (λ s x. TargetEvaluates (Evaluates (schemas_of outcome nodes) below s j) s x) target_of items c.loop-target.target-index
    (children_of c.args.left.now.items) (children_of c.loop-target.left.items) c.loop-target-test.false (c.loop-target.invariant lists tests j k more h))

pub take_by_target-take_by_schema-requires : goal.take_by_target-take_by_schema-requires
take_by_target-take_by_schema-requires g t c κs within =
    let here = c.requires.end (ap (λ o. path_to (option_map step_of o)) c.in-None.is) in
    (omega (arith, c.decreases), (within.0, (within.1, (c.requires.ready, (c.requires.answers, (c.requires.few, here.0))))))

pub take_by_target-returns-in-Some : goal.take_by_target-returns-in-Some
take_by_target-returns-in-Some g t c = λ lists tests j k more h.
    let nodes = c.args.self.now.nodes.now in
    let schemas = schemas_of g.E.RegexEngine.outcome nodes in
    inside_left (λ s. Evaluates schemas (Within g.E.RegexEngine.outcome nodes lists k) s j) (target_of c.args.target.now)
    (children_of c.args.left.now.items) (children_of c.take_at.new.left.items) (step_of c.in-Some.step)
    (ap (λ o. path_to (option_map step_of o)) c.in-Some.is) c.take_at.ensures

pub take_by_target-returns-in-None : goal.take_by_target-returns-in-None
take_by_target-returns-in-None g t c = λ lists tests. on_ok_weaker c.take_by_schema.result (λ p j k more h.
    let nodes = c.args.self.now.nodes.now in
    let schemas = schemas_of g.E.RegexEngine.outcome nodes in
    let itself = ap (λ o. path_to (option_map step_of o)) c.in-None.is in
    itself_left (λ s. Evaluates schemas (Within g.E.RegexEngine.outcome nodes lists k) s j) (target_of c.args.target.now)
    (children_of c.args.left.now.items) (children_of c.take_by_schema.new.left.items) (view c.args.instance.now) itself (c.requires.end itself).1 (p j k more h))
    (c.take_by_schema.ensures lists tests)

pub take_by_schema-offset_bounds-self-number : goal.take_by_schema-offset_bounds-self-number
take_by_schema-offset_bounds-self-number g t c =
    let inside = ends_inside g.E.RegexEngine.outcome c.args.self.now.nodes.now c.args.steps c.args.number c.requires.end in
    search (rules, scaled_fits≤)

pub take_by_schema-bounds-self-number : goal.take_by_schema-bounds-self-number
take_by_schema-bounds-self-number g t c = ends_inside g.E.RegexEngine.outcome c.args.self.now.nodes.now c.args.steps c.args.number c.requires.end

pub take_by_schema-overflow_sub-steps : goal.take_by_schema-overflow_sub-steps
take_by_schema-overflow_sub-steps g t c = let some =
    ends_some (schemas_of g.E.RegexEngine.outcome c.args.self.now.nodes.now) c.args.steps c.args.number c.requires.end in omega arith

pub take_by_schema-take_by_keyword-requires : goal.take_by_schema-take_by_keyword-requires
take_by_schema-take_by_keyword-requires g t c κs within =
    let outcome = g.E.RegexEngine.outcome in
    let nodes = c.args.self.now.nodes.now in
    let node = c.index-self-number.result in
    let items = c.deref-keyword-items.result.now in
    let MayCall = MayTest g.T.Fn c.args.self.now.text_accepts.now in
    let some = ends_some (schemas_of outcome nodes) c.args.steps c.args.number c.requires.end in
    let few : c.args.steps - 1 ≤ length nodes = omega (arith, c.requires.few) in
    let this = keyword_ready outcome nodes c.args.number c.args.steps node c.index-self-number.is c.requires.end
    c.in-Keywords.keywords items c.in-Keywords.is c.deref-keyword-items.ensures.value
    MayCall c.loop-keyword.keyword-index c.keyword-item.result c.loop-keyword-test.true c.keyword-item.is c.requires.ready.each in
    let others = keywords_ready outcome nodes c.args.number c.args.steps node c.index-self-number.is c.requires.end
    c.in-Keywords.keywords c.deref.result.now c.in-Keywords.is c.deref.ensures.value MayCall c.requires.ready.each in
    let end = keyword_ends outcome nodes c.args.number c.args.steps node c.index-self-number.is c.requires.end
    c.in-Keywords.keywords items c.in-Keywords.is c.deref-keyword-items.ensures.value
    c.loop-keyword.keyword-index c.keyword-item.result c.loop-keyword-test.true c.keyword-item.is in
    (omega (arith, c.decreases), (within.0, (within.1, (c.requires.ready, (c.requires.answers, (few, (this, (others, end))))))))

pub take_by_schema-loop-keyword-init : goal.take_by_schema-loop-keyword-init
take_by_schema-loop-keyword-init g t c = λ lists tests j k more h. left_none (λ s. ⊥) (λ s x. x) (children_of c.args.left.now.items)

pub take_by_schema-loop-keyword-preserved : goal.take_by_schema-loop-keyword-preserved
take_by_schema-loop-keyword-preserved g t c = λ lists tests j k more h.
    let outcome = g.E.RegexEngine.outcome in
    let nodes = c.args.self.now.nodes.now in
    let items = c.deref-keyword-items.result.now in
    let below = Within outcome nodes lists k in
    let d = view c.args.instance.now in
    left_more (λ s key. KeywordEvaluates below (Evaluates (schemas_of outcome nodes) below s j) (keywords_of outcome items) d s (keyword_of outcome key))
    items c.loop-keyword.keyword-index c.keyword-item.result (children_of c.args.left.now.items) (children_of c.loop-keyword.left.items)
    (children_of c.take_by_keyword.new.left.items) c.loop-keyword-test.true c.keyword-item.is (c.loop-keyword.invariant lists tests j k more h)
    (subst (λ l. AreLeft (λ s. KeywordEvaluates below (Evaluates (schemas_of outcome nodes) below s j) (keywords_of outcome l) d s (keyword_of outcome c.keyword-item.result))
    (children_of c.loop-keyword.left.items) (children_of c.take_by_keyword.new.left.items))
    (c.deref.ensures.value ∙ sym c.deref-keyword-items.ensures.value) (c.in_ok-take_by_keyword.ensures lists tests j k more h))

pub take_by_schema-returns : goal.take_by_schema-returns
take_by_schema-returns g t c = λ lists tests j k more h.
    let outcome = g.E.RegexEngine.outcome in
    let nodes = c.args.self.now.nodes.now in
    let node = c.index-self-number.result in
    let items = c.deref-keyword-items.result.now in
    let below = Within outcome nodes lists k in
    let d = view c.args.instance.now in
    let some = ends_some (schemas_of outcome nodes) c.args.steps c.args.number c.requires.end in
    keywords_left outcome nodes below c.args.number c.args.steps node c.index-self-number.is c.requires.end d (keywords_of outcome items)
    (is_body outcome nodes c.args.number c.args.steps node c.index-self-number.is c.requires.end c.in-Keywords.keywords items c.in-Keywords.is c.deref-keyword-items.ensures.value)
    j more (children_of c.args.left.now.items) (children_of c.loop-keyword.left.items)
    (λ i less. left_all_seen (λ s key. KeywordEvaluates below (Evaluates (schemas_of outcome nodes) below s i) (keywords_of outcome items) d s key) (keyword_of outcome)
    items c.loop-keyword.keyword-index (children_of c.args.left.now.items) (children_of c.loop-keyword.left.items) c.loop-keyword-test.false
    (c.loop-keyword.invariant lists tests i k less (omega (arith, h))))

pub take_by_schema-returns-in_default : goal.take_by_schema-returns-in_default
take_by_schema-returns-in_default g t c = λ lists tests j k more h.
    let outcome = g.E.RegexEngine.outcome in
    let nodes = c.args.self.now.nodes.now in
    no_keywords_left outcome nodes (Within outcome nodes lists k) c.args.number c.args.steps c.index-self-number.result c.index-self-number.is c.requires.end
    (view c.args.instance.now) c.in_default.not-Keywords j more (children_of c.args.left.now.items)
