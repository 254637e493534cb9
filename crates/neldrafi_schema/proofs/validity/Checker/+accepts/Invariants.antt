use Rattle.std.proofs.Common.{◌↔◌, ℕ, ◌+◌, ◌-◌, ◌*◌, ◌<◌, ◌≤◌, List, [], ◌++◌, Bool, drop, length, map, string_bytes, take}
use Rattle.std.specs.Iterator.Adapters.{zip_first, zip_second}
use Rattle.std.specs.Slice.Iter.{iter_rest}
use Rattle.serde_json.specs.View.{members_view, view}
use Rattle.strkw_report.specs.declared.error.Site.{Site}
use Rattle.strkw_keywords.specs.Meanings.{Lists}
use Rattle.strkw_keywords.specs.Validators.{assertions_of}
use Rattle.neldrafi_schema.specs.Meaning.{AreLeft, AreVerdicts, BesideEvaluates, EachReports, Evaluates, KeywordEvaluates, KeywordsReport, OneOf, Reports, TargetEvaluates}
use Rattle.std.specs.List.{AllByRecursion, filter, flat_map}
use Rattle.neldrafi_schema.specs.Rules.{children, is_present, member_list, on_child, on_items, on_itself, on_matched, on_members, other_members_in, placed_items}
use Rattle.neldrafi_schema.specs.machine.Chosen.{chosen_members, is_chosen}
use Rattle.neldrafi_schema.specs.machine.Closures.{MayTest, Tests}
use Rattle.neldrafi_schema.specs.machine.Compiled.{branch_of, branches_of, children_of, keyword_of, keywords_of, schemas_of, target_of, targets_of}
use Rattle.neldrafi_schema.specs.machine.Ready.{IsPatternReady, steps_for}
use Rattle.neldrafi_schema.proofs.Choosing.{AllChosen, AreLess}
use Rattle.neldrafi_schema.proofs.Counts.{Counted}
use Rattle.neldrafi_schema.proofs.Each.{AllBranches, AllItems}
use Rattle.neldrafi_schema.specs.Schemas.{Header}
use Rattle.neldrafi_schema.proofs.Leaving.{AllLeft, ItemsCounted}
use Rattle.neldrafi_schema.proofs.validity.Checker.+accepts.Given as goal

abbrev pub decreases-accepts : goal.decreases-accepts
decreases-accepts g l = 16 * steps_for (length l.self.now.nodes.now) (view l.instance.now) l.steps

abbrev pub decreases-verdicts : goal.decreases-verdicts
decreases-verdicts g l = 16 * steps_for (length l.self.now.nodes.now) (view l.instance.now) l.steps + 1

abbrev pub decreases-condition : goal.decreases-condition
decreases-condition g l = 16 * steps_for (length l.self.now.nodes.now) (view l.instance.now) l.steps + 1

abbrev pub decreases-conditional_accepts : goal.decreases-conditional_accepts
decreases-conditional_accepts g l = 16 * steps_for (length l.self.now.nodes.now) (view l.instance.now) l.steps + 13

abbrev pub decreases-take_by_schema : goal.decreases-take_by_schema
decreases-take_by_schema g l = 16 * steps_for (length l.self.now.nodes.now) (view l.instance.now) l.steps + 1

abbrev pub decreases-take_by_target : goal.decreases-take_by_target
decreases-take_by_target g l = 16 * steps_for (length l.self.now.nodes.now) (view l.instance.now) l.steps + 2

abbrev pub decreases-spans : goal.decreases-spans
decreases-spans g l = 16 * steps_for (length l.self.now.nodes.now) (view l.instance.now) l.steps + 5

abbrev pub decreases-take_evaluated : goal.decreases-take_evaluated
decreases-take_evaluated g l = 16 * steps_for (length l.self.now.nodes.now) (view l.instance.now) l.steps + 6

abbrev pub decreases-take_by_keyword : goal.decreases-take_by_keyword
decreases-take_by_keyword g l = 16 * steps_for (length l.self.now.nodes.now) (view l.instance.now) l.steps + 7

abbrev pub decreases-take_beside : goal.decreases-take_beside
decreases-take_beside g l = 16 * steps_for (length l.self.now.nodes.now) (view l.instance.now) l.steps + 7

abbrev pub decreases-left : goal.decreases-left
decreases-left g l = 16 * steps_for (length l.self.now.nodes.now) (view l.instance.now) l.steps + 8

abbrev pub decreases-findings : goal.decreases-findings
decreases-findings g l = 16 * steps_for (length l.self.now.nodes.now) (view l.instance.now) l.steps + 9

abbrev pub decreases-found_accepts : goal.decreases-found_accepts
decreases-found_accepts g l = 16 * steps_for (length l.self.now.nodes.now) (view l.instance.now) l.steps + 10

abbrev pub decreases-children_accept : goal.decreases-children_accept
decreases-children_accept g l = 16 * steps_for (length l.self.now.nodes.now) (view l.instance.now) 0

abbrev pub decreases-items_accept_by : goal.decreases-items_accept_by
decreases-items_accept_by g l = 16 * steps_for (length l.self.now.nodes.now) (view l.instance.now) 0

abbrev pub decreases-items_accept : goal.decreases-items_accept
decreases-items_accept g l = 16 * steps_for (length l.self.now.nodes.now) (view l.instance.now) 0 + 1

abbrev pub decreases-all_accept : goal.decreases-all_accept
decreases-all_accept g l = 16 * steps_for (length l.self.now.nodes.now) (view l.instance.now) l.steps + 1

abbrev pub decreases-counted_accept : goal.decreases-counted_accept
decreases-counted_accept g l = 16 * steps_for (length l.self.now.nodes.now) (view l.instance.now) l.steps + 1

abbrev pub decreases-present_accept : goal.decreases-present_accept
decreases-present_accept g l = 16 * steps_for (length l.self.now.nodes.now) (view l.instance.now) l.steps + 1

abbrev pub decreases-members_accept : goal.decreases-members_accept
decreases-members_accept g l = 16 * steps_for (length l.self.now.nodes.now) (view l.instance.now) 0

abbrev pub decreases-others_accept : goal.decreases-others_accept
decreases-others_accept g l = 16 * steps_for (length l.self.now.nodes.now) (view l.instance.now) 0 + 1

abbrev pub decreases-matched_accept : goal.decreases-matched_accept
decreases-matched_accept g l = 16 * steps_for (length l.self.now.nodes.now) (view l.instance.now) 0 + 1

abbrev pub decreases-items_counted : goal.decreases-items_counted
decreases-items_counted g l = 16 * steps_for (length l.self.now.nodes.now) (view l.instance.now) 0

abbrev pub decreases-rule_accepts : goal.decreases-rule_accepts
decreases-rule_accepts g l = 16 * steps_for (length l.self.now.nodes.now) (view l.instance.now) l.steps + 11

abbrev pub decreases-keyword_accepts : goal.decreases-keyword_accepts
decreases-keyword_accepts g l = 16 * steps_for (length l.self.now.nodes.now) (view l.instance.now) l.steps + 12

-- all keywords report nothing just where those that are left do
abbrev pub invariant-accepts-loop-keyword : goal.invariant-accepts-loop-keyword
invariant-accepts-loop-keyword g l =
    let ks = keywords_of g.E.RegexEngine.outcome l.keyword-items in
    (lists : Lists) → Tests g.T.Fn l.self.text_accepts.now g.E.RegexEngine.outcome lists → (k : ℕ) (header : Header) (site : Site)
    → steps_for (length l.self.nodes.now) (view l.instance) (l.steps - 1) ≤ k
    → KeywordsReport (schemas_of g.E.RegexEngine.outcome l.self.nodes.now) (Reports (schemas_of g.E.RegexEngine.outcome l.self.nodes.now) lists k) lists header ks ks (view l.instance) site []
    ↔ KeywordsReport (schemas_of g.E.RegexEngine.outcome l.self.nodes.now) (Reports (schemas_of g.E.RegexEngine.outcome l.self.nodes.now) lists k) lists header ks
    (keywords_of g.E.RegexEngine.outcome (drop l.keyword-index l.keyword-items)) (view l.instance) site []

-- and so do all targets
abbrev pub invariant-found_accepts-loop-target : goal.invariant-found_accepts-loop-target
invariant-found_accepts-loop-target g l =
    (lists : Lists) → Tests g.T.Fn l.self.text_accepts.now g.E.RegexEngine.outcome lists → (k : ℕ) (site : Site)
    → steps_for (length l.self.nodes.now) (view l.instance) l.steps ≤ k
    → EachReports (Reports (schemas_of g.E.RegexEngine.outcome l.self.nodes.now) lists k) site (string_bytes l.ruled.name) (targets_of l.target-items) []
    ↔ EachReports (Reports (schemas_of g.E.RegexEngine.outcome l.self.nodes.now) lists k) site (string_bytes l.ruled.name) (targets_of (drop l.target-index l.target-items)) []

-- the verdicts so far, and those on the rest, are those on all
abbrev pub invariant-verdicts-loop-target : goal.invariant-verdicts-loop-target
invariant-verdicts-loop-target g l =
    (lists : Lists) → Tests g.T.Fn l.self.text_accepts.now g.E.RegexEngine.outcome lists → (k : ℕ) (site : Site) (word : List ℕ)
    → steps_for (length l.self.nodes.now) (view l.instance) l.steps ≤ k → (later : List Bool)
    → AreVerdicts (Reports (schemas_of g.E.RegexEngine.outcome l.self.nodes.now) lists k) site word (targets_of (drop l.target-index l.target-items)) later
    → AreVerdicts (Reports (schemas_of g.E.RegexEngine.outcome l.self.nodes.now) lists k) site word (targets_of l.target-items) (l.verdicts.items ++ later)

-- what the keywords so far evaluate is taken
abbrev pub invariant-left-loop-keyword : goal.invariant-left-loop-keyword
invariant-left-loop-keyword g l =
    (lists : Lists) → Tests g.T.Fn l.self.text_accepts.now g.E.RegexEngine.outcome lists → (k : ℕ)
    → steps_for (length l.self.nodes.now) (view l.instance) l.steps ≤ k
    → AreLeft (λ s. OneOf (λ key. BesideEvaluates (schemas_of g.E.RegexEngine.outcome l.self.nodes.now) (Reports (schemas_of g.E.RegexEngine.outcome l.self.nodes.now) lists k)
    (keywords_of g.E.RegexEngine.outcome l.keywords) (view l.instance) s (keyword_of g.E.RegexEngine.outcome key)) (take l.keyword-index l.keywords))
    (children l.fn.part (view l.instance)) (children_of l.left.items)

-- and what the targets so far evaluate
abbrev pub invariant-take_evaluated-loop-target : goal.invariant-take_evaluated-loop-target
invariant-take_evaluated-loop-target g l =
    (lists : Lists) → Tests g.T.Fn l.self.text_accepts.now g.E.RegexEngine.outcome lists → (j k : ℕ) → l.steps ≤ j
    → steps_for (length l.self.nodes.now) (view l.instance) l.steps ≤ k
    → AreLeft (λ s. OneOf (λ t. TargetEvaluates (Evaluates (schemas_of g.E.RegexEngine.outcome l.self.nodes.now) (Reports (schemas_of g.E.RegexEngine.outcome l.self.nodes.now) lists k) s j) s (target_of t))
    (take l.target-index l.target-items)) (children_of l.fn.left.items) (children_of l.left.items)

-- and what the keywords of a schema so far do
abbrev pub invariant-take_by_schema-loop-keyword : goal.invariant-take_by_schema-loop-keyword
invariant-take_by_schema-loop-keyword g l =
    (lists : Lists) → Tests g.T.Fn l.self.text_accepts.now g.E.RegexEngine.outcome lists → (j k : ℕ) → l.steps - 1 ≤ j
    → steps_for (length l.self.nodes.now) (view l.instance) (l.steps - 1) ≤ k
    → AreLeft (λ s. OneOf (λ key. KeywordEvaluates (Reports (schemas_of g.E.RegexEngine.outcome l.self.nodes.now) lists k) (Evaluates (schemas_of g.E.RegexEngine.outcome l.self.nodes.now) (Reports (schemas_of g.E.RegexEngine.outcome l.self.nodes.now) lists k) s j)
    (keywords_of g.E.RegexEngine.outcome l.keyword-items) (view l.instance) s (keyword_of g.E.RegexEngine.outcome key)) (take l.keyword-index l.keyword-items))
    (children_of l.fn.left.items) (children_of l.left.items)

-- what is at each segment so far has no errors
abbrev pub invariant-children_accept-loop-branch : goal.invariant-children_accept-loop-branch
invariant-children_accept-loop-branch g l =
    (lists : Lists) → Tests g.T.Fn l.self.text_accepts.now g.E.RegexEngine.outcome lists → (k : ℕ) (site : Site) (word : List ℕ)
    → steps_for (length l.self.nodes.now) (view l.instance) 0 ≤ k
    → EachReports (Reports (schemas_of g.E.RegexEngine.outcome l.self.nodes.now) lists k) site word (flat_map (on_child (view l.instance)) (branches_of l.branches)) []
    ↔ EachReports (Reports (schemas_of g.E.RegexEngine.outcome l.self.nodes.now) lists k) site word (flat_map (on_child (view l.instance)) (branches_of (drop l.branch-index l.branches))) []

-- the items have none by the schemas so far
abbrev pub invariant-items_accept-loop-branch : goal.invariant-items_accept-loop-branch
invariant-items_accept-loop-branch g l =
    (lists : Lists) → Tests g.T.Fn l.self.text_accepts.now g.E.RegexEngine.outcome lists → (k : ℕ) (site : Site) (word : List ℕ)
    → steps_for (length l.self.nodes.now) (view l.instance) 0 ≤ k
    → AllBranches (Reports (schemas_of g.E.RegexEngine.outcome l.self.nodes.now) lists k) site word (drop l.from (placed_items (view l.instance))) l.branches (drop l.branch-index l.branches)

-- and those so far have none
abbrev pub invariant-items_accept_by-loop-place : goal.invariant-items_accept_by-loop-place
invariant-items_accept_by-loop-place g l =
    (lists : Lists) → Tests g.T.Fn l.self.text_accepts.now g.E.RegexEngine.outcome lists → (k : ℕ) (site : Site) (word : List ℕ)
    → steps_for (length l.self.nodes.now) (view l.instance) 0 ≤ k
    → AllItems (Reports (schemas_of g.E.RegexEngine.outcome l.self.nodes.now) lists k) site word (view l.instance) (branch_of l.branch) l.item-items l.from l.place

-- by all schemas the instance has no errors just where it has none by those that are left
abbrev pub invariant-all_accept-loop-branch : goal.invariant-all_accept-loop-branch
invariant-all_accept-loop-branch g l =
    (lists : Lists) → Tests g.T.Fn l.self.text_accepts.now g.E.RegexEngine.outcome lists → (k : ℕ) (site : Site) (word : List ℕ)
    → steps_for (length l.self.nodes.now) (view l.instance) l.steps ≤ k
    → AllLeft (Reports (schemas_of g.E.RegexEngine.outcome l.self.nodes.now) lists k) site word (on_itself (view l.instance) (branches_of l.branches))
    (on_itself (view l.instance) (branches_of (drop l.branch-index l.branches)))

-- so many verdicts are true so far
abbrev pub invariant-counted_accept-loop-branch : goal.invariant-counted_accept-loop-branch
invariant-counted_accept-loop-branch g l = record {
  small : l.count ≤ l.branch-index;
  counted : (lists : Lists) → Tests g.T.Fn l.self.text_accepts.now g.E.RegexEngine.outcome lists → (k : ℕ) (site : Site) (word : List ℕ)
      → steps_for (length l.self.nodes.now) (view l.instance) l.steps ≤ k
      → Counted (Reports (schemas_of g.E.RegexEngine.outcome l.self.nodes.now) lists k) site word (on_itself (view l.instance) (branches_of l.branches))
      l.count (on_itself (view l.instance) (branches_of (drop l.branch-index l.branches)));
}

-- and so it is of those whose keys it has
abbrev pub invariant-present_accept-loop-branch : goal.invariant-present_accept-loop-branch
invariant-present_accept-loop-branch g l =
    (lists : Lists) → Tests g.T.Fn l.self.text_accepts.now g.E.RegexEngine.outcome lists → (k : ℕ) (site : Site) (word : List ℕ)
    → steps_for (length l.self.nodes.now) (view l.instance) l.steps ≤ k
    → AllLeft (Reports (schemas_of g.E.RegexEngine.outcome l.self.nodes.now) lists k) site word (on_itself (view l.instance) (filter (is_present (view l.instance)) (branches_of l.branches)))
    (on_itself (view l.instance) (filter (is_present (view l.instance)) (branches_of (drop l.branch-index l.branches))))

-- the members that are chosen have no errors just where those that are left have none
abbrev pub invariant-members_accept-loop-name : goal.invariant-members_accept-loop-name
invariant-members_accept-loop-name g l = record {
  all : (lists : Lists) → Tests g.T.Fn l.self.text_accepts.now g.E.RegexEngine.outcome lists → (k : ℕ) (site : Site) (word : List ℕ)
      → steps_for (length l.self.nodes.now) (view l.instance) 0 ≤ k
      → AllChosen (Reports (schemas_of g.E.RegexEngine.outcome l.self.nodes.now) lists k) site word
      (on_members (chosen_members g.E.RegexEngine.outcome l.chosen (view l.instance)) (branch_of l.branch)) (branch_of l.branch)
      (λ m. is_chosen g.E.RegexEngine.outcome l.chosen m.0) (member_list (members_view l.name-iterator));
  less : AreLess (view l.instance) (member_list (members_view l.name-iterator));
}

-- by all schemas the other members have no errors just where they have none by those that are left
abbrev pub invariant-others_accept-loop-branch : goal.invariant-others_accept-loop-branch
invariant-others_accept-loop-branch g l =
    let others = on_members (other_members_in (keywords_of g.E.RegexEngine.outcome l.beside) (view l.instance)) in
    (lists : Lists) → Tests g.T.Fn l.self.text_accepts.now g.E.RegexEngine.outcome lists → (k : ℕ) (site : Site) (word : List ℕ)
    → steps_for (length l.self.nodes.now) (view l.instance) 0 ≤ k
    → AllLeft (Reports (schemas_of g.E.RegexEngine.outcome l.self.nodes.now) lists k) site word (flat_map others (branches_of l.branches)) (flat_map others (branches_of (drop l.branch-index l.branches)))

-- the patterns and schemas that are left are ready, and all say the same as they
abbrev pub invariant-matched_accept-loop-pattern : goal.invariant-matched_accept-loop-pattern
invariant-matched_accept-loop-pattern g l = record {
  ready : AllByRecursion (IsPatternReady g.E.RegexEngine.outcome (MayTest g.T.Fn l.self.text_accepts.now) (length l.self.nodes.now)) (iter_rest (zip_first l.pattern-iterator));
  there : AllByRecursion (λ b. b.schema < length l.self.nodes.now) (iter_rest (zip_second l.pattern-iterator));
  all : (lists : Lists) → Tests g.T.Fn l.self.text_accepts.now g.E.RegexEngine.outcome lists → (k : ℕ) (site : Site) (word : List ℕ)
      → steps_for (length l.self.nodes.now) (view l.instance) 0 ≤ k
      → AllLeft (Reports (schemas_of g.E.RegexEngine.outcome l.self.nodes.now) lists k) site word
      (on_matched (view l.instance) (map (assertions_of g.E.RegexEngine.outcome) l.patterns) (branches_of l.branches))
      (on_matched (view l.instance) (map (assertions_of g.E.RegexEngine.outcome) (iter_rest (zip_first l.pattern-iterator))) (branches_of (iter_rest (zip_second l.pattern-iterator))));
}

-- so many items are valid so far
abbrev pub invariant-items_counted-loop-item : goal.invariant-items_counted-loop-item
invariant-items_counted-loop-item g l = record {
  small : l.count ≤ l.item-index;
  counted : (lists : Lists) → Tests g.T.Fn l.self.text_accepts.now g.E.RegexEngine.outcome lists → (k : ℕ) (site : Site) (word : List ℕ)
      → steps_for (length l.self.nodes.now) (view l.instance) 0 ≤ k
      → ItemsCounted (Reports (schemas_of g.E.RegexEngine.outcome l.self.nodes.now) lists k) site word (on_items (placed_items (view l.instance)) (branch_of l.branch))
      (branch_of l.branch) l.item-items l.count l.item-index;
}
