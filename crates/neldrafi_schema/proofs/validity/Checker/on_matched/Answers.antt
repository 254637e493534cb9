use Rattle.std.proofs.Common.{◌≡◌, ◌∙◌, ◌++◌, ◌∷◌, [], ap, append-nil, append_assoc, inl, inr, map, subst, sym, length}
use Rattle.std.specs.Iterator.Adapters.{zip_first, zip_second}
use Rattle.std.specs.List.{AllByRecursion, filter}
use Rattle.std.specs.Slice.Iter.{iter_rest}
use Rattle.serde_json.specs.View.{view}
use Rattle.strkw_keywords.specs.Validators.{assertions_of}
use Rattle.neldrafi_schema.specs.Rules.{is_matched, members_in, on_matched, on_members}
use Rattle.neldrafi_schema.specs.machine.Closures.{MayTest}
use Rattle.neldrafi_schema.specs.machine.Compiled.{branch_of, branches_of, targets_of}
use Rattle.neldrafi_schema.specs.machine.Ready.{IsPatternReady}
use Rattle.neldrafi_schema.proofs.Items.{no_branches, no_patterns}
use Rattle.neldrafi_schema.proofs.validity.Checker.on_matched.Goals as goal

pub loop-pattern-preserved : goal.loop-pattern-preserved
loop-pattern-preserved g c =
    let outcome = g.E.RegexEngine.outcome in
    let d = view c.args.instance.now in
    let step = c.in-Some.ensures.steps in
    let others = map (assertions_of outcome) (iter_rest (zip_first c.next.new.self)) in
    let branches = branches_of (iter_rest (zip_second c.next.new.self)) in
    let old = targets_of c.loop-pattern.targets.items in
    let more = on_members (filter (λ m. is_matched m.0 (assertions_of outcome c.in-Some.pattern.now)) (members_in d)) (branch_of c.in-Some.branch.now) in record {
      ready =
          (subst (AllByRecursion (IsPatternReady outcome (MayTest g.T.Fn c.args.self.now.text_accepts.now) (length c.args.self.now.nodes.now))) step.0 c.loop-pattern.invariant.ready).1;
      all = λ lists tests. ap (λ ts. ts ++ on_matched d others branches) (c.in_ok-push_matched.ensures lists tests) ∙ append_assoc old more (on_matched d others branches)
          ∙ ap (λ ps. old ++ on_matched d (map (assertions_of outcome) ps) (branch_of c.in-Some.branch.now ∷ branches)) (sym step.0)
          ∙ ap (λ bs. old ++ on_matched d (map (assertions_of outcome) (iter_rest (zip_first c.loop-pattern.pattern-iterator))) (branches_of bs)) (sym step.1)
          ∙ c.loop-pattern.invariant.all lists tests;
    }

pub returns : goal.returns
returns g c = λ lists tests.
    let ended : on_matched (view c.args.instance.now) (map (assertions_of g.E.RegexEngine.outcome) (iter_rest (zip_first c.loop-pattern.pattern-iterator)))
    (branches_of (iter_rest (zip_second c.loop-pattern.pattern-iterator))) ≡ [] = elim c.in-None.ensures.steps [
      | inl p ↦ no_patterns (view c.args.instance.now) (assertions_of g.E.RegexEngine.outcome) branch_of (iter_rest (zip_first c.loop-pattern.pattern-iterator)) (iter_rest (zip_second c.loop-pattern.pattern-iterator)) p.1.0
      | inr p ↦ no_branches (view c.args.instance.now) (assertions_of g.E.RegexEngine.outcome) branch_of (iter_rest (zip_first c.loop-pattern.pattern-iterator)) (iter_rest (zip_second c.loop-pattern.pattern-iterator)) p.1.0
    ] in
    sym (append-nil (targets_of c.loop-pattern.targets.items)) ∙ ap (λ ts. targets_of c.loop-pattern.targets.items ++ ts) (sym ended)
    ∙ c.loop-pattern.invariant.all lists tests
