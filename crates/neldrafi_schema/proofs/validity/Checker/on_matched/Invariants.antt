use Rattle.std.proofs.Common.{◌≡◌, ◌++◌, length, map}
use Rattle.std.specs.Iterator.Adapters.{zip_first, zip_second}
use Rattle.std.specs.List.{AllByRecursion}
use Rattle.std.specs.Slice.Iter.{iter_rest}
use Rattle.serde_json.specs.View.{view}
use Rattle.strkw_keywords.specs.Meanings.{Lists}
use Rattle.strkw_keywords.specs.Validators.{assertions_of}
use Rattle.neldrafi_schema.specs.Rules.{on_matched}
use Rattle.neldrafi_schema.specs.machine.Closures.{MayTest, Tests}
use Rattle.neldrafi_schema.specs.machine.Compiled.{branches_of, targets_of}
use Rattle.neldrafi_schema.specs.machine.Ready.{IsPatternReady}
use Rattle.neldrafi_schema.proofs.validity.Checker.on_matched.Given as goal

-- the patterns that are left are ready; the targets so far, and those that are left
abbrev pub invariant-loop-pattern : goal.invariant-loop-pattern
invariant-loop-pattern g l = record {
  ready : AllByRecursion (IsPatternReady g.E.RegexEngine.outcome (MayTest g.T.Fn l.self.text_accepts.now) (length l.self.nodes.now)) (iter_rest (zip_first l.pattern-iterator));
  all : (lists : Lists) → Tests g.T.Fn l.self.text_accepts.now g.E.RegexEngine.outcome lists
      → targets_of l.targets.items
      ++ on_matched (view l.instance) (map (assertions_of g.E.RegexEngine.outcome) (iter_rest (zip_first l.pattern-iterator))) (branches_of (iter_rest (zip_second l.pattern-iterator)))
      ≡ on_matched (view l.instance) (map (assertions_of g.E.RegexEngine.outcome) l.patterns) (branches_of l.branches);
}
