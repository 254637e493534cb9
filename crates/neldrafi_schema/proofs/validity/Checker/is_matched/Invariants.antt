use Rattle.std.proofs.Common.{◌≡◌, drop, map}
use Rattle.std.specs.List.{list_any}
use Rattle.strkw_keywords.specs.Meanings.{Lists}
use Rattle.strkw_keywords.specs.Validators.{assertions_of}
use Rattle.neldrafi_schema.specs.Rules.{is_matched}
use Rattle.neldrafi_schema.specs.machine.Closures.{Tests}
use Rattle.neldrafi_schema.proofs.validity.Checker.is_matched.Given as goal

-- no pattern so far matches
abbrev pub invariant-loop-pattern : goal.invariant-loop-pattern
invariant-loop-pattern g l = (lists : Lists) → Tests g.T.Fn l.self.text_accepts.now g.E.RegexEngine.outcome lists
    → list_any (is_matched l.name) (map (assertions_of g.E.RegexEngine.outcome) l.patterns)
    ≡ list_any (is_matched l.name) (map (assertions_of g.E.RegexEngine.outcome) (drop l.pattern-index l.patterns))
