use Rattle.std.proofs.Common.{◌≡◌, drop}
use Rattle.std.specs.List.{list_any}
use Rattle.strkw_keywords.specs.Meanings.{Lists}
use Rattle.neldrafi_schema.specs.Rules.{leads_to}
use Rattle.neldrafi_schema.specs.machine.Closures.{Tests}
use Rattle.neldrafi_schema.specs.machine.Compiled.{keywords_of}
use Rattle.neldrafi_schema.proofs.validity.Checker.is_led_to.Given as goal

-- no keyword so far leads to it
abbrev pub invariant-loop-keyword : goal.invariant-loop-keyword
invariant-loop-keyword g l = (lists : Lists) → Tests g.T.Fn l.self.text_accepts.now g.E.RegexEngine.outcome lists
    → list_any (leads_to l.name) (keywords_of g.E.RegexEngine.outcome l.beside) ≡ list_any (leads_to l.name) (keywords_of g.E.RegexEngine.outcome (drop l.keyword-index l.beside))
