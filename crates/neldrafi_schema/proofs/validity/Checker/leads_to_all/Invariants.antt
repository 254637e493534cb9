use Rattle.std.proofs.Common.{◌≡◌}
use Rattle.std.specs.Prelude.{not}
use Rattle.std.specs.List.{filter, list_any}
use Rattle.serde_json.specs.View.{members_view, view}
use Rattle.strkw_keywords.specs.Meanings.{Lists}
use Rattle.neldrafi_schema.specs.Rules.{leads_to, member_list, other_members_in}
use Rattle.neldrafi_schema.specs.machine.Closures.{Tests}
use Rattle.neldrafi_schema.specs.machine.Compiled.{keywords_of}
use Rattle.neldrafi_schema.proofs.validity.Checker.leads_to_all.Given as goal

-- a rule leads to each member so far
abbrev pub invariant-loop-key : goal.invariant-loop-key
invariant-loop-key g l = (lists : Lists) → Tests g.T.Fn l.self.text_accepts.now g.E.RegexEngine.outcome lists
    → other_members_in (keywords_of g.E.RegexEngine.outcome l.beside) (view l.instance)
    ≡ filter (λ m. not (list_any (leads_to m.0) (keywords_of g.E.RegexEngine.outcome l.beside))) (member_list (members_view l.key-iterator))
