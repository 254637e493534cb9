use Rattle.std.proofs.Common.{ℕ, ◌+◌, ◌-◌, ◌*◌, ◌≤◌, List, ◌++◌, drop, length, string_bytes}
use Rattle.serde_json.specs.View.{view}
use Rattle.strkw_keywords.specs.Meanings.{Lists}
use Rattle.neldrafi_schema.specs.Errors.{Error}
use Rattle.neldrafi_schema.specs.Meaning.{EachReports, KeywordReports, KeywordsReport, Reports}
use Rattle.neldrafi_schema.specs.machine.Closures.{Finds, Tests}
use Rattle.neldrafi_schema.specs.machine.Compiled.{keywords_of, ruled_of, schemas_of, seen_data, targets_of}
use Rattle.neldrafi_schema.specs.machine.Found.{Appended}
use Rattle.neldrafi_schema.specs.machine.Ready.{steps_for}
use Rattle.neldrafi_schema.specs.machine.Compiled.{header_of}
use Rattle.neldrafi_schema.proofs.collecting.Collector.+push.Given as goal

abbrev pub decreases-push_errors : goal.decreases-push_errors
decreases-push_errors g l = 4 * steps_for (length l.self.now.checker.nodes.now) (view l.visit.now.instance.now) l.steps

abbrev pub decreases-push_keyword : goal.decreases-push_keyword
decreases-push_keyword g l = 4 * steps_for (length l.self.now.checker.nodes.now) (view l.visit.now.instance.now) l.steps + 3

abbrev pub decreases-push_rule : goal.decreases-push_rule
decreases-push_rule g l = 4 * steps_for (length l.self.now.checker.nodes.now) (view l.visit.now.instance.now) l.steps + 2

abbrev pub decreases-push_target : goal.decreases-push_target
decreases-push_target g l = 4 * steps_for (length l.self.now.checker.nodes.now) (seen_data l.target.now.value) l.steps + 1

-- the errors so far, and those of the keywords that are left, are those of all
abbrev pub invariant-push_errors-loop-keyword : goal.invariant-push_errors-loop-keyword
invariant-push_errors-loop-keyword g l =
    let ks = keywords_of g.E.RegexEngine.outcome l.keyword-items in
    (lists : Lists) → Tests g.T.Fn l.self.checker.text_accepts.now g.E.RegexEngine.outcome lists → Finds g.F.Fn l.self.text_errors.now g.E.RegexEngine.outcome lists
    → (k : ℕ) → steps_for (length l.self.checker.nodes.now) (view l.visit.instance.now) (l.steps - 1) ≤ k
    → Appended (λ es. (later : List Error)
    → KeywordsReport (schemas_of g.E.RegexEngine.outcome l.self.checker.nodes.now) (Reports (schemas_of g.E.RegexEngine.outcome l.self.checker.nodes.now) lists k) lists (header_of l.node.header) ks
    (keywords_of g.E.RegexEngine.outcome (drop l.keyword-index l.keyword-items)) (view l.visit.instance.now) l.visit.site.now later
    → KeywordsReport (schemas_of g.E.RegexEngine.outcome l.self.checker.nodes.now) (Reports (schemas_of g.E.RegexEngine.outcome l.self.checker.nodes.now) lists k) lists (header_of l.node.header) ks ks (view l.visit.instance.now) l.visit.site.now (es ++ later))
    l.fn.errors.items l.errors.items

-- the errors so far, and those of the targets that are left, are those of the rule
abbrev pub invariant-push_rule-loop-target : goal.invariant-push_rule-loop-target
invariant-push_rule-loop-target g l =
    (lists : Lists) → Tests g.T.Fn l.self.checker.text_accepts.now g.E.RegexEngine.outcome lists → Finds g.F.Fn l.self.text_errors.now g.E.RegexEngine.outcome lists
    → (k : ℕ) → steps_for (length l.self.checker.nodes.now) (view l.visit.instance.now) l.steps ≤ k
    → Appended (λ es. (later : List Error)
    → EachReports (Reports (schemas_of g.E.RegexEngine.outcome l.self.checker.nodes.now) lists k) l.visit.site.now (string_bytes l.ruled.name)
    (targets_of (drop l.target-index l.target-items)) later
    → KeywordReports (schemas_of g.E.RegexEngine.outcome l.self.checker.nodes.now) (Reports (schemas_of g.E.RegexEngine.outcome l.self.checker.nodes.now) lists k) lists (header_of l.node.header)
    (keywords_of g.E.RegexEngine.outcome l.beside) (ruled_of g.E.RegexEngine.outcome l.ruled) (view l.visit.instance.now) l.visit.site.now (es ++ later))
    l.fn.errors.items l.errors.items
