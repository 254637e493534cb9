use Rattle.std.proofs.Common.{ℕ, ◌+◌, ◌-◌, ◌*◌, ◌≤◌, drop, length, string_bytes}
use Rattle.serde_json.specs.View.{view}
use Rattle.strkw_keywords.specs.Meanings.{Lists}
use Rattle.neldrafi_schema.specs.Annotations.{Annotates}
use Rattle.neldrafi_schema.specs.Meaning.{Reports}
use Rattle.neldrafi_schema.specs.machine.Annotated.{Annotated}
use Rattle.neldrafi_schema.specs.machine.Closures.{Tests}
use Rattle.neldrafi_schema.specs.machine.Compiled.{branches_of, keywords_of, rule_of, schemas_of, seen_data}
use Rattle.neldrafi_schema.specs.machine.Ready.{steps_for}
use Rattle.neldrafi_schema.proofs.Added.{KeywordsLeft, TargetsLeft}
use Rattle.neldrafi_schema.proofs.validity.Checker.+annotate.Given as goal

abbrev pub decreases-annotate : goal.decreases-annotate
decreases-annotate g l = 3 * steps_for (length l.self.now.nodes.now) (view l.visit.now.instance.now) l.steps

abbrev pub decreases-annotate_by_keyword : goal.decreases-annotate_by_keyword
decreases-annotate_by_keyword g l = 3 * steps_for (length l.self.now.nodes.now) (view l.visit.now.instance.now) l.steps + 2

abbrev pub decreases-annotate_by_target : goal.decreases-annotate_by_target
decreases-annotate_by_target g l = 3 * steps_for (length l.self.now.nodes.now) (seen_data l.target.now.value) l.steps + 1

-- the annotations so far, and those of the keywords that are left, are those of all
abbrev pub invariant-annotate-loop-keyword : goal.invariant-annotate-loop-keyword
invariant-annotate-loop-keyword g l =
    let schemas = schemas_of g.E.RegexEngine.outcome l.self.nodes.now in
    (lists : Lists) → Tests g.T.Fn l.self.text_accepts.now g.E.RegexEngine.outcome lists
    → (k : ℕ) → steps_for (length l.self.nodes.now) (view l.visit.instance.now) (l.steps - 1) ≤ k
    → Annotated (KeywordsLeft g.E.RegexEngine.outcome schemas (Reports schemas lists k) (Annotates schemas lists k) (view l.visit.instance.now) l.visit.site.now
    l.keyword-items (drop l.keyword-index l.keyword-items)) l.initial.found.items l.found.items

-- the annotations so far, and those of the targets that are left, are those of the rule
abbrev pub invariant-annotate_by_keyword-loop-target : goal.invariant-annotate_by_keyword-loop-target
invariant-annotate_by_keyword-loop-target g l =
    let schemas = schemas_of g.E.RegexEngine.outcome l.self.nodes.now in
    (lists : Lists) → Tests g.T.Fn l.self.text_accepts.now g.E.RegexEngine.outcome lists
    → (k : ℕ) → steps_for (length l.self.nodes.now) (view l.visit.instance.now) l.steps ≤ k
    → Annotated (TargetsLeft schemas (Reports schemas lists k) (Annotates schemas lists k) (keywords_of g.E.RegexEngine.outcome l.beside) (string_bytes l.ruled.name)
    (rule_of g.E.RegexEngine.outcome l.ruled.rule) (branches_of l.ruled.branches.items) (view l.visit.instance.now) l.visit.site.now l.target-items
    (drop l.target-index l.target-items)) l.fn.found.items l.found.items
