use Rattle.std.proofs.Common.{◌∙◌, ◌++◌, ap}
use Rattle.std.proofs.lemmas.List.{map-append}
use Rattle.serde_json.specs.View.{view}
use Rattle.neldrafi_schema.specs.Rules.{found_valid}
use Rattle.neldrafi_schema.specs.machine.Compiled.{branches_of, rule_of, target_of, targets_of}
use Rattle.neldrafi_schema.proofs.validity.Checker.reached.Goals as goal

pub returns : goal.returns
returns g c = λ lists tests.
    let outcome = g.E.RegexEngine.outcome in
    let ruled = c.args.ruled.now in
    let valid = found_valid (rule_of outcome ruled.rule) (branches_of ruled.branches.items) (view c.args.instance.now) c.args.verdicts.now in
    let found = c.in_ok-reached.reached.items in
    let more = c.in_ok-applied.field-0.items in
    ap targets_of c.in_ok-append.ensures.items ∙ map-append target_of found more
    ∙ ap (λ ts. ts ++ targets_of more) (c.in_ok-reached.ensures outcome) ∙ ap (λ us. valid ++ us) (c.in_ok-applied.ensures lists tests)
