use Rattle.std.proofs.Common.{rules, ◌≡◌, ◌∙◌, ap, arith, length, sym, false, Some}
use Rattle.std.proofs.lemmas.Bool.Decides.{nat_tests}
use Rattle.serde_json.specs.Find.{as_array}
use Rattle.serde_json.specs.View.{items_view, view}
use Rattle.neldrafi_schema.specs.machine.Compiled.{path_of, rule_of}
use Rattle.neldrafi_schema.proofs.Cases.{list_given}
use Rattle.neldrafi_schema.proofs.senses.list_sense.Goals as goal

pub returns-in_ok-item_leads-in-Some-clause-sense : goal.returns-in_ok-item_leads-in-Some-clause-sense
returns-in_ok-item_leads-in-Some-clause-sense g c = λ outcome.
    let at = path_of c.args.member.now.at.now in
    let vs = c.deref.result.now in
    let is : as_array (view c.args.member.now.value.now) ≡ Some (items_view vs) = search rules in
    let not_empty : c.is_empty.result ≡ false = grind (arith, nat_tests) in
    let some : length vs ≡ 0 → ⊥ = λ e. let n : length c.in-Some.items.now.items ≡ 0 = ap length (sym c.deref.ensures.value) ∙ e in grind (arith, nat_tests) in
    list_given (rule_of outcome c.args.rule) at vs _ (as_array (view c.args.member.now.value.now)) is some c.in_ok-item_leads-in-Some.ensures.paths
