use Rattle.std.proofs.Common.{rules, ◌≡◌, ◌∙◌, false, true}
use Rattle.std.proofs.lemmas.Result.{IfOk-weaker}
use Rattle.std.specs.Prelude.{is_some}
use Rattle.serde_json.specs.Find.{as_array}
use Rattle.serde_json.specs.View.{view}
use Rattle.neldrafi_schema.specs.machine.Compiled.{path_of}
use Rattle.neldrafi_schema.proofs.Cases.{placed_items, same_items}
use Rattle.neldrafi_schema.proofs.senses.items_sense.Goals as goal

pub returns-in_default : goal.returns-in_default
returns-in_default g c = record {
  sense = λ outcome.
      let is : is_some (as_array (view c.args.member.now.value.now)) ≡ true = search rules in
      IfOk-weaker c.list_sense.result _ _ (λ s e. e ∙ placed_items c.args.draft (path_of c.args.member.now.at.now) (as_array (view c.args.member.now.value.now)) c.in_default.not-Draft202012 is)
      (c.list_sense.ensures.sense outcome);
  leads = λ documents there. c.list_sense.ensures.leads documents there;
}

pub returns-in_default-2 : goal.returns-in_default-2
returns-in_default-2 g c = record {
  sense = λ outcome.
      let is : is_some (as_array (view c.args.member.now.value.now)) ≡ false = search rules in
      IfOk-weaker c.one_sense-in_default-2.result _ _ (λ s e. e ∙ same_items c.args.draft (path_of c.args.member.now.at.now) (as_array (view c.args.member.now.value.now)) c.in_default.not-Draft202012 is)
      (c.one_sense-in_default-2.ensures.sense outcome);
  leads = λ documents there. c.one_sense-in_default-2.ensures.leads documents there;
}
