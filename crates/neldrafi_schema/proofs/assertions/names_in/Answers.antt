use Rattle.std.proofs.Common.{rules, ◌≡◌, ◌∙◌, length, false, sym, Some}
use Rattle.std.proofs.lemmas.Result.{IfOk-weaker}
use Rattle.serde_json.specs.Find.{as_array}
use Rattle.serde_json.specs.View.{items_view, view}
use Rattle.neldrafi_schema.specs.Drafts.{is_draft_4}
use Rattle.neldrafi_schema.specs.machine.Leads.{is_lacking}
use Rattle.neldrafi_schema.proofs.Cases.{names_given}
use Rattle.neldrafi_schema.proofs.assertions.names_in.Goals as goal

pub returns : goal.returns
returns c =
    let vs = c.deref-2.result.now in
    let is : as_array (view c.args.value.now) ≡ Some (items_view vs) = search rules in
    let some : is_lacking (is_draft_4 c.args.draft) (length vs) ≡ false = search rules in
    IfOk-weaker c.names_of.result _ _ (λ o e. e ∙ sym (names_given (is_draft_4 c.args.draft) vs (as_array (view c.args.value.now)) is some)) c.names_of.ensures
