use Rattle.std.proofs.Common.{◌∙◌, ap, sym, ◌++◌}
use Rattle.std.proofs.lemmas.List.{append-nil}
use Rattle.strkw_regex_core.specs.machine.Fronts.{parts_view}
use Rattle.strkw_regex_core.proofs.Fronts.{one_term}
use Rattle.strkw_regex_core.proofs.counted_regex.CountedRegex.+cut.Goals as goal

pub returns-in_default : goal.returns-in_default
returns-in_default t c =
    let one = one_term c.args.self c.requires c.in_default.not-Then in
    record {
      lead = c.first_lead.ensures ∙ sym one.0;
      rest = sym one.1;
      fronts = sym (append-nil (parts_view c.args.fronts.now.items)) ∙ ap (λ l. parts_view c.args.fronts.now.items ++ l) (sym one.2);
    }
