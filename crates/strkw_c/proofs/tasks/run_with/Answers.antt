use Rattle.std.proofs.Common.{rules, ◌∙◌}
use Rattle.strkw_companions.specs.declared.companion.Companion.TheVariants.{Email, IdnEmail, IdnHostname, Regex}
use Rattle.strkw_c.proofs.RegisteredLemmas.{lists_registered, row_of_companion}
use Rattle.strkw_c.proofs.tasks.run_with.Goals as goal

pub run_by-requires-clause-registered : goal.run_by-requires-clause-registered
run_by-requires-clause-registered g c =
    let items = c.deref.ensures.value ∙ c.in_ok-formats.ensures.items in
    lists_registered _ _ _ _ _ c.args.draft c.args.choices.companions c.registered_count.result c.deref.result.now items c.registered_count.ensures.count
    (row_of_companion _ Email (search rules) c.requires.email) (row_of_companion _ Regex (search rules) c.requires.regex)
    (row_of_companion _ IdnEmail (search rules) c.requires.idn_email) (row_of_companion _ IdnHostname (search rules) c.requires.host)
