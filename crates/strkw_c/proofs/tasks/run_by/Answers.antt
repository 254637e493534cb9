use Rattle.std.proofs.Common.{subst, sym}
use Rattle.strkw_keywords.specs.Meanings.{Lists}
use Rattle.strkw_c.specs.Settings.{settings_by}
use Rattle.strkw_c.proofs.tasks.run_by.Goals as goal

pub run-requires : goal.run-requires
run-requires g c =
    subst (λ (l : Lists). g.T.Task.needs c.args.task.now (settings_by c.args.draft c.args.choices.options l)) (sym c.requires.registered) c.requires.ready
