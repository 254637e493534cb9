use Rattle.std.proofs.Common.{◌∙◌, refl, ap}
use denote.Param.Object.{read_made}
use Rattle.strkw_companions.specs.Companions.{admits}
use Rattle.strkw_c.proofs.tasks.run.OwnLists.{own-1, at-1-1}
use Rattle.strkw_c.proofs.tasks.run.Goals as goal

-- a box that was made of a companion reads as the entry of companions does, and so admits what the companion admits
pub run_with-requires-clause-email : goal.run_with-requires-clause-email
run_with-requires-clause-email g c = λ text.
    let box = c.into_dyn_box in
    read_made own-1 (own-1.entry at-1-1) at-1-1 refl _ (λ j v. j.1.admits v text) box.result.vtable box.result.value c.in_ok-email.email.value box.ensures.1
    ∙ ap (λ x. admits x text) c.in_ok-email.ensures.ok

pub run_with-requires-clause-regex : goal.run_with-requires-clause-regex
run_with-requires-clause-regex g c = λ text.
    let box = c.into_dyn_box-2 in
    read_made own-1 (own-1.entry at-1-1) at-1-1 refl _ (λ j v. j.1.admits v text) box.result.vtable box.result.value c.in_ok-regex.regex.value box.ensures.1
    ∙ ap (λ x. admits x text) c.in_ok-regex.ensures.ok

pub run_with-requires-clause-idn_email : goal.run_with-requires-clause-idn_email
run_with-requires-clause-idn_email g c = λ text.
    let box = c.into_dyn_box-3 in
    read_made own-1 (own-1.entry at-1-1) at-1-1 refl _ (λ j v. j.1.admits v text) box.result.vtable box.result.value
    c.in_ok-idn_email.idn_email.value box.ensures.1
    ∙ ap (λ x. admits x text) c.in_ok-idn_email.ensures.ok

pub run_with-requires-clause-host : goal.run_with-requires-clause-host
run_with-requires-clause-host g c = λ text.
    let box = c.into_dyn_box-4 in
    read_made own-1 (own-1.entry at-1-1) at-1-1 refl _ (λ j v. j.1.admits v text) box.result.vtable box.result.value c.in_ok-host.host.value box.ensures.1
    ∙ ap (λ x. admits x text) c.in_ok-host.ensures.ok
