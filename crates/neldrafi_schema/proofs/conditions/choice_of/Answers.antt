use Rattle.std.proofs.Common.{ℕ, Bool, string_bytes, subst}
use Rattle.std.specs.Prelude.{not}
use Rattle.neldrafi_schema.specs.declared.conditions.Choice.{Choice}
use Rattle.neldrafi_schema.specs.declared.conditions.Choice.TheVariants.{Leads, Passes, Unknown}
use Rattle.neldrafi_schema.specs.Meaning.{Reports}
use Rattle.neldrafi_schema.specs.machine.Compiled.{branches_of}
use Rattle.neldrafi_schema.specs.machine.Conditions.{Chooses, ChoosesAlone, Ends, IsVerdict}
use Rattle.neldrafi_schema.proofs.Where.{condition_means, else_means, then_means}
use Rattle.neldrafi_schema.proofs.conditions.choice_of.Goals as goal

pub returns-in-WhereValid-clause-means : goal.returns-in-WhereValid-clause-means
returns-in-WhereValid-clause-means g c = λ outcome schemas lists k header beside d site known.
    let ruled = c.in-Rule-Some.ruled in
    let verdict : IsVerdict (Reports schemas lists k) d c.in-Rule-Some.number c.in-Rule-Some.valid = rw c.in-Rule-Some.is-1 at known in
    let chosen : Chooses (branches_of ruled.branches.items) c.in-Rule-Some.number c.in-Rule-Some.valid c.choice_among.result =
    subst (λ l. Chooses (branches_of l) c.in-Rule-Some.number c.in-Rule-Some.valid c.choice_among.result) c.deref.ensures.value c.choice_among.ensures in
    rw (c.in-Rule-Some.is-0, c.in-WhereValid.is) (then_means schemas (Reports schemas lists k) lists header beside (string_bytes ruled.name) (branches_of ruled.branches.items) d site
    c.in-Rule-Some.number c.in-Rule-Some.valid c.choice_among.result chosen verdict)

pub returns-in-WhereNotValid-clause-means : goal.returns-in-WhereNotValid-clause-means
returns-in-WhereNotValid-clause-means g c = λ outcome schemas lists k header beside d site known.
    let ruled = c.in-Rule-Some.ruled in
    let verdict : IsVerdict (Reports schemas lists k) d c.in-Rule-Some.number c.in-Rule-Some.valid = rw c.in-Rule-Some.is-1 at known in
    let chosen = subst (λ l. Chooses (branches_of l) c.in-Rule-Some.number (not c.in-Rule-Some.valid) c.choice_among-in-WhereNotValid.result) c.deref-in-WhereNotValid.ensures.value c.choice_among-in-WhereNotValid.ensures in
    rw (c.in-Rule-Some.is-0, c.in-WhereNotValid.is) (else_means schemas (Reports schemas lists k) lists header beside (string_bytes ruled.name) (branches_of ruled.branches.items) d site
    c.in-Rule-Some.number c.in-Rule-Some.valid c.choice_among-in-WhereNotValid.result chosen verdict)

pub returns-in-Condition-clause-means : goal.returns-in-Condition-clause-means
returns-in-Condition-clause-means g c = λ outcome schemas lists k header beside d site known.
    let ruled = c.in-Rule-Some.ruled in
    let verdict : IsVerdict (Reports schemas lists k) d c.in-Rule-Some.number c.in-Rule-Some.valid = rw c.in-Rule-Some.is-1 at known in
    let chosen : ChoosesAlone (branches_of ruled.branches.items) c.in-Rule-Some.number c.choice_alone.result =
    subst (λ l. ChoosesAlone (branches_of l) c.in-Rule-Some.number c.choice_alone.result) c.deref-in-Condition.ensures.value c.choice_alone.ensures in
    rw (c.in-Rule-Some.is-0, c.in-Condition.is) (condition_means schemas (Reports schemas lists k) lists header beside (string_bytes ruled.name) (branches_of ruled.branches.items) d site
    c.in-Rule-Some.number c.in-Rule-Some.valid c.choice_alone.result chosen verdict)

pub returns-in-Condition-clause-end : goal.returns-in-Condition-clause-end
returns-in-Condition-clause-end g c = λ outcome end ends. none end c.choice_alone.result c.choice_alone.ensures where
  none : (end : ℕ → Bool) (choice : Choice) → ChoosesAlone (branches_of c.deref-in-Condition.result.now) c.in-Rule-Some.number choice → Ends end choice
  none end Unknown chosen = tt
  none end Passes chosen = tt
  none end (Leads n) chosen = absurd chosen
