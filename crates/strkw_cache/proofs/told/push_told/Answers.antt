use Rattle.std.proofs.Common.{rules}
use Rattle.strkw_object.proofs.Results.{on_ok}
use Rattle.strkw_cache.specs.Told.{IsTold}
use Rattle.strkw_cache.proofs.Telling.{made_appended, told_notes, told_refusal}
use Rattle.strkw_cache.proofs.told.push_told.Goals as goal

pub returns-in-Some-default-clause-ok : goal.returns-in-Some-default-clause-ok
returns-in-Some-default-clause-ok c =
    made_appended c.extend_from_slice.result (IsTold c.args.compiled.now) c.args.out.now.items c.extend_from_slice.new.self.items c.in-Some-default.told.now
    (on_ok c.extend_from_slice.result (search rules)) (search rules)

pub returns-in_ok-push_notes-in-None-Ok-clause-ok : goal.returns-in_ok-push_notes-in-None-Ok-clause-ok
returns-in_ok-push_notes-in-None-Ok-clause-ok c =
    let last = c.extend_from_slice-in-None-Ok in
    rw c.in-None-Ok.is-1 (told_notes last.result c.in-None-Ok.keywords c.args.out.now.items c.push_notes.new.out.items last.new.self.items
    c.in_ok-push_notes-in-None-Ok.ensures.ok (search rules))

pub returns-in_ok-push_refusal-in-None-Err-clause-ok : goal.returns-in_ok-push_refusal-in-None-Err-clause-ok
returns-in_ok-push_refusal-in-None-Err-clause-ok c =
    let last = c.extend_from_slice-in-None-Err in
    let refused = c.in_ok-push_refusal-in-None-Err.ensures in
    rw c.in-None-Err.is-1 (told_refusal last.result c.in-None-Err.refusal c.args.out.now.items c.push_refusal.new.out.items last.new.self.items
    refused.ok refused.out_of_memory (search rules))
