use Rattle.std.proofs.Common.{◌≡◌, ◌∙◌, ◌∷◌, [], ap, sym, subst, Some}
use Rattle.neldrafi_schema.specs.declared.problem.Problem.{Problem}
use Rattle.neldrafi_schema.specs.machine.Problems.{Notes, problem_of, reason_of}
use Rattle.neldrafi_schema.specs.machine.Compiled.{path_of}
use Rattle.neldrafi_schema.specs.Paths.{StandsBefore}
use Rattle.neldrafi_schema.proofs.Keeping.{noted_alone, noted_first}
use Rattle.neldrafi_schema.proofs.problem.Problem.note.Goals.{in-Some, in-None}
use Rattle.neldrafi_schema.proofs.problem.Problem.note.Goals as goal

pub returns-in_ok-path : goal.returns-in_ok-path
returns-in_ok-path c =
    let p : Problem = record { path = c.in_ok-path.path; kind = c.args.kind } in
    let same : problem_of p ≡ (path_of c.args.path.now, reason_of c.args.kind) = ap (λ path. (path, reason_of c.args.kind)) c.in_ok-path.ensures in
    subst (λ q. Notes (q ∷ []) c.args.first.now (Some p)) same (elim c.match-first.branch [
      | in-Some w ↦
          let kept = w.in-Some.kept in
          let earlier : StandsBefore (problem_of p).0 (problem_of kept).0 = subst (λ path. StandsBefore path (problem_of kept).0) (sym c.in_ok-path.ensures)
          (subst (λ other. StandsBefore (path_of c.args.path.now) (path_of other)) w.deref.ensures.value
          (w.stands_before-is_first.ensures.0 (sym w.is_first-is ∙ c.if-is_first.true))) in
          subst (λ o. Notes (problem_of p ∷ []) o (Some p)) (sym w.in-Some.is) (noted_first p kept earlier)
      | in-None w ↦ subst (λ o. Notes (problem_of p ∷ []) o (Some p)) (sym w.in-None.is) (noted_alone p)
    ])
