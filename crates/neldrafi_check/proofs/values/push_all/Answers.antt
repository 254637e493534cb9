use Rattle.std.proofs.Common.{◌∙◌, ◌++◌, [], ap, arith, append_assoc, append-nil, refl, string_bytes, subst, sym}
use Rattle.neldrafi_schema.specs.machine.Found.{error_seen}
use Rattle.neldrafi_check.specs.Messages.{Says}
use Rattle.neldrafi_check.specs.machine.Origins.{positions_of}
use Rattle.neldrafi_check.proofs.SaidLemmas.{left_end, left_more, left_start}
use Rattle.neldrafi_check.proofs.values.push_all.Goals as goal

pub loop-error-init : goal.loop-error-init
loop-error-init g c = record {
  same = refl;
  said = (
    [],
    sym (append-nil (string_bytes c.args.out.now)),
    left_start (g.F.ErrorForm.writes c.args.form.now) (positions_of c.args.origin.now) c.args.errors.now,
  );
}

pub loop-error-preserved : goal.loop-error-preserved
loop-error-preserved g c =
    let inv = c.loop-error.invariant in
    let made = inv.said in
    let put = c.in_ok-push_one.ensures.said in
    record {
      same = c.in_ok-push_one.ensures.same ∙ inv.same;
      said = (
        made.0 ++ put.0,
        put.1 ∙ ap (λ l. l ++ put.0) made.1 ∙ append_assoc (string_bytes c.args.out.now) made.0 put.0,
        left_more (g.F.ErrorForm.writes c.args.form.now) (positions_of c.args.origin.now) c.args.errors.now c.loop-error.error-index c.error-item.result made.0 put.0
            (omega arith) c.error-item.is (subst (λ origin. Says (g.F.ErrorForm.writes c.args.form.now) (positions_of origin) (error_seen c.error-item.result) put.0) inv.same put.2) made.2,
      );
    }

pub returns : goal.returns
returns g c =
    let made = c.loop-error.invariant.said in (
      made.0,
      made.1,
      left_end (g.F.ErrorForm.writes c.args.form.now) (positions_of c.args.origin.now) c.args.errors.now c.loop-error.error-index made.0
          (omega arith) made.2,
    )
