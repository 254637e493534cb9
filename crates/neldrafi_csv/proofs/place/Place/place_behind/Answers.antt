use Rattle.std.proofs.Common.{◌≡◌, ◌≤◌, ◌+◌, arith, true, false}
use Rattle.std.specs.Prelude.{◌^◌}
use Rattle.neldrafi_csv.specs.Lines.{ends_line}
use Rattle.neldrafi_csv.proofs.LineLemmas.{place_after-next, place_after-past, place_after-same}
use Rattle.neldrafi_csv.proofs.place.Place.place_behind.Goals as goal

pub returns-then-not-is_ended_by-clause-some : goal.returns-then-not-is_ended_by-clause-some
returns-then-not-is_ended_by-clause-some c =
    let on : ends_line c.args.self.after_cr c.args.byte ≡ false = cc in place_after-same c.args.self c.args.byte on

pub returns-in_err-checked_add-clause-none : goal.returns-in_err-checked_add-clause-none
returns-in_err-checked_add-clause-none c =
    let ends : ends_line c.args.self.after_cr c.args.byte ≡ true = cc in
    let past : 2 ^ 64 ≤ c.args.self.line + 1 = omega (arith, c.in_err-checked_add.ensures) in
    rw c.from_residual.ensures (place_after-past c.args.self c.args.byte ends past)

pub returns-clause-some : goal.returns-clause-some
returns-clause-some c =
    let ends : ends_line c.args.self.after_cr c.args.byte ≡ true = cc in
    place_after-next c.args.self c.args.byte c.in_ok-checked_add.field-0 ends (omega (arith, c.in_ok-checked_add.ensures.1))
