use Rattle.std.proofs.Common.{◌≡◌, ◌<◌, ◌+◌, length, take, sym, ap, arith, ◌∙◌, get_or, ℕ, List}
use Rattle.std.proofs.lemmas.List.{get_or-drop, length-drop, take_all, take_rest}
use Rattle.neldrafi_csv.specs.Lines.{place_after}
use Rattle.neldrafi_csv.proofs.LineLemmas.{take-length, place_after-more, place_after-nil, place_after-past_all, place_after-run}
use Rattle.neldrafi_csv.proofs.place.Place.behind.Goals as goal

pub lines-init : goal.lines-init
lines-init c = record { within = omega arith; reached = sym (place_after-nil c.args.self) }

pub returns-then-count-rest-clause-some : goal.returns-then-count-rest-clause-some
returns-then-count-rest-clause-some c =
    let bytes = c.args.bytes.now in
    let n = c.line_free_run-count.result in
    let e = take_rest bytes c.lines.at in
    let k = c.behind_plain-place.ensures _ c.line_free_run-count.ensures.run (take-length n _ c.line_free_run-count.ensures.within) in
    let long = ap length e ∙ length-drop c.lines.at bytes in
    let size = c.if-count-rest.true in
    let whole = take_all (c.lines.at + n) bytes (omega (arith, long, size, c.lines.invariant.within)) in
    place_after-run c.args.self c.lines.place c.behind_plain-place.result bytes _ c.lines.at n c.lines.invariant.reached e k
    ∙ ap (λ (l : List ℕ). place_after c.args.self l) whole

pub returns-in_err-place-clause-none : goal.returns-in_err-place-clause-none
returns-in_err-place-clause-none c =
    let bytes = c.args.bytes.now in
    let n = c.line_free_run-count.result in
    let e = take_rest bytes c.lines.at in
    let k = c.behind_plain-place.ensures _ c.line_free_run-count.ensures.run (take-length n _ c.line_free_run-count.ensures.within) in
    let run = place_after-run c.args.self c.lines.place c.behind_plain-place.result bytes _ c.lines.at n c.lines.invariant.reached e k in
    let long = ap length e ∙ length-drop c.lines.at bytes in
    let within = c.line_free_run-count.ensures.within in
    let some = c.if-count-rest.false in
    let inside : c.lines.at + n < length bytes = omega (arith, long, within, some) in
    let here = ap (λ (l : List ℕ). get_or l n 0) e ∙ get_or-drop c.lines.at bytes n 0 in
    rw c.from_residual.ensures (place_after-past_all c.args.self c.behind_plain-place.result bytes (c.lines.at + n) _ run inside here
    c.in_err-place.ensures.none)

pub lines-preserved : goal.lines-preserved
lines-preserved c =
    let bytes = c.args.bytes.now in
    let n = c.line_free_run-count.result in
    let e = take_rest bytes c.lines.at in
    let k = c.behind_plain-place.ensures _ c.line_free_run-count.ensures.run (take-length n _ c.line_free_run-count.ensures.within) in
    let run = place_after-run c.args.self c.lines.place c.behind_plain-place.result bytes _ c.lines.at n c.lines.invariant.reached e k in
    let long = ap length e ∙ length-drop c.lines.at bytes in
    let within = c.line_free_run-count.ensures.within in
    let some = c.if-count-rest.false in
    let inside : c.lines.at + n < length bytes = omega (arith, long, within, some) in
    let here = ap (λ (l : List ℕ). get_or l n 0) e ∙ get_or-drop c.lines.at bytes n 0 in
    let next : (c.lines.at + n) + 1 ≡ c.lines.at + (n + 1) = omega arith in
    record {
      within = omega (arith, inside);
      reached = place_after-more c.args.self c.behind_plain-place.result c.in_ok-place.place bytes (c.lines.at + n) _ run inside here c.in_ok-place.ensures.some
          ∙ ap (λ (m : ℕ). place_after c.args.self (take m bytes)) next;
    }
