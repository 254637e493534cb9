use Rattle.std.proofs.Common.{◌≡◌, ◌<◌, ◌≤◌, ℕ, suc, Bool, true, false, List, Option, None, get_or, length, nat_le, refl, sym, ap, ◌∙◌, arith}
use Rattle.std.proofs.lemmas.Bool.{leb-true, leb-false}
use Rattle.std.proofs.lemmas.List.{get_or_past}
use Rattle.strkw_regex_search.specs.machine.Bits.{rows_of}
use Rattle.strkw_regex_search.specs.machine.Seeking.{row_answer}
use Rattle.strkw_regex_search.specs.machine.OracleMarks.{told_mark}
use Rattle.strkw_regex_search.proofs.OracleMarks.{marks_told}
use Rattle.strkw_regex_search.proofs.oracle_runner.tell.Goals as goal

-- a mark is told before the place where the numbers end, and behind it as it was
each_told : (now : ℕ → Bool) (ts : List (Option ℕ)) (ms ns : List Bool) (place k : ℕ) → length ts ≤ place → k < length ns
    → ((j : ℕ) → j < place → j < length ns → get_or ns j false ≡ told_mark now (get_or ts j None) (get_or ms j false))
    → ((j : ℕ) → place ≤ j → get_or ns j false ≡ get_or ms j false)
    → get_or ns k false ≡ told_mark now (get_or ts k None) (get_or ms k false)
each_told now ts ms ns place k all within so_far others = by_order (nat_le (suc k) place) refl
  where
    by_order : (b : Bool) → nat_le (suc k) place ≡ b → get_or ns k false ≡ told_mark now (get_or ts k None) (get_or ms k false)
    by_order true e = so_far k (omega (arith, leb-true (suc k) place e)) within
    by_order false e =
        let past : place ≤ k = omega (arith, leb-false (suc k) place e) in
        others k past ∙ sym (ap (λ (t : Option ℕ). told_mark now t (get_or ms k false)) (get_or_past ts k None (omega (arith, all, past))))

pub returns-clause-marks : goal.returns-clause-marks
returns-clause-marks c = λ p fits.
    let now = row_answer (rows_of c.args.rows.now) c.args.ahead in
    let all : length c.args.told.now ≤ c.loop-place.place = omega (arith, c.loop-place-test.false) in
    marks_told now p c.args.told.now c.args.marks.now c.loop-place.marks
    (λ k h. each_told now c.args.told.now c.args.marks.now c.loop-place.marks c.loop-place.place k all
    (omega (arith, h, fits, c.loop-place.invariant.long)) c.loop-place.invariant.so_far c.loop-place.invariant.others)
