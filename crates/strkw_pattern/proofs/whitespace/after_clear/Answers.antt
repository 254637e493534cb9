use Rattle.std.proofs.Common.{◌≡◌, ◌≤◌, ◌<◌, ℕ, List, IsTrue, false, length, slice_index, take, subst, sym, ap, ◌∙◌}
use Rattle.std.specs.List.{list_any}
use Rattle.std.specs.Str.{chars}
use Rattle.strkw_pattern.specs.Whitespace.{is_ecma_whitespace, may_begin}
use Rattle.strkw_pattern.proofs.Clear.{behind_clear, clear_ends}
use Rattle.strkw_pattern.proofs.whitespace.after_clear.Goals as goal

pub range_from-requires : goal.range_from-requires
range_from-requires c =
    let n = c.clear_run-run.result in
    let within : n ≤ length c.args.text.now = subst (λ (bs : List ℕ). n ≤ length bs) c.as_bytes.ensures.value c.clear_run-run.ensures.within in
    let stops : n < length c.args.text.now → IsTrue (may_begin (slice_index c.args.text.now n)) =
    subst (λ (bs : List ℕ). n < length bs → IsTrue (may_begin (slice_index bs n))) c.as_bytes.ensures.value c.clear_run-run.ensures.stops in
    λ _. clear_ends c.args.text.now n within stops

pub returns-clause-same : goal.returns-clause-same
returns-clause-same c =
    let n = c.clear_run-run.result in
    let within : n ≤ length c.args.text.now = subst (λ (bs : List ℕ). n ≤ length bs) c.as_bytes.ensures.value c.clear_run-run.ensures.within in
    let stops : n < length c.args.text.now → IsTrue (may_begin (slice_index c.args.text.now n)) =
    subst (λ (bs : List ℕ). n < length bs → IsTrue (may_begin (slice_index bs n))) c.as_bytes.ensures.value c.clear_run-run.ensures.stops in
    let clear : list_any may_begin (take n c.args.text.now) ≡ false =
    subst (λ (bs : List ℕ). list_any may_begin (take n bs) ≡ false) c.as_bytes.ensures.value c.clear_run-run.ensures.clear in
    behind_clear c.args.text.now n c.utf8.text (clear_ends c.args.text.now n within stops) clear
    ∙ ap (λ t. list_any is_ecma_whitespace (chars t)) (sym c.range_from.ensures.value)
