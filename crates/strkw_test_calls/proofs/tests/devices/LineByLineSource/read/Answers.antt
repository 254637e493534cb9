use Rattle.std.proofs.Common.{◌≡◌, ℕ, ◌+◌, ◌-◌, min, inl, inr, ◌<◌, [], List, length, take, drop, ap, ◌∙◌, arith, length-take, length-drop, length-append}
use Rattle.std.proofs.lemmas.List.{take_rest, nil_from_length}
use Rattle.std.proofs.lemmas.Bool.{cases_eq}
use Rattle.strkw_devices.proofs.MoveLemmas.{moved_front}
use Rattle.strkw_test_calls.proofs.tests.devices.LineByLineSource.read.Goals as goal

-- where nothing was copied though there is room, nothing is left
none_left : (bytes lent : List ℕ) (passed count room line : ℕ) → lent ≡ bytes → (0 < length (take (length lent - passed) (drop passed lent)) → 0 < line)
    → count ≡ min room line → 0 < room → count ≡ 0
    → drop (passed + count) bytes ≡ []
none_left bytes lent passed count room line same some least free none =
    let sizes : length (take (length lent - passed) (drop passed lent)) ≡ length bytes - passed =
    ap length (take_rest lent passed) ∙ length-drop passed lent ∙ ap (λ x. length x - passed) same in
    nil_from_length (drop (passed + count) bytes) (elim (cases_eq (length bytes - passed) 0) [
      | inl empty ↦ omega (arith, length-drop (passed + count) bytes)
      | inr more ↦ let line_some : 0 < line = some (omega arith) in absurd (omega arith)
    ])

pub returns-clause-moved : goal.returns-clause-moved
returns-clause-moved c = (
  moved_front c.args.self.now.bytes.items c.copy_from_slice.new.self (drop c.min-count.result c.args.buffer.now) c.args.self.now.passed c.min-count.result
      (c.copy_from_slice.ensures.after ∙ ap (λ x. take (c.args.self.now.passed + c.min-count.result - c.args.self.now.passed) (drop c.args.self.now.passed x))
      c.deref-2.ensures.value)
      (omega (arith, c.line_len-line.ensures.within, c.deref.ensures.value)),
  λ none room. none_left c.args.self.now.bytes.items c.deref.result.now c.args.self.now.passed c.min-count.result (length c.args.buffer.now)
      c.line_len-line.result c.deref.ensures.value c.line_len-line.ensures.some c.min-count.ensures
      (omega (arith, length-append {A = ℕ}, length-take {A = ℕ}, length-drop {A = ℕ}, c.copy_from_slice.ensures.len)) none,
)
