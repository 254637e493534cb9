use Rattle.std.proofs.Common.{ℕ, ◌+◌, ◌-◌, take, drop, ap, ◌∙◌, arith, length-take, length-drop, length-append}
use Rattle.std.proofs.lemmas.List.{nil_from_length}
use Rattle.strkw_devices.proofs.MoveLemmas.{moved_front}
use Rattle.strkw_devices.proofs.memory_devices.MemorySourceSource.read.Goals as goal

pub returns-clause-moved : goal.returns-clause-moved
returns-clause-moved c = (
  moved_front c.args.self.now.bytes.items c.copy_from_slice.new.self (drop c.min-count.result c.args.buffer.now) c.args.self.now.passed c.min-count.result
      (c.copy_from_slice.ensures.after ∙ ap (λ x. take (c.args.self.now.passed + c.min-count.result - c.args.self.now.passed) (drop c.args.self.now.passed x))
      c.deref.ensures.value)
      (omega (arith, c.args.self.now.bytes.ok.0, c.args.self.now.passed_bound)),
  λ none room. nil_from_length (drop (c.args.self.now.passed + c.min-count.result) c.args.self.now.bytes.items)
      (omega (arith, length-append {A = ℕ}, length-take {A = ℕ}, length-drop {A = ℕ}, c.copy_from_slice.ensures.len, c.args.self.now.bytes.ok.0)),
)
