use Rattle.std.proofs.Common.{◌↔◌, length, drop}
use Rattle.strkw_c.specs.Texts.{numbers}
use Rattle.strkw_c.proofs.TextLemmas.{Ascend}
use Rattle.strkw_c.proofs.texts.are_ends.Given as goal

-- all ends ascend exactly where those that are left do
abbrev pub invariant-loop-place : goal.invariant-loop-place
invariant-loop-place l = Ascend (length l.bytes) l.start (numbers l.ends) ↔ Ascend (length l.bytes) l.from (drop l.place (numbers l.ends))
