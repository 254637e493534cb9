use Rattle.std.proofs.Common.{◌≡◌, ℕ, ◌+◌, ◌-◌, ◌++◌, List, Option, length, take, drop, arith, sym, ap, subst, ◌∙◌, length-take, length-drop}
use Rattle.std.proofs.lemmas.List.{take_rest}
use Rattle.std.specs.Io.KnownBytes.{Appends}
use Rattle.std.proofs.KnownBytes.{Appends-trans}
use lib.Seq.{take-add}
use Rattle.strkw_devices.proofs.devices.Sink.write_all.Goals as goal

-- the front, and then a front of the rest
took_more : (a b c : Option (List ℕ)) (bytes : List ℕ) (at count : ℕ) → Appends a b (take at bytes)
    → Appends b c (take count (take (length bytes - at) (drop at bytes))) → Appends a c (take (at + count) bytes)
took_more a b c bytes at count before more =
    let joined : take at bytes ++ take count (take (length bytes - at) (drop at bytes)) ≡ take (at + count) bytes =
    ap (λ rest. take at bytes ++ take count rest) (take_rest bytes at) ∙ sym (take-add at count bytes) in
    subst (Appends a c) joined (Appends-trans a b c _ _ before more)

pub loop-at-preserved : goal.loop-at-preserved
loop-at-preserved g c = record {
  within = omega (arith, c.in_ok-at.ensures.count, length-take {A = ℕ}, length-drop {A = ℕ});
  works = c.in_ok-at.ensures.ok ∙ c.loop-at.invariant.works;
  took = took_more _ _ _ c.args.bytes.now c.loop-at.at c.in_ok-at.field-0 c.loop-at.invariant.took c.in_ok-at.ensures.moved;
}
