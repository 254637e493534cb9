-- Counts, added up.
use Rattle.std.proofs.Common.{◌≡◌, ◌+◌, arith}
use Rattle.neldrafi_check.specs.Counting.{both, of_nothing}
use Rattle.neldrafi_check.specs.declared.counts.Counts.{Counts}

pub nothing_before : (a : Counts) → both of_nothing a ≡ a
nothing_before a =
    let values : 0 + a.values ≡ a.values = omega arith in
    let errors : 0 + a.errors ≡ a.errors = omega arith in
    λ k. record { values = values k; errors = errors k }

pub nothing_behind : (a : Counts) → both a of_nothing ≡ a
nothing_behind a =
    let values : a.values + 0 ≡ a.values = omega arith in
    let errors : a.errors + 0 ≡ a.errors = omega arith in
    λ k. record { values = values k; errors = errors k }

pub both_assoc : (a b c : Counts) → both a (both b c) ≡ both (both a b) c
both_assoc a b c =
    let values : a.values + (b.values + c.values) ≡ (a.values + b.values) + c.values = omega arith in
    let errors : a.errors + (b.errors + c.errors) ≡ (a.errors + b.errors) + c.errors = omega arith in
    λ k. record { values = values k; errors = errors k }
