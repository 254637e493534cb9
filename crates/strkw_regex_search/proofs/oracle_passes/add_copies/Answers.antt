use Rattle.std.proofs.Common.{◌≡◌, ℕ, suc, ◌+◌, ◌++◌, List, Option, ap, ◌∙◌, arith}
use Rattle.std.proofs.lemmas.List.{append_assoc}
use Rattle.strkw_regex_core.specs.machine.Program.{concat_copies}
use Rattle.strkw_regex_search.proofs.Written.{one_more_copy}
use Rattle.strkw_regex_search.proofs.oracle_passes.add_copies.Goals as goal

pub loop-preserved : goal.loop-preserved
loop-preserved c =
    let old = c.args.told.now.items in
    let more = c.args.more.now in
    let next : suc c.loop.counter ≡ c.loop.counter + 1 = omega arith in
    c.in_ok-extend_from_slice.ensures.items ∙ ap (λ (xs : List (Option ℕ)). xs ++ more) c.loop.invariant
    ∙ append_assoc old (concat_copies c.loop.counter more) more ∙ ap (λ (xs : List (Option ℕ)). old ++ xs) (one_more_copy c.loop.counter more)
    ∙ ap (λ (k : ℕ). old ++ concat_copies k more) next

pub returns : goal.returns
returns c =
    let last : c.loop.counter ≡ c.args.times = omega (arith, c.loop-test.false, c.loop.auto.counter-end) in
    c.loop.invariant ∙ ap (λ (k : ℕ). c.args.told.now.items ++ concat_copies k c.args.more.now) last
