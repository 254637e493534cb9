use Rattle.std.proofs.Common.{rules, ◌∙◌, sym}
use Rattle.std.proofs.lemmas.Fn.{always_returns_same}
use Rattle.std.specs.Cmp.Lexicographic.{slice_cmp}
use Rattle.std.specs.Ordering.{nat_cmp}
use Rattle.neldrafi_schema.specs.machine.Ordered.{name_in}
use Rattle.neldrafi_schema.proofs.Searched.{not_there, there}
use Rattle.neldrafi_schema.proofs.rules.has_branch_in_order.Goals as goal

pub returns-then-is_named : goal.returns-then-is_named
returns-then-is_named c = c.if-is_named.true ∙ sym (there c.args.name.now c.args.branches.now c.in-Ok.place c.index-branches-place.result
    c.in-Ok.ensures.bound (sym c.is_named.ensures ∙ c.if-is_named.true))

pub returns-in-Err : goal.returns-in-Err
returns-in-Err c = sym (not_there c.args.name.now c.args.branches.now c.in-Err.field-0 c.requires
    (c.in-Err.ensures.position (λ b. slice_cmp nat_cmp (name_in b.key) c.args.name.now) (always_returns_same _ _ _ (λ a r f' k. (search rules, search rules)))))
