use Rattle.std.proofs.Common.{rules, ◌≡◌, ◌≤◌, ◌<◌, ◌+◌, ◌++◌, ◌∷◌, ℕ, [], List, length, get_or, take, drop, refl, sym, ap, ◌∙◌, drop_of_length-le, arith}
use Rattle.std.proofs.lemmas.List.{append-nil, append_assoc, length-take-le, take_more, drop-append-le, get_or_append_left}
use Rattle.strkw_regex_search.specs.declared.code.Instruction.{Instruction}
use Rattle.strkw_regex_search.proofs.code.Code.copy_once.Goals as goal

pub loop-place-init : goal.loop-place-init
loop-place-init c =
    let items = c.args.self.now.instructions.items in
    let few = length-take-le c.args.from items (omega (arith, c.requires.order, c.requires.within)) in
    let none : drop c.args.from (take c.args.from items) ≡ [] = drop_of_length-le (take c.args.from items) {i = c.args.from} (omega (arith, few)) in
    record {
      instructions = sym (ap (λ (ys : List Instruction). items ++ ys) none ∙ append-nil items);
      classes = refl;
      within = omega (arith, c.requires.order, c.requires.within);
    }

pub returns-clause-instructions : goal.returns-clause-instructions
returns-clause-instructions c =
    let last : c.loop-place.place ≡ c.args.end = omega (arith, c.loop-place-test.false, c.loop-place.auto.place-end c.requires.order) in
    c.loop-place.invariant.instructions
    ∙ ap (λ k. c.args.self.now.instructions.items ++ drop c.args.from (take k c.args.self.now.instructions.items)) last

-- what is copied up to a place, and what stands there behind it, is what is copied up to the next place
longer_copy : (items : List Instruction) (from place : ℕ) (x : Instruction) → from ≤ place → place < length items
    → x ≡ get_or (items ++ drop from (take place items)) place x
    → items ++ drop from (take place items) ++ x ∷ [] ≡ items ++ drop from (take (place + 1) items)
longer_copy items from place x order within is =
    let read : x ≡ get_or items place x = is ∙ get_or_append_left items (drop from (take place items)) x place within in
    let more : take (place + 1) items ≡ take place items ++ x ∷ [] = take_more items place x within ∙ ap (λ y. take place items ++ y ∷ []) (sym read) in
    let long : length (take place items) ≡ place = length-take-le place items (omega (arith, within)) in
    let copied : drop from (take (place + 1) items) ≡ drop from (take place items) ++ x ∷ [] =
    ap (λ l. drop from l) more ∙ drop-append-le from (take place items) (x ∷ []) (omega (arith, order, long)) in
    append_assoc items (drop from (take place items)) (x ∷ []) ∙ ap (λ l. items ++ l) (sym copied)

pub loop-place-preserved : goal.loop-place-preserved
loop-place-preserved c =
    let items = c.args.self.now.instructions.items in
    let before = c.loop-place.invariant in
    let next = c.index-instruction.result.now in
    let at : next ≡ get_or c.loop-place.self.instructions.items c.loop-place.place next = search rules in
    let within : c.loop-place.place < length items = omega (arith, c.loop-place-test.true, c.requires.within) in
    record {
      instructions = c.in_ok-push.ensures.items ∙ ap (λ (l : List Instruction). l ++ next ∷ []) before.instructions
          ∙ longer_copy items c.args.from c.loop-place.place next (omega (arith, c.loop-place.auto.place)) within
          (at ∙ ap (λ (l : List Instruction). get_or l c.loop-place.place next) before.instructions);
      classes = before.classes;
      within = omega (arith, within);
    }
