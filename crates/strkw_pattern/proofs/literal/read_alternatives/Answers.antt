use Rattle.std.proofs.Common.{◌≡◌, ℕ, ◌<◌, length, sym, ap, ◌∙◌, arith, [], ◌∷◌, ◌++◌, List, true, map, drop, slice_index, inl, inr}
use Rattle.std.proofs.lemmas.List.{map-append}
use Rattle.std.proofs.lemmas.Slice.Eq.{bytes_eq-Decides}
use Rattle.std.specs.Str.{bytes_eq}
use Rattle.std.specs.String.{string_bytes}
use Rattle.strkw_pattern.proofs.Runs.{some_left, none_left}
use Rattle.strkw_pattern.proofs.Alternatives.{continues_init, continues_step, no_group, group_done}
use Rattle.strkw_pattern.proofs.literal.read_alternatives.Goals as goal

pub loop-alternatives-init : goal.loop-alternatives-init
loop-alternatives-init c = rw c.new-alternatives.ensures.items (continues_init c.args.pattern.now)

pub returns-then-is_empty : goal.returns-then-is_empty
returns-then-is_empty c =
    let none = none_left _ (sym c.is_empty.ensures ∙ c.if-is_empty.true) in
    let same = ap length c.as_bytes.ensures.value in
    no_group c.args.pattern.now c.loop-alternatives.rest.now (string_bytes c.in_ok-text.text) c.in_ok-text.after.now
    (map string_bytes c.loop-alternatives.alternatives.items) c.loop-alternatives.invariant c.in_ok-text.ensures
    (λ first. let some = first.some in omega (arith, none, same, some))

pub returns-in_default : goal.returns-in_default
returns-in_default c =
    no_group c.args.pattern.now c.loop-alternatives.rest.now (string_bytes c.in_ok-text.text) c.in_ok-text.after.now
    (map string_bytes c.loop-alternatives.alternatives.items) c.loop-alternatives.invariant c.in_ok-text.ensures
    (λ first. elim first.next [
      | inl ended ↦ (let bad = sym c.in_default.ensures ∙ ended in cc bad)
      | inr more ↦ (let bad = sym c.in_default.ensures ∙ more.2 in cc bad)
    ])

pub returns-then-eq : goal.returns-then-eq
returns-then-eq c =
    let pushed : map string_bytes c.push.new.self.items ≡ map string_bytes c.loop-alternatives.alternatives.items ++ string_bytes c.in_ok-text.text ∷ [] =
    ap (map string_bytes) c.in_ok-push.ensures.items ∙ map-append string_bytes c.loop-alternatives.alternatives.items (c.in_ok-text.text ∷ []) in
    let some : 0 < length (string_bytes c.in_ok-text.text) =
    (let left = some_left _ (sym c.is_empty.ensures ∙ c.if-is_empty.false) in let same = ap length c.as_bytes.ensures.value in omega (arith, left, same)) in
    let is = (bytes_eq-Decides c.in-Some.next.now c.as_slice.result.now).0 (sym c.eq.ensures ∙ c.if-eq.true) in
    let ended : c.in_ok-text.after.now ≡ 41 ∷ 36 ∷ [] = cc (c.in-Some.ensures, c.if-separator-eq41.true, is, c.as_slice.ensures) in
    rw pushed (group_done c.args.pattern.now c.loop-alternatives.rest.now (string_bytes c.in_ok-text.text) c.in_ok-text.after.now
    (map string_bytes c.loop-alternatives.alternatives.items) c.loop-alternatives.invariant c.in_ok-text.ensures some ended)

pub returns-else-eq : goal.returns-else-eq
returns-else-eq c =
    no_group c.args.pattern.now c.loop-alternatives.rest.now (string_bytes c.in_ok-text.text) c.in_ok-text.after.now
    (map string_bytes c.loop-alternatives.alternatives.items) c.loop-alternatives.invariant c.in_ok-text.ensures
    (λ first. elim first.next [
      | inl ended ↦
          let next : c.in-Some.next.now ≡ 36 ∷ [] = ap (drop 1) (sym c.in-Some.ensures ∙ ended) in
          let yes : bytes_eq c.in-Some.next.now c.as_slice.result.now ≡ true = (bytes_eq-Decides _ _).1 (next ∙ sym c.as_slice.ensures) in
          let no = sym c.eq.ensures ∙ c.if-eq.false in
          cc (yes, no)
      | inr more ↦
          let heads = ap (λ (r : List ℕ). slice_index r 0) (sym c.in-Some.ensures ∙ more.2) in
          omega (arith, heads, c.if-separator-eq41.true)
    ])

pub returns-then-separator-ne124 : goal.returns-then-separator-ne124
returns-then-separator-ne124 c =
    no_group c.args.pattern.now c.loop-alternatives.rest.now (string_bytes c.in_ok-text.text) c.in_ok-text.after.now
    (map string_bytes c.loop-alternatives.alternatives.items) c.loop-alternatives.invariant c.in_ok-text.ensures
    (λ first. elim first.next [
      | inl ended ↦
          let heads = ap (λ (r : List ℕ). slice_index r 0) (sym c.in-Some.ensures ∙ ended) in
          absurd (c.if-separator-eq41.false heads)
      | inr more ↦
          let heads = ap (λ (r : List ℕ). slice_index r 0) (sym c.in-Some.ensures ∙ more.2) in
          absurd (c.if-separator-ne124.true heads)
    ])

pub loop-alternatives-preserved : goal.loop-alternatives-preserved
loop-alternatives-preserved c =
    let pushed : map string_bytes c.push.new.self.items ≡ map string_bytes c.loop-alternatives.alternatives.items ++ string_bytes c.in_ok-text.text ∷ [] =
    ap (map string_bytes) c.in_ok-push.ensures.items ∙ map-append string_bytes c.loop-alternatives.alternatives.items (c.in_ok-text.text ∷ []) in
    let some : 0 < length (string_bytes c.in_ok-text.text) =
    (let left = some_left _ (sym c.is_empty.ensures ∙ c.if-is_empty.false) in let same = ap length c.as_bytes.ensures.value in omega (arith, left, same)) in
    let follows : c.in_ok-text.after.now ≡ 124 ∷ c.in-Some.next.now = cc (c.in-Some.ensures, c.if-separator-ne124.false) in
    rw pushed (continues_step c.args.pattern.now c.loop-alternatives.rest.now (string_bytes c.in_ok-text.text) c.in_ok-text.after.now c.in-Some.next.now
    (map string_bytes c.loop-alternatives.alternatives.items) c.loop-alternatives.invariant c.in_ok-text.ensures some follows)
