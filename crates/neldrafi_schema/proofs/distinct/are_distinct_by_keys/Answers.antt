use Rattle.std.proofs.Common.{◌≡◌, ◌∷◌, ◌∙◌, refl, sym, ap, ◌-◌, ◌+◌, length, true, false, drop, slice_index_or, arith}
use Rattle.std.proofs.lemmas.List.{get_or_default}
use Rattle.serde_json.specs.View.{items_view, view}
use Rattle.serde_json.specs.declared.value.Value.{Value}
use Rattle.neldrafi_schema.specs.Equality.{are_distinct, has_same}
use Rattle.neldrafi_schema.specs.machine.Keys.{key_of}
use Rattle.neldrafi_schema.proofs.AmongKeys.{HasKeys, apart_if_new, joined, next_tail, one_more, repeated, slice_behind}
use Rattle.neldrafi_schema.proofs.distinct.are_distinct_by_keys.Goals as goal
use Rattle.neldrafi_schema.proofs.distinct.are_distinct_by_keys.Goals.{else-not-is_new-via-then-not-is_new+else-has_same, else-not-is_new-via-else-not-is_new}

pub returns-then-has_same : goal.returns-then-has_same
returns-then-has_same c =
    let xs = c.args.items.now in
    let n = c.loop-done.done in
    let x = c.index-items-place-then-not-is_new.result in
    let tail : drop (length xs - (n + 1)) xs ≡ x ∷ drop (length xs - n) xs =
    next_tail xs n x c.loop-done-test.true ∙ ap (λ y. y ∷ drop (length xs - n) xs) (sym c.index-items-place-then-not-is_new.is) in
    let here : has_same (view x) (items_view (drop (length xs - n) xs)) ≡ true =
    ap (λ ys. has_same (view x) (items_view ys)) (sym (slice_behind xs n c.loop-done-test.true)) ∙ sym c.has_same.ensures ∙ c.if-has_same.true in
    let not_here : are_distinct (items_view (drop (length xs - (n + 1)) xs)) ≡ false = rw (tail, here) refl in
    sym (repeated xs (length xs - (n + 1)) not_here)

pub loop-done-preserved : goal.loop-done-preserved
loop-done-preserved c =
    let xs = c.args.items.now in
    let n = c.loop-done.done in
    let x = c.index-items-place.result in
    let tail : drop (length xs - (n + 1)) xs ≡ x ∷ drop (length xs - n) xs =
    next_tail xs n x c.loop-done-test.true ∙ ap (λ y. y ∷ drop (length xs - n) xs) (sym c.index-items-place.is) in
    let same_item : (y : Value) → x ≡ slice_index_or xs (length xs - 1 - n) y = λ y. c.index-items-place.is ∙ get_or_default xs (length xs - 1 - n) x y (omega (arith, c.loop-done-test.true)) in
    let apart : has_same (view x) (items_view (drop (length xs - n) xs)) ≡ false = elim c.else-not-is_new.branch [
      | else-not-is_new-via-then-not-is_new+else-has_same w ↦
          ap (λ ys. has_same (view x) (items_view ys)) (sym (slice_behind xs n c.loop-done-test.true))
          ∙ ap (λ y. has_same (view y) _) (same_item w.index-items-place-then-not-is_new.result ∙ sym w.index-items-place-then-not-is_new.is) ∙ sym w.has_same.ensures ∙ w.if-has_same.false
      | else-not-is_new-via-else-not-is_new w ↦ apart_if_new (view x) (items_view (drop (length xs - n) xs)) c.in_ok-key_of.field-0 c.loop-done.keys.keys
          c.in_ok-is_new.is_new c.in_ok-key_of.ensures c.loop-done.invariant.keys w.if-not-is_new.false c.in_ok-is_new.ensures.added
    ] in
    record {
      distinct = rw (tail) (one_more (view x) (items_view (drop (length xs - n) xs)) apart c.loop-done.invariant.distinct);
      keys = rw (tail, c.in_ok-is_new.ensures.keys) (joined (view x) (items_view (drop (length xs - n) xs)) c.in_ok-key_of.field-0 c.loop-done.keys.keys c.in_ok-key_of.ensures c.loop-done.invariant.keys);
    }
