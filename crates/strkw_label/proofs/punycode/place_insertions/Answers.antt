use Rattle.std.proofs.Common.{◌≡◌, ◌+◌, ◌≤◌, ◌∙◌, [], ◌∷◌, ◌++◌, length, get_or, insert, take, sym, ap, ap₂, arith, rules}
use Rattle.std.proofs.lemmas.List.{take_more, take_all}
use Rattle.strkw_label.specs.Placement.{place_all}
use Rattle.strkw_label.specs.Encoded.{pair_up}
use Rattle.strkw_label.proofs.Insertions.{place_all-nil, place_all-push}
use Rattle.strkw_label.proofs.PlaceAll.{length-place_all, InOrder-at}
use Rattle.strkw_label.proofs.PointsAndPlaces.{insertion, length-pair_up, get_or-pair_up}
use Rattle.strkw_label.proofs.punycode.place_insertions.Goals as goal

pub loop-byte-preserved : goal.loop-byte-preserved
loop-byte-preserved g c =
    c.push.ensures.items ∙ ap₂ (λ l x. l ++ x ∷ []) c.loop-byte.invariant c.from.ensures
    ∙ sym (take_more c.args.basic.now c.loop-byte.byte-index 0 c.loop-byte-test.true)

pub loop-at-init : goal.loop-at-init
loop-at-init g c =
    c.loop-byte.invariant ∙ take_all c.loop-byte.byte-index c.args.basic.now (omega arith) ∙ sym (place_all-nil c.args.basic.now)

pub insert-requires : goal.insert-requires
insert-requires g c =
    let xs = pair_up c.args.points.now c.args.places.now in
    let k = c.loop-at.at in
    let long : length xs ≡ length c.args.points.now = length-pair_up c.args.points.now c.args.places.now c.requires.paired in
    let read = get_or-pair_up c.args.points.now c.args.places.now k 0 0 c.requires.paired in
    let at = InOrder-at xs 128 0 (length c.args.basic.now) k (insertion 0 0) c.requires.ordered (omega arith) in
    let place : get_or c.args.places.now k 0 ≤ length c.args.basic.now + k = rw (← ap (λ x. x.place) read) at.0 in
    let text : length c.loop-at.text.items ≡ length c.args.basic.now + k = ap length c.loop-at.invariant
    ∙ length-place_all xs 128 0 c.args.basic.now k c.requires.ordered (omega arith) in
    (search rules, (omega arith, omega (arith, c.requires.room)))

pub loop-at-preserved : goal.loop-at-preserved
loop-at-preserved g c =
    let xs = pair_up c.args.points.now c.args.places.now in
    let k = c.loop-at.at in
    let p = c.index-points-at.result in
    let x = insertion p (get_or c.args.places.now k 0) in
    let long : length xs ≡ length c.args.points.now = length-pair_up c.args.points.now c.args.places.now c.requires.paired in
    let read : x ≡ get_or xs k (insertion p 0) = ap (λ a. insertion a (get_or c.args.places.now k 0)) c.index-points-at.is
    ∙ sym (get_or-pair_up c.args.points.now c.args.places.now k p 0 c.requires.paired) in
    c.insert.ensures.items ∙ ap (λ t. insert t x.place x.point) c.loop-at.invariant ∙ sym (place_all-push c.args.basic.now (take k xs) x)
    ∙ ap (λ y. place_all c.args.basic.now (take k xs ++ y ∷ [])) read ∙ ap (place_all c.args.basic.now) (sym (take_more xs k (insertion p 0) (omega arith)))

pub returns : goal.returns
returns g c =
    let xs = pair_up c.args.points.now c.args.places.now in
    let long : length xs ≡ length c.args.points.now = length-pair_up c.args.points.now c.args.places.now c.requires.paired in
    c.loop-at.invariant ∙ ap (place_all c.args.basic.now) (take_all c.loop-at.at xs (omega arith))
