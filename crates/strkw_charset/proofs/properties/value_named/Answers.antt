use Rattle.std.proofs.Common.{ap, sym, bytes_eq, drop, length, map, arith, ◌∙◌}
use Rattle.std.specs.List.{zip}
use Rattle.std.proofs.lemmas.List.{length_push}
use Rattle.std.proofs.lemmas.Slice.Zip.{length-zip, zip_turn, zip_end}
use Rattle.ucd_sets.specs.Loose.{value_named}
use Rattle.strkw_charset.proofs.Named.{found, passed, missed}
use Rattle.strkw_charset.proofs.properties.value_named.Goals as goal

pub returns-then-eq : goal.returns-then-eq
returns-then-eq g c =
    let yielded = c.loop-spelling.yielded in
    let at = zip_turn c.args.spellings.now c.args.values.now yielded c.into_iter-spelling-iterator.result
    c.loop-spelling.spelling-iterator c.next.new.self c.next.result (search) (search)
    c.loop-spelling.yielded_by (c.in-Some.spelling, c.in-Some.value) c.in-Some.is c.next.ensures.steps in
    found c.args.spellings.now c.args.values.now c.args.name.now (length yielded) c.in-Some.spelling.now c.in-Some.value.now at c.eq.result
    (c.eq.ensures ∙ ap (λ l. bytes_eq l c.args.name.now) c.as_bytes.ensures.value) c.if-eq.true
    ∙ sym c.loop-spelling.invariant

pub loop-spelling-preserved : goal.loop-spelling-preserved
loop-spelling-preserved g c =
    let yielded = c.loop-spelling.yielded in
    let at = zip_turn c.args.spellings.now c.args.values.now yielded c.into_iter-spelling-iterator.result
    c.loop-spelling.spelling-iterator c.next.new.self c.next.result (search) (search)
    c.loop-spelling.yielded_by (c.in-Some.spelling, c.in-Some.value) c.in-Some.is c.next.ensures.steps in
    c.loop-spelling.invariant
    ∙ passed c.args.spellings.now c.args.values.now c.args.name.now (length yielded) c.in-Some.spelling.now c.in-Some.value.now at c.eq.result
    (c.eq.ensures ∙ ap (λ l. bytes_eq l c.args.name.now) c.as_bytes.ensures.value) c.if-eq.false
    ∙ ap (λ n. value_named (map (λ row. (row.0.now, row.1)) (drop n (zip c.args.spellings.now c.args.values.now))) c.args.name.now)
    (sym (length_push yielded (c.in-Some.spelling, c.in-Some.value)))

pub returns : goal.returns
returns g c =
    let yielded = c.loop-spelling.yielded in
    let end = zip_end c.args.spellings.now c.args.values.now yielded c.into_iter-spelling-iterator.result
    c.loop-spelling.spelling-iterator c.next.new.self c.next.result (search) (search)
    c.loop-spelling.yielded_by c.in-None.is c.next.ensures.steps in
    missed c.args.spellings.now c.args.values.now c.args.name.now (length yielded)
    (omega (arith, end, length-zip c.args.spellings.now c.args.values.now)) ∙ sym c.loop-spelling.invariant
