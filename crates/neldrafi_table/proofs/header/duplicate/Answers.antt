use Rattle.std.proofs.Common.{rules, ◌≡◌, ℕ, List, None, Some, arith}
use Rattle.std.specs.BTreeMap.{get_by}
use Rattle.std.specs.Cmp.Lexicographic.{slice_cmp}
use Rattle.std.specs.Ordering.{nat_cmp}
use Rattle.std.specs.Prelude.{Option}
use Rattle.std.proofs.lemmas.Map.Text.{btree_map_updates_str}
use Rattle.csv.specs.Records.{field_at, fields_of}
use Rattle.neldrafi_table.proofs.HeaderLemmas.{distinct, field_before, field_within, known_more, places_more, some_of}
use Rattle.neldrafi_table.proofs.header.duplicate.Goals as goal

pub loop-at-preserved : goal.loop-at-preserved
loop-at-preserved c =
    let names = fields_of c.args.names.now in
    let name = c.in-Some.name in
    let old : List ℕ → Option ℕ = λ q. get_by (λ k. slice_cmp nat_cmp q k.now) c.loop-at.places in
    let new : List ℕ → Option ℕ = λ q. get_by (λ k. slice_cmp nat_cmp q k.now) c.insert.new.self in
    let here : field_at names c.loop-at.at ≡ Some name.now = search rules in
    let none : old name.now ≡ None = search rules in
    let updates = btree_map_updates_str name.now c.loop-at.places c.insert.new.self _ c.in_ok-insert.ensures.updates in record {
      known = known_more names c.loop-at.at name.now old new here updates c.loop-at.invariant.known;
      have = places_more names c.loop-at.at name.now old new here updates none c.loop-at.invariant.have;
    }

pub returns-then-is_some-clause-some : goal.returns-then-is_some-clause-some
returns-then-is_some-clause-some c =
    let names = fields_of c.args.names.now in
    let name = c.in-Some.name.now in
    let here : field_at names c.loop-at.at ≡ Some name = search rules in
    let old : Option ℕ = get_by (λ k. slice_cmp nat_cmp name k.now) c.loop-at.places in
    let (first, is) = some_of c.in_ok-insert.field-0 (search rules) in
    let found : old ≡ Some first = search rules in
    let (less, there) = c.loop-at.invariant.known name first found in
    (first, c.loop-at.at, less, there, here)

pub returns-in_default-clause-none : goal.returns-in_default-clause-none
returns-in_default-clause-none c is =
    let names = fields_of c.args.names.now in
    let none : field_at names c.loop-at.at ≡ None = search rules in
    distinct names c.loop-at.at (λ q. get_by (λ k. slice_cmp nat_cmp q k.now) c.loop-at.places)
    (λ q i there. field_before names c.loop-at.at i q none there) c.loop-at.invariant.have

pub returns-clause-none : goal.returns-clause-none
returns-clause-none c is =
    let names = fields_of c.args.names.now in
    distinct names c.loop-at.at (λ q. get_by (λ k. slice_cmp nat_cmp q k.now) c.loop-at.places)
    (λ q i there. let less = field_within names i q there in omega arith) c.loop-at.invariant.have
