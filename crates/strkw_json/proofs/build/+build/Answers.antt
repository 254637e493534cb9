use Rattle.std.proofs.Common.{◌≡◌, ◌-◌, ◌<◌, ◌∷◌, length, Some, None, string_bytes, sym, ap, ◌∙◌, arith, rules}
use Rattle.json.specs.Json.{after_end_array, read_key, value, items, members, parse_map}
use Rattle.json.specs.Reads.{token_of}
use Rattle.json.proofs.Grammar.{read_key-shorter}
use Rattle.serde_json.specs.Data.{put}
use Rattle.serde_json.specs.Read.{of_json, of_items, of_members, converted}
use Rattle.serde_json.specs.View.{view, members_view}
use Rattle.serde_json.proofs.Views.{view-Array, view-Object, members_view-insert_entry}
use Rattle.strkw_json.proofs.Reading.{array_read, object_read, items_end, next_item, no_next_item, members_end, next_member, no_next_member, no_key}
use Rattle.strkw_json.proofs.Built.{behind_built, all_built, none_built, one_more_built}
use Rattle.strkw_json.specs.Passing.{items_read}
use Rattle.strkw_json.proofs.build.+build.Goals as goal

pub build_json-returns-in_ok-build_items-in-BeginArray-clause-ok :
    goal.build_json-returns-in_ok-build_items-in-BeginArray-clause-ok
build_json-returns-in_ok-build_items-in-BeginArray-clause-ok t c =
    let rest = c.next.new.self in
    let first : c.args.tokens.now ≡ token_of c.in_ok-token.token ∷ rest = grind arith in
    let built = c.in_ok-build_items-in-BeginArray in
    ap (λ ts. converted of_json (value c.args.depth ts)) first
    ∙ array_read c.args.depth rest (token_of c.in_ok-token.token) (ap token_of c.in-BeginArray.is) (omega (arith, c.if-depth-gt0.true)) _ _ built.ensures.ok
    ∙ ap (λ d. Some (d, c.build_items.new.tokens)) (sym (view-Array built.field-0))

pub build_json-returns-in_ok-build_members-in-BeginObject-clause-ok :
    goal.build_json-returns-in_ok-build_members-in-BeginObject-clause-ok
build_json-returns-in_ok-build_members-in-BeginObject-clause-ok t c =
    let rest = c.next.new.self in
    let first : c.args.tokens.now ≡ token_of c.in_ok-token.token ∷ rest = grind arith in
    let built = c.in_ok-build_members-in-BeginObject in
    ap (λ ts. converted of_json (value c.args.depth ts)) first
    ∙ object_read c.args.depth rest (token_of c.in_ok-token.token) (ap token_of c.in-BeginObject.is) (omega (arith, c.if-depth-gt0-2.true)) _ _
    built.ensures.ok
    ∙ ap (λ d. Some (d, c.build_members.new.tokens)) (sym (view-Object built.field-0))

pub build_items-items-init : goal.build_items-items-init
build_items-items-init t c =
    let all = items_read c.args.depth c.args.tokens.now in
    record {
      turns = length c.args.tokens.now;
      enough = omega arith;
      same = none_built all ∙ ap (λ vs. parse_map (behind_built vs) all) (sym c.new-built.ensures.items);
      fewer = omega arith;
    }

pub build_items-returns-in_err-item-clause-none : goal.build_items-returns-in_err-item-clause-none
build_items-returns-in_err-item-clause-none t c refused =
    let l = c.items in
    let going : (after_end_array l.tokens ≡ None) × (c.take_end_array.new.self ≡ l.tokens) = grind arith in
    l.invariant.same ∙ ap (parse_map (behind_built l.built.items))
    (no_next_item (value c.args.depth) l.invariant.turns l.tokens going.0 (rw (← going.1) (c.build_json.ensures.none (grind arith))))

pub build_items-items-preserved : goal.build_items-items-preserved
build_items-items-preserved t c =
    let one = value c.args.depth in
    let l = c.items in
    let going : (after_end_array l.tokens ≡ None) × (c.take_end_array.new.self ≡ l.tokens) = grind arith in
    let read = c.in_ok-item.ensures in
    let rest = c.build_json.new.tokens in
    let less : length rest < length l.tokens = rw (← going.1) read.shorter in
    let more = converted of_items (items one (l.invariant.turns - 1) rest) in
    let turn = next_item one l.invariant.turns l.tokens rest (view c.in_ok-item.item) (omega (arith, less, l.invariant.enough)) going.0 (rw (← going.1) read.ok)
    in
    record {
      turns = l.invariant.turns - 1;
      enough = omega (arith, less, l.invariant.enough);
      same = l.invariant.same ∙ ap (parse_map (behind_built l.built.items)) turn ∙ one_more_built l.built.items c.in_ok-item.item _
          ∙ ap (λ vs. parse_map (behind_built vs) more) (sym c.in_ok-push.ensures.items);
      fewer = omega (arith, less, l.invariant.fewer);
    }

pub build_items-returns-clause-ok : goal.build_items-returns-clause-ok
build_items-returns-clause-ok t c =
    let l = c.items in
    let rest = c.take_end_array.new.self in
    l.invariant.same ∙ ap (parse_map (behind_built l.built.items))
    (items_end (value c.args.depth) l.invariant.turns l.tokens rest l.invariant.enough (grind arith))
    ∙ ap (λ ds. Some (ds, rest)) (all_built l.built.items)

pub build_members-members-init : goal.build_members-members-init
build_members-members-init t c =
    let all = members (value c.args.depth) (length c.args.tokens.now) c.args.tokens.now in
    record {
      turns = length c.args.tokens.now;
      enough = omega arith;
      same = ap (λ es. converted (λ ms. of_members ms (members_view es)) all) (sym c.new-built.ensures.empty);
      fewer = omega arith;
    }

pub build_members-returns-in_err-name-clause-none : goal.build_members-returns-in_err-name-clause-none
build_members-returns-in_err-name-clause-none t c refused =
    let l = c.members in
    l.invariant.same ∙ no_key (value c.args.depth) (members_view l.built.entries) l.invariant.turns l.tokens c.in_err-name.ensures.value

pub build_members-returns-in_err-member-clause-none : goal.build_members-returns-in_err-member-clause-none
build_members-returns-in_err-member-clause-none t c refused =
    let l = c.members in
    let named : read_key l.tokens ≡ Some (Some c.in-Some.name.now, c.next_key.new.self) = grind arith in
    l.invariant.same ∙ no_next_member (value c.args.depth) (members_view l.built.entries) l.invariant.turns _ l.tokens _ named
    (c.build_json.ensures.none (grind arith))

pub build_members-members-preserved : goal.build_members-members-preserved
build_members-members-preserved t c =
    let l = c.members in
    let before = members_view l.built.entries in
    let name = c.in-Some.name.now in
    let built = c.in_ok-member.member in
    let rest = c.build_json.new.tokens in
    let named : read_key l.tokens ≡ Some (Some name, c.next_key.new.self) = grind arith in
    let key = read_key-shorter l.tokens _ _ named in
    let more = members (value c.args.depth) (l.invariant.turns - 1) rest in
    let less = c.in_ok-member.ensures.shorter in
    let copied : string_bytes c.in_ok-key.key ≡ name = search rules in
    let put_in : members_view c.insert.new.self.entries ≡ put name (view built) before =
    ap members_view c.in_ok-insert.ensures.entries ∙ members_view-insert_entry l.built.entries c.in_ok-key.key built
    ∙ ap (λ k. put k (view built) before) copied in
    record {
      turns = l.invariant.turns - 1;
      enough = omega (arith, key, less, l.invariant.enough);
      same = l.invariant.same
          ∙ next_member (value c.args.depth) before l.invariant.turns name l.tokens _ rest (view built) (omega (arith, key, l.invariant.enough)) named
          c.in_ok-member.ensures.ok
          ∙ ap (λ found. converted (λ ms. of_members ms found) more) (sym put_in);
      fewer = omega (arith, key, less, l.invariant.fewer);
    }

pub build_members-returns-clause-ok : goal.build_members-returns-clause-ok
build_members-returns-clause-ok t c =
    let l = c.members in
    l.invariant.same ∙ members_end (value c.args.depth) (members_view l.built.entries) l.invariant.turns l.tokens c.next_key.new.self l.invariant.enough
    (grind arith)
