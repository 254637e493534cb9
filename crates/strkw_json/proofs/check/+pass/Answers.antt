use Rattle.std.proofs.Common.{◌≡◌, ◌-◌, ◌<◌, length, Some, None, refl, ap, ◌∙◌, arith}
use Rattle.json.specs.Json.{after_end_array, read_key, items, value}
use Rattle.json.proofs.Grammar.{left_none, left_some, read_key-shorter}
use Rattle.serde_json.specs.Data.{item, no_members, put}
use Rattle.serde_json.specs.Read.{of_items, converted}
use Rattle.strkw_json.specs.Passing.{after_value, tokens_left, value_read}
use Rattle.strkw_json.proofs.Passing.{behind_map}
use Rattle.strkw_json.proofs.Reading.{items_end, next_item, no_next_item, members_end, next_member, no_next_member, no_key}
use Rattle.strkw_json.proofs.check.+pass.Goals as goal

pub passes_items-returns-then-not-passes_value-clause-passed :
    goal.passes_items-returns-then-not-passes_value-clause-passed
passes_items-returns-then-not-passes_value-clause-passed t c =
    let l = c.loop-tokens in
    let going : (after_end_array l.tokens ≡ None) × (c.take_end_array.new.self ≡ l.tokens) = grind arith in
    let refused : after_value c.args.depth l.tokens ≡ None = rw (← going.1) (grind arith) in
    l.invariant.same ∙ ap tokens_left (no_next_item (value c.args.depth) l.invariant.turns l.tokens going.0
    (left_none (value_read c.args.depth l.tokens) refused))

pub passes_items-loop-tokens-preserved : goal.passes_items-loop-tokens-preserved
passes_items-loop-tokens-preserved t c =
    let l = c.loop-tokens in
    let rest = c.passes_value.new.tokens in
    let going : (after_end_array l.tokens ≡ None) × (c.take_end_array.new.self ≡ l.tokens) = grind arith in
    let passed : after_value c.args.depth l.tokens ≡ Some rest = rw (← going.1) (grind arith) in
    let less : length rest < length l.tokens = rw (← going.1) (grind arith) in
    let (d, read) = left_some (value_read c.args.depth l.tokens) rest passed in
    let more = converted of_items (items (value c.args.depth) (l.invariant.turns - 1) rest) in
    record {
      turns = l.invariant.turns - 1;
      enough = omega (arith, less, l.invariant.enough);
      same = l.invariant.same ∙ ap tokens_left (next_item (value c.args.depth) l.invariant.turns l.tokens rest d
          (omega (arith, less, l.invariant.enough)) going.0
          read) ∙ behind_map (item d) more;
      fewer = omega (arith, less, l.invariant.fewer);
    }

pub passes_items-returns-clause-passed : goal.passes_items-returns-clause-passed
passes_items-returns-clause-passed t c =
    let l = c.loop-tokens in
    l.invariant.same ∙ ap tokens_left (items_end (value c.args.depth) l.invariant.turns l.tokens c.take_end_array.new.self l.invariant.enough (grind arith))

pub passes_members-loop-key-init : goal.passes_members-loop-key-init
passes_members-loop-key-init t c = record {
  turns = length c.args.tokens.now;
  enough = omega arith;
  found = no_members;
  same = refl;
  fewer = omega arith;
}

pub passes_members-returns-in_default-key-clause-passed :
    goal.passes_members-returns-in_default-key-clause-passed
passes_members-returns-in_default-key-clause-passed t c =
    let l = c.loop-key in
    l.invariant.same ∙ ap tokens_left (members_end (value c.args.depth) l.invariant.found l.invariant.turns l.tokens c.next_key.new.self l.invariant.enough
    (grind arith))

pub passes_members-returns-then-not-passes_value-clause-passed :
    goal.passes_members-returns-then-not-passes_value-clause-passed
passes_members-returns-then-not-passes_value-clause-passed t c =
    let l = c.loop-key in
    let named : read_key l.tokens ≡ Some (Some c.in-Some._name.now, c.next_key.new.self) = grind arith in
    let refused : after_value c.args.depth c.next_key.new.self ≡ None = grind arith in
    l.invariant.same ∙ ap tokens_left (no_next_member (value c.args.depth) l.invariant.found l.invariant.turns _ l.tokens _ named
    (left_none (value_read c.args.depth c.next_key.new.self) refused))

pub passes_members-loop-key-preserved : goal.passes_members-loop-key-preserved
passes_members-loop-key-preserved t c =
    let l = c.loop-key in
    let name = c.in-Some._name.now in
    let rest = c.passes_value.new.tokens in
    let named : read_key l.tokens ≡ Some (Some name, c.next_key.new.self) = grind arith in
    let passed : after_value c.args.depth c.next_key.new.self ≡ Some rest = grind arith in
    let key = read_key-shorter l.tokens _ _ named in
    let value_less : length rest < length c.next_key.new.self = grind arith in
    let (d, read) = left_some (value_read c.args.depth c.next_key.new.self) rest passed in
    record {
      turns = l.invariant.turns - 1;
      enough = omega (arith, key, value_less, l.invariant.enough);
      found = put name d l.invariant.found;
      same = l.invariant.same ∙ ap tokens_left (next_member (value c.args.depth) l.invariant.found l.invariant.turns name l.tokens _ rest d
          (omega (arith, key, l.invariant.enough)) named read);
      fewer = omega (arith, key, value_less, l.invariant.fewer);
    }

pub passes_members-returns-clause-passed : goal.passes_members-returns-clause-passed
passes_members-returns-clause-passed t c =
    let l = c.loop-key in
    l.invariant.same ∙ ap tokens_left (no_key (value c.args.depth) l.invariant.found l.invariant.turns l.tokens (grind arith))
