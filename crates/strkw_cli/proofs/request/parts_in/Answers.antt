use Rattle.std.proofs.Common.{◌≡◌, ◌-◌, ◌∙◌, None, Some, refl, arith}
use Rattle.json.specs.Json.{read_key, value}
use Rattle.json.proofs.Grammar.{read_key-shorter}
use Rattle.serde_json.specs.Data.{put}
use Rattle.strkw_cache.specs.Depths.{member_depth}
use Rattle.strkw_json.proofs.Reading.{members_end, next_member, no_next_member, no_key}
use Rattle.strkw_cli.proofs.Parts.{parts_taken}
use Rattle.strkw_cli.proofs.request.parts_in.Goals as goal

pub members-init : goal.members-init
members-init c = λ before most fits are. record {
  turns = most;
  enough = fits;
  found = before;
  same = refl;
  are = are;
}

pub returns-in_err-name-clause-none : goal.returns-in_err-name-clause-none
returns-in_err-name-clause-none c = λ before most fits are refused.
    let l = c.members in
    let inv = l.invariant before most fits are in
    inv.same ∙ no_key (value member_depth) inv.found inv.turns l.tokens c.in_err-name.ensures.value

pub returns-in_err-take_member-clause-none : goal.returns-in_err-take_member-clause-none
returns-in_err-take_member-clause-none c = λ before most fits are refused.
    let l = c.members in
    let named : read_key l.tokens ≡ Some (Some c.in-Some.name.now, c.next_key.new.self) = grind arith in
    let none = c.take_member.ensures.none (grind arith) in
    let inv = l.invariant before most fits are in
    inv.same ∙ no_next_member (value member_depth) inv.found inv.turns _ l.tokens _ named none

pub members-preserved : goal.members-preserved
members-preserved c = λ before most fits are.
    let l = c.members in
    let name = c.in-Some.name.now in
    let named : read_key l.tokens ≡ Some (Some name, c.next_key.new.self) = grind arith in
    let key = read_key-shorter l.tokens _ _ named in
    let taken = c.in_ok-take_member.ensures in
    let (d, read, takes) = taken.ok in
    let inv = l.invariant before most fits are in
    record {
      turns = inv.turns - 1;
      enough = omega (arith, key, taken.shorter, inv.enough);
      found = put name d inv.found;
      same = inv.same ∙ next_member (value member_depth) inv.found inv.turns name l.tokens _ _ d (omega (arith, key, inv.enough)) named read;
      are = parts_taken _ name d _ _ l.parts c.take_member.new.self inv.found takes inv.are;
    }

pub returns-clause-ok : goal.returns-clause-ok
returns-clause-ok c = λ before most fits are.
    let l = c.members in
    let over : read_key l.tokens ≡ Some (None, c.next_key.new.self) = grind arith in
    let inv = l.invariant before most fits are in (
      inv.found,
      inv.same ∙ members_end (value member_depth) inv.found inv.turns l.tokens c.next_key.new.self inv.enough over,
      inv.are,
    )
