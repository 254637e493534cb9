use Rattle.std.proofs.Common.{◌≡◌, ◌-◌, ◌∙◌, [], ◌∷◌, None, Some, length, refl, ap, arith}
use Rattle.json.specs.Json.{read_key, value}
use Rattle.json.specs.Reads.{token_of}
use Rattle.json.proofs.Grammar.{read_key-shorter}
use Rattle.serde_json.specs.Data.{no_members, object, put}
use Rattle.serde_json.specs.Read.{of_json, converted}
use Rattle.serde_json.specs.View.{view}
use Rattle.strkw_keywords.specs.Keywords.{keyword_name}
use Rattle.strkw_json.specs.Passing.{members_read, value_read}
use Rattle.strkw_json.proofs.FirstTokens.{no_object_passed}
use Rattle.strkw_json.proofs.Reading.{by_first_token, members_end, next_member, no_next_member, no_key, object_read}
use Rattle.strkw_object.proofs.Owned.{owned_beside, owned_put}
use Rattle.strkw_cache.specs.Depths.{member_depth, value_depth}
use Rattle.strkw_cache.proofs.Reading.{no_members_of_object}
use Rattle.strkw_cache.proofs.values.read_values.Goals as goal

-- ---- the first token

pub returns-in_err-token-clause-none : goal.returns-in_err-token-clause-none
returns-in_err-token-clause-none c refused =
    let empty : c.args.tokens.now ≡ [] = grind arith in
    ap (λ ts. converted of_json (value member_depth ts)) empty ∙ by_first_token member_depth []

pub returns-in_default-clause-ok : goal.returns-in_default-clause-ok
returns-in_default-clause-ok c =
    let first : c.args.tokens.now ≡ token_of c.in_ok-token.token ∷ c.next.new.self = grind arith in
    let (d, read, none) = no_object_passed member_depth c.in_ok-token.token c.next.new.self
    c.passes_json.new.tokens (λ is some. c.in_default.not-BeginObject is)
    (grind arith) in
    (d, ap (value_read member_depth) first ∙ read, none)

-- ---- the members of an object

pub members-init : goal.members-init
members-init c = record {
  turns = length c.next.new.self;
  enough = omega arith;
  found = no_members;
  same = refl;
  are = record { same = c.clear.ensures };
  no_longer = omega arith;
}

pub returns-in_err-name-clause-none : goal.returns-in_err-name-clause-none
returns-in_err-name-clause-none c refused =
    let l = c.members in
    let first : c.args.tokens.now ≡ token_of c.in_ok-token.token ∷ c.next.new.self = grind arith in
    no_members_of_object c.args.tokens.now c.next.new.self (first ∙ ap (λ t. token_of t ∷ c.next.new.self) c.in-BeginObject.is)
    (l.invariant.same ∙ no_key (value value_depth) l.invariant.found l.invariant.turns l.tokens c.in_err-name.ensures.value)

pub returns-in_err-build_json-in-Some-by_name-clause-none : goal.returns-in_err-build_json-in-Some-by_name-clause-none
returns-in_err-build_json-in-Some-by_name-clause-none c refused =
    let l = c.members in
    let named : read_key l.tokens ≡ Some (Some c.in-Some.name.now, c.next_key.new.self) = grind arith in
    let first : c.args.tokens.now ≡ token_of c.in_ok-token.token ∷ c.next.new.self = grind arith in
    no_members_of_object c.args.tokens.now c.next.new.self (first ∙ ap (λ t. token_of t ∷ c.next.new.self) c.in-BeginObject.is)
    (l.invariant.same
    ∙ no_next_member (value value_depth) l.invariant.found l.invariant.turns _ l.tokens _ named (c.build_json.ensures.none (grind arith)))

pub returns-in_err-json_text-in-None-clause-none : goal.returns-in_err-json_text-in-None-clause-none
returns-in_err-json_text-in-None-clause-none c refused =
    let l = c.members in
    let named : read_key l.tokens ≡ Some (Some c.in-Some.name.now, c.next_key.new.self) = grind arith in
    let first : c.args.tokens.now ≡ token_of c.in_ok-token.token ∷ c.next.new.self = grind arith in
    no_members_of_object c.args.tokens.now c.next.new.self (first ∙ ap (λ t. token_of t ∷ c.next.new.self) c.in-BeginObject.is)
    (l.invariant.same
    ∙ no_next_member (value value_depth) l.invariant.found l.invariant.turns _ l.tokens _ named (c.json_text.ensures.none (grind arith)))

-- a value that is put in
pub members-preserved-in-Some-by_name : goal.members-preserved-in-Some-by_name
members-preserved-in-Some-by_name c =
    let l = c.members in
    let name = c.in-Some.name.now in
    let d = view c.in_ok-build_json-in-Some-by_name.field-0 in
    let named : read_key l.tokens ≡ Some (Some name, c.next_key.new.self) = grind arith in
    let key = read_key-shorter l.tokens _ _ named in
    let built = c.in_ok-build_json-in-Some-by_name.ensures in
    let own : name ≡ keyword_name c.in-Some-by_name.keyword = (c.by_name.ensures c.in-Some-by_name.keyword).0 c.in-Some-by_name.is in
    record {
      turns = l.invariant.turns - 1;
      enough = omega (arith, key, built.shorter, l.invariant.enough);
      found = put name d l.invariant.found;
      same = l.invariant.same ∙ next_member (value value_depth) l.invariant.found l.invariant.turns name l.tokens _ _ d
          (omega (arith, key, l.invariant.enough)) named built.ok;
      are = rw own (owned_put l.invariant.found c.in-Some-by_name.keyword d l.values c.set.new.self c.set.ensures.put c.set.ensures.others l.invariant.are);
      no_longer = omega (arith, key, built.shorter, l.invariant.no_longer);
    }

-- a member that is passed over
pub members-preserved : goal.members-preserved
members-preserved c =
    let l = c.members in
    let name = c.in-Some.name.now in
    let named : read_key l.tokens ≡ Some (Some name, c.next_key.new.self) = grind arith in
    let key = read_key-shorter l.tokens _ _ named in
    let passed = c.in_ok-json_text-in-None.ensures in
    let (d, read, text) = passed.ok in
    record {
      turns = l.invariant.turns - 1;
      enough = omega (arith, key, passed.shorter, l.invariant.enough);
      found = put name d l.invariant.found;
      same = l.invariant.same ∙ next_member (value value_depth) l.invariant.found l.invariant.turns name l.tokens _ _ d
          (omega (arith, key, l.invariant.enough)) named read;
      are = owned_beside l.invariant.found name d l.values
          (λ k own. let some : None ≡ Some k = rw c.in-None.is at (c.by_name.ensures k).1 own in absurd (cc)) l.invariant.are;
      no_longer = omega (arith, key, passed.shorter, l.invariant.no_longer);
    }

pub returns-clause-ok : goal.returns-clause-ok
returns-clause-ok c =
    let l = c.members in
    let first : c.args.tokens.now ≡ token_of c.in_ok-token.token ∷ c.next.new.self = grind arith in
    let read : members_read value_depth c.next.new.self ≡ Some (l.invariant.found, c.next_key.new.self) =
    l.invariant.same ∙ members_end (value value_depth) l.invariant.found l.invariant.turns l.tokens c.next_key.new.self l.invariant.enough (grind arith) in (
      object l.invariant.found,
      ap (value_read member_depth) first
          ∙ object_read member_depth c.next.new.self (token_of c.in_ok-token.token) (ap token_of c.in-BeginObject.is) (omega arith) l.invariant.found
          c.next_key.new.self read,
      (l.invariant.found, refl, l.invariant.are),
    )
