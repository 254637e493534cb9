-- What the members of a request come to, one member after another.
use Rattle.std.proofs.Common.{◌≡◌, ℕ, List, Bool, true, false, ◌&&◌, bytes_eq, codes, Option, Some, option_map, option_and_then, Ordering, Less, Equal, Greater}
use Rattle.std.proofs.Common.{is_eq, nat_cmp, refl, sym, ap, ◌∙◌, subst, true≢false, if◌then◌else◌}
use Rattle.std.specs.Bool.{MatchBool}
use Rattle.std.specs.Prelude.{unwrap_or}
use Rattle.std.proofs.lemmas.Map.Text.{is_eq-slice_cmp}
use Rattle.std.proofs.lemmas.Slice.Eq.{bytes_eq-Decides}
use Rattle.std.specs.Cmp.Lexicographic.{slice_cmp}
use Rattle.std.specs.Ordering.{match_ordering}
use Rattle.serde_json.specs.Data.{Data, Members, no_members, member, put}
use Rattle.serde_json.specs.Find.{get_member, as_str, as_object}
use Rattle.serde_json.proofs.Views.{get_member-put, get_member-put_other}
use Rattle.strkw_report.specs.Drafts.{draft_in}
use Rattle.strkw_report.specs.declared.draft.Draft.{Draft}
use Rattle.strkw_cli.specs.Request.{flag_in, is_request_key, has_only_request_keys, request_of_parts}
use Rattle.strkw_object.specs.declared.values.OwnedValues.{OwnedValues}
use Rattle.strkw_cli.specs.Both.{AreBoth}
use Rattle.strkw_cli.specs.Borrowed.{IsObject}
use Rattle.strkw_cli.specs.Parts.{AreParts, Takes, part_after, instance_of}
use Rattle.strkw_cli.specs.declared.request.Parts.{Parts}
use Rattle.strkw_cli.specs.declared.request.Schema.{Schema}

-- ---- the part of one name

-- a put changes what comes of the value at its own name alone, and to the new one's
by_name : {A : Type 0} (f : Option Data → A) (name k : List ℕ) (same : Bool) → bytes_eq name k ≡ same → (d : Data) (ms : Members)
    → f (get_member name (put k d ms)) ≡ (if same then f (Some d) else f (get_member name ms))
by_name f name k true is d ms =
    ap f (ap (λ n. get_member n (put k d ms)) ((bytes_eq-Decides name k).0 is) ∙ get_member-put k d ms)
by_name f name k false is d ms =
    ap f (get_member-put_other name k d ms (λ same. absurd (true≢false (sym ((bytes_eq-Decides name k).1 same) ∙ is))))

-- the part of a name, after a member was taken, is that of the members with this one
part_taken : {A : Type 0} (f : Option Data → A) (name k : List ℕ) (d : Data) (ms : Members) (was is : A) → was ≡ f (get_member name ms)
    → is ≡ part_after name k (f (Some d)) was
    → is ≡ f (get_member name (put k d ms))
part_taken f name k d ms was is before takes =
    takes ∙ ap (part_after name k (f (Some d))) before ∙ sym (by_name f name k (bytes_eq name k) refl d ms)

-- the schema object, after a member was taken, is that of the members with this one
schema_taken : (name : List ℕ) (d : Data) (v w : OwnedValues) (was is : Option Schema) (ms : Members)
    → AreBoth (IsObject v) was (option_and_then as_object (get_member (codes "schema") ms))
    → MatchBool (bytes_eq (codes "schema") name) (AreBoth (IsObject w) is (as_object d)) ((is ≡ was) × (w ≡ v))
    → AreBoth (IsObject w) is (option_and_then as_object (get_member (codes "schema") (put name d ms)))
schema_taken name d v w was is ms before takes = by_test (bytes_eq (codes "schema") name) refl takes
  where
    -- whether it is the member `schema`
    by_test : (same : Bool) → bytes_eq (codes "schema") name ≡ same
        → MatchBool same (AreBoth (IsObject w) is (as_object d)) ((is ≡ was) × (w ≡ v))
        → AreBoth (IsObject w) is (option_and_then as_object (get_member (codes "schema") (put name d ms)))
    by_test true e own = subst (AreBoth (IsObject w) is) (sym (by_name (option_and_then as_object) (codes "schema") name true e d ms)) own
    by_test false e (same_schema, same_values) =
        subst (AreBoth (IsObject w) is) (sym (by_name (option_and_then as_object) (codes "schema") name false e d ms))
        (rw (same_schema, same_values) before)

-- ---- no other names

-- to ask the first of two conditions twice changes nothing
asked_twice : (a b : Bool) → (a && b) ≡ (a && (a && b))
asked_twice true b = refl
asked_twice false b = refl

-- of three conditions the first two may change places
swapped : (a b c : Bool) → (a && (b && c)) ≡ (b && (a && c))
swapped true b c = refl
swapped false true c = refl
swapped false false c = refl

-- after a put, by how two names compare, all are a request's exactly where new and old are
only_by_order : (o : Ordering) (k l : List ℕ) (d e : Data) (ms : Members) → slice_cmp nat_cmp k l ≡ o
    → has_only_request_keys (put k d ms) ≡ (is_request_key k && has_only_request_keys ms)
    → has_only_request_keys (match_ordering o (member k d (member l e ms)) (member l d ms) (member l e (put k d ms)))
    ≡ (is_request_key k && has_only_request_keys (member l e ms))
only_by_order Less k l d e ms is later = refl
only_by_order Equal k l d e ms is later =
    let same : k ≡ l = (bytes_eq-Decides k l).0 (sym (is_eq-slice_cmp k l) ∙ ap is_eq is) in
    asked_twice (is_request_key l) (has_only_request_keys ms) ∙ ap (λ n. is_request_key n && (is_request_key l && has_only_request_keys ms)) (sym same)
only_by_order Greater k l d e ms is later =
    ap (λ b. is_request_key l && b) later ∙ swapped (is_request_key l) (is_request_key k) (has_only_request_keys ms)

-- after a put, all names are a request's exactly where the new one and the old ones are
only_put : (k : List ℕ) (d : Data) (ms : Members) → has_only_request_keys (put k d ms) ≡ (is_request_key k && has_only_request_keys ms)
only_put k d no_members = refl
only_put k d (member l e ms) = only_by_order (slice_cmp nat_cmp k l) k l d e ms refl (only_put k d ms)

-- ---- all parts

-- the parts of an object, after a member was taken, are those of the object with this member
pub parts_taken : (kept : Bool) (name : List ℕ) (d : Data) (v w : OwnedValues) (p q : Parts) (ms : Members) → Takes kept name d v w p q
    → AreParts kept v p ms → AreParts kept w q (put name d ms)
parts_taken kept name d v w p q ms takes are = record {
  draft = part_taken (option_and_then draft_in) (codes "draft") name d ms _ _ are.draft takes.draft;
  schema = schema_taken name d v w p.schema q.schema ms are.schema takes.schema;
  instance = part_taken (option_map as_str) (codes "instance") name d ms _ _ are.instance takes.instance;
  validate_formats = part_taken flag_in (codes "validate_formats") name d ms _ _ are.validate_formats takes.validate_formats;
  ignore_unknown_formats = part_taken flag_in (codes "ignore_unknown_formats") name d ms _ _ are.ignore_unknown_formats takes.ignore_unknown_formats;
  fold = part_taken flag_in (codes "fold") name d ms _ _ are.fold takes.fold;
  known = takes.known ∙ ap (λ b. is_request_key name && b) are.known ∙ sym (only_put name d ms);
  right = takes.right are.right;
}

-- ---- a name that is none of a request

-- names that are not the same do not compare as equal
differ : (a b : List ℕ) → (b ≡ a → ⊥) → bytes_eq a b ≡ false
differ a b apart = by_test (bytes_eq a b) refl
  where
    -- whatever the test of equality answers, it is false
    by_test : (same : Bool) → bytes_eq a b ≡ same → same ≡ false
    by_test true is = absurd (apart (sym ((bytes_eq-Decides a b).0 is)))
    by_test false is = refl

-- nor do they the other way round
differ_too : (a b : List ℕ) → (a ≡ b → ⊥) → bytes_eq a b ≡ false
differ_too a b apart = differ a b (λ same. apart (sym same))

module _ (name : List ℕ) (d : Data) (p : Parts) (draft : name ≡ codes "draft" → ⊥) (schema : name ≡ codes "schema" → ⊥) (instance : name ≡ codes "instance" → ⊥)
    (validate : name ≡ codes "validate_formats" → ⊥) (ignore : name ≡ codes "ignore_unknown_formats" → ⊥) (fold : name ≡ codes "fold" → ⊥) where
  -- a name that is none of the six is no name of a request
  is_none : is_request_key name ≡ false
  is_none = rw (
    differ_too name (codes "draft") draft,
    differ_too name (codes "schema") schema,
    differ_too name (codes "instance") instance,
    differ_too name (codes "validate_formats") validate,
    differ_too name (codes "ignore_unknown_formats") ignore,
    differ_too name (codes "fold") fold,
  ) refl

  -- a part of another name is as it was
  as_it_was : {A : Type 0} (own was : A) (part : List ℕ) → (name ≡ part → ⊥) → was ≡ part_after part name own was
  as_it_was own was part apart = sym (ap (λ same. if same then own else was) (differ part name apart))

  -- a member of such a name changes no part, but then not all names are a request's
  pub unknown_taken : (kept : Bool) (v : OwnedValues) → Takes kept name d v v p (record {
    draft = p.draft;
    schema = p.schema;
    instance = p.instance;
    validate_formats = p.validate_formats;
    ignore_unknown_formats = p.ignore_unknown_formats;
    fold = p.fold;
    has_only_request_keys = false;
  })
  unknown_taken kept v = record {
    draft = as_it_was _ p.draft (codes "draft") draft;
    schema = subst (λ b. MatchBool b (AreBoth (IsObject v) p.schema (as_object d)) ((p.schema ≡ p.schema) × (v ≡ v)))
        (sym (differ (codes "schema") name schema)) (refl, refl);
    instance = as_it_was _ (instance_of p) (codes "instance") instance;
    validate_formats = as_it_was _ p.validate_formats (codes "validate_formats") validate;
    ignore_unknown_formats = as_it_was _ p.ignore_unknown_formats (codes "ignore_unknown_formats") ignore;
    fold = as_it_was _ p.fold (codes "fold") fold;
    known = sym (ap (λ b. b && p.has_only_request_keys) is_none);
    right = λ right. right;
  }

-- ---- the request

-- parts that are all there make this request
pub parts_made : (d : Option Draft) (s : Option Members) (i : Option (Option (List ℕ))) (v g f : Option (Option Bool)) (draft : Draft) (object : Members)
    (instance : Option (List ℕ)) (validate ignore fold : Option Bool)
    → d ≡ Some draft → s ≡ Some object → i ≡ Some instance → v ≡ Some validate → g ≡ Some ignore → f ≡ Some fold
    → request_of_parts d s i v g f ≡ Some (record {
      draft = draft;
      schema = object;
      instance = instance;
      validate_formats = validate;
      ignore_unknown_formats = unwrap_or ignore true;
      fold = unwrap_or fold false;
    })
parts_made d s i v g f draft object instance validate ignore fold is_draft is_object is_instance is_validate is_ignore is_fold =
    rw (is_draft, is_object, is_instance, is_validate, is_ignore, is_fold) refl

-- what is made where a condition holds, where it does
pub made_if : {A : Type 0} (b : Bool) (x y z : A) → b ≡ true → x ≡ z → (if b then x else y) ≡ z
made_if b x y z holds is = rw holds is

-- a schema object that parts hold stands for that of their members
pub held_object : (values : OwnedValues) (schema : Schema) (ms : Members) (o : Option Schema)
    → AreBoth (IsObject values) o (option_and_then as_object (get_member (codes "schema") ms)) → o ≡ Some schema
    → (object : Members) × (option_and_then as_object (get_member (codes "schema") ms) ≡ Some object) × IsObject values schema object
held_object values schema ms o both is =
    subst (λ s. AreBoth (IsObject values) s (option_and_then as_object (get_member (codes "schema") ms))) is both
