-- What the members of a request come to, as they are read. The functions below `read_request` speak
-- of it, and no public clause does.
use Rattle.std.specs.Bool.{MatchBool}
use Rattle.std.specs.Prelude.{◌≡◌, ◌&&◌, ℕ, Bool, List, [], ◌∷◌, IfSome, Option, Some, None}
use Rattle.std.specs.Prelude.{option_map, codes}
use Rattle.std.specs.Prelude.{option_and_then, if◌then◌else◌}
use Rattle.std.specs.Str.{bytes_eq}
use Rattle.json.specs.Json.{members, value}
use Rattle.json.specs.Token.{Token}
use Rattle.serde_json.specs.Data.{Data, Members}
use Rattle.serde_json.specs.Read.{converted, of_members}
use Rattle.serde_json.specs.Find.{get_member, as_str, as_object}
use Rattle.strkw_report.specs.Drafts.{draft_in}
use Rattle.strkw_object.specs.declared.values.OwnedValues.{OwnedValues}
use Rattle.strkw_cli.specs.Both.{AreBoth}
use Rattle.strkw_cli.specs.Borrowed.{IsObject, IsRight}
use Rattle.strkw_cache.specs.Depths.{member_depth}
use Rattle.strkw_cli.specs.Request.{Request, flag_in, is_request_key, has_only_request_keys}
use Rattle.strkw_cli.specs.Request.{request_of_members}
use Rattle.strkw_cli.specs.declared.request.Parts.{Parts}

-- the text of the instance that parts hold
abbrev pub instance_of : Parts → Option (Option (List ℕ))
instance_of p = option_map (option_map (λ text. text.now)) p.instance

-- these are the parts of an object of these members, with the values that were read of its schema
-- object, and where an object may be cached
pub record AreParts (cached : Bool) (values : OwnedValues) (p : Parts) (ms : Members) : Type 0 where
  pub draft : p.draft ≡ option_and_then draft_in (get_member (codes "draft") ms)
  pub schema : AreBoth (IsObject values) p.schema
      (option_and_then as_object (get_member (codes "schema") ms))
  pub instance : instance_of p ≡ option_map as_str (get_member (codes "instance") ms)
  pub validate_formats : p.validate_formats ≡ flag_in (get_member (codes "validate_formats") ms)
  pub ignore_unknown_formats : p.ignore_unknown_formats
      ≡ flag_in (get_member (codes "ignore_unknown_formats") ms)
  pub fold : p.fold ≡ flag_in (get_member (codes "fold") ms)
  pub known : p.has_only_request_keys ≡ has_only_request_keys ms
  pub right : IfSome p.schema (IsRight cached)

-- what a member of the name `taken` makes of the part of this name: its own, or what it was
abbrev pub part_after : {A : Type 0} → List ℕ → List ℕ → A → A → A
part_after name taken own was = if bytes_eq name taken then own else was

-- A member of this name and value was taken: its part is replaced, and the others are as they were.
-- The values are read anew with the schema object, and with no other part.
pub record Takes (cached : Bool) (name : List ℕ) (d : Data) (v w : OwnedValues)
    (p q : Parts) : Type 0
  where
    pub draft : q.draft ≡ part_after (codes "draft") name (draft_in d) p.draft
    pub schema : MatchBool (bytes_eq (codes "schema") name)
        (AreBoth (IsObject w) q.schema (as_object d)) ((q.schema ≡ p.schema) × (w ≡ v))
    pub instance : instance_of q ≡ part_after (codes "instance") name (Some (as_str d))
        (instance_of p)
    pub validate_formats : q.validate_formats
        ≡ part_after (codes "validate_formats") name (flag_in (Some d)) p.validate_formats
    pub ignore_unknown_formats : q.ignore_unknown_formats
        ≡ part_after (codes "ignore_unknown_formats") name (flag_in (Some d))
        p.ignore_unknown_formats
    pub fold : q.fold ≡ part_after (codes "fold") name (flag_in (Some d)) p.fold
    pub known : q.has_only_request_keys ≡ (is_request_key name && p.has_only_request_keys)
    pub right : IfSome p.schema (IsRight cached) → IfSome q.schema (IsRight cached)

-- what is read of the members that are left, in so many turns at most, behind those that were found
abbrev pub members_behind : ℕ → Members → List Token → Option (Members × List Token)
members_behind turns found ts = converted (λ ms. of_members ms found)
    (members (value member_depth) turns ts)

-- the request of what was read, if nothing is left
abbrev pub request_left : Option (Members × List Token) → Option Request
request_left None = None
request_left (Some (ms, [])) = request_of_members ms
request_left (Some (ms, t ∷ ts)) = None
