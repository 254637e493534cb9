-- The request that a line is: JSON text (RFC 8259), as serde_json reads it, that is an object of
-- certain members.
use Rattle.std.specs.Prelude.{ℕ, List, ◌&&◌, ◌||◌, Bool, true, false, Option, Some, None}
use Rattle.std.specs.Prelude.{option_map, option_and_then, unwrap_or, codes, if◌then◌else◌}
use Rattle.std.specs.Str.{bytes_eq}
use Rattle.serde_json.specs.Data.{Data, Members, no_members, member}
use Rattle.serde_json.specs.Find.{get_member, as_bool, as_str, as_object}
use Rattle.strkw_report.specs.declared.draft.Draft.{Draft}
use Rattle.strkw_report.specs.Drafts.{draft_in}

-- what is asked: the draft, the schema object, the instance's text, where it is one, two options,
-- and whether the object folds to false
pub record Request : Type 0 where
  pub draft : Draft
  pub schema : Members
  pub instance : Option (List ℕ)
  pub validate_formats : Option Bool
  pub ignore_unknown_formats : Bool
  pub fold : Bool

-- an option that may be left out: true, false, or not there
abbrev pub flag_in : Option Data → Option (Option Bool)
flag_in None = Some None
flag_in (Some d) = option_map Some (as_bool d)

abbrev pub is_request_key : List ℕ → Bool
is_request_key k =
    bytes_eq k (codes "draft") || bytes_eq k (codes "schema") || bytes_eq k (codes "instance")
    || bytes_eq k (codes "validate_formats") || bytes_eq k (codes "ignore_unknown_formats")
    || bytes_eq k (codes "fold")

abbrev pub has_only_request_keys : Members → Bool
has_only_request_keys no_members = true
has_only_request_keys (member k d ms) = is_request_key k && has_only_request_keys ms

-- the parts of a request, each of its kind
abbrev pub request_of_parts : Option Draft → Option Members → Option (Option (List ℕ))
    → Option (Option Bool) → Option (Option Bool) → Option (Option Bool)
    → Option Request
request_of_parts draft schema instance validate ignore fold =
    option_and_then (λ d. option_and_then (λ s.
    option_and_then (λ i. option_and_then (λ v. option_and_then (λ g. option_map (λ f. record {
      draft = d;
      schema = s;
      instance = i;
      validate_formats = v;
      ignore_unknown_formats = unwrap_or g true;
      fold = unwrap_or f false;
    }) fold) ignore) validate) instance) schema) draft

abbrev pub request_of_members : Members → Option Request
request_of_members ms = if has_only_request_keys ms then request_of_parts
    (option_and_then draft_in (get_member (codes "draft") ms))
    (option_and_then as_object (get_member (codes "schema") ms))
    (option_map as_str (get_member (codes "instance") ms))
    (flag_in (get_member (codes "validate_formats") ms))
    (flag_in (get_member (codes "ignore_unknown_formats") ms))
    (flag_in (get_member (codes "fold") ms))
    else None

-- the request that a value is: an object of these members, and of no other
abbrev pub request_in : Data → Option Request
request_in d = option_and_then request_of_members (as_object d)
