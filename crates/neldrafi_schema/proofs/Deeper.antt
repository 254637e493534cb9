-- What a keyword's value comes to: the schemas to which it leads stand further down, but for that of a reference.
use Rattle.std.proofs.Common.{◌≡◌, ◌⊎◌, ◌<◌, ◌++◌, ℕ, suc, sym, List, [], ◌∷◌, length, Bool, true, false, Option, Some, None, inl, inr, refl, arith, length-append}
use Rattle.std.specs.Prelude.{codes, if◌then◌else◌, is_some, not, ◌&&◌, option_and_then}
use Rattle.std.specs.List.{AllByRecursion}
use Rattle.serde_json.specs.Data.{Data, Items, Members, no_items, item, no_members, member}
use Rattle.serde_json.specs.Find.{as_array, as_bool, as_number, as_object, as_str, get_member}
use Rattle.std.proofs.lemmas.Bool.{false≢true}
use Rattle.strkw_report.specs.declared.draft.Draft.{Draft}
use Rattle.strkw_report.specs.declared.draft.Draft.TheVariants.{Draft4, Draft6, Draft7, Draft201909, Draft202012}
use Rattle.strkw_pattern.specs.declared.engine.Outcome.{Outcome}
use Rattle.strkw_keywords.specs.Meanings.{Lists}
use Rattle.neldrafi_schema.specs.declared.node.Rule.{Rule as CompiledRule}
use Rattle.neldrafi_schema.specs.declared.node.Rule.TheVariants as compiled
use Rattle.neldrafi_schema.specs.declared.senses.Sense.{Sense as CompiledSense}
use Rattle.neldrafi_schema.specs.declared.senses.Sense.TheVariants as senses
use Rattle.neldrafi_schema.specs.machine.Compiled.{rule_of}
use Rattle.neldrafi_schema.specs.machine.Ready.{IsRuleReady, RestsOn}
use Rattle.neldrafi_schema.specs.machine.Said.{IsSenseReady, sense_of}
use Rattle.neldrafi_schema.specs.declared.known.Known.{Known}
use Rattle.neldrafi_schema.specs.declared.known.Known.TheVariants as known
use Rattle.neldrafi_schema.specs.declared.limits.Limit.{Limit}
use Rattle.neldrafi_schema.specs.declared.limits.Limit.TheVariants as limit
use Rattle.neldrafi_schema.specs.Drafts.{draft_named, has_keyword, has_unevaluated, is_anchor, is_draft_4}
use Rattle.neldrafi_uri.specs.Components.{fragment_of}
use Rattle.neldrafi_schema.specs.Numbers.{size_in}
use Rattle.neldrafi_schema.specs.Paths.{Path, Segment, key, place}
use Rattle.neldrafi_schema.specs.Refusals.{is_reference}
use Rattle.neldrafi_schema.specs.Schemas.{unknown_dialect, wrong_type, Rule, types, among, equal_to, limited, multiple_of, sized, distinct, required, all_of, dependent}
use Rattle.neldrafi_schema.specs.Schemas.{properties, matching, other_members, no_other_members, member_names, placed, other_items, no_other_items}
use Rattle.neldrafi_schema.specs.Schemas.{negation, any_of, one_of, where_valid, where_not_valid, condition, unevaluated, held}
use Rattle.neldrafi_schema.specs.Values.{Lead, Sense, nothing, says, refused, additional_sense, anchor_sense, branch_sense, contains_rule, dependencies_in, dependencies_sense, dependency_leads, dependent_names}
use Rattle.neldrafi_schema.specs.Values.{dialect_sense, distinct_sense, draft_4_sense, flag_sense, greatest_of, has_flags, has_placed_items, has_some, identifier_sense, is_array, kind_sense, lead_below, lead_to, least_of, item_leads, items_sense, list_sense, map_sense}
use Rattle.neldrafi_schema.specs.Values.{member_leads, names_in, number_sense, of_kind, others_sense, positive_in, reference_sense, sense, target_sense, types_in, values_in}

abbrev pub is_matching : Rule → Bool
is_matching (matching patterns) = true
is_matching other = false

module _ (path : Path) where
  abbrev pub IsFarther : Lead → Type 0
  IsFarther l = length path < length l.path

  -- a rule whose schemas stand further down, or that of a reference; one with patterns is read otherwise
  pub record IsRuleDown (r : Rule) (leads : List Lead) : Type 0 where
    pub plain : is_matching r ≡ false
    pub down : (is_reference r ≡ true) ⊎ AllByRecursion IsFarther leads

  abbrev pub IsSenseDown : Sense → Type 0
  IsSenseDown nothing = Unit {0}
  IsSenseDown (says r leads) = IsRuleDown r leads
  IsSenseDown (refused why) = Unit {0}

  kind_down : {A : Type 0} (of : A → Sense) → ((a : A) → IsSenseDown (of a)) → (o : Option A) → IsSenseDown (of_kind of o)
  kind_down of each (Some a) = each a
  kind_down of each None = tt

  chosen_down : (b : Bool) (x y : Sense) → IsSenseDown x → IsSenseDown y → IsSenseDown (if b then x else y)
  chosen_down true x y p q = p
  chosen_down false x y p q = q

  leads_down : (r : Rule) (leads : List Lead) → is_matching r ≡ false → AllByRecursion IsFarther leads → IsSenseDown (says r leads)
  leads_down r leads plain down = record { plain = plain; down = inr down }

  no_leads : (r : Rule) → is_matching r ≡ false → IsSenseDown (says r [])
  no_leads r plain = leads_down r [] plain tt

  module _ (at : Path) (h : length path < length at) where
    below : (s : Segment) → length path < length (at ++ s ∷ [])
    below s = omega (arith, length-append at (s ∷ []))

    pub items_down : (n : ℕ) (ds : Items) → AllByRecursion IsFarther (item_leads at n ds)
    items_down n no_items = tt
    items_down n (item d ds) = (below (place n), items_down (suc n) ds)

    pub members_down : (ms : Members) → AllByRecursion IsFarther (member_leads at ms)
    members_down no_members = tt
    members_down (member name d ms) = (below (key name), members_down ms)

    dependencies_down : (ms : Members) → AllByRecursion IsFarther (dependency_leads at ms)
    dependencies_down no_members = tt
    dependencies_down (member name d ms) = chosen (is_array d) (dependencies_down ms) where
      chosen : (b : Bool) → AllByRecursion IsFarther (dependency_leads at ms)
          → AllByRecursion IsFarther (if b then dependency_leads at ms else lead_below at (key name) ∷ dependency_leads at ms)
      chosen true down = down
      chosen false down = (below (key name), down)

    one_down : (r : Rule) → is_matching r ≡ false → IsSenseDown (says r (lead_to at))
    one_down r plain = leads_down r (lead_to at) plain (h, tt)

    list_down : (r : Rule) → is_matching r ≡ false → (o : Option Items) → IsSenseDown (list_sense r at o)
    list_down r plain (Some (item d ds)) = leads_down r (item_leads at 0 (item d ds)) plain (items_down 0 (item d ds))
    list_down r plain (Some no_items) = tt
    list_down r plain None = tt

    map_down : (r : Rule) → is_matching r ≡ false → (o : Option Members) → IsSenseDown (map_sense r at o)
    map_down r plain o = kind_down (λ inside. says r (member_leads at inside)) (λ inside. leads_down r (member_leads at inside) plain (members_down inside)) o

    others_down : (draft : Draft) (none some : Rule) → is_matching none ≡ false → is_matching some ≡ false → (o : Option Bool) → IsSenseDown (others_sense draft none some at o)
    others_down draft none some p q (Some true) = chosen_down (has_unevaluated draft) (says some (lead_to at)) nothing (one_down some q) tt
    others_down draft none some p q (Some false) = no_leads none p
    others_down draft none some p q None = one_down some q

    items_sense_down : (draft : Draft) (o : Option Items) → IsSenseDown (items_sense draft at o)
    items_sense_down Draft202012 o = one_down other_items refl
    items_sense_down Draft4 (Some ds) = list_down placed refl (Some ds)
    items_sense_down Draft6 (Some ds) = list_down placed refl (Some ds)
    items_sense_down Draft7 (Some ds) = list_down placed refl (Some ds)
    items_sense_down Draft201909 (Some ds) = list_down placed refl (Some ds)
    items_sense_down Draft4 None = one_down other_items refl
    items_sense_down Draft6 None = one_down other_items refl
    items_sense_down Draft7 None = one_down other_items refl
    items_sense_down Draft201909 None = one_down other_items refl

    additional_down : (draft : Draft) (ms : Members) (d : Data) → IsSenseDown (additional_sense draft ms at d)
    additional_down draft ms d =
        chosen_down (has_placed_items ms) (others_sense draft no_other_items other_items at (as_bool d)) (if is_some (as_bool d) then nothing else says held (lead_to at))
        (others_down draft no_other_items other_items refl refl (as_bool d)) (chosen_down (is_some (as_bool d)) nothing (says held (lead_to at)) tt (one_down held refl))

    branch_down : (r : Rule) (ms : Members) → is_matching r ≡ false → IsSenseDown (branch_sense r ms path at)
    branch_down r ms plain =
        let beside = lead_to (path ++ key (codes "if") ∷ []) in
        let farther : length path < length (path ++ key (codes "if") ∷ []) = omega (arith, length-append path (key (codes "if") ∷ [])) in
        chosen_down (is_some (get_member (codes "if") ms)) (says r (lead_to at ++ beside)) (says held (lead_to at))
        (leads_down r (lead_to at ++ beside) plain (h, (farther, tt))) (one_down held refl)

    dependencies_sense_down : (draft : Draft) (ms : Members) → IsSenseDown (dependencies_sense draft at ms)
    dependencies_sense_down draft ms = kind_down (λ ds. says (dependent ds) (dependency_leads at ms)) (λ ds. leads_down (dependent ds) (dependency_leads at ms) refl (dependencies_down ms))
        (dependencies_in draft ms)

  target_down : (o : Option Path) → IsSenseDown (target_sense o)
  target_down (Some target) = record { plain = refl; down = inl refl }
  target_down None = tt

  pub reference_down : (referred : List ℕ → Option Path) (d : Data) → IsSenseDown (reference_sense referred d)
  reference_down referred d = kind_down (λ text. target_sense (referred text)) (λ text. target_down (referred text)) (as_str d)

  identifier_down : (draft : Draft) (text : List ℕ) → IsSenseDown (identifier_sense draft text)
  identifier_down draft text = chosen_down (has_keyword draft known.Anchor && has_some (fragment_of text)) (refused wrong_type) nothing tt tt

  number_down : (l : Limit) (d : Data) → IsSenseDown (number_sense l d)
  number_down l d = kind_down (λ x. says (limited l x) []) (λ x. no_leads (limited l x) refl) (as_number d)

  flag_down : (name : List ℕ) (ms : Members) (d : Data) → IsSenseDown (flag_sense name ms d)
  flag_down name ms d = chosen_down (is_some (get_member name ms) && is_some (as_bool d)) nothing (refused wrong_type) tt tt

  draft_4_down : (ms : Members) (l : Limit) (d : Data) → IsSenseDown (draft_4_sense ms l d)
  draft_4_down ms limit.Minimum d = number_down (least_of ms) d
  draft_4_down ms limit.Maximum d = number_down (greatest_of ms) d
  draft_4_down ms limit.ExclusiveMinimum d = flag_down (codes "minimum") ms d
  draft_4_down ms limit.ExclusiveMaximum d = flag_down (codes "maximum") ms d

  nothing_down : (is_right : Bool) → IsSenseDown (kind_sense is_right)
  nothing_down is_right = chosen_down is_right nothing (refused wrong_type) tt tt

  pub sense_down : (draft : Draft) (ms : Members) (at : Path) (k : Known) (d : Data) → length path < length at
      → IsSenseDown (sense draft ms path at k d)
  sense_down draft ms at known.Dialect d h = kind_down dialect_sense (λ text. chosen_down (is_some (draft_named text)) nothing (refused unknown_dialect) tt tt) (as_str d)
  sense_down draft ms at known.Reference d h = tt
  sense_down draft ms at known.Draft4Identifier d h = kind_down (identifier_sense draft) (identifier_down draft) (as_str d)
  sense_down draft ms at known.Identifier d h = kind_down (identifier_sense draft) (identifier_down draft) (as_str d)
  sense_down draft ms at known.Anchor d h = kind_down (anchor_sense draft) (λ text. chosen_down (is_anchor draft text) nothing (refused wrong_type) tt tt) (as_str d)
  sense_down draft ms at known.DynamicAnchor d h = kind_down (anchor_sense draft) (λ text. chosen_down (is_anchor draft text) nothing (refused wrong_type) tt tt) (as_str d)
  sense_down draft ms at known.RecursiveAnchor d h = kind_down (λ b. nothing) (λ b. tt) (as_bool d)
  sense_down draft ms at known.DynamicReference d h = tt
  sense_down draft ms at known.RecursiveReference d h = tt
  sense_down draft ms at known.Types d h = kind_down (λ ts. says (types (not (is_draft_4 draft)) ts) []) (λ ts. no_leads (types (not (is_draft_4 draft)) ts) refl) (types_in d)
  sense_down draft ms at known.Enumeration d h = kind_down (λ ds. says (among ds) []) (λ ds. no_leads (among ds) refl) (values_in draft d)
  sense_down draft ms at known.Constant d h = no_leads (equal_to d) refl
  sense_down draft ms at known.MultipleOf d h = kind_down (λ x. says (multiple_of x) []) (λ x. no_leads (multiple_of x) refl) (positive_in d)
  sense_down draft ms at (known.Limited l) d h = chosen_down (is_draft_4 draft) (draft_4_sense ms l d) (number_sense l d) (draft_4_down ms l d) (number_down l d)
  sense_down draft ms at (known.Sized s) d h = kind_down (λ n. says (sized s n) []) (λ n. no_leads (sized s n) refl) (size_in d)
  sense_down draft ms at known.UniqueItems d h = kind_down distinct_sense (λ b. chosen_down b (says distinct []) nothing (no_leads distinct refl) tt) (as_bool d)
  sense_down draft ms at known.Required d h = kind_down (λ names. says (required names) []) (λ names. no_leads (required names) refl) (names_in draft d)
  sense_down draft ms at known.Dependencies d h = kind_down (dependencies_sense draft at) (λ inside. dependencies_sense_down at h draft inside) (as_object d)
  sense_down draft ms at known.Properties d h = map_down at h properties refl (as_object d)
  sense_down draft ms at known.PatternProperties d h = tt
  sense_down draft ms at known.AdditionalProperties d h = others_down at h draft no_other_members other_members refl refl (as_bool d)
  sense_down draft ms at known.PropertyNames d h = one_down at h member_names refl
  sense_down draft ms at known.Items d h = items_sense_down at h draft (as_array d)
  sense_down draft ms at known.AdditionalItems d h = additional_down at h draft ms d
  sense_down draft ms at known.Contains d h = one_down at h (contains_rule draft ms) refl
  sense_down draft ms at known.AllOf d h = list_down at h all_of refl (as_array d)
  sense_down draft ms at known.AnyOf d h = list_down at h any_of refl (as_array d)
  sense_down draft ms at known.OneOf d h = list_down at h one_of refl (as_array d)
  sense_down draft ms at known.Not d h = one_down at h (negation d) refl
  sense_down draft ms at known.If d h = one_down at h condition refl
  sense_down draft ms at known.DependentRequired d h = kind_down (λ ds. says (dependent ds) []) (λ ds. no_leads (dependent ds) refl)
      (option_and_then (dependent_names draft) (as_object d))
  sense_down draft ms at known.DependentSchemas d h = map_down at h (dependent []) refl (as_object d)
  sense_down draft ms at known.PrefixItems d h = list_down at h placed refl (as_array d)
  sense_down draft ms at known.ContainsCount d h = nothing_down (is_some (size_in d))
  sense_down draft ms at known.Description d h = nothing_down (is_some (as_str d))
  sense_down draft ms at known.Default d h = tt
  sense_down draft ms at known.Examples d h = nothing_down (is_array d)
  sense_down draft ms at known.Comment d h = nothing_down (is_some (as_str d))
  sense_down draft ms at known.Access d h = nothing_down (is_some (as_bool d))
  sense_down draft ms at known.Deprecated d h = nothing_down (is_some (as_bool d))
  sense_down draft ms at known.Content d h = nothing_down (is_some (as_str d))
  sense_down draft ms at known.Vocabulary d h = nothing_down (has_flags (as_object d))
  sense_down draft ms at known.ContentSchema d h = one_down at h held refl
  sense_down draft ms at (known.Unevaluated p) d h = others_down at h draft (unevaluated p) (unevaluated p) refl refl (as_bool d)
  sense_down draft ms at known.Defs d h = map_down at h held refl (as_object d)
  sense_down draft ms at known.Then d h = branch_down at h where_valid ms refl
  sense_down draft ms at known.Else d h = branch_down at h where_not_valid ms refl
  sense_down draft ms at known.Definitions d h = map_down at h held refl (as_object d)
  sense_down draft ms at (known.Text text) d h = tt
  sense_down draft ms at known.Unknown d h = tt

-- a rule of a sense has no patterns to be called
module _ {E : Type 0} (outcome : E → List ℕ → Outcome) (lists : Lists) where
  rule_ready : (r : CompiledRule E) → is_matching (rule_of outcome r) ≡ false → (count : ℕ) → IsRuleReady outcome (RestsOn outcome lists) count r
  rule_ready (compiled.Types floats ts) e count = tt
  rule_ready (compiled.Among vs) e count = tt
  rule_ready (compiled.EqualTo v) e count = tt
  rule_ready (compiled.Limited l n) e count = tt
  rule_ready (compiled.MultipleOf n) e count = tt
  rule_ready (compiled.Sized s n) e count = tt
  rule_ready compiled.Distinct e count = tt
  rule_ready (compiled.Required names) e count = tt
  rule_ready compiled.Reference e count = tt
  rule_ready compiled.AllOf e count = tt
  rule_ready (compiled.Dependent ds) e count = tt
  rule_ready compiled.Properties e count = tt
  rule_ready (compiled.Matching ps) e count = absurd (false≢true (sym e))
  rule_ready compiled.OtherMembers e count = tt
  rule_ready compiled.NoOtherMembers e count = tt
  rule_ready compiled.MemberNames e count = tt
  rule_ready compiled.Placed e count = tt
  rule_ready compiled.OtherItems e count = tt
  rule_ready compiled.NoOtherItems e count = tt
  rule_ready (compiled.Negation v) e count = tt
  rule_ready compiled.AnyOf e count = tt
  rule_ready compiled.OneOf e count = tt
  rule_ready (compiled.Contains least most counts) e count = tt
  rule_ready compiled.WhereValid e count = tt
  rule_ready compiled.WhereNotValid e count = tt
  rule_ready compiled.Condition e count = tt
  rule_ready (compiled.Unevaluated part) e count = tt
  rule_ready compiled.Held e count = tt

  pub sense_ready : (path : Path) (s : CompiledSense E) → IsSenseDown path (sense_of outcome s) → IsSenseReady outcome lists s
  sense_ready path senses.Nothing down = tt
  sense_ready path (senses.Says r leads) down = rule_ready r down.plain
  sense_ready path (senses.Refused kind) down = tt
