-- What arrays and keywords come to, by cases.
use Rattle.std.proofs.Common.{◌≡◌, ℕ, List, [], ◌∷◌, ◌++◌, length, map, refl, sym, Bool, true, false, Option, Some, None}
use Rattle.std.proofs.lemmas.Bool.{false≢true}
use Rattle.std.specs.Prelude.{is_some, option_and_then, option_map}
use Rattle.serde_json.specs.Data.{Data, Items, Members}
use Rattle.serde_json.specs.Find.{as_str}
use Rattle.serde_json.specs.View.{items_view, view}
use Rattle.serde_json.specs.declared.value.Value.{Value}
use Rattle.strkw_keywords.specs.declared.keyword.Keyword.{Keyword as TextKeyword}
use Rattle.strkw_report.specs.declared.draft.Draft.{Draft}
use Rattle.strkw_report.specs.declared.draft.Draft.TheVariants.{Draft4, Draft6, Draft7, Draft201909, Draft202012}
use Rattle.neldrafi_schema.specs.declared.known.Known.{Known}
use Rattle.neldrafi_schema.specs.declared.node.Part.{Part}
use Rattle.neldrafi_schema.specs.declared.known.Known.TheVariants as known
use Rattle.strkw_keywords.specs.Object.{Settings}
use Rattle.neldrafi_schema.specs.Scopes.{Scope}
use Rattle.neldrafi_schema.specs.Paths.{Path, key}
use Rattle.neldrafi_schema.specs.Reading.{KnownSays, Numbered, SenseSays}
use Rattle.neldrafi_schema.specs.Rules.{item_list}
use Rattle.neldrafi_schema.specs.Schemas.{Keyword, Rule, other_items, placed}
use Rattle.neldrafi_schema.specs.Values.{Lead, all_items, item_leads, items_sense, lead_to, list_sense, says, sense, unless_empty}
use Rattle.neldrafi_schema.specs.machine.Leads.{is_assertion, is_lacking}
use Rattle.neldrafi_schema.specs.Documents.{Documents}
use Rattle.neldrafi_schema.proofs.Items.{item_list_view}

-- ---- arrays that have some, where some are needed

given : {A : Type 0} (needed : Bool) (xs : List A) → is_lacking needed (length xs) ≡ false → unless_empty needed xs ≡ Some xs
given true [] e = absurd (false≢true (sym e))
given true (x ∷ xs) e = refl
given false xs e = refl

pub values_given : (needed : Bool) (vs : List Value) (o : Option Items) → o ≡ Some (items_view vs) → is_lacking needed (length vs) ≡ false
    → option_and_then (unless_empty needed) (option_map item_list o) ≡ Some (map view vs)
values_given needed [] o e some = rw (e, item_list_view []) (given needed [] some)
values_given needed (v ∷ vs) o e some = rw (e, item_list_view vs) (given_one needed) where
  given_one : (needed : Bool) → unless_empty needed (view v ∷ map view vs) ≡ Some (view v ∷ map view vs)
  given_one true = refl
  given_one false = refl

names_more : (needed : Bool) (o : Option (List ℕ)) (p : Option (List (List ℕ))) → option_and_then (unless_empty needed) (option_and_then (λ a. option_map (λ rest. a ∷ rest) p) o)
    ≡ option_and_then (λ a. option_map (λ rest. a ∷ rest) p) o
names_more true None p = refl
names_more true (Some a) None = refl
names_more true (Some a) (Some rest) = refl
names_more false None p = refl
names_more false (Some a) None = refl
names_more false (Some a) (Some rest) = refl

pub names_given : (needed : Bool) (vs : List Value) (o : Option Items) → o ≡ Some (items_view vs) → is_lacking needed (length vs) ≡ false
    → option_and_then (unless_empty needed) (option_and_then (all_items as_str) o) ≡ all_items as_str (items_view vs)
names_given needed [] o e some = rw e (given needed [] some)
names_given needed (v ∷ vs) o e some = rw e (names_more needed (as_str (view v)) (all_items as_str (items_view vs)))

pub list_given : (rule : Rule) (at : Path) (vs : List Value) (leads : List Lead) (o : Option Items) → o ≡ Some (items_view vs) → (length vs ≡ 0 → ⊥)
    → leads ≡ item_leads at 0 (items_view vs) → says rule leads ≡ list_sense rule at o
list_given rule at [] leads o e some are = absurd (some refl)
list_given rule at (v ∷ vs) leads o e some are = rw (e, are) refl

pub placed_items : (draft : Draft) (at : Path) (o : Option Items) → (draft ≡ Draft202012 → ⊥) → is_some o ≡ true → list_sense placed at o ≡ items_sense draft at o
placed_items Draft202012 at o n e = absurd (n refl)
placed_items Draft4 at None n e = absurd (false≢true e)
placed_items Draft4 at (Some ds) n e = refl
placed_items Draft6 at None n e = absurd (false≢true e)
placed_items Draft6 at (Some ds) n e = refl
placed_items Draft7 at None n e = absurd (false≢true e)
placed_items Draft7 at (Some ds) n e = refl
placed_items Draft201909 at None n e = absurd (false≢true e)
placed_items Draft201909 at (Some ds) n e = refl

pub same_items : (draft : Draft) (at : Path) (o : Option Items) → (draft ≡ Draft202012 → ⊥) → is_some o ≡ false → says other_items (lead_to at) ≡ items_sense draft at o
same_items Draft202012 at o n e = absurd (n refl)
same_items Draft4 at None n e = refl
same_items Draft4 at (Some ds) n e = absurd (false≢true (sym e))
same_items Draft6 at None n e = refl
same_items Draft6 at (Some ds) n e = absurd (false≢true (sym e))
same_items Draft7 at None n e = refl
same_items Draft7 at (Some ds) n e = absurd (false≢true (sym e))
same_items Draft201909 at None n e = refl
same_items Draft201909 at (Some ds) n e = absurd (false≢true (sym e))

-- ---- a keyword that is none of these has no schemas

pub assertion_left : (kw : Known) → (kw ≡ known.Dialect → ⊥) → (kw ≡ known.Draft4Identifier → ⊥) → (kw ≡ known.Identifier → ⊥) → (kw ≡ known.Anchor → ⊥) → (kw ≡ known.DynamicAnchor → ⊥) → (kw ≡ known.RecursiveAnchor → ⊥) → (kw ≡ known.DynamicReference → ⊥) → (kw ≡ known.RecursiveReference → ⊥) → (kw ≡ known.AllOf → ⊥) → (kw ≡ known.AnyOf → ⊥) → (kw ≡ known.OneOf → ⊥) → (kw ≡ known.Properties → ⊥) → (kw ≡ known.Definitions → ⊥) → (kw ≡ known.Defs → ⊥) → (kw ≡ known.Dependencies → ⊥) → (kw ≡ known.PropertyNames → ⊥) → (kw ≡ known.ContentSchema → ⊥) → (kw ≡ known.Contains → ⊥) → (kw ≡ known.DependentSchemas → ⊥) → (kw ≡ known.PrefixItems → ⊥) → ((part : Part) → kw ≡ known.Unevaluated part → ⊥) → (kw ≡ known.If → ⊥) → (kw ≡ known.Not → ⊥) → (kw ≡ known.Then → ⊥) → (kw ≡ known.Else → ⊥) → (kw ≡ known.AdditionalProperties → ⊥) → (kw ≡ known.Items → ⊥) → (kw ≡ known.AdditionalItems → ⊥) → (kw ≡ known.PatternProperties → ⊥) → (kw ≡ known.Reference → ⊥) → ((text : TextKeyword) → kw ≡ known.Text text → ⊥) → (kw ≡ known.Unknown → ⊥) → is_assertion kw ≡ true
assertion_left known.Dialect not_dialect _ _ _ _ _ _ _ _ _ _ _ _ _ _ _ _ _ _ _ _ _ _ _ _ _ _ _ _ _ _ _ = absurd (not_dialect refl)
assertion_left known.Draft4Identifier _ not_draft4identifier _ _ _ _ _ _ _ _ _ _ _ _ _ _ _ _ _ _ _ _ _ _ _ _ _ _ _ _ _ _ = absurd (not_draft4identifier refl)
assertion_left known.Identifier _ _ not_identifier _ _ _ _ _ _ _ _ _ _ _ _ _ _ _ _ _ _ _ _ _ _ _ _ _ _ _ _ _ = absurd (not_identifier refl)
assertion_left known.Anchor _ _ _ not_anchor _ _ _ _ _ _ _ _ _ _ _ _ _ _ _ _ _ _ _ _ _ _ _ _ _ _ _ _ = absurd (not_anchor refl)
assertion_left known.AllOf _ _ _ _ _ _ _ _ not_allof _ _ _ _ _ _ _ _ _ _ _ _ _ _ _ _ _ _ _ _ _ _ _ = absurd (not_allof refl)
assertion_left known.AnyOf _ _ _ _ _ _ _ _ _ not_anyof _ _ _ _ _ _ _ _ _ _ _ _ _ _ _ _ _ _ _ _ _ _ = absurd (not_anyof refl)
assertion_left known.OneOf _ _ _ _ _ _ _ _ _ _ not_oneof _ _ _ _ _ _ _ _ _ _ _ _ _ _ _ _ _ _ _ _ _ = absurd (not_oneof refl)
assertion_left known.Properties _ _ _ _ _ _ _ _ _ _ _ not_properties _ _ _ _ _ _ _ _ _ _ _ _ _ _ _ _ _ _ _ _ = absurd (not_properties refl)
assertion_left known.Definitions _ _ _ _ _ _ _ _ _ _ _ _ not_definitions _ _ _ _ _ _ _ _ _ _ _ _ _ _ _ _ _ _ _ = absurd (not_definitions refl)
assertion_left known.Defs _ _ _ _ _ _ _ _ _ _ _ _ _ not_defs _ _ _ _ _ _ _ _ _ _ _ _ _ _ _ _ _ _ = absurd (not_defs refl)
assertion_left known.Dependencies _ _ _ _ _ _ _ _ _ _ _ _ _ _ not_dependencies _ _ _ _ _ _ _ _ _ _ _ _ _ _ _ _ _ = absurd (not_dependencies refl)
assertion_left known.PropertyNames _ _ _ _ _ _ _ _ _ _ _ _ _ _ _ not_propertynames _ _ _ _ _ _ _ _ _ _ _ _ _ _ _ _ = absurd (not_propertynames refl)
assertion_left known.Contains _ _ _ _ _ _ _ _ _ _ _ _ _ _ _ _ _ not_contains _ _ _ _ _ _ _ _ _ _ _ _ _ _ = absurd (not_contains refl)
assertion_left known.DependentSchemas _ _ _ _ _ _ _ _ _ _ _ _ _ _ _ _ _ _ not_dependentschemas _ _ _ _ _ _ _ _ _ _ _ _ _ = absurd (not_dependentschemas refl)
assertion_left known.PrefixItems _ _ _ _ _ _ _ _ _ _ _ _ _ _ _ _ _ _ _ not_prefixitems _ _ _ _ _ _ _ _ _ _ _ _ = absurd (not_prefixitems refl)
assertion_left (known.Unevaluated k) _ _ _ _ _ _ _ _ _ _ _ _ _ _ _ _ _ _ _ _ not_unevaluated _ _ _ _ _ _ _ _ _ _ _ = absurd (not_unevaluated k refl)
assertion_left known.If _ _ _ _ _ _ _ _ _ _ _ _ _ _ _ _ _ _ _ _ _ not_if _ _ _ _ _ _ _ _ _ _ = absurd (not_if refl)
assertion_left known.Not _ _ _ _ _ _ _ _ _ _ _ _ _ _ _ _ _ _ _ _ _ _ not_not _ _ _ _ _ _ _ _ _ = absurd (not_not refl)
assertion_left known.Then _ _ _ _ _ _ _ _ _ _ _ _ _ _ _ _ _ _ _ _ _ _ _ not_then _ _ _ _ _ _ _ _ = absurd (not_then refl)
assertion_left known.Else _ _ _ _ _ _ _ _ _ _ _ _ _ _ _ _ _ _ _ _ _ _ _ _ not_else _ _ _ _ _ _ _ = absurd (not_else refl)
assertion_left known.AdditionalProperties _ _ _ _ _ _ _ _ _ _ _ _ _ _ _ _ _ _ _ _ _ _ _ _ _ not_additionalproperties _ _ _ _ _ _ = absurd (not_additionalproperties refl)
assertion_left known.Items _ _ _ _ _ _ _ _ _ _ _ _ _ _ _ _ _ _ _ _ _ _ _ _ _ _ not_items _ _ _ _ _ = absurd (not_items refl)
assertion_left known.AdditionalItems _ _ _ _ _ _ _ _ _ _ _ _ _ _ _ _ _ _ _ _ _ _ _ _ _ _ _ not_additionalitems _ _ _ _ = absurd (not_additionalitems refl)
assertion_left known.PatternProperties _ _ _ _ _ _ _ _ _ _ _ _ _ _ _ _ _ _ _ _ _ _ _ _ _ _ _ _ not_patternproperties _ _ _ = absurd (not_patternproperties refl)
assertion_left known.Reference _ _ _ _ _ _ _ _ _ _ _ _ _ _ _ _ _ _ _ _ _ _ _ _ _ _ _ _ _ not_reference _ _ = absurd (not_reference refl)
assertion_left (known.Text k) _ _ _ _ _ _ _ _ _ _ _ _ _ _ _ _ _ _ _ _ _ _ _ _ _ _ _ _ _ _ not_text _ = absurd (not_text k refl)
assertion_left known.Unknown _ _ _ _ _ _ _ _ _ _ _ _ _ _ _ _ _ _ _ _ _ _ _ _ _ _ _ _ _ _ _ not_unknown = absurd (not_unknown refl)
assertion_left known.Types _ _ _ _ _ _ _ _ _ _ _ _ _ _ _ _ _ _ _ _ _ _ _ _ _ _ _ _ _ _ _ _ = refl
assertion_left known.Enumeration _ _ _ _ _ _ _ _ _ _ _ _ _ _ _ _ _ _ _ _ _ _ _ _ _ _ _ _ _ _ _ _ = refl
assertion_left known.Constant _ _ _ _ _ _ _ _ _ _ _ _ _ _ _ _ _ _ _ _ _ _ _ _ _ _ _ _ _ _ _ _ = refl
assertion_left known.MultipleOf _ _ _ _ _ _ _ _ _ _ _ _ _ _ _ _ _ _ _ _ _ _ _ _ _ _ _ _ _ _ _ _ = refl
assertion_left (known.Limited l) _ _ _ _ _ _ _ _ _ _ _ _ _ _ _ _ _ _ _ _ _ _ _ _ _ _ _ _ _ _ _ _ = refl
assertion_left (known.Sized size) _ _ _ _ _ _ _ _ _ _ _ _ _ _ _ _ _ _ _ _ _ _ _ _ _ _ _ _ _ _ _ _ = refl
assertion_left known.UniqueItems _ _ _ _ _ _ _ _ _ _ _ _ _ _ _ _ _ _ _ _ _ _ _ _ _ _ _ _ _ _ _ _ = refl
assertion_left known.Required _ _ _ _ _ _ _ _ _ _ _ _ _ _ _ _ _ _ _ _ _ _ _ _ _ _ _ _ _ _ _ _ = refl
assertion_left known.DependentRequired _ _ _ _ _ _ _ _ _ _ _ _ _ _ _ _ _ _ _ _ _ _ _ _ _ _ _ _ _ _ _ _ = refl
assertion_left known.ContainsCount _ _ _ _ _ _ _ _ _ _ _ _ _ _ _ _ _ _ _ _ _ _ _ _ _ _ _ _ _ _ _ _ = refl
assertion_left known.Description _ _ _ _ _ _ _ _ _ _ _ _ _ _ _ _ _ _ _ _ _ _ _ _ _ _ _ _ _ _ _ _ = refl
assertion_left known.Default _ _ _ _ _ _ _ _ _ _ _ _ _ _ _ _ _ _ _ _ _ _ _ _ _ _ _ _ _ _ _ _ = refl
assertion_left known.Examples _ _ _ _ _ _ _ _ _ _ _ _ _ _ _ _ _ _ _ _ _ _ _ _ _ _ _ _ _ _ _ _ = refl
assertion_left known.Comment _ _ _ _ _ _ _ _ _ _ _ _ _ _ _ _ _ _ _ _ _ _ _ _ _ _ _ _ _ _ _ _ = refl
assertion_left known.Access _ _ _ _ _ _ _ _ _ _ _ _ _ _ _ _ _ _ _ _ _ _ _ _ _ _ _ _ _ _ _ _ = refl
assertion_left known.Deprecated _ _ _ _ _ _ _ _ _ _ _ _ _ _ _ _ _ _ _ _ _ _ _ _ _ _ _ _ _ _ _ _ = refl
assertion_left known.Content _ _ _ _ _ _ _ _ _ _ _ _ _ _ _ _ _ _ _ _ _ _ _ _ _ _ _ _ _ _ _ _ = refl
assertion_left known.Vocabulary _ _ _ _ _ _ _ _ _ _ _ _ _ _ _ _ _ _ _ _ _ _ _ _ _ _ _ _ _ _ _ _ = refl
assertion_left known.ContentSchema _ _ _ _ _ _ _ _ _ _ _ _ _ _ _ _ not_it _ _ _ _ _ _ _ _ _ _ _ _ _ _ _ = absurd (not_it refl)
assertion_left known.DynamicAnchor _ _ _ _ not_it _ _ _ _ _ _ _ _ _ _ _ _ _ _ _ _ _ _ _ _ _ _ _ _ _ _ _ = absurd (not_it refl)
assertion_left known.RecursiveAnchor _ _ _ _ _ not_it _ _ _ _ _ _ _ _ _ _ _ _ _ _ _ _ _ _ _ _ _ _ _ _ _ _ = absurd (not_it refl)
assertion_left known.DynamicReference _ _ _ _ _ _ not_it _ _ _ _ _ _ _ _ _ _ _ _ _ _ _ _ _ _ _ _ _ _ _ _ _ = absurd (not_it refl)
assertion_left known.RecursiveReference _ _ _ _ _ _ _ not_it _ _ _ _ _ _ _ _ _ _ _ _ _ _ _ _ _ _ _ _ _ _ _ _ = absurd (not_it refl)

-- any keyword but five says what its sense does
pub known_else : (numbered : Numbered) (s : Settings) (documents : Documents) (scope : Scope) (path : Path) (ms : Members) (name : List ℕ) (d : Data) (ks : List Keyword) (kw : Known)
    → (kw ≡ known.PatternProperties → ⊥) → (kw ≡ known.Reference → ⊥) → (kw ≡ known.DynamicReference → ⊥) → (kw ≡ known.RecursiveReference → ⊥) → ((text : TextKeyword) → kw ≡ known.Text text → ⊥)
    → SenseSays numbered name (sense s.draft ms path (path ++ key name ∷ []) kw d) ks → KnownSays numbered s documents scope path ms name kw d ks
known_else numbered s documents scope path ms name d ks known.Dialect patterns reference dynamic recursive text stated = stated
known_else numbered s documents scope path ms name d ks known.Reference patterns reference dynamic recursive text stated = absurd (reference refl)
known_else numbered s documents scope path ms name d ks known.Draft4Identifier patterns reference dynamic recursive text stated = stated
known_else numbered s documents scope path ms name d ks known.Identifier patterns reference dynamic recursive text stated = stated
known_else numbered s documents scope path ms name d ks known.Anchor patterns reference dynamic recursive text stated = stated
known_else numbered s documents scope path ms name d ks known.DynamicReference patterns reference dynamic recursive text stated = absurd (dynamic refl)
known_else numbered s documents scope path ms name d ks known.DynamicAnchor patterns reference dynamic recursive text stated = stated
known_else numbered s documents scope path ms name d ks known.RecursiveReference patterns reference dynamic recursive text stated = absurd (recursive refl)
known_else numbered s documents scope path ms name d ks known.RecursiveAnchor patterns reference dynamic recursive text stated = stated
known_else numbered s documents scope path ms name d ks known.Types patterns reference dynamic recursive text stated = stated
known_else numbered s documents scope path ms name d ks known.Enumeration patterns reference dynamic recursive text stated = stated
known_else numbered s documents scope path ms name d ks known.Constant patterns reference dynamic recursive text stated = stated
known_else numbered s documents scope path ms name d ks known.MultipleOf patterns reference dynamic recursive text stated = stated
known_else numbered s documents scope path ms name d ks (known.Limited l) patterns reference dynamic recursive text stated = stated
known_else numbered s documents scope path ms name d ks (known.Sized size) patterns reference dynamic recursive text stated = stated
known_else numbered s documents scope path ms name d ks known.UniqueItems patterns reference dynamic recursive text stated = stated
known_else numbered s documents scope path ms name d ks known.Required patterns reference dynamic recursive text stated = stated
known_else numbered s documents scope path ms name d ks known.Dependencies patterns reference dynamic recursive text stated = stated
known_else numbered s documents scope path ms name d ks known.DependentRequired patterns reference dynamic recursive text stated = stated
known_else numbered s documents scope path ms name d ks known.DependentSchemas patterns reference dynamic recursive text stated = stated
known_else numbered s documents scope path ms name d ks known.Properties patterns reference dynamic recursive text stated = stated
known_else numbered s documents scope path ms name d ks known.PatternProperties patterns reference dynamic recursive text stated = absurd (patterns refl)
known_else numbered s documents scope path ms name d ks known.AdditionalProperties patterns reference dynamic recursive text stated = stated
known_else numbered s documents scope path ms name d ks known.PropertyNames patterns reference dynamic recursive text stated = stated
known_else numbered s documents scope path ms name d ks known.PrefixItems patterns reference dynamic recursive text stated = stated
known_else numbered s documents scope path ms name d ks known.Items patterns reference dynamic recursive text stated = stated
known_else numbered s documents scope path ms name d ks known.AdditionalItems patterns reference dynamic recursive text stated = stated
known_else numbered s documents scope path ms name d ks known.Contains patterns reference dynamic recursive text stated = stated
known_else numbered s documents scope path ms name d ks known.ContainsCount patterns reference dynamic recursive text stated = stated
known_else numbered s documents scope path ms name d ks known.AllOf patterns reference dynamic recursive text stated = stated
known_else numbered s documents scope path ms name d ks known.AnyOf patterns reference dynamic recursive text stated = stated
known_else numbered s documents scope path ms name d ks known.OneOf patterns reference dynamic recursive text stated = stated
known_else numbered s documents scope path ms name d ks known.Not patterns reference dynamic recursive text stated = stated
known_else numbered s documents scope path ms name d ks known.If patterns reference dynamic recursive text stated = stated
known_else numbered s documents scope path ms name d ks known.Then patterns reference dynamic recursive text stated = stated
known_else numbered s documents scope path ms name d ks known.Else patterns reference dynamic recursive text stated = stated
known_else numbered s documents scope path ms name d ks known.Definitions patterns reference dynamic recursive text stated = stated
known_else numbered s documents scope path ms name d ks known.Defs patterns reference dynamic recursive text stated = stated
known_else numbered s documents scope path ms name d ks (known.Unevaluated p) patterns reference dynamic recursive text stated = stated
known_else numbered s documents scope path ms name d ks known.Description patterns reference dynamic recursive text stated = stated
known_else numbered s documents scope path ms name d ks known.Default patterns reference dynamic recursive text stated = stated
known_else numbered s documents scope path ms name d ks known.Examples patterns reference dynamic recursive text stated = stated
known_else numbered s documents scope path ms name d ks known.Comment patterns reference dynamic recursive text stated = stated
known_else numbered s documents scope path ms name d ks known.Access patterns reference dynamic recursive text stated = stated
known_else numbered s documents scope path ms name d ks known.Deprecated patterns reference dynamic recursive text stated = stated
known_else numbered s documents scope path ms name d ks known.Content patterns reference dynamic recursive text stated = stated
known_else numbered s documents scope path ms name d ks known.Vocabulary patterns reference dynamic recursive text stated = stated
known_else numbered s documents scope path ms name d ks known.ContentSchema patterns reference dynamic recursive text stated = stated
known_else numbered s documents scope path ms name d ks (known.Text k) patterns reference dynamic recursive text stated = absurd (text k refl)
known_else numbered s documents scope path ms name d ks known.Unknown patterns reference dynamic recursive text stated = stated
