-- On an object whose value at `contentSchema` was taken out.
use Rattle.std.proofs.Common.{◌≡◌, ℕ, List, [], ◌∷◌, Bool, true, false, if◌then◌else◌, Option, Some, None, option_map, Result, String, Global, BTreeMap}
use Rattle.std.proofs.Common.{string_bytes, string_cmp, nat_cmp, refl, sym, ap, ◌∙◌, subst, MatchOption}
use Rattle.std.proofs.Math.Path.{fun_ext}
use Rattle.std.proofs.lemmas.Map.Text.{btree_map_updates_text}
use Rattle.std.specs.BTreeMap.{get_by, UpdatesBy}
use Rattle.std.specs.Cmp.Lexicographic.{slice_cmp}
use Rattle.std.specs.List.{AllByRecursion}
use Rattle.std.specs.Str.{bytes_eq}
use Rattle.serde_json.specs.Data.{Data, Members}
use Rattle.serde_json.specs.Find.{get_member}
use Rattle.serde_json.specs.View.{view, members_view}
use Rattle.serde_json.specs.declared.value.Value.{Value}
use Rattle.serde_json.proofs.Views.{view-lookup}
use Rattle.strkw_report.specs.declared.refusal.CompileError.{CompileError}
use Rattle.strkw_coding.specs.declared.media_type.BuiltinMediaType.{BuiltinMediaType}
use Rattle.strkw_pattern.specs.declared.engine.Outcome.{Outcome}
use Rattle.strkw_keywords.specs.declared.keyword.Keyword.{Keyword}
use Rattle.strkw_keywords.specs.declared.keyword.Keyword.TheVariants.{ContentMediaType, ContentEncoding, ContentSchema, Format, MinLength, MaxLength, Pattern}
use Rattle.strkw_keywords.specs.declared.compile.Refused.{Refused}
use Rattle.strkw_keywords.specs.declared.validator.Validator.{Validator}
use Rattle.strkw_keywords.specs.Keywords.{keyword_name}
use Rattle.strkw_keywords.specs.Meanings.{Choice}
use Rattle.strkw_keywords.specs.declared.content_rule.ContentRule.{ContentRule}
use Rattle.strkw_keywords.specs.declared.content_rule.ContentRule.TheVariants.{Ignored, Checked, Noted}
use Rattle.strkw_keywords.specs.Object.{Settings, Entry, nothing, Keyed, content_rule, of_text, known_media_type, media_type_beside, media_type_check}
use Rattle.strkw_keywords.specs.Object.{media_type_entry, encoding_beside, encoding_entry, schema_entry, schema_beside, is_overridden, value_at, is_fused}
use Rattle.strkw_keywords.specs.Object.{share, IsEntryOf, IsEntryAt, AreEntriesOf}
use Rattle.strkw_keywords.specs.Compiled.{single_entry, IsBuilt, IsBuiltAt, IsCompiledAt}
use Rattle.strkw_keywords.specs.Without.{KeepsOthers, IsWithoutSchema}
use Rattle.strkw_keywords.proofs.EntriesOf.{absent, schema_built}

-- a keyword that is not `contentSchema` has another name
apart : (k : Keyword) → (k ≡ ContentSchema → ⊥) → bytes_eq (keyword_name ContentSchema) (keyword_name k) ≡ false
apart ContentMediaType other = refl
apart ContentEncoding other = refl
apart ContentSchema other = absurd (other refl)
apart Format other = refl
apart MinLength other = refl
apart MaxLength other = refl
apart Pattern other = refl

-- so an object without that at `contentSchema` has the values of the object at the other keywords
pub same_others : (ms others : Members) → KeepsOthers ms others → (k : Keyword) → (k ≡ ContentSchema → ⊥)
    → get_member (keyword_name k) others ≡ get_member (keyword_name k) ms
same_others ms others keeps k other = keeps.kept (keyword_name k) (apart k other)

-- ---- the value at a name is removed, and that name is `contentSchema`

module _ (m n : BTreeMap (String Global) Value) (name : List ℕ) (is : name ≡ keyword_name ContentSchema)
    (updates : UpdatesBy string_cmp (λ k. slice_cmp nat_cmp name (string_bytes k)) m n None) where
  -- the object then has no value at `contentSchema`, and keeps its other members
  pub without : IsWithoutSchema (members_view m.entries) (members_view n.entries)
  without = record {
    taken =
        let gone = btree_map_updates_text name m n None updates (keyword_name ContentSchema) in
        sym (view-lookup (keyword_name ContentSchema) n.entries) ∙ ap (option_map view) (rw is at gone);
    left = record {
      kept = λ other apart.
          let kept = btree_map_updates_text name m n None updates other in
          sym (view-lookup other n.entries) ∙ ap (option_map view) (rw (is, apart) at kept) ∙ view-lookup other m.entries;
    };
  }

  -- what is found at the name is the value that the object had at `contentSchema`
  pub was_there : (r : Option Value) → r ≡ get_by (λ k. slice_cmp nat_cmp name (string_bytes k)) m
      → get_member (keyword_name ContentSchema) (members_view m.entries) ≡ option_map view r
  was_there r value = rw (← is) (sym (ap (option_map view) value ∙ view-lookup name m.entries))

-- ---- what is compiled of the parts is compiled of the object

module _ {E : Type 0} (outcome : E → List ℕ → Outcome) (s : Settings) (ms : Members) where
  -- where there is no value, there is none with an override or without
  unless : (b : Bool) (d : Option Data) → None ≡ d → None ≡ (if b then None else d)
  unless true d e = refl
  unless false d e = e

  -- where there is no value, nothing is compiled
  pub none_compiled : (k : Keyword) → get_member (keyword_name k) ms ≡ None → IsCompiledAt outcome s ms k None
  none_compiled k e = absent outcome s ms k (unless (is_overridden s.options k) _ (sym e))

  -- what is built of the entry of the value there is built of the object
  pub schema_taken : (v : Value) (r : Result (Option (Validator E)) Refused) → get_member (keyword_name ContentSchema) ms ≡ Some (view v)
      → is_overridden s.options ContentSchema ≡ false
      → IsBuilt outcome s.place (single_entry ContentSchema (schema_entry (content_rule s.draft) ms (view v))) r → IsBuiltAt outcome s ms ContentSchema r
  schema_taken v r there looked_at h = schema_built outcome s ms (content_rule s.draft) (view v) r refl (rw looked_at there) h

-- two objects have the same values at the keywords that are seen, and those are seen that other entries look at
module _ {E : Type 0} (outcome : E → List ℕ → Outcome) (s : Settings) (ms others : Members) (Seen : Keyword → Type 0)
    (same : (k : Keyword) → Seen k → get_member (keyword_name k) others ≡ get_member (keyword_name k) ms)
    (media_type : Seen ContentMediaType) (encoding : Seen ContentEncoding) (least : Seen MinLength) (greatest : Seen MaxLength) where
  -- ---- the schema, by what is beside it

  -- a value at `contentSchema` comes to the same in both objects
  same_schema : (rule : ContentRule) (d : Data) → schema_entry rule others d ≡ schema_entry rule ms d
  same_schema Ignored d = refl
  same_schema Checked d = refl
  same_schema Noted d = ap (λ m. schema_beside m d) (same ContentMediaType media_type)

  -- ---- the other keywords

  -- the value at a keyword that is seen is the same in both objects
  same_value : (k : Keyword) → Seen k → value_at s.options k others ≡ value_at s.options k ms
  same_value k seen = ap (λ v. if is_overridden s.options k then None else v) (same k seen)

  -- a media type that may be known is checked in the same way in both objects
  same_check : (m : Option (Choice BuiltinMediaType)) → media_type_check s others m ≡ media_type_check s ms m
  same_check None = refl
  same_check (Some m) = ap (media_type_beside s m) (same ContentEncoding encoding)

  -- a value at `contentMediaType` comes to the same in both objects
  same_media_type : (rule : ContentRule) (d : Data) → media_type_entry rule s others d ≡ media_type_entry rule s ms d
  same_media_type Ignored d = refl
  same_media_type Checked d = ap (λ entry. of_text entry ContentMediaType d) (fun_ext (λ name. same_check (known_media_type s.lists s.options name)))
  same_media_type Noted d = refl

  -- a value at `contentEncoding` comes to the same in both objects
  same_encoding : (rule : ContentRule) (d : Data) → encoding_entry rule s others d ≡ encoding_entry rule s ms d
  same_encoding Ignored d = refl
  same_encoding Checked d = ap (λ m. encoding_beside s m d) (same ContentMediaType media_type)
  same_encoding Noted d = refl

  -- what a value at a keyword comes to in the others, it comes to in the object
  same_entry : (k : Keyword) (d : Data) (e : Entry) → IsEntryOf s others k d e → IsEntryOf s ms k d e
  same_entry ContentMediaType d e h = h ∙ same_media_type (content_rule s.draft) d
  same_entry ContentEncoding d e h = h ∙ same_encoding (content_rule s.draft) d
  same_entry ContentSchema d e h = h ∙ same_schema (content_rule s.draft) d
  same_entry Format d e h = h
  same_entry MinLength d e h = h
  same_entry MaxLength d e h = h
  same_entry Pattern d e h = h

  -- the same where there may be no value
  same_at : (k : Keyword) (v : Option Data) (e : Entry) → MatchOption v (e ≡ nothing) (λ d. IsEntryOf s others k d e)
      → MatchOption v (e ≡ nothing) (λ d. IsEntryOf s ms k d e)
  same_at k None e h = h
  same_at k (Some d) e h = same_entry k d e h

  -- the entry at a keyword that is seen of the others is that of the object
  entry_at : (k : Keyword) (e : Entry) → Seen k → IsEntryAt s others k e → IsEntryAt s ms k e
  entry_at k e seen h = subst (λ v. MatchOption v (e ≡ nothing) (λ d. IsEntryOf s ms k d e)) (same_value k seen) (same_at k (value_at s.options k others) e h)

  -- and so are the entries of keywords that are all seen
  entries_at : (ks : List Keyword) (es : List Keyed) → AllByRecursion Seen ks → AreEntriesOf s others ks es → AreEntriesOf s ms ks es
  entries_at [] es seen h = h
  entries_at (k ∷ ks) es (seen, more) (e, rest, at, is, are) = (e, rest, entry_at k e seen at, is, entries_at ks rest more are)

  -- all keywords of the share of a keyword that is seen are seen
  share_seen : (fused : Bool) (k : Keyword) → Seen k → AllByRecursion Seen (share fused k)
  share_seen fused ContentMediaType seen = (seen, tt)
  share_seen fused ContentEncoding seen = (seen, tt)
  share_seen fused ContentSchema seen = (seen, tt)
  share_seen fused Format seen = (seen, tt)
  share_seen true MinLength seen = (seen, (greatest, tt))
  share_seen false MinLength seen = (seen, tt)
  share_seen true MaxLength seen = tt
  share_seen false MaxLength seen = (seen, tt)
  share_seen fused Pattern seen = (seen, tt)

  -- the lengths are fused in both objects, or in neither
  same_fused : is_fused s.options others ≡ is_fused s.options ms
  same_fused = rw (same_value MinLength least, same_value MaxLength greatest) refl

  -- and so is what is compiled of a keyword that is seen
  seen_compiled : (k : Keyword) (r : Option (Result (Validator E) CompileError)) → Seen k → IsCompiledAt outcome s others k r → IsCompiledAt outcome s ms k r
  seen_compiled k r seen h = record {
    entries = h.entries;
    are_entries = subst (λ b. AreEntriesOf s ms (share b k) h.entries) same_fused
        (entries_at _ h.entries (share_seen (is_fused s.options others) k seen) h.are_entries);
    answer = h.answer;
  }

module _ {E : Type 0} (outcome : E → List ℕ → Outcome) (s : Settings) (ms others : Members) where
  -- all values are the same
  -- so what is compiled of a keyword of the others is compiled of the object
  pub same_compiled : ((k : Keyword) → get_member (keyword_name k) others ≡ get_member (keyword_name k) ms)
      → (k : Keyword) (r : Option (Result (Validator E) CompileError)) → IsCompiledAt outcome s others k r → IsCompiledAt outcome s ms k r
  same_compiled same k r h = seen_compiled outcome s ms others (λ w. Unit {0}) (λ w seen. same w) tt tt tt tt k r tt h

-- all but that at `contentSchema` are
-- so what is compiled of another keyword of the others is compiled of the object
pub other_compiled : {E : Type 0} (outcome : E → List ℕ → Outcome) (s : Settings) (ms others : Members)
    → ((k : Keyword) → (k ≡ ContentSchema → ⊥) → get_member (keyword_name k) others ≡ get_member (keyword_name k) ms)
    → (k : Keyword) (r : Option (Result (Validator E) CompileError)) → (k ≡ ContentSchema → ⊥) → IsCompiledAt outcome s others k r
    → IsCompiledAt outcome s ms k r
other_compiled outcome s ms others same k r other h =
    seen_compiled outcome s ms others (λ w. w ≡ ContentSchema → ⊥) same (λ e. absurd (cc)) (λ e. absurd (cc)) (λ e. absurd (cc)) (λ e. absurd (cc)) k r other h
