-- What the walk that annotates appends: keyword by keyword, and target by target.
use Rattle.std.proofs.Common.{◌≡◌, ◌∙◌, ℕ, zero, suc, ◌+◌, ◌-◌, ◌<◌, ◌≤◌, List, [], ◌∷◌, ◌++◌, length, get_or, drop, map, refl, sym, ap, subst, arith, true, false, cond, append-nil, append_assoc, Bool, Vec, Global}
use Rattle.std.specs.List.{filter}
use Rattle.serde_json.specs.Data.{Data}
use Rattle.strkw_report.specs.declared.error.Site.{Site}
use Rattle.strkw_pattern.specs.declared.engine.Outcome.{Outcome}
use Rattle.strkw_keywords.specs.Meanings.{Lists}
use Rattle.neldrafi_schema.specs.declared.annotation.Annotation.{Annotation as FoundAnnotation}
use Rattle.neldrafi_schema.specs.declared.node.Body.TheVariants as body
use Rattle.neldrafi_schema.specs.declared.node.Keyword.{Keyword as CompiledKeyword}
use Rattle.neldrafi_schema.specs.declared.node.Node.{Node}
use Rattle.neldrafi_schema.specs.declared.node.Note.{Note as CompiledNote}
use Rattle.neldrafi_schema.specs.declared.targets.Target.{Target as FoundTarget}
use Rattle.neldrafi_schema.specs.Annotations.{Annotates, Annotating, Annotation, KeywordAnnotates, KeywordsAnnotate, SchemaAnnotates, annotation_of, applies, own_annotations}
use Rattle.neldrafi_schema.specs.Meaning.{Below, EachReports, Reports, site_of}
use Rattle.neldrafi_schema.specs.Refusals.{ends}
use Rattle.neldrafi_schema.specs.Schemas.{Branch, Header, Keyword, Note, Rule, Schema, rule}
use Rattle.neldrafi_schema.specs.machine.Annotated.{Annotated, AreAnnotated}
use Rattle.neldrafi_schema.specs.machine.Compiled.{body_of, header_of, keyword_of, keywords_of, note_of, notes_of, schemas_of, seen_data, target_of, targets_of}
use Rattle.neldrafi_schema.specs.machine.Ready.{steps_for}
use Rattle.neldrafi_schema.proofs.Appending.{appended_alike, both_appended, nothing_appended}
use Rattle.neldrafi_schema.proofs.Endings.{ends_inside, ends_some, schema_there}
use Rattle.neldrafi_schema.proofs.Lists.{drop_one, drop_past}
use Rattle.neldrafi_schema.proofs.Visiting.{is_body}

module _ {E : Type 0} (outcome : E → List ℕ → Outcome) (nodes : List (Node E)) (n steps : ℕ) (node : Node E) (is : node ≡ get_or nodes n node)
    (end : ends (schemas_of outcome nodes) steps n ≡ true) where
  -- what a node's schema annotates
  there : (lists : Lists) (j : ℕ) (d : Data) (site : Site) (found : List Annotation) → Annotates (schemas_of outcome nodes) lists (suc j) n d site found
      ≡ SchemaAnnotates (schemas_of outcome nodes) (Reports (schemas_of outcome nodes) lists j) (Annotates (schemas_of outcome nodes) lists j)
      (header_of node.header) (body_of outcome node.body) d site found
  unfolding Annotates
  there lists j d site found = rw (schema_there outcome nodes n node (ends_inside outcome nodes steps n end) is) refl

  -- with a step less for its keywords
  one_less : (lists : Lists) (d : Data) (k : ℕ) → steps_for (length nodes) d steps ≤ k → (j : ℕ) × (steps_for (length nodes) d (steps - 1) ≤ j)
      × ((site : Site) (found : List Annotation) → Annotates (schemas_of outcome nodes) lists k n d site found
      ≡ SchemaAnnotates (schemas_of outcome nodes) (Reports (schemas_of outcome nodes) lists j) (Annotates (schemas_of outcome nodes) lists j)
      (header_of node.header) (body_of outcome node.body) d site found)
  one_less lists d zero h = absurd (omega (arith, ends_some (schemas_of outcome nodes) steps n end))
  one_less lists d (suc j) h = (j, omega (arith, ends_some (schemas_of outcome nodes) steps n end), there lists j d)

  -- a Boolean annotates nothing
  none_of : (b : _) → ((ks : Vec (CompiledKeyword E) Global) → b ≡ body.Keywords ks → ⊥) → (schemas : List Schema) (below : Below) (inner : Annotating) (header : Header) (d : Data) (site : Site)
      → SchemaAnnotates schemas below inner header (body_of outcome b) d site []
  none_of body.Always other schemas below inner header d site = refl
  none_of body.Never other schemas below inner header d site = refl
  none_of (body.Keywords ks) other schemas below inner header d site = absurd (other ks refl)

  pub nothing_annotated : ((ks : Vec (CompiledKeyword E) Global) → (get_or nodes n node).body ≡ body.Keywords ks → ⊥) → (lists : Lists) (d : Data) (k : ℕ) (site : Site)
      (old : List FoundAnnotation) → steps_for (length nodes) d steps ≤ k → Annotated (Annotates (schemas_of outcome nodes) lists k n d site) old old
  nothing_annotated other lists d k site old h =
      let (j, less, same) = one_less lists d k h in
      nothing_appended _ old (subst (λ X. X) (sym (same site [])) (none_of node.body (λ ks e. other ks (ap (λ t. t.body) (sym is) ∙ e)) (schemas_of outcome nodes)
      (Reports (schemas_of outcome nodes) lists j) (Annotates (schemas_of outcome nodes) lists j) (header_of node.header) d site))

  -- those of its keywords
  module _ (ks : Vec (CompiledKeyword E) Global) (items : List (CompiledKeyword E)) (e : (get_or nodes n node).body ≡ body.Keywords ks) (read : items ≡ ks.items) where
    pub keywords_annotated : (lists : Lists) (d : Data) (k : ℕ) (site : Site) (old mid new : List FoundAnnotation) (i : ℕ) → length items ≤ i
        → steps_for (length nodes) d steps ≤ k → Annotated (λ found. found ≡ own_annotations (header_of (get_or nodes n node).header) d site) old mid
        → ((j : ℕ) → steps_for (length nodes) d (steps - 1) ≤ j → Annotated (λ found. (later : List Annotation)
        → KeywordsAnnotate (schemas_of outcome nodes) (Reports (schemas_of outcome nodes) lists j) (Annotates (schemas_of outcome nodes) lists j)
        (keywords_of outcome items) (keywords_of outcome (drop i items)) d site later
        → KeywordsAnnotate (schemas_of outcome nodes) (Reports (schemas_of outcome nodes) lists j) (Annotates (schemas_of outcome nodes) lists j)
        (keywords_of outcome items) (keywords_of outcome items) d site (found ++ later)) mid new)
        → Annotated (Annotates (schemas_of outcome nodes) lists k n d site) old new
    keywords_annotated lists d k site old mid new i all enough own so =
        let (j, less, same) = one_less lists d k enough in
        let All = KeywordsAnnotate (schemas_of outcome nodes) (Reports (schemas_of outcome nodes) lists j) (Annotates (schemas_of outcome nodes) lists j)
        (keywords_of outcome items) (keywords_of outcome items) d site in
        both_appended _ _ _ old mid new
        (λ es fs first p. subst (λ X. X) (sym (same site (es ++ fs)))
        (rw (is_body outcome nodes n steps node is end ks items e read)
        (fs, subst All (append-nil fs) (p [] (rw (drop_past items i all) refl)), ap (λ l. l ++ fs) (first ∙ ap (λ h. own_annotations h d site) (sym (ap (λ t. header_of t.header) is))))))
        own (so j less)

module _ {E : Type 0} (outcome : E → List ℕ → Outcome) (schemas : List Schema) (below : Below) (inner : Annotating) (d : Data) (site : Site)
    (items : List (CompiledKeyword E)) where
  -- with the annotations of the keywords that are left
  abbrev pub KeywordsLeft : List (CompiledKeyword E) → List Annotation → Type 0
  KeywordsLeft left found = (later : List Annotation) → KeywordsAnnotate schemas below inner (keywords_of outcome items) (keywords_of outcome left) d site later
      → KeywordsAnnotate schemas below inner (keywords_of outcome items) (keywords_of outcome items) d site (found ++ later)

  module _ (beside : List (CompiledKeyword E)) (i : ℕ) (key : CompiledKeyword E) (inside : i < length items) (at : key ≡ get_or items i key) (read : beside ≡ items) where
    first_keyword : (es fs : List Annotation) → KeywordsLeft (key ∷ drop (i + 1) items) es
        → KeywordAnnotates schemas below inner (keywords_of outcome items) (keyword_of outcome key) d site fs → KeywordsLeft (drop (i + 1) items) (es ++ fs)
    first_keyword es fs p q later rest =
        subst (λ l. KeywordsAnnotate schemas below inner (keywords_of outcome items) (keywords_of outcome items) d site l) (sym (append_assoc es fs later)) (p (fs ++ later) (fs, later, q, rest, refl))

    pub keyword_annotated : (old mid new : List FoundAnnotation) → Annotated (KeywordsLeft (drop i items)) old mid
        → Annotated (KeywordAnnotates schemas below inner (keywords_of outcome beside) (keyword_of outcome key) d site) mid new → Annotated (KeywordsLeft (drop (i + 1) items)) old new
    keyword_annotated old mid new before this =
        both_appended (KeywordsLeft (key ∷ drop (i + 1) items)) _ (KeywordsLeft (drop (i + 1) items)) old mid new first_keyword
        (subst (λ l. Annotated (KeywordsLeft l) old mid) (drop_one items i key inside at) before)
        (subst (λ l. Annotated (KeywordAnnotates schemas below inner (keywords_of outcome l) (keyword_of outcome key) d site) mid new) read this)

module _ (schemas : List Schema) (below : Below) (inner : Annotating) (beside : List Keyword) (word : List ℕ) (r : Rule) (bs : List Branch) (d : Data) (site : Site)
    (items : List FoundTarget) where
  -- with the annotations of the targets that are left
  abbrev pub TargetsLeft : List FoundTarget → List Annotation → Type 0
  TargetsLeft left found = (later : List Annotation) → EachReports inner site word (targets_of left) later
      → KeywordAnnotates schemas below inner beside (rule word r bs) d site (found ++ later)

  pub no_targets_yet : (old : List FoundAnnotation) → AreAnnotated schemas below beside (rule word r bs) d site (targets_of items) → Annotated (TargetsLeft items) old old
  no_targets_yet old (vs, left, tests, rest, same) =
      nothing_appended _ old (λ later each. (vs, left, tests, rest, subst (λ ts. EachReports inner site word ts later) same each))

  module _ (i : ℕ) where
    pub no_targets_left : (old new : List FoundAnnotation) → length items ≤ i → Annotated (TargetsLeft (drop i items)) old new
        → Annotated (KeywordAnnotates schemas below inner beside (rule word r bs) d site) old new
    no_targets_left old new all = appended_alike _ _ old new
        (λ found p. subst (λ l. KeywordAnnotates schemas below inner beside (rule word r bs) d site l) (append-nil found) (p [] (rw (drop_past items i all) refl)))

    module _ (t : FoundTarget) (inside : i < length items) (at : t ≡ get_or items i t) where
      first_target : (es fs : List Annotation) → TargetsLeft (t ∷ drop (i + 1) items) es → inner t.schema (seen_data t.value) (site_of site word (target_of t)) fs
          → TargetsLeft (drop (i + 1) items) (es ++ fs)
      first_target es fs p q later rest =
          subst (λ l. KeywordAnnotates schemas below inner beside (rule word r bs) d site l) (sym (append_assoc es fs later)) (p (fs ++ later) (fs, later, q, rest, refl))

      pub target_annotated : (old mid new : List FoundAnnotation) → Annotated (TargetsLeft (drop i items)) old mid
          → Annotated (inner t.schema (seen_data t.value) (site_of site word (target_of t))) mid new → Annotated (TargetsLeft (drop (i + 1) items)) old new
      target_annotated old mid new before this =
          both_appended (TargetsLeft (t ∷ drop (i + 1) items)) _ (TargetsLeft (drop (i + 1) items)) old mid new first_target
          (subst (λ l. Annotated (TargetsLeft l) old mid) (drop_one items i t inside at) before) this

-- note by note
module _ (header : Header) (d : Data) (site : Site) (items : List CompiledNote) where
  abbrev made : List Note → List Annotation
  made ns = map (annotation_of header site) (filter (applies d) ns)

  -- with the annotations of the notes that are left
  abbrev pub NotesLeft : List CompiledNote → List Annotation → Type 0
  NotesLeft left found = found ++ made (notes_of left) ≡ made (notes_of items)

  one_kept : (b : Bool) (n : Note) (ns : List Note) → map (annotation_of header site) (cond b (n ∷ filter (applies d) ns) (filter (applies d) ns))
      ≡ map (annotation_of header site) (cond b (n ∷ []) []) ++ made ns
  one_kept true n ns = refl
  one_kept false n ns = refl

  module _ (i : ℕ) (note : CompiledNote) (inside : i < length items) (at : note ≡ get_or items i note) where
    first_note : (es fs : List Annotation) → NotesLeft (note ∷ drop (i + 1) items) es → fs ≡ made (note_of note ∷ []) → NotesLeft (drop (i + 1) items) (es ++ fs)
    first_note es fs p q = append_assoc es fs (made (notes_of (drop (i + 1) items))) ∙ ap (λ l. es ++ (l ++ made (notes_of (drop (i + 1) items)))) q
        ∙ ap (λ l. es ++ l) (sym (one_kept (applies d (note_of note)) (note_of note) (notes_of (drop (i + 1) items)))) ∙ p

    pub note_annotated : (old mid new : List FoundAnnotation) → Annotated (NotesLeft (drop i items)) old mid
        → Annotated (λ l. l ≡ made (note_of note ∷ [])) mid new → Annotated (NotesLeft (drop (i + 1) items)) old new
    note_annotated old mid new before this = both_appended (NotesLeft (note ∷ drop (i + 1) items)) _ (NotesLeft (drop (i + 1) items)) old mid new first_note
        (subst (λ l. Annotated (NotesLeft l) old mid) (drop_one items i note inside at) before) this

  pub all_annotated : (i : ℕ) (old new : List FoundAnnotation) → length items ≤ i → Annotated (NotesLeft (drop i items)) old new
      → Annotated (λ l. l ≡ made (notes_of items)) old new
  all_annotated i old new all = appended_alike _ _ old new
      (λ found p. sym (append-nil found) ∙ ap (λ l. found ++ made (notes_of l)) (sym (drop_past items i all)) ∙ p)
