-- The steps of the compilation of a whole schema object.
use Rattle.std.proofs.Common.{◌≡◌, ◌⊎◌, ◌<◌, ℕ, zero, suc, ◌+◌, List, [], ◌∷◌, ◌++◌, Option, Some, None, Result, Ok, Err, refl, sym, ◌∙◌, subst, inl, inr}
use Rattle.std.proofs.Common.{length, get_or, take, arith}
use Rattle.serde_json.specs.Data.{Members}
use Rattle.strkw_report.specs.Refusals.{refusal_of}
use Rattle.strkw_report.specs.declared.refusal.CompileError.{CompileError}
use Rattle.strkw_pattern.specs.declared.engine.Outcome.{Outcome}
use Rattle.strkw_keywords.specs.declared.keyword.Keyword.{Keyword}
use Rattle.strkw_keywords.specs.declared.keyword.Keyword.TheVariants.{ContentSchema}
use Rattle.strkw_keywords.specs.declared.validator.Validator.{Validator}
use Rattle.strkw_keywords.specs.Object.{Settings, Keyed, AreEntries, AreEntriesOf, is_fused, refusal, keywords, share, shares, FirstRefusal}
use Rattle.strkw_keywords.specs.Compiled.{out_of_memory_refusal, IsCompiledAt}
use Rattle.strkw_keywords.specs.declared.values.Values.{Values}
use Rattle.strkw_keywords.specs.Values.{AreValuesOf, held_value, members_of}
use Rattle.strkw_keywords.proofs.Entries.{entries_of_exist}
use Rattle.strkw_keywords.proofs.EntriesOf.{entries_both, shares_all, shares_at, shares_more}
use Rattle.strkw_keywords.proofs.Held.{held_value_is_member, same_members}
use Rattle.strkw_keywords.proofs.Without.{none_compiled, other_compiled, same_compiled}
use Rattle.strkw_object.specs.declared.strings.StringKeywords.{StringKeywords}
use Rattle.strkw_object.specs.Compiled.{IsCompiledFrom}
use Rattle.strkw_object.specs.Values.{AreOthersOf}
use Rattle.strkw_object.proofs.Steps.{Stand, stand_still, stand_more, refusal-found, refusal-passed}

module _ {E : Type 0} (outcome : E → List ℕ → Outcome) (s : Settings) (ms : Members) where
  -- the entries of these keywords, and of those that are fused with them, are stood for
  abbrev pub Done : List Keyword → List (Validator E) → Type 0
  Done ks vs = (es : List Keyed) × AreEntriesOf s ms (shares (is_fused s.options ms) ks) es × Stand outcome s.place es vs

  -- without keywords there are no entries, and no validators that stand for them
  pub none_done : (vs : List (Validator E)) → vs ≡ [] → Done [] vs
  none_done vs none = ([], refl, rw none (record { good = refl; asserts = refl; notes = refl }))

  -- the entries of one keyword more
  more_entries : (ks : List Keyword) (i : ℕ) (k : Keyword) (es fs : List Keyed) → i < length ks → k ≡ get_or ks i k
      → AreEntriesOf s ms (shares (is_fused s.options ms) (take i ks)) es → AreEntriesOf s ms (share (is_fused s.options ms) k) fs
      → AreEntriesOf s ms (shares (is_fused s.options ms) (take (i + 1) ks)) (es ++ fs)
  more_entries ks i k es fs h e are others =
      subst (λ l. AreEntriesOf s ms l (es ++ fs)) (sym (shares_more (is_fused s.options ms) ks i k h e)) (entries_both s ms _ _ es fs are others)

  -- where one keyword more adds nothing, the same validators stand for the entries
  pub done_still : (ks : List Keyword) (i : ℕ) (k : Keyword) (vs : List (Validator E)) → i < length ks → k ≡ get_or ks i k → Done (take i ks) vs
      → IsCompiledAt outcome s ms k None → Done (take (i + 1) ks) vs
  done_still ks i k vs h e (es, are, stand) compiled = (
    es ++ compiled.entries,
    more_entries ks i k es compiled.entries h e are compiled.are_entries,
    stand_still outcome s.place es compiled.entries vs stand
        compiled.answer.answer,
  )

  -- where a validator is compiled of one keyword more, it stands behind the others for the entries
  pub done_more : (ks : List Keyword) (i : ℕ) (k : Keyword) (vs : List (Validator E)) (v : Validator E) → i < length ks → k ≡ get_or ks i k
      → Done (take i ks) vs → IsCompiledAt outcome s ms k (Some (Ok v)) → Done (take (i + 1) ks) (vs ++ v ∷ [])
  done_more ks i k vs v h e (es, are, stand) compiled = (
    es ++ compiled.entries,
    more_entries ks i k es compiled.entries h e are compiled.are_entries,
    stand_more outcome s.place es compiled.entries vs v stand
        compiled.answer.answer,
  )

  -- ---- the object

  -- the first refusal of the entries, or out of memory
  abbrev pub IsRefusal : CompileError → Type 0
  IsRefusal e = (refusal_of e ≡ out_of_memory_refusal) ⊎ FirstRefusal s ms (Some (refusal_of e))

  -- a first refusal behind entries that are not refused is the first of all, or out of memory
  refused_there : (before at later : List Keyed) (e : CompileError) → refusal s.place before ≡ None → (refusal_of e ≡ out_of_memory_refusal)
      ⊎ (refusal s.place at ≡ Some (refusal_of e))
      → (refusal_of e ≡ out_of_memory_refusal) ⊎ (refusal s.place (before ++ (at ++ later)) ≡ Some (refusal_of e))
  refused_there before at later e good (inl none) = inl none
  refused_there before at later e good (inr first) = inr (refusal-passed s.place before (at ++ later) good
      ∙ refusal-found s.place at later (refusal_of e) first)

  -- the first refusal of an object's entries, or out of memory, is the refusal of the object
  first_of : (es : List Keyed) (e : CompileError) → AreEntries s ms es → (refusal_of e ≡ out_of_memory_refusal) ⊎ (refusal s.place es ≡ Some (refusal_of e))
      → IsRefusal e
  first_of es e are (inl none) = inl none
  first_of es e are (inr first) = inr (es, are, first)

  -- the error of a keyword behind done ones is the object's first refusal, or out of memory
  pub done_refused : (i : ℕ) (k : Keyword) (vs : List (Validator E)) (error : CompileError) → i < length keywords → k ≡ get_or keywords i k
      → Done (take i keywords) vs → IsCompiledAt outcome s ms k (Some (Err error)) → IsRefusal error
  done_refused i k vs error h e (es, are, stand) compiled =
      let fs = compiled.entries in
      let (later, same) = shares_at (is_fused s.options ms) keywords i k h e in
      let (gs, others) = entries_of_exist s ms later in
      let whole = entries_both s ms _ _ es (fs ++ gs) are (entries_both s ms _ _ fs gs compiled.are_entries others) in
      first_of (es ++ (fs ++ gs)) error (record { in_order = subst (λ l. AreEntriesOf s ms l (es ++ (fs ++ gs))) (sym same ∙ shares_all s ms) whole })
      (refused_there es fs gs error stand.good compiled.answer.answer)

  -- keywords whose validators stand for the entries of all keywords are compiled from the object
  pub compiled_object : (k : StringKeywords E) → Done keywords k.validators.items → IsCompiledFrom outcome s ms k
  compiled_object k (es, are, stand) = record {
    entries = es;
    are_entries = record { in_order = subst (λ l. AreEntriesOf s ms l es) (shares_all s ms) are };
    good = stand.good;
    asserts = stand.asserts;
    notes = stand.notes;
  }

-- ---- an object by the values at the other keywords, and by what its entry at `contentSchema` is compiled to

-- that entry is the third
third : (i : ℕ) → i < length keywords → ContentSchema ≡ get_or keywords i ContentSchema → i ≡ 2
third zero h e = absurd (cc)
third (suc zero) h e = absurd (cc)
third (suc (suc zero)) h e = refl
third (suc (suc (suc zero))) h e = absurd (cc)
third (suc (suc (suc (suc zero)))) h e = absurd (cc)
third (suc (suc (suc (suc (suc zero))))) h e = absurd (cc)
third (suc (suc (suc (suc (suc (suc zero)))))) h e = absurd (cc)
third (suc (suc (suc (suc (suc (suc (suc i))))))) h e = absurd (omega (arith, h))

module _ {E : Type 0} (outcome : E → List ℕ → Outcome) (s : Settings) (values : Values)
    (given : Option (Result (Validator E) CompileError)) where
  -- of each such object the entries in front of a place are compiled, and that at `contentSchema` waits until it is
  -- asked
  pub record Beside (i : ℕ) (waiting : Option (Result (Validator E) CompileError)) (vs : List (Validator E)) : Type 0 where
    pub done : (ms : Members) → AreOthersOf ms values → IsCompiledAt outcome s ms ContentSchema given → Done outcome s ms (take i keywords) vs
    pub waits : i < 3 → waiting ≡ given

  -- of each such object this is what the entry at a place is compiled to
  pub record Asked (i : ℕ) (k : Keyword) (waiting compiled : Option (Result (Validator E) CompileError)) : Type 0 where
    pub asked : (ms : Members) → AreOthersOf ms values → IsCompiledAt outcome s ms ContentSchema given → IsCompiledAt outcome s ms k compiled
    pub waits : i + 1 < 3 → waiting ≡ given

  -- at the start nothing is compiled, and what is given for `contentSchema` waits
  pub none_beside : (vs : List (Validator E)) → vs ≡ [] → Beside 0 given vs
  none_beside vs none = record { done = λ ms has schema. none_done outcome s ms vs none; waits = λ h. refl }

  -- the entry at `contentSchema` is asked at its place, and no longer waits
  pub asked_schema : (i : ℕ) (k : Keyword) (waiting compiled later : Option (Result (Validator E) CompileError)) (vs : List (Validator E)) → i < length keywords
      → k ≡ get_or keywords i k → k ≡ ContentSchema → compiled ≡ waiting
      → Beside i waiting vs → Asked i k later compiled
  asked_schema i k waiting compiled later vs h at is same b =
      let place : i ≡ 2 = third i h (rw is at at) in
      record {
        asked = λ ms has schema. rw (is, same, b.waits (omega (arith, place))) schema;
        waits = λ before. absurd (omega (arith, place, before));
      }

  -- any other keyword is compiled of the values
  pub asked_other : (i : ℕ) (k : Keyword) (waiting compiled : Option (Result (Validator E) CompileError))
      (vs : List (Validator E)) → (k ≡ ContentSchema → ⊥)
      → ((others : Members) → AreValuesOf others values → IsCompiledAt outcome s others k compiled)
      → Beside i waiting vs → Asked i k waiting compiled
  asked_other i k waiting compiled vs other h b = record {
    asked = λ ms has schema. other_compiled outcome s ms (members_of values)
        (λ w apart. sym (held_value_is_member (held_value values) w) ∙ has.same w apart) k compiled other
        (h (members_of values) (record { same = held_value_is_member (held_value values) }));
    waits = λ before. b.waits (omega (arith, before));
  }

  -- where nothing is compiled of the entry at a place, there is no validator more
  pub beside_still : (i : ℕ) (k : Keyword) (waiting later compiled : Option (Result (Validator E) CompileError)) (vs : List (Validator E)) → i < length keywords
      → k ≡ get_or keywords i k
      → Beside i waiting vs → Asked i k later compiled → compiled ≡ None → Beside (i + 1) later vs
  beside_still i k waiting later compiled vs h at b a is = record {
    done = λ ms has schema. done_still outcome s ms keywords i k vs h at (b.done ms has schema) (rw is at a.asked ms has schema);
    waits = a.waits;
  }

  -- where the object has no value at another keyword, there is none either
  pub beside_absent : (i : ℕ) (k : Keyword) (waiting : Option (Result (Validator E) CompileError)) (vs : List (Validator E)) → i < length keywords
      → k ≡ get_or keywords i k → (k ≡ ContentSchema → ⊥) → held_value values k ≡ None → Beside i waiting vs → Beside (i + 1) waiting vs
  beside_absent i k waiting vs h at other absent b =
      let none = sym (held_value_is_member (held_value values) k) ∙ absent in
      beside_still i k waiting waiting None vs h at b (asked_other i k waiting None vs other
      (λ others are. same_compiled outcome s others (members_of values) (same_members values others are) k None
      (none_compiled outcome s (members_of values) k none)) b) refl

  -- where a validator is compiled of the entry at a place, it comes behind the others
  pub beside_more : (i : ℕ) (k : Keyword) (waiting later compiled : Option (Result (Validator E) CompileError)) (vs : List (Validator E)) (v : Validator E)
      → i < length keywords → k ≡ get_or keywords i k
      → Beside i waiting vs → Asked i k later compiled → compiled ≡ Some (Ok v) → Beside (i + 1) later (vs ++ v ∷ [])
  beside_more i k waiting later compiled vs v h at b a is = record {
    done = λ ms has schema. done_more outcome s ms keywords i k vs v h at (b.done ms has schema) (rw is at a.asked ms has schema);
    waits = a.waits;
  }

  -- the error at a place is the first refusal of each such object, or out of memory
  pub beside_refused : (i : ℕ) (k : Keyword) (waiting later compiled : Option (Result (Validator E) CompileError)) (vs : List (Validator E))
      (error : CompileError) → i < length keywords → k ≡ get_or keywords i k
      → Beside i waiting vs → Asked i k later compiled → compiled ≡ Some (Err error) → (ms : Members) → AreOthersOf ms values
      → IsCompiledAt outcome s ms ContentSchema given → IsRefusal outcome s ms error
  beside_refused i k waiting later compiled vs error h at b a is ms has schema =
      done_refused outcome s ms i k vs error h at (b.done ms has schema) (rw is at a.asked ms has schema)

  -- behind all keywords, each such object is compiled to these validators
  pub beside_compiled : (i : ℕ) (waiting : Option (Result (Validator E) CompileError)) (k : StringKeywords E) → take i keywords ≡ keywords
      → Beside i waiting k.validators.items → (ms : Members) → AreOthersOf ms values → IsCompiledAt outcome s ms ContentSchema given
      → IsCompiledFrom outcome s ms k
  beside_compiled i waiting k whole b ms has schema =
      compiled_object outcome s ms k (subst (λ l. Done outcome s ms l k.validators.items) whole (b.done ms has schema))
