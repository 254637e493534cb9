-- A string keyword, compiled alone.
use Rattle.std.proofs.Common.{ℕ, ◌≡◌, ◌∙◌, List, [], ◌∷◌, Bool, true, false, Option, Some, None, Result, Ok, Err, inl, inr, refl, sym, ap, append-nil, subst}
use Rattle.std.proofs.lemmas.Bool.{false≢true}
use Rattle.std.specs.List.{AllByRecursion}
use Rattle.std.specs.Prelude.{◌&&◌, MatchOption}
use Rattle.std.specs.Str.{chars}
use Rattle.serde_json.specs.Data.{Data, Members, member, no_members}
use Rattle.serde_json.specs.Find.{as_str}
use Rattle.strkw_report.specs.Refusals.{out_of_memory, reason_of as text_reason_of}
use Rattle.strkw_report.specs.declared.refusal.CompileErrorKind.{CompileErrorKind}
use Rattle.strkw_report.specs.declared.refusal.CompileErrorKind.TheVariants.{FractionalNumber, Memory, NotString, Regex, Size, UnknownFormat}
use Rattle.strkw_report.specs.declared.refusal.CompileError.{CompileError}
use Rattle.strkw_pattern.specs.declared.engine.Outcome.{Outcome}
use Rattle.strkw_keywords.specs.declared.keyword.Keyword.{Keyword as TextKeyword}
use Rattle.strkw_keywords.specs.declared.keyword.Keyword.TheVariants.{ContentEncoding, ContentMediaType, ContentSchema, Format, MaxLength, MinLength, Pattern}
use Rattle.strkw_keywords.specs.declared.validator.Validator.{Validator}
use Rattle.strkw_keywords.specs.Compiled.{IsCompiledAt, IsCompiledCase}
use Rattle.strkw_keywords.specs.Demands.{IsInUse}
use Rattle.strkw_keywords.specs.Errors.{demands_asserted}
use Rattle.strkw_keywords.specs.Laws.{CompiledIsInUse}
use Rattle.strkw_keywords.specs.Keywords.{keyword_name}
use Rattle.strkw_keywords.specs.Object.{AreEntriesOf, Entry, IsEntryAt, IsPatternEntry, IsPatternValue, Keyed, Settings, all_assertions, all_demands, demands_by, engine_entry, is_fused, is_given, keywords, least_entry, malformed as malformed_entry, no_string, nothing, refusal, share, value_at}
use Rattle.strkw_keywords.specs.Validators.{demands_of, place_of}
use Rattle.strkw_keywords.proofs.Asserted.{demands_of_placed}
use Rattle.neldrafi_schema.specs.Paths.{Path}
use Rattle.neldrafi_schema.specs.Reading.{SaysEntries, TextSays, handed}
use Rattle.neldrafi_schema.specs.Schemas.{string_keyword}
use Rattle.neldrafi_schema.specs.Settings.{keyword_settings}
use Rattle.neldrafi_schema.specs.machine.Ready.{IsPattern}
use Rattle.neldrafi_schema.specs.machine.Said.{IsReadReady, is_memory as is_memory_kind, is_out_of_memory, read_keywords}

and_false : (a : Bool) → (a && false) ≡ false
and_false true = refl
and_false false = refl

abbrev none : TextKeyword → Keyed
none k = record { keyword = k; entry = nothing }

abbrev this : TextKeyword → Entry → Keyed
this k e = record { keyword = k; entry = e }

-- the entries of an object in which every keyword is left out but one
abbrev in_all : TextKeyword → Entry → List Keyed
in_all ContentMediaType e = this ContentMediaType e ∷ none ContentEncoding ∷ none ContentSchema ∷ none Format ∷ none MinLength ∷ none MaxLength ∷ none Pattern ∷ []
in_all ContentEncoding e = none ContentMediaType ∷ this ContentEncoding e ∷ none ContentSchema ∷ none Format ∷ none MinLength ∷ none MaxLength ∷ none Pattern ∷ []
in_all ContentSchema e = none ContentMediaType ∷ none ContentEncoding ∷ this ContentSchema e ∷ none Format ∷ none MinLength ∷ none MaxLength ∷ none Pattern ∷ []
in_all Format e = none ContentMediaType ∷ none ContentEncoding ∷ none ContentSchema ∷ this Format e ∷ none MinLength ∷ none MaxLength ∷ none Pattern ∷ []
in_all MinLength e = none ContentMediaType ∷ none ContentEncoding ∷ none ContentSchema ∷ none Format ∷ this MinLength e ∷ none MaxLength ∷ none Pattern ∷ []
in_all MaxLength e = none ContentMediaType ∷ none ContentEncoding ∷ none ContentSchema ∷ none Format ∷ none MinLength ∷ this MaxLength e ∷ none Pattern ∷ []
in_all Pattern e = none ContentMediaType ∷ none ContentEncoding ∷ none ContentSchema ∷ none Format ∷ none MinLength ∷ none MaxLength ∷ this Pattern e ∷ []

demands_alone : (k : TextKeyword) (e : Entry) → all_demands (in_all k e) ≡ all_demands (this k e ∷ [])
demands_alone ContentMediaType e = refl
demands_alone ContentEncoding e = refl
demands_alone ContentSchema e = refl
demands_alone Format e = refl
demands_alone MinLength e = refl
demands_alone MaxLength e = refl
demands_alone Pattern e = refl

module _ (s : Settings) (path : Path) (ms : Members) where
  abbrev settled : TextKeyword → Settings
  settled k = keyword_settings s path k

  share_alone : (k : TextKeyword) → share (is_fused (settled k).options ms) k ≡ k ∷ []
  share_alone ContentMediaType = refl
  share_alone ContentEncoding = refl
  share_alone ContentSchema = refl
  share_alone Format = refl
  share_alone MinLength = rw (and_false (is_given (least_entry (settled MinLength).options ms))) refl
  share_alone MaxLength = refl
  share_alone Pattern = refl

  in_order : (k : TextKeyword) (e : Entry) → IsEntryAt (settled k) ms k e → AreEntriesOf (settled k) ms keywords (in_all k e)
  in_order ContentMediaType e is = (e, _, is, refl, (nothing, _, refl, refl, (nothing, _, refl, refl, (nothing, _, refl, refl, (nothing, _, refl, refl, (nothing, _, refl, refl, (nothing, _, refl, refl, refl)))))))
  in_order ContentEncoding e is = (nothing, _, refl, refl, (e, _, is, refl, (nothing, _, refl, refl, (nothing, _, refl, refl, (nothing, _, refl, refl, (nothing, _, refl, refl, (nothing, _, refl, refl, refl)))))))
  in_order ContentSchema e is = (nothing, _, refl, refl, (nothing, _, refl, refl, (e, _, is, refl, (nothing, _, refl, refl, (nothing, _, refl, refl, (nothing, _, refl, refl, (nothing, _, refl, refl, refl)))))))
  in_order Format e is = (nothing, _, refl, refl, (nothing, _, refl, refl, (nothing, _, refl, refl, (e, _, is, refl, (nothing, _, refl, refl, (nothing, _, refl, refl, (nothing, _, refl, refl, refl)))))))
  in_order MinLength e is = (nothing, _, refl, refl, (nothing, _, refl, refl, (nothing, _, refl, refl, (nothing, _, refl, refl, (e, _, is, refl, (nothing, _, refl, refl, (nothing, _, refl, refl, refl)))))))
  in_order MaxLength e is = (nothing, _, refl, refl, (nothing, _, refl, refl, (nothing, _, refl, refl, (nothing, _, refl, refl, (nothing, _, refl, refl, (e, _, is, refl, (nothing, _, refl, refl, refl)))))))
  in_order Pattern e is = (nothing, _, refl, refl, (nothing, _, refl, refl, (nothing, _, refl, refl, (nothing, _, refl, refl, (nothing, _, refl, refl, (nothing, _, refl, refl, (e, _, is, refl, refl)))))))

  -- the rows on which the entry rests are there
  in_use : CompiledIsInUse → (k : TextKeyword) (es : List Keyed) → AreEntriesOf (settled k) ms (k ∷ []) es → IsInUse (all_demands es) s.lists
  in_use law k es (e, rest, is, same, end) =
      let whole : es ≡ this k e ∷ [] = same ∙ ap (λ l. this k e ∷ l) end in
      subst (λ l. IsInUse l s.lists) (demands_alone k e ∙ ap all_demands (sym whole)) (law (settled k) ms (in_all k e) (record { in_order = in_order k e is }))

-- where it is not out of memory, no refusal is for it
pub not_for_memory : {V : Type 0} (o : Option (Result V CompileError)) → is_out_of_memory o ≡ false → (e : CompileError) → o ≡ Some (Err e) → e.kind ≡ Memory → ⊥
not_for_memory o fine e is memory =
    let so : is_memory_kind e.kind ≡ false = subst (λ x. is_out_of_memory x ≡ false) is fine in
    false≢true (sym (subst (λ k. is_memory_kind k ≡ false) memory so))

-- the only reason that is out of memory
is_memory : (kind : CompileErrorKind) → text_reason_of kind ≡ out_of_memory → kind ≡ Memory
is_memory (NotString v) e = cc
is_memory Size e = cc
is_memory (UnknownFormat f by_dialect) e = cc
is_memory (Regex p) e = cc
is_memory FractionalNumber e = cc
is_memory Memory e = refl

-- the entry of a pattern demands nothing but it
engine_demands : (s : Settings) (p : List ℕ) (taken : Bool) → AllByRecursion IsPattern (demands_by (engine_entry s p taken))
engine_demands s p true = (tt, tt)
engine_demands s p false = tt

value_demands : (s : Settings) (o : Option (List ℕ)) (d : Data) (e : Entry)
    → MatchOption o (e ≡ malformed_entry Pattern (no_string d)) (λ p. IsPatternEntry s p e) → AllByRecursion IsPattern (demands_by e)
value_demands s None d e is = rw is tt
value_demands s (Some p) d e (inl (l, o, well, spelled, searches, is)) = rw is (tt, tt)
value_demands s (Some p) d e (inr (other, is)) = rw is (engine_demands s p (s.takes (chars p)))

entry_demands : (s : Settings) (o : Option Data) (e : Entry) → MatchOption o (e ≡ nothing) (λ d. IsPatternValue s d e) → AllByRecursion IsPattern (demands_by e)
entry_demands s None e is = rw is tt
entry_demands s (Some d) e is = value_demands s (as_str d) d e is

module _ {E : Type 0} (outcome : E → List ℕ → Outcome) (s : Settings) (path : Path) (k : TextKeyword) (v : Data) where
  abbrev settings : Settings
  settings = keyword_settings s path k

  abbrev ms : Members
  ms = member (keyword_name k) v no_members

  module _ (answer : Option (Result (Validator E) CompileError)) (compiled : IsCompiledAt outcome settings ms k answer) where
    entries : AreEntriesOf settings ms (k ∷ []) compiled.entries
    entries = subst (λ ks. AreEntriesOf settings ms ks compiled.entries) (share_alone s path ms k) compiled.are_entries

    says_case : (at : Path) (other : Option (Result (Validator E) CompileError)) → IsCompiledCase outcome settings.place compiled.entries other
        → ((e : CompileError) → other ≡ Some (Err e) → e.kind ≡ Memory → ⊥)
        → SaysEntries at k (all_assertions settings.place compiled.entries) (refusal settings.place compiled.entries) (read_keywords outcome at k other)
    says_case at None case some = rw case.good (inr (case.asserts, refl))
    says_case at (Some (Ok w)) case some = rw case.good (inl (ap (λ a. string_keyword (keyword_name k) a ∷ []) case.asserts))
    says_case at (Some (Err e)) (inl memory) some = absurd (some e refl (is_memory e.kind (ap (λ r. r.reason) memory)))
    says_case at (Some (Err e)) (inr refused) some = rw refused refl

    pub alone_says : (at : Path) (d : Data) → v ≡ handed k d → ((e : CompileError) → answer ≡ Some (Err e) → e.kind ≡ Memory → ⊥) → TextSays settings at k d (read_keywords outcome at k answer)
    alone_says at d same some = record {
      entries = compiled.entries;
      are_entries = subst (λ x. AreEntriesOf settings (member (keyword_name k) x no_members) (k ∷ []) compiled.entries) same entries;
      said = says_case at answer compiled.answer.answer some;
    }

    one_entry : (e : Entry) (rest es : List Keyed) → es ≡ this k e ∷ rest → rest ≡ [] → all_demands es ≡ demands_by e
    one_entry e rest es whole end = ap all_demands (whole ∙ ap (λ l. this k e ∷ l) end) ∙ append-nil (demands_by e)

    pattern_only : k ≡ Pattern → AllByRecursion IsPattern (all_demands compiled.entries)
    pattern_only is =
        let (e, rest, entry, whole, end) = entries in
        subst (AllByRecursion IsPattern) (sym (one_entry e rest compiled.entries whole end))
        (entry_demands (keyword_settings s path Pattern) (value_at (keyword_settings s path Pattern).options Pattern (member (keyword_name Pattern) v no_members)) e
        (subst (λ k. IsEntryAt (keyword_settings s path k) (member (keyword_name k) v no_members) k e) is entry))

    ready_case : CompiledIsInUse → (other : Option (Result (Validator E) CompileError)) → IsCompiledCase outcome settings.place compiled.entries other
        → IsReadReady outcome s.lists k other
    ready_case law None case = tt
    ready_case law (Some (Err e)) case = tt
    ready_case law (Some (Ok w)) case =
        let same : demands_of outcome w ≡ all_demands compiled.entries =
        sym (demands_of_placed (place_of w) (demands_of outcome w)) ∙ ap demands_asserted case.asserts ∙ demands_of_placed settings.place (all_demands compiled.entries) in (
          subst (λ l. IsInUse l s.lists) (sym same) (in_use s path ms law k compiled.entries entries),
          λ is. subst (AllByRecursion IsPattern) (sym same) (pattern_only is),
        )

    pub alone_ready : CompiledIsInUse → IsReadReady outcome s.lists k answer
    alone_ready law = ready_case law answer compiled.answer.answer
