-- On the entries of several keywords, and on what is compiled of one.
use Rattle.std.proofs.Common.{◌≡◌, ◌<◌, ℕ, zero, suc, ◌+◌, List, [], ◌∷◌, ◌++◌, Bool, true, false}
use Rattle.std.proofs.Common.{Option, Some, None, Result, Ok, Err, inl, inr, ◌⊎◌, refl, sym, ap, ◌∙◌, subst}
use Rattle.std.proofs.Common.{length, get_or, take, arith, append_assoc, MatchOption, ◌&&◌, if◌then◌else◌}
use Rattle.std.proofs.lemmas.List.{append-nil, take_more}
use Rattle.std.proofs.lemmas.Option.{none-some}
use Rattle.serde_json.specs.Data.{Data, Members}
use Rattle.strkw_pattern.specs.declared.engine.Outcome.{Outcome}
use Rattle.strkw_keywords.specs.declared.keyword.Keyword.{Keyword}
use Rattle.strkw_keywords.specs.declared.keyword.Keyword.TheVariants.{ContentMediaType, ContentEncoding, ContentSchema, Format, MinLength, MaxLength, Pattern}
use Rattle.strkw_report.specs.Refusals.{refusal_of}
use Rattle.strkw_report.specs.declared.refusal.CompileError.{CompileError}
use Rattle.strkw_keywords.specs.declared.compile.Refused.{Refused}
use Rattle.strkw_keywords.specs.declared.compile.Refused.TheVariants.{Memory}
use Rattle.strkw_keywords.specs.declared.validator.Validator.{Validator}
use Rattle.strkw_keywords.specs.Places.{Place}
use Rattle.strkw_keywords.specs.declared.content_rule.ContentRule.{ContentRule}
use Rattle.strkw_keywords.specs.Object.{Settings, Entry, nothing, Keyed, content_rule, media_type_entry, encoding_entry, schema_entry, min_entry, max_entry}
use Rattle.strkw_keywords.specs.Object.{entry_of, value_at, is_given, is_fused, least_entry, greatest_entry, keywords, IsEntryOf, IsEntryAt, AreEntriesOf}
use Rattle.strkw_keywords.specs.Object.{share, shares, refusal}
use Rattle.strkw_keywords.specs.Compiled.{AddsNothing, IsBuilt, IsBuiltAt, IsPatternBuilt, IsCompiledAt, single_entry, min_share, max_share}
use Rattle.strkw_keywords.specs.Compiled.{out_of_memory_refusal, refused_at}

-- ---- an entry that a value determines

-- `entry_of` is nothing where there is no value, and else what the value comes to
value_is : (of : Data → Entry) (o : Option Data) → MatchOption o (entry_of of o ≡ nothing) (λ d. entry_of of o ≡ of d)
value_is of None = refl
value_is of (Some d) = refl

-- ---- several keywords

-- entries of some keywords, and then those of others, are entries of both lists
pub entries_both : (s : Settings) (ms : Members) (ks ls : List Keyword) (es fs : List Keyed) → AreEntriesOf s ms ks es → AreEntriesOf s ms ls fs
    → AreEntriesOf s ms (ks ++ ls) (es ++ fs)
entries_both s ms [] ls es fs h k = rw h k
entries_both s ms (k ∷ ks) ls es fs (e, rest, at, is, others) h = (e, rest ++ fs, at, ap (λ l. l ++ fs) is, entries_both s ms ks ls rest fs others h)

-- whether the lengths are fused or not, the shares of all keywords are all keywords
shares_of : (fused : Bool) → shares fused keywords ≡ keywords
shares_of true = refl
shares_of false = refl

-- the shares of all keywords are all keywords
pub shares_all : (s : Settings) (ms : Members) → shares (is_fused s.options ms) keywords ≡ keywords
shares_all s ms = shares_of (is_fused s.options ms)

-- the shares in front of one keyword, its own, and those behind it
pub shares_at : (fused : Bool) (ks : List Keyword) (i : ℕ) (k : Keyword) → i < length ks → k ≡ get_or ks i k → (later : List Keyword)
    × (shares fused ks ≡ shares fused (take i ks) ++ (share fused k ++ later))
shares_at fused [] i k h e = absurd (omega (arith, h))
shares_at fused (w ∷ ks) zero k h e = (shares fused ks, ap (λ x. share fused x ++ shares fused ks) (sym e))
shares_at fused (w ∷ ks) (suc i) k h e =
    let (later, same) = shares_at fused ks i k (omega (arith, h)) e in
    (later, ap (λ l. share fused w ++ l) same ∙ sym (append_assoc (share fused w) (shares fused (take i ks)) (share fused k ++ later)))

-- the shares of joined lists of keywords are those of the one, and then those of the other
shares_append : (fused : Bool) (ks ls : List Keyword) → shares fused (ks ++ ls) ≡ shares fused ks ++ shares fused ls
shares_append fused [] ls = refl
shares_append fused (k ∷ ks) ls = ap (λ l. share fused k ++ l) (shares_append fused ks ls)
    ∙ sym (append_assoc (share fused k) (shares fused ks) (shares fused ls))

-- the shares up to one keyword more
pub shares_more : (fused : Bool) (ks : List Keyword) (i : ℕ) (k : Keyword) → i < length ks → k ≡ get_or ks i k
    → shares fused (take (i + 1) ks) ≡ shares fused (take i ks) ++ share fused k
shares_more fused ks i k h e = rw (take_more ks i k h, ← e, shares_append fused (take i ks) (k ∷ []), append-nil (share fused k))

-- ---- what is built of one keyword

-- where `minLength` has no value, the entries of its share add nothing
min_nothing : (place : Place) (o p : Option Data) → None ≡ o
    → AddsNothing place (record { keyword = MinLength; entry = entry_of min_entry o }
    ∷ (if is_given (entry_of min_entry o) && is_given (entry_of max_entry p) then record { keyword = MaxLength; entry = entry_of max_entry p } ∷ [] else []))
min_nothing place None p e = record { good = refl; asserts = refl; notes = refl }
min_nothing place (Some d) p e = absurd (none-some d e)

-- nothing at `maxLength` adds nothing, whether `minLength` is given or not
max_alone : (place : Place) (b : Bool) → AddsNothing place (if b && false then [] else record { keyword = MaxLength; entry = nothing } ∷ [])
max_alone place true = record { good = refl; asserts = refl; notes = refl }
max_alone place false = record { good = refl; asserts = refl; notes = refl }

-- where `maxLength` has no value, the entries of its share add nothing
max_nothing : (place : Place) (o p : Option Data) → None ≡ p
    → AddsNothing place (if is_given (entry_of min_entry o) && is_given (entry_of max_entry p) then []
    else record { keyword = MaxLength; entry = entry_of max_entry p } ∷ [])
max_nothing place o None e = max_alone place (is_given (entry_of min_entry o))
max_nothing place o (Some d) e = absurd (none-some d e)

-- what is refused before its place is written is refused with it, or memory was
refused_so : (place : Place) (es : List Keyed) (r : Refused) (e : CompileError) → (r ≡ Memory) ⊎ (refusal place es ≡ Some (refused_at place r))
    → (refusal_of e ≡ out_of_memory_refusal) ⊎ ((r ≡ Memory → ⊥) × (refusal_of e ≡ refused_at place r))
    → (refusal_of e ≡ out_of_memory_refusal) ⊎ (refusal place es ≡ Some (refusal_of e))
refused_so place es r e h (inl out) = inl out
refused_so place es r e (inl out_of_memory) (inr (other, is)) = absurd (other out_of_memory)
refused_so place es r e (inr first) (inr (other, is)) = inr (first ∙ ap Some (sym is))

-- nothing is built of an entry that adds nothing
pub none_built : {E : Type 0} (outcome : E → List ℕ → Outcome) (place : Place) (k : Keyword) → IsBuilt outcome place (single_entry k nothing) (Ok None)
none_built outcome place k = record { answer = record { good = refl; asserts = refl; notes = refl } }

module _ {E : Type 0} (outcome : E → List ℕ → Outcome) (s : Settings) (ms : Members) where
  -- the entry at a keyword is, alone, the list of entries of that keyword
  one_entry : (k : Keyword) (e : Entry) → IsEntryAt s ms k e → AreEntriesOf s ms (k ∷ []) (record { keyword = k; entry = e } ∷ [])
  one_entry k e at = (e, [], at, refl, refl)

  -- `least_entry` is the entry at `minLength`
  min_is : IsEntryAt s ms MinLength (least_entry s.options ms)
  min_is = value_is min_entry (value_at s.options MinLength ms)

  -- and `greatest_entry` is that at `maxLength`
  max_is : IsEntryAt s ms MaxLength (greatest_entry s.options ms)
  max_is = value_is max_entry (value_at s.options MaxLength ms)

  -- the entries of the share of `minLength`: its own and, where they are fused, that at `maxLength`
  min_entries : (fused : Bool) → AreEntriesOf s ms (share fused MinLength)
      (record { keyword = MinLength; entry = least_entry s.options ms } ∷ (if fused then single_entry MaxLength (greatest_entry s.options ms) else []))
  min_entries true = (least_entry s.options ms, single_entry MaxLength (greatest_entry s.options ms), min_is, refl, one_entry MaxLength _ max_is)
  min_entries false = one_entry MinLength _ min_is

  -- the entries of the share of `maxLength`: its own or, where they are fused, none
  max_entries : (fused : Bool) → AreEntriesOf s ms (share fused MaxLength) (if fused then [] else single_entry MaxLength (greatest_entry s.options ms))
  max_entries true = refl
  max_entries false = one_entry MaxLength _ max_is

  -- what is built of the lengths
  pub min_built : (r : Result (Option (Validator E)) Refused) → IsBuilt outcome s.place (min_share s.options ms) r → IsBuiltAt outcome s ms MinLength r
  min_built r h = record { entries = min_share s.options ms; are_entries = min_entries (is_fused s.options ms); answer = h }

  -- what is built of the share of `maxLength` is built at it
  pub max_built : (r : Result (Option (Validator E)) Refused) → IsBuilt outcome s.place (max_share s.options ms) r → IsBuiltAt outcome s ms MaxLength r
  max_built r h = record { entries = max_share s.options ms; are_entries = max_entries (is_fused s.options ms); answer = h }

  -- what is built of one entry
  one_built : (k : Keyword) (e : Entry) (r : Result (Option (Validator E)) Refused) → share (is_fused s.options ms) k ≡ k ∷ [] → IsEntryAt s ms k e
      → IsBuilt outcome s.place (single_entry k e) r → IsBuiltAt outcome s ms k r
  one_built k e r single at h = record {
    entries = single_entry k e;
    are_entries = subst (λ ks. AreEntriesOf s ms ks (single_entry k e)) (sym single) (one_entry k e at);
    answer = h;
  }

  -- and of a value
  pub value_built : (k : Keyword) (d : Data) (e : Entry) (r : Result (Option (Validator E)) Refused) → share (is_fused s.options ms) k ≡ k ∷ []
      → value_at s.options k ms ≡ Some d → IsEntryOf s ms k d e → IsBuilt outcome s.place (single_entry k e) r → IsBuiltAt outcome s ms k r
  value_built k d e r single at is = one_built k e r single (subst (λ o. MatchOption o (e ≡ nothing) (λ v. IsEntryOf s ms k v e)) (sym at) is)

  -- content, by the rule of the draft
  -- what is built of the media type's entry is built at `contentMediaType`
  pub media_type_built : (rule : ContentRule) (d : Data) (r : Result (Option (Validator E)) Refused) → content_rule s.draft ≡ rule
      → value_at s.options ContentMediaType ms ≡ Some d → IsBuilt outcome s.place (single_entry ContentMediaType (media_type_entry rule s ms d)) r
      → IsBuiltAt outcome s ms ContentMediaType r
  media_type_built rule d r is at = value_built ContentMediaType d _ r refl at (ap (λ x. media_type_entry x s ms d) (sym is))

  -- what is built of the encoding's entry is built at `contentEncoding`
  pub encoding_built : (rule : ContentRule) (d : Data) (r : Result (Option (Validator E)) Refused) → content_rule s.draft ≡ rule
      → value_at s.options ContentEncoding ms ≡ Some d → IsBuilt outcome s.place (single_entry ContentEncoding (encoding_entry rule s ms d)) r
      → IsBuiltAt outcome s ms ContentEncoding r
  encoding_built rule d r is at = value_built ContentEncoding d _ r refl at (ap (λ x. encoding_entry x s ms d) (sym is))

  -- what is built of the content schema's entry is built at `contentSchema`
  pub schema_built : (rule : ContentRule) (d : Data) (r : Result (Option (Validator E)) Refused) → content_rule s.draft ≡ rule
      → value_at s.options ContentSchema ms ≡ Some d → IsBuilt outcome s.place (single_entry ContentSchema (schema_entry rule ms d)) r
      → IsBuiltAt outcome s ms ContentSchema r
  schema_built rule d r is at = value_built ContentSchema d _ r refl at (ap (λ x. schema_entry x ms d) (sym is))

  -- what is built of a value as a pattern is built at `pattern`
  pub pattern_built : (d : Data) (r : Result (Option (Validator E)) Refused) → value_at s.options Pattern ms ≡ Some d → IsPatternBuilt outcome s d r
      → IsBuiltAt outcome s ms Pattern r
  pattern_built d r at h = value_built Pattern d h.entry r refl at h.is_entry h.answer

  -- nothing is built at a keyword without a value whose share is itself alone
  absent_alone : (k : Keyword) → share (is_fused s.options ms) k ≡ k ∷ [] → None ≡ value_at s.options k ms → IsBuiltAt outcome s ms k (Ok None)
  absent_alone k single e = one_built k nothing (Ok None) single (subst (λ o. MatchOption o (nothing ≡ nothing) (λ d. IsEntryOf s ms k d nothing)) e refl)
      (none_built outcome s.place k)

  -- nothing is built at any keyword without a value
  absent_built : (k : Keyword) → None ≡ value_at s.options k ms → IsBuiltAt outcome s ms k (Ok None)
  absent_built ContentMediaType e = absent_alone ContentMediaType refl e
  absent_built ContentEncoding e = absent_alone ContentEncoding refl e
  absent_built ContentSchema e = absent_alone ContentSchema refl e
  absent_built Format e = absent_alone Format refl e
  absent_built MinLength e = min_built (Ok None) (record { answer = min_nothing s.place (value_at s.options MinLength ms) (value_at s.options MaxLength ms) e })
  absent_built MaxLength e = max_built (Ok None) (record { answer = max_nothing s.place (value_at s.options MinLength ms) (value_at s.options MaxLength ms) e })
  absent_built Pattern e = absent_alone Pattern refl e

  -- where nothing is built at a keyword, nothing is compiled there
  pub none_located : (k : Keyword) (o : Option (Validator E)) → o ≡ None → IsBuiltAt outcome s ms k (Ok o) → IsCompiledAt outcome s ms k None
  none_located k o is b =
      record {
        entries = b.entries;
        are_entries = b.are_entries;
        answer = record { answer = (subst (λ x. IsBuilt outcome s.place b.entries (Ok x)) is b.answer).answer };
      }

  -- and a validator that is built there is compiled there
  pub some_located : (k : Keyword) (v : Validator E) (o : Option (Validator E)) → o ≡ Some v → IsBuiltAt outcome s ms k (Ok o)
      → IsCompiledAt outcome s ms k (Some (Ok v))
  some_located k v o is b =
      record {
        entries = b.entries;
        are_entries = b.are_entries;
        answer = record { answer = (subst (λ x. IsBuilt outcome s.place b.entries (Ok x)) is b.answer).answer };
      }

  -- so is a refusal with its place, or out of memory
  pub refused_located : (k : Keyword) (r : Refused) (e : CompileError) → IsBuiltAt outcome s ms k (Err r)
      → (refusal_of e ≡ out_of_memory_refusal) ⊎ ((r ≡ Memory → ⊥) × (refusal_of e ≡ refused_at s.place r)) → IsCompiledAt outcome s ms k (Some (Err e))
  refused_located k r e b told = record {
    entries = b.entries;
    are_entries = b.are_entries;
    answer = record { answer = refused_so s.place b.entries r e b.answer.answer told };
  }

  -- a keyword without a value adds nothing
  pub absent : (k : Keyword) → None ≡ value_at s.options k ms → IsCompiledAt outcome s ms k None
  absent k e = none_located k None refl (absent_built k e)
