-- A schema object has entries, and no others.
use Rattle.std.proofs.Common.{◌≡◌, ◌⊎◌, ℕ, List, [], ◌∷◌, Option, Some, None, refl, sym, ap, ◌∙◌, subst, inl, inr, MatchOption}
use Rattle.std.proofs.Math.Path.{fun_ext}
use Rattle.std.specs.List.{AllByRecursion}
use Rattle.std.specs.Str.{chars}
use Rattle.serde_json.specs.Data.{Data, Members}
use Rattle.serde_json.specs.Find.{as_str}
use Rattle.strkw_pattern.specs.declared.engine.Outcome.{Outcome}
use Rattle.strkw_pattern.specs.declared.engine.Outcome.TheVariants as outcome
use Rattle.strkw_pattern.specs.Literal.{Literal}
use Rattle.strkw_pattern.specs.Search.{Search}
use Rattle.strkw_pattern.specs.Matcher.{IsSearch}
use Rattle.strkw_pattern.proofs.Decision.{literal_or_not}
use Rattle.strkw_pattern.proofs.Searches.{outcome_exists}
use Rattle.strkw_pattern.proofs.Trees.{literal_once}
use Rattle.strkw_keywords.specs.declared.keyword.Keyword.{Keyword}
use Rattle.strkw_keywords.specs.declared.keyword.Keyword.TheVariants.{ContentMediaType, ContentEncoding, ContentSchema, Format, MinLength, MaxLength, Pattern}
use Rattle.strkw_report.specs.Refusals.{Refusal}
use Rattle.strkw_keywords.specs.Remarks.{Remark}
use Rattle.strkw_keywords.specs.Demands.{compares}
use Rattle.strkw_keywords.specs.Object.{Settings, Entry, nothing, malformed, gives, no_string, value_at, engine_entry, content_rule, media_type_entry}
use Rattle.strkw_keywords.specs.Object.{encoding_entry, schema_entry, format_entry, min_entry, max_entry, IsPatternEntry, IsPatternValue, IsEntryAt, Keyed}
use Rattle.strkw_keywords.specs.Object.{keywords, AreEntriesOf, AreEntries, FirstRefusal, refusal, Notes, all_remarks, remarks_on}

-- ---- there are some

-- each pattern has an entry, whether it is a literal or not
pattern_entry_exists : (s : Settings) (p : List ℕ) → (e : Entry) × IsPatternEntry s p e
pattern_entry_exists s p = elim (literal_or_not (chars p)) [
  | inl is ↦
      let found = outcome_exists is.0 in
      (gives (compares p found.0 ∷ []) None, inl (is.0, found.0, is.1, is.2, found.1, refl))
  | inr other ↦ (engine_entry s p (s.takes (chars p)), inr (other, refl))
]

-- a value at `pattern` has an entry, whether it is a string or not
text_entry_exists : (s : Settings) (d : Data) (o : Option (List ℕ)) → (e : Entry)
    × MatchOption o (e ≡ malformed Pattern (no_string d)) (λ p. IsPatternEntry s p e)
text_entry_exists s d None = (malformed Pattern (no_string d), refl)
text_entry_exists s d (Some p) = pattern_entry_exists s p

-- there is an entry at `pattern`, with a value or without
pub pattern_exists : (s : Settings) (o : Option Data) → (e : Entry) × MatchOption o (e ≡ nothing) (λ d. IsPatternValue s d e)
pattern_exists s None = (nothing, refl)
pattern_exists s (Some d) = text_entry_exists s d (as_str d)

-- there is an entry at a keyword whose entry its value determines, with a value or without
value_exists : (of : Data → Entry) (o : Option Data) → (e : Entry) × MatchOption o (e ≡ nothing) (λ d. e ≡ of d)
value_exists of None = (nothing, refl)
value_exists of (Some d) = (of d, refl)

-- each keyword of a schema object has an entry
pub entry_exists : (s : Settings) (ms : Members) (k : Keyword) → (e : Entry) × IsEntryAt s ms k e
entry_exists s ms ContentMediaType = value_exists (media_type_entry (content_rule s.draft) s ms) (value_at s.options ContentMediaType ms)
entry_exists s ms ContentEncoding = value_exists (encoding_entry (content_rule s.draft) s ms) (value_at s.options ContentEncoding ms)
entry_exists s ms ContentSchema = value_exists (schema_entry (content_rule s.draft) ms) (value_at s.options ContentSchema ms)
entry_exists s ms Format = value_exists (format_entry s) (value_at s.options Format ms)
entry_exists s ms MinLength = value_exists min_entry (value_at s.options MinLength ms)
entry_exists s ms MaxLength = value_exists max_entry (value_at s.options MaxLength ms)
entry_exists s ms Pattern = pattern_exists s (value_at s.options Pattern ms)

-- any list of keywords has a list of entries by a schema object
pub entries_of_exist : (s : Settings) (ms : Members) (ks : List Keyword) → (es : List Keyed) × AreEntriesOf s ms ks es
entries_of_exist s ms [] = ([], refl)
entries_of_exist s ms (k ∷ ks) =
    let (e, at) = entry_exists s ms k in
    let (rest, others) = entries_of_exist s ms ks in
    (record { keyword = k; entry = e } ∷ rest, (e, rest, at, refl, others))

-- each schema object has a list of its entries
pub entries_exist : (s : Settings) (ms : Members) → (es : List Keyed) × AreEntries s ms es
entries_exist s ms = let (es, are) = entries_of_exist s ms keywords in (es, record { in_order = are })

-- each schema object has a first refusal, or none of its entries is refused
pub first_refusal_exists : (s : Settings) (ms : Members) → (first : Option Refusal) × FirstRefusal s ms first
first_refusal_exists s ms = let (es, are) = entries_exist s ms in (refusal s.place es, (es, are, refl))

-- each node has a list of notes by a schema object
pub notes_exist : (s : Settings) (ms : Members) (node : Option (List ℕ)) → (remarks : List Remark) × Notes s ms node remarks
notes_exist s ms node = let (es, are) = entries_exist s ms in (remarks_on node (all_remarks s.place es), (es, are, refl))

-- ---- and no others

-- two outcomes that both tell in the same way whether P holds are the same
same_answer : (o q : Outcome) (P : Type 0) (hit miss : Outcome) → (P × (o ≡ hit)) ⊎ ((P → ⊥) × (o ≡ miss)) → (P × (q ≡ hit)) ⊎ ((P → ⊥) × (q ≡ miss)) → o ≡ q
same_answer o q P hit miss (inl a) (inl b) = a.1 ∙ sym b.1
same_answer o q P hit miss (inl a) (inr b) = absurd (b.0 a.0)
same_answer o q P hit miss (inr a) (inl b) = absurd (a.0 b.0)
same_answer o q P hit miss (inr a) (inr b) = a.1 ∙ sym b.1

-- outcomes that tell of each text whether a literal is found in it are determined by the literal
same_outcomes : (l m : Literal) (o q : List ℕ → Outcome) → l ≡ m → IsSearch l o → IsSearch m q → o ≡ q
same_outcomes l m o q same a b =
    let c : IsSearch m o = subst (λ n. IsSearch n o) same a in
    fun_ext (λ text. same_answer (o text) (q text) (Search m text) outcome.Match outcome.NoMatch (c text) (b text))

-- a pattern has one entry at most
pattern_entry_unique : (s : Settings) (p : List ℕ) (a b : Entry) → IsPatternEntry s p a → IsPatternEntry s p b → a ≡ b
pattern_entry_unique s p a b (inl x) (inl y) =
    let same = literal_once x.0 y.0 x.2 y.2 (sym x.3 ∙ y.3) in
    x.5 ∙ ap (λ o. gives (compares p o ∷ []) None) (same_outcomes x.0 y.0 x.1 y.1 same x.4 y.4) ∙ sym y.5
pattern_entry_unique s p a b (inl x) (inr y) = absurd (y.0 (x.0, x.2, x.3))
pattern_entry_unique s p a b (inr x) (inl y) = absurd (x.0 (y.0, y.2, y.3))
pattern_entry_unique s p a b (inr x) (inr y) = x.1 ∙ sym y.1

-- a value at `pattern` has one entry at most, whether it is a string or not
text_entry_unique : (s : Settings) (d : Data) (o : Option (List ℕ)) (a b : Entry)
    → MatchOption o (a ≡ malformed Pattern (no_string d)) (λ p. IsPatternEntry s p a)
    → MatchOption o (b ≡ malformed Pattern (no_string d)) (λ p. IsPatternEntry s p b) → a ≡ b
text_entry_unique s d None a b x y = x ∙ sym y
text_entry_unique s d (Some p) a b x y = pattern_entry_unique s p a b x y

-- there is one entry at most at `pattern`, with a value or without
pattern_unique : (s : Settings) (o : Option Data) (a b : Entry) → MatchOption o (a ≡ nothing) (λ d. IsPatternValue s d a)
    → MatchOption o (b ≡ nothing) (λ d. IsPatternValue s d b) → a ≡ b
pattern_unique s None a b x y = x ∙ sym y
pattern_unique s (Some d) a b x y = text_entry_unique s d (as_str d) a b x y

-- there is one entry at most at a keyword whose entry its value determines
value_unique : (of : Data → Entry) (o : Option Data) (a b : Entry) → MatchOption o (a ≡ nothing) (λ d. a ≡ of d) → MatchOption o (b ≡ nothing) (λ d. b ≡ of d)
    → a ≡ b
value_unique of None a b x y = x ∙ sym y
value_unique of (Some d) a b x y = x ∙ sym y

-- each keyword of a schema object has one entry at most
entry_unique : (s : Settings) (ms : Members) (k : Keyword) (a b : Entry) → IsEntryAt s ms k a → IsEntryAt s ms k b → a ≡ b
entry_unique s ms ContentMediaType a b x y = value_unique (media_type_entry (content_rule s.draft) s ms) (value_at s.options ContentMediaType ms) a b x y
entry_unique s ms ContentEncoding a b x y = value_unique (encoding_entry (content_rule s.draft) s ms) (value_at s.options ContentEncoding ms) a b x y
entry_unique s ms ContentSchema a b x y = value_unique (schema_entry (content_rule s.draft) ms) (value_at s.options ContentSchema ms) a b x y
entry_unique s ms Format a b x y = value_unique (format_entry s) (value_at s.options Format ms) a b x y
entry_unique s ms MinLength a b x y = value_unique min_entry (value_at s.options MinLength ms) a b x y
entry_unique s ms MaxLength a b x y = value_unique max_entry (value_at s.options MaxLength ms) a b x y
entry_unique s ms Pattern a b x y = pattern_unique s (value_at s.options Pattern ms) a b x y

-- a list of keywords has one list of entries at most by a schema object
entries_of_unique : (s : Settings) (ms : Members) (ks : List Keyword) (es fs : List Keyed) → AreEntriesOf s ms ks es → AreEntriesOf s ms ks fs → es ≡ fs
entries_of_unique s ms [] es fs x y = x ∙ sym y
entries_of_unique s ms (k ∷ ks) es fs (a, more, at, is, rest) (b, bs, there, are, others) =
    is ∙ ap (λ e. record { keyword = k; entry = e } ∷ more) (entry_unique s ms k a b at there)
    ∙ ap (λ l. record { keyword = k; entry = b } ∷ l) (entries_of_unique s ms ks more bs rest others) ∙ sym are

-- a schema object has one list of its entries at most
pub AreEntries-unique : (s : Settings) (ms : Members) (es fs : List Keyed) → AreEntries s ms es → AreEntries s ms fs → es ≡ fs
AreEntries-unique s ms es fs x y = entries_of_unique s ms keywords es fs x.in_order y.in_order

-- what the first refusal of a schema object is, if there is one, is determined
pub FirstRefusal-unique : (s : Settings) (ms : Members) (a b : Option Refusal) → FirstRefusal s ms a → FirstRefusal s ms b → a ≡ b
FirstRefusal-unique s ms a b (es, are, x) (fs, too, y) = sym x ∙ ap (refusal s.place) (AreEntries-unique s ms es fs are too) ∙ y

-- a node has one list of notes at most by a schema object
pub Notes-unique : (s : Settings) (ms : Members) (node : Option (List ℕ)) (a b : List Remark) → Notes s ms node a → Notes s ms node b → a ≡ b
Notes-unique s ms node a b (es, are, x) (fs, too, y) = x ∙ ap (λ l. remarks_on node (all_remarks s.place l)) (AreEntries-unique s ms es fs are too) ∙ sym y

-- ---- what holds of each entry

-- what holds where there is no value, and of what each value comes to, holds of the entry
pub of_value : (P : Entry → Type 0) (of : Data → Entry) (o : Option Data) (e : Entry) → P nothing → ((d : Data) → P (of d))
    → MatchOption o (e ≡ nothing) (λ d. e ≡ of d) → P e
of_value P of None e none each h = subst P (sym h) none
of_value P of (Some d) e none each h = subst P (sym h) (each d)

-- what holds of the entry at each keyword holds of all entries
pub each_entry : (P : Entry → Type 0) (s : Settings) (ms : Members) → ((k : Keyword) (e : Entry) → IsEntryAt s ms k e → P e)
    → (ks : List Keyword) (es : List Keyed) → AreEntriesOf s ms ks es → AllByRecursion (λ x. P x.entry) es
each_entry P s ms each [] es h = subst (AllByRecursion (λ x. P x.entry)) (sym h) tt
each_entry P s ms each (k ∷ ks) es (e, rest, at, is, others) =
    subst (AllByRecursion (λ x. P x.entry)) (sym is) (each k e at, each_entry P s ms each ks rest others)
