-- On the errors that assertions report.
use Rattle.std.proofs.Common.{◌≡◌, ◌↔◌, ℕ, List, [], ◌∷◌, ◌++◌, map, Bool, true, false, Option, Some, None, refl, sym, ap, ◌∙◌, subst, inl, inr, MatchOption}
use Rattle.std.proofs.Common.{IsTrue, slice_get, Result, Ok, Err, OnOk}
use Rattle.std.proofs.lemmas.List.{append_assoc}
use Rattle.strkw_report.specs.Kinds.{Kind, content_encoding, content_media_type, format, Report, report_at, Standing}
use Rattle.strkw_report.specs.declared.error.Site.{Site}
use Rattle.strkw_coding.specs.Laws.{EncodesOnce}
use Rattle.strkw_coding.specs.declared.codec.Codec.{Codec}
use Rattle.strkw_coding.specs.declared.media_type.BuiltinMediaType.{BuiltinMediaType}
use Rattle.std.specs.Str.{chars}
use Rattle.strkw_keywords.specs.Meanings.{Decoded, no_encoding, no_text, decoded, CodecRow, Lists, Choice, builtin, row}
use Rattle.strkw_keywords.specs.declared.keyword.Keyword.{Keyword}
use Rattle.strkw_keywords.specs.declared.keyword.Keyword.TheVariants.{ContentMediaType, ContentEncoding, Format}
use Rattle.strkw_keywords.specs.Keywords.{keyword_name}
use Rattle.strkw_keywords.specs.Demands.{Demand, is_media_type, is_encoded, encodes_media_type, is_format, at_least, at_most, compares, matches, Finding}
use Rattle.strkw_keywords.specs.Demands.{HasFinding, FoundUnless, IsContentFinding, Decodes, CodecDecodes, finding_list, Finds, IsEncoded, IsOfFormat}
use Rattle.strkw_keywords.specs.Demands.{IsOfMediaType}
use Rattle.strkw_keywords.specs.Choices.{chosen_codec_name, chosen_media_type_name, chosen_format_name}
use Rattle.strkw_formats.specs.declared.builtin.BuiltinFormat.{BuiltinFormat}
use Rattle.strkw_keywords.specs.Places.{Place, standing}
use Rattle.strkw_keywords.specs.Errors.{assertions_at, reports_of, AllReport, NodeReports, Appends}

-- ---- a text has one finding by a demand, or none

-- what is found unless P holds is determined
FoundUnless-unique : (P : Type 0) (k : Keyword) (kind : Kind) (a b : Option Finding) → FoundUnless P k kind a → FoundUnless P k kind b → a ≡ b
FoundUnless-unique P k kind a b (inl p) (inl q) = p.1 ∙ sym q.1
FoundUnless-unique P k kind a b (inl p) (inr q) = absurd (q.0 p.0)
FoundUnless-unique P k kind a b (inr p) (inl q) = absurd (p.0 q.0)
FoundUnless-unique P k kind a b (inr p) (inr q) = p.1 ∙ sym q.1

-- by `EncodesOnce`, what a text decodes to by a built-in codec is determined
builtin-unique : EncodesOnce → (c : Codec) (text : List ℕ) (a b : Decoded) → CodecDecodes c text a → CodecDecodes c text b → a ≡ b
builtin-unique once c text no_encoding no_encoding p q = refl
builtin-unique once c text no_encoding no_text p q = absurd (p (q.0, q.1))
builtin-unique once c text no_encoding (decoded t) p q = absurd (p (t, q.0))
builtin-unique once c text no_text no_encoding p q = absurd (q (p.0, p.1))
builtin-unique once c text no_text no_text p q = refl
builtin-unique once c text no_text (decoded t) p q = absurd (p.2 (rw (once c text p.0 t p.1 q.0) q.1))
builtin-unique once c text (decoded t) no_encoding p q = absurd (q (t, p.0))
builtin-unique once c text (decoded t) no_text p q = absurd (q.2 (rw (once c text q.0 t q.1 p.0) p.1))
builtin-unique once c text (decoded t) (decoded u) p q = ap decoded (once c text t u p.0 q.0)

-- what a text decodes to by a row, or where there is none, is determined
row-unique : (o : Option CodecRow) (text : List ℕ) (a b : Decoded) → MatchOption o (a ≡ no_encoding) (λ r. a ≡ r.decode (chars text))
    → MatchOption o (b ≡ no_encoding) (λ r. b ≡ r.decode (chars text)) → a ≡ b
row-unique None text a b p q = p ∙ sym q
row-unique (Some r) text a b p q = p ∙ sym q

-- by `EncodesOnce`, what a text decodes to by any codec is determined
Decodes-unique : EncodesOnce → (c : Choice Codec) (lists : Lists) (text : List ℕ) (a b : Decoded) → Decodes c lists text a → Decodes c lists text b → a ≡ b
Decodes-unique once (builtin c) lists text a b p q = builtin-unique once c text a b p q
Decodes-unique once (row at name) lists text a b p q = row-unique (slice_get lists.codecs at) text a b p q

-- what is found of a text that is decoded first is determined by what it decodes to
content-unique : (c : Choice Codec) (m : Choice BuiltinMediaType) (lists : Lists) (d : Decoded) (a b : Option Finding) → IsContentFinding c m lists d a
    → IsContentFinding c m lists d b → a ≡ b
content-unique c m lists no_encoding a b p q = p ∙ sym q
content-unique c m lists no_text a b p q = p ∙ sym q
content-unique c m lists (decoded t) a b p q = FoundUnless-unique _ _ _ a b p q

-- by `EncodesOnce`, what a text fails at by a demand, if at anything, is determined
pub HasFinding-unique : EncodesOnce → (d : Demand) (lists : Lists) (text : List ℕ) (a b : Option Finding) → HasFinding d lists text a
    → HasFinding d lists text b → a ≡ b
HasFinding-unique once (is_media_type m) lists text a b p q = FoundUnless-unique _ _ _ a b p q
HasFinding-unique once (is_encoded c) lists text a b p q = FoundUnless-unique _ _ _ a b p q
HasFinding-unique once (encodes_media_type c m) lists text a b p q =
    let same = Decodes-unique once c lists text p.0 q.0 p.1 q.1 in
    content-unique c m lists q.0 a b (subst (λ d. IsContentFinding c m lists d a) same p.2) q.2
HasFinding-unique once (is_format f) lists text a b p q = FoundUnless-unique _ _ _ a b p q
HasFinding-unique once (at_least n) lists text a b p q = FoundUnless-unique _ _ _ a b p q
HasFinding-unique once (at_most n) lists text a b p q = FoundUnless-unique _ _ _ a b p q
HasFinding-unique once (compares r outcome) lists text a b p q = p ∙ sym q
HasFinding-unique once (matches r outcome) lists text a b p q = p ∙ sym q

-- ---- findings and errors

-- the errors of several findings
abbrev pub errors_of : Standing → List ℕ → List Finding → List Report
errors_of s text fs = map (λ f. report_at s (keyword_name f.keyword) f.kind text) fs

-- the errors of a finding, if there is one, and of others are its own, and then theirs
errors_listed : (s : Standing) (text : List ℕ) (found : Option Finding) (rest : List Finding)
    → errors_of s text (finding_list found ++ rest) ≡ reports_of s text found ++ errors_of s text rest
errors_listed s text None rest = refl
errors_listed s text (Some f) rest = refl

-- the errors of what demands find of a text are what they report of it
pub found_reports : (place : Place) (ds : List Demand) (lists : Lists) (site : Site) (text : List ℕ) (fs : List Finding) → Finds ds lists text fs
    → AllReport (assertions_at place ds) lists site text (errors_of (standing place site) text fs)
found_reports place [] lists site text fs h = rw h refl
found_reports place (d ∷ others) lists site text fs h = (
  h.0,
  errors_of (standing place site) text h.1,
  h.2,
  ap (errors_of (standing place site) text) h.3
      ∙ errors_listed (standing place site) text h.0 h.1,
  found_reports place others lists site text h.1 h.4,
)

-- where nothing is reported, there is no finding, and nothing behind it
pub none_reported : (s : Standing) (text : List ℕ) (found : Option Finding) (rest : List Report) → [] ≡ reports_of s text found ++ rest → (found ≡ None)
    × (rest ≡ [])
none_reported s text None rest e = (refl, sym e)
none_reported s text (Some f) rest e = absurd (cc)

-- by `EncodesOnce`, where demands report nothing of a text, they find nothing
pub none_found : EncodesOnce → (place : Place) (ds : List Demand) (lists : Lists) (site : Site) (text : List ℕ) (fs : List Finding) → Finds ds lists text fs
    → AllReport (assertions_at place ds) lists site text [] → fs ≡ []
none_found once place [] lists site text fs h r = h
none_found once place (d ∷ others) lists site text fs h r =
    let parts = none_reported (standing place site) text r.0 r.1 r.3 in
    let same = HasFinding-unique once d lists text h.0 r.0 h.2 r.2 ∙ parts.0 in
    let rest = none_found once place others lists site text h.1 h.4 (subst (λ l. AllReport (assertions_at place others) lists site text l) parts.1 r.4) in
    h.3 ∙ ap (λ o. finding_list o ++ h.1) same ∙ rest

-- a node that is a text is valid where nothing is found
pub valid_by_findings : EncodesOnce → (place : Place) (ds : List Demand) (lists : Lists) (there : Option (List ℕ)) (text : List ℕ) (fs : List Finding)
    (b : Bool) → Some text ≡ there → Finds ds lists text fs → (IsTrue b ↔ (fs ≡ [])) → (site : Site)
    → IsTrue b ↔ NodeReports (assertions_at place ds) lists site there []
valid_by_findings once place ds lists there text fs b e h t site = subst (λ n. IsTrue b ↔ NodeReports (assertions_at place ds) lists site n []) e (
  (λ yes. subst (λ l. AllReport (assertions_at place ds) lists site text (errors_of (standing place site) text l)) (t.0 yes)
      (found_reports place ds lists site text fs h)),
  (λ r. t.1 (none_found once place ds lists site text fs h r)),
)

-- the errors of two findings, which may be missing, are those of each in turn
two_reported : (s : Standing) (text : List ℕ) (a b : Option Finding) → errors_of s text (finding_list a ++ finding_list b) ≡ reports_of s text a
    ++ reports_of s text b
two_reported s text a None = errors_listed s text a []
two_reported s text a (Some f) = errors_listed s text a (f ∷ [])

-- what is collected of two findings
pub collected_by_findings : (place : Place) (ds : List Demand) (lists : Lists) (site : Site) (text : List ℕ) (a b : Option Finding) (old new : List Report)
    → Finds ds lists text (finding_list a ++ finding_list b) → new ≡ old ++ reports_of (standing place site) text a ++ reports_of (standing place site) text b
    → Appends (NodeReports (assertions_at place ds) lists site (Some text)) old new
collected_by_findings place ds lists site text a b old new h g = record {
  added = reports_of (standing place site) text a ++ reports_of (standing place site) text b;
  grown = g ∙ append_assoc old (reports_of (standing place site) text a) (reports_of (standing place site) text b);
  reported = rw (← two_reported (standing place site) text a b) (found_reports place ds lists site text (finding_list a ++ finding_list b) h);
}

-- the same of a call that may be refused
pub collected_ok : {E : Type 0} (r : Result (Unit {0}) E) (place : Place) (ds : List Demand) (lists : Lists) (site : Site) (text : List ℕ)
    (a b : Option Finding) (old new : List Report) → Finds ds lists text (finding_list a ++ finding_list b)
    → OnOk r (new ≡ old ++ reports_of (standing place site) text a ++ reports_of (standing place site) text b)
    → OnOk r (Appends (NodeReports (assertions_at place ds) lists site (Some text)) old new)
collected_ok (Ok x) place ds lists site text a b old new h g = collected_by_findings place ds lists site text a b old new h g
collected_ok (Err x) place ds lists site text a b old new h g = tt

-- ---- one finding

-- what one demand finds of a text is its finding, if there is one
pub finds_one : (d : Demand) (lists : Lists) (text : List ℕ) (found : Option Finding) → HasFinding d lists text found
    → Finds (d ∷ []) lists text (finding_list found ++ [])
finds_one d lists text found h = (found, [], h, refl, refl)

-- a finding, or none, and nothing behind it
listed_alone : (found : Option Finding) → finding_list found ≡ finding_list found ++ []
listed_alone None = refl
listed_alone (Some f) = refl

-- what two demands find of a text is the finding of each, if there is one
pub finds_two : (d e : Demand) (lists : Lists) (text : List ℕ) (a b : Option Finding) → HasFinding d lists text a → HasFinding e lists text b
    → Finds (d ∷ e ∷ []) lists text (finding_list a ++ finding_list b)
finds_two d e lists text a b h k = (a, finding_list b, h, refl, (b, [], k, listed_alone b, refl))

-- ---- one text

-- where a test of P is false, P does not hold
not_true : (b : Bool) (P : Type 0) → b ≡ false → (IsTrue b ↔ P) → P → ⊥
not_true b P e t p = let yes = t.1 p in absurd (cc)

-- a text that its codec does not take
pub not_encoded : (c : Choice Codec) (lists : Lists) (text name : List ℕ) (b : Bool) → b ≡ false → (IsTrue b ↔ IsEncoded c lists text)
    → name ≡ chosen_codec_name c → HasFinding (is_encoded c) lists text (Some (record { keyword = ContentEncoding; kind = content_encoding name }))
not_encoded c lists text name b f t n = inr (not_true b (IsEncoded c lists text) f t, rw n refl)

-- a text that its format admits
pub of_format : (f : Choice BuiltinFormat) (lists : Lists) (text : List ℕ) (b : Bool) → b ≡ true → (IsTrue b ↔ IsOfFormat f lists text)
    → HasFinding (is_format f) lists text None
of_format f lists text b admitted of = inl (of.0 admitted, refl)

-- a text that its format does not admit
pub not_of_format : (f : Choice BuiltinFormat) (lists : Lists) (text name : List ℕ) (b : Bool) → b ≡ false → (IsTrue b ↔ IsOfFormat f lists text)
    → name ≡ chosen_format_name f → HasFinding (is_format f) lists text (Some (record { keyword = Format; kind = format name }))
not_of_format f lists text name b h t n = inr (not_true b (IsOfFormat f lists text) h t, rw n refl)

-- a text that encodes one of the media type
pub decodes_well : (c : Choice Codec) (m : Choice BuiltinMediaType) (lists : Lists) (text t : List ℕ) (d : Decoded) (b : Bool) → d ≡ decoded t
    → Decodes c lists text d → b ≡ true → (IsTrue b ↔ IsOfMediaType m lists t) → HasFinding (encodes_media_type c m) lists text None
decodes_well c m lists text t d b e h accepted of = (decoded t, subst (Decodes c lists text) e h, inl (of.0 accepted, refl))

-- and one that encodes another
pub decodes_badly : (c : Choice Codec) (m : Choice BuiltinMediaType) (lists : Lists) (text t name : List ℕ) (d : Decoded) (b : Bool) → d ≡ decoded t
    → Decodes c lists text d → b ≡ false → (IsTrue b ↔ IsOfMediaType m lists t) → name ≡ chosen_media_type_name m
    → HasFinding (encodes_media_type c m) lists text (Some (record { keyword = ContentMediaType; kind = content_media_type name }))
decodes_badly c m lists text t name d b e h refused of n =
    (decoded t, subst (Decodes c lists text) e h, inr (not_true b (IsOfMediaType m lists t) refused of, rw n refl))
