-- On the built-in format of a name.
use Rattle.std.proofs.Common.{◌≡◌, ℕ, List, [], ◌∷◌, Bool, true, false, ◌&&◌, Some, refl, subst, cond}
use Rattle.std.specs.List.{find}
use Rattle.std.specs.Str.{bytes_eq}
use Rattle.std.proofs.lemmas.Bool.{and_parts}
use Rattle.std.proofs.lemmas.Option.{none-some, same_Some}
use Rattle.std.proofs.lemmas.Slice.Eq.{bytes_eq-Decides}
use Rattle.strkw_report.specs.declared.draft.Draft.{Draft}
use Rattle.strkw_report.specs.declared.draft.Draft.TheVariants.{Draft4, Draft6, Draft7, Draft201909, Draft202012}
use Rattle.strkw_formats.specs.declared.builtin.BuiltinFormat.{BuiltinFormat}
use Rattle.strkw_formats.specs.declared.builtin.BuiltinFormat.TheVariants.{Date, DateTime, Duration, Hostname, HostnameDraft4, Ipv4, Ipv6, Iri, IriReference}
use Rattle.strkw_formats.specs.declared.builtin.BuiltinFormat.TheVariants.{JsonPointer, RelativeJsonPointer, Time, Uri, UriReference, UriTemplate, Uuid}
use Rattle.strkw_formats.specs.FormatLaws.{BuiltinFormatOfName}
use Rattle.strkw_formats.specs.Formats.{format_name, is_known, formats, builtin_named}

-- what a search finds passes its test with one more element in front, where it does without
passes_by : {X : Type 0} (t : X → Bool) (x y : X) (xs : List X) (b : Bool) → t x ≡ b → (find t xs ≡ Some y → t y ≡ true) → cond b (Some x) (find t xs) ≡ Some y
    → t y ≡ true
passes_by t x y xs true e ih h = subst (λ z. t z ≡ true) (same_Some x y h) e
passes_by t x y xs false e ih h = ih h

-- what a search finds passes its test
find_passes : {X : Type 0} (t : X → Bool) (xs : List X) (y : X) → find t xs ≡ Some y → t y ≡ true
find_passes t [] y h = absurd (none-some y h)
find_passes t (x ∷ xs) y h = passes_by t x y xs (t x) refl (find_passes t xs y) h

-- the built-in format of a name has that name, and the draft has the format
pub passes : (draft : Draft) (name : List ℕ) (f : BuiltinFormat) → builtin_named draft name ≡ Some f → (format_name f ≡ name) × (is_known f draft ≡ true)
unfolding builtin_named
passes draft name f h =
    let (named, known) = and_parts _ _ (find_passes (λ x. bytes_eq (format_name x) name && is_known x draft) formats f h) in
    ((bytes_eq-Decides (format_name f) name).0 named, known)

-- so the built-in format of a name has that name
pub named_so : (draft : Draft) (name : List ℕ) (f : BuiltinFormat) → builtin_named draft name ≡ Some f → format_name f ≡ name
named_so draft name f h = (passes draft name f h).0

-- a format of a draft is found by its name
known_found : (draft : Draft) (f : BuiltinFormat) → is_known f draft ≡ true → builtin_named draft (format_name f) ≡ Some f
unfolding builtin_named
known_found draft Date h = rw h refl
known_found draft DateTime h = rw h refl
known_found draft Duration h = rw h refl
known_found draft Hostname h = rw h refl
known_found Draft4 HostnameDraft4 h = refl
known_found Draft6 HostnameDraft4 h = refl
known_found Draft7 HostnameDraft4 h = absurd (cc)
known_found Draft201909 HostnameDraft4 h = absurd (cc)
known_found Draft202012 HostnameDraft4 h = absurd (cc)
known_found draft Ipv4 h = rw h refl
known_found draft Ipv6 h = rw h refl
known_found draft Iri h = rw h refl
known_found draft IriReference h = rw h refl
known_found draft JsonPointer h = rw h refl
known_found draft RelativeJsonPointer h = rw h refl
known_found draft Time h = rw h refl
known_found draft Uri h = rw h refl
known_found draft UriReference h = rw h refl
known_found draft UriTemplate h = rw h refl
known_found draft Uuid h = rw h refl

-- a format is that of a name exactly where it has the name and the draft has the format
pub found_by_name : BuiltinFormatOfName
found_by_name draft name f = (passes draft name f, (λ h. subst (λ n. builtin_named draft n ≡ Some f) h.0 (known_found draft f h.1)))
