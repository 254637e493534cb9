-- The first identifier of a URI and a plain name.
use Rattle.std.proofs.Common.{◌≡◌, ◌+◌, ◌<◌, ℕ, List, Some, sym, refl, drop, get_or, length, string_bytes, Bool, true, false}
use Rattle.std.proofs.lemmas.Slice.Eq.{bytes_eq-Decides}
use Rattle.std.specs.Str.{bytes_eq}
use Rattle.neldrafi_schema.specs.declared.identifiers.Identifier.{Identifier as FoundIdentifier}
use Rattle.neldrafi_schema.specs.Resources.{identified}
use Rattle.neldrafi_schema.specs.machine.Compiled.{path_of}
use Rattle.neldrafi_schema.specs.machine.Identifiers.{identifiers_of}
use Rattle.neldrafi_schema.proofs.Lists.{drop_one}

module _ (uri anchor : List ℕ) (ids : List FoundIdentifier) (i : ℕ) (x : FoundIdentifier) (inside : i < length ids) (is : x ≡ get_or ids i x) where
  pub identified_here : string_bytes x.uri ≡ uri → string_bytes x.anchor ≡ anchor → identified uri anchor (identifiers_of (drop i ids)) ≡ Some (path_of x.path.items)
  identified_here same_uri same_anchor =
      let by_uri : bytes_eq uri (string_bytes x.uri) ≡ true = (bytes_eq-Decides uri (string_bytes x.uri)).1 (sym same_uri) in
      let by_anchor : bytes_eq anchor (string_bytes x.anchor) ≡ true = (bytes_eq-Decides anchor (string_bytes x.anchor)).1 (sym same_anchor) in
      rw (drop_one ids i x inside is, by_uri, by_anchor) refl

  pub identified_later : (string_bytes x.uri ≡ uri → string_bytes x.anchor ≡ anchor → ⊥)
      → identified uri anchor (identifiers_of (drop i ids)) ≡ identified uri anchor (identifiers_of (drop (i + 1) ids))
  identified_later other = by (bytes_eq uri (string_bytes x.uri)) (bytes_eq anchor (string_bytes x.anchor)) refl refl where
    by : (a b : Bool) → bytes_eq uri (string_bytes x.uri) ≡ a → bytes_eq anchor (string_bytes x.anchor) ≡ b
        → identified uri anchor (identifiers_of (drop i ids)) ≡ identified uri anchor (identifiers_of (drop (i + 1) ids))
    by true true e f = absurd (other (sym ((bytes_eq-Decides uri (string_bytes x.uri)).0 e)) (sym ((bytes_eq-Decides anchor (string_bytes x.anchor)).0 f)))
    by true false e f = rw (drop_one ids i x inside is, e, f) refl
    by false b e f = rw (drop_one ids i x inside is, e) refl
