-- The derived order of segments is that of the definitions.
use Rattle.std.proofs.Common.{◌≡◌, List, [], ◌∷◌, ap, eqb-true, refl, sym, true, false, String, string_bytes}
use Rattle.std.proofs.Math.Path.{ap₂}
use Rattle.std.proofs.lemmas.Bool.{false≢true}
use Rattle.std.specs.Prelude.{◌&&◌, Bool}
use Rattle.std.specs.Cmp.Lexicographic.{pointwise, same_text}
use Rattle.std.specs.Cmp.Lexicographic.{slice_cmp}
use Rattle.std.specs.declared.cmp.Ordering.{Ordering}
use Rattle.std.specs.String.{string_eq}
use Rattle.std.specs.declared.alloc.Global.{Global}
use Rattle.neldrafi_schema.specs.declared.segment.Segment.{Segment}
use Rattle.neldrafi_schema.specs.declared.segment.Segment.TheVariants.{Key, Place, Document}
use Rattle.neldrafi_schema.specs.contracts.segment.SegmentOrd.TheImpl.{cmp-value}
use Rattle.neldrafi_schema.specs.contracts.segment.SegmentPartialEq.TheImpl.{eq-value}
use Rattle.neldrafi_schema.specs.Paths.{key, place, document, segment_cmp}
use Rattle.neldrafi_schema.specs.machine.Compiled.{path_of, segment_of}
use Rattle.neldrafi_schema.specs.machine.Places.{scope_of}

slices_alike : {A : Type 0} (R S : A → A → Ordering) → ((a b : A) → R a b ≡ S a b) → (xs ys : List A) → slice_cmp R xs ys ≡ slice_cmp S xs ys
slices_alike R S same [] [] = refl
slices_alike R S same [] (y ∷ ys) = refl
slices_alike R S same (x ∷ xs) [] = refl
slices_alike R S same (x ∷ xs) (y ∷ ys) = rw (same x y, slices_alike R S same xs ys) refl

derived : (a b : Segment) → segment_cmp (segment_of a) (segment_of b) ≡ cmp-value.it a b
derived (Key a) (Key b) = refl
derived (Place m) (Place n) = refl
derived (Document m) (Document n) = refl
derived a b = refl

pub derived_paths : (a b : List Segment) → slice_cmp (λ a b. segment_cmp (segment_of a) (segment_of b)) a b ≡ slice_cmp cmp-value.it a b
derived_paths a b = slices_alike _ _ derived a b

-- segments that are equal as derived stand for the same
same_segment : (a b : Segment) → eq-value.it a b ≡ true → segment_of a ≡ segment_of b
same_segment (Key a) (Key b) e = ap key (same_text (string_bytes a) (string_bytes b) (sym e))
same_segment (Place m) (Place n) e = ap place (eqb-true m n e)
same_segment (Document m) (Document n) e = ap document (eqb-true m n e)
same_segment a b e = absurd (false≢true e)

both : (a b : Bool) → (a && b) ≡ true → (a ≡ true) × (b ≡ true)
both true b e = (refl, e)
both false b e = absurd (false≢true e)

-- and so are scopes
pub same_scopes : (a b : List (String Global)) → pointwise string_eq a b ≡ true → scope_of a ≡ scope_of b
same_scopes [] [] e = refl
same_scopes [] (y ∷ ys) e = absurd (false≢true e)
same_scopes (x ∷ xs) [] e = absurd (false≢true e)
same_scopes (x ∷ xs) (y ∷ ys) e =
    let parts = both (string_eq x y) (pointwise string_eq xs ys) e in
    ap₂ (λ uri scope. uri ∷ scope) (same_text (string_bytes x) (string_bytes y) (sym parts.0)) (same_scopes xs ys parts.1)

pub same_paths : (a b : List Segment) → pointwise eq-value.it a b ≡ true → path_of a ≡ path_of b
same_paths [] [] e = refl
same_paths [] (y ∷ ys) e = absurd (false≢true e)
same_paths (x ∷ xs) [] e = absurd (false≢true e)
same_paths (x ∷ xs) (y ∷ ys) e =
    let parts = both (eq-value.it x y) (pointwise eq-value.it xs ys) e in
    ap₂ (λ s path. s ∷ path) (same_segment x y parts.0) (same_paths xs ys parts.1)
