-- The segments of a base URI that come before those of a relative path.
use Rattle.std.proofs.Common.{◌≡◌, ◌==◌, ℕ, List, [], ◌∷◌, Bool, true, false, Bor, Option, Some, None, ◌-◌, ◌∙◌, take, length, ap, refl, sym}
use Rattle.std.proofs.lemmas.List.{length-map, take-map}
use Rattle.std.specs.Prelude.{◌&&◌, is_some}
use Rattle.neldrafi_uri.specs.Components.{Components}
use Rattle.neldrafi_uri.specs.Resolution.{base_segments, but_last, is_empty, segments_of}
use Rattle.neldrafi_uri.specs.machine.Texts.{text_in, texts}

and_false : (a : Bool) → (a && false) ≡ false
and_false true = refl
and_false false = refl

has_some : (path : List ℕ) → (length path == 0) ≡ false → is_empty path ≡ false
has_some [] e = cc
has_some (b ∷ path) e = refl

pub by_path : (base : Components) → (length base.path == 0) ≡ false → base_segments base ≡ but_last (segments_of base.path)
by_path base e = rw (has_some base.path e, and_false) refl

pub without_authority : (base : Components) → is_some base.authority ≡ false → base_segments base ≡ but_last (segments_of base.path)
without_authority base e = rw e refl

pub is_some_text : (o : Option (Bor (List ℕ))) → is_some (text_in o) ≡ is_some o
is_some_text None = refl
is_some_text (Some text) = refl

pub popped : (before after : List (Bor (List ℕ))) (n : ℕ) → n ≡ length before → after ≡ take (n - 1) before → texts after ≡ but_last (texts before)
popped before after n e f =
    ap texts f ∙ sym (take-map (λ t. t.now) (n - 1) before) ∙ ap (λ k. take (k - 1) (texts before)) (e ∙ sym (length-map before (λ t. t.now)))
