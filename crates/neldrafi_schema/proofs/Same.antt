-- Lists of different lengths are not the same.
use Rattle.std.proofs.Common.{◌≡◌, ◌≢◌, List, [], ◌∷◌, length, refl, ap, suc, Bool, true, false, String, string_bytes}
use Rattle.std.specs.Prelude.{◌&&◌}
use Rattle.std.specs.Str.{bytes_eq}
use Rattle.std.specs.declared.alloc.Global.{Global}
use Rattle.serde_json.specs.View.{items_view, members_view, view}
use Rattle.serde_json.specs.declared.value.Value.{Value}
use Rattle.neldrafi_schema.specs.Equality.{same, same_items, same_members}

false_behind : (a b : Bool) → false ≡ b → false ≡ (a && b)
false_behind true b e = e
false_behind false b e = refl

pub items_apart : (xs ys : List Value) → length xs ≢ length ys → false ≡ same_items (items_view xs) (items_view ys)
items_apart [] [] h = absurd (h refl)
items_apart [] (y ∷ ys) h = refl
items_apart (x ∷ xs) [] h = refl
items_apart (x ∷ xs) (y ∷ ys) h = false_behind (same (view x) (view y)) _ (items_apart xs ys (λ e. h (ap suc e)))

pub members_apart : (xs ys : List (String Global × Value)) → length xs ≢ length ys → false ≡ same_members (members_view xs) (members_view ys)
members_apart [] [] h = absurd (h refl)
members_apart [] (y ∷ ys) h = refl
members_apart (x ∷ xs) [] h = refl
members_apart (x ∷ xs) (y ∷ ys) h =
    false_behind (bytes_eq (string_bytes x.0) (string_bytes y.0) && same (view x.1) (view y.1)) _ (members_apart xs ys (λ e. h (ap suc e)))
