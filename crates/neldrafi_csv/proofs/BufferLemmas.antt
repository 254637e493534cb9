-- Bytes that are moved and read.
use Rattle.std.proofs.Common.{◌≡◌, ◌≢◌, ◌≤◌, ◌<◌, ◌+◌, ◌-◌, ℕ, zero, suc, List, [], ◌∷◌, ◌++◌, take, drop, length, refl, sym, ap, subst, arith, ◌∙◌}
use Rattle.std.proofs.Common.{append_assoc, Option, Some, None, take-add}
use Rattle.std.specs.Io.KnownBytes.{Consumes, IsAtEnd, Keeps, prepend_known}
use Rattle.std.specs.List.{copy_within}
use Rattle.std.proofs.lemmas.List.{append-nil, drop-take, length-append, length-drop, length-take-le, take-append-le, take-take}
use Rattle.std.proofs.lemmas.List.Edits.{take-paste}
use Rattle.std.proofs.Math.Seq.{take-append-add}

pub moved : (xs : List ℕ) (from to : ℕ) → from ≤ to → to ≤ length xs → take (to - from) (copy_within xs from to 0) ≡ drop from (take to xs)
moved xs from to ordered within =
    let long = length-drop from xs in
    let same : from + (to - from) ≡ to = omega (arith, ordered) in
    let none : 0 + (to - from) ≡ to - from = omega arith in
    ap (λ n. take n (copy_within xs from to 0)) (sym none) ∙ take-paste xs 0 (drop from xs) (to - from) (omega arith) (omega (arith, long, within))
    ∙ sym (drop-take from (to - from) xs) ∙ ap (λ n. drop from (take n xs)) same

-- bytes that were read are behind those before
pub read-there : (items held buf post rest : List ℕ) (filled n len : ℕ) → held ≡ items → len ≡ length items → filled + n ≤ length items → n ≤ length buf
    → take (filled + n) (take len ((take filled held ++ (buf ++ post)) ++ rest)) ≡ take filled items ++ take n buf
read-there items held buf post rest filled n len same long within short =
    let size : length (take filled held) ≡ filled = length-take-le filled held (omega (arith, ap length same, within)) in
    let shorter = take-take (filled + n) len ((take filled held ++ (buf ++ post)) ++ rest) (omega (arith, long, within)) in
    let joined = append_assoc (take filled held) (buf ++ post) rest in
    let longer = length-append buf post in
    shorter ∙ ap (take (filled + n)) joined ∙ ap (λ m. take (m + n) (take filled held ++ ((buf ++ post) ++ rest))) (sym size)
    ∙ take-append-add (take filled held) ((buf ++ post) ++ rest) n
    ∙ ap (λ l. take filled held ++ l) (take-append-le n (buf ++ post) rest (omega (arith, longer, short)) ∙ take-append-le n buf post short)
    ∙ ap (λ l. take filled l ++ take n buf) same
