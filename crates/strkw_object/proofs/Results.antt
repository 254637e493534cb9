-- On results, and on lists that grow.
use Rattle.std.proofs.Common.{◌≡◌, ℕ, List, ◌++◌, Result, Ok, Err, OnOk, OnErr, ap, ◌∙◌, append_assoc}

-- what holds anyway holds where a result is good
pub on_ok : {T E P : Type 0} (r : Result T E) → P → OnOk r P
on_ok (Ok x) p = p
on_ok (Err e) p = tt

-- and where it is an error
pub on_err : {T E P : Type 0} (r : Result T E) → P → OnErr r P
on_err (Ok x) p = tt
on_err (Err e) p = p

-- what grew twice has grown
pub grown_more : (old a mid more new : List ℕ) → mid ≡ old ++ a → new ≡ mid ++ more → (x : List ℕ) × (new ≡ old ++ x)
grown_more old a mid more new e f = (a ++ more, f ∙ ap (λ z. z ++ more) e ∙ append_assoc old a more)
