-- Lists that grow.
use Rattle.std.specs.Prelude.{◌≡◌, List, ◌++◌}

-- While a table is made: the first lists are the front of the second, which are those later on.
abbrev pub IsFront : {A : Type 0} → List A → List A → Type 0
IsFront {A} xs ys = (more : List A) × (ys ≡ xs ++ more)
