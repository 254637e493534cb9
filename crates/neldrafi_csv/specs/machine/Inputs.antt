-- What an input has left, and what its steps do.
use Rattle.std.specs.Prelude.{◌≡◌, ℕ, List, ◌++◌, if◌then◌else◌, Option, Some, option_map}
use Rattle.std.specs.Io.KnownBytes.{prepend_known}
use Rattle.neldrafi_csv.specs.declared.input.Input.{Input}
use Rattle.neldrafi_csv.specs.Lines.{place_after}
use Rattle.neldrafi_csv.specs.Marks.{without_mark}

-- the bytes that an input has left
abbrev pub rest_of : {R : Type 0} → (R → Option (List ℕ)) → Input R → Option (List ℕ)
rest_of rem input = prepend_known input.buffer (rem input.source)

-- .. less a byte order mark at the start of the text
abbrev pub unread_in : {R : Type 0} → (R → Option (List ℕ)) → Input R → Option (List ℕ)
unread_in rem input = if input.has_begun then rest_of rem input else option_map without_mark (rest_of rem input)

-- an input, whose bytes are this text, is behind bytes at its front
pub record Passes {R : Type 0} (rem : R → Option (List ℕ)) (old new : Input R)
    (text bytes rest : List ℕ) : Type 0 where
  pub splits : text ≡ bytes ++ rest
  pub left : rest_of rem new ≡ Some rest
  pub place : new.place ≡ place_after old.place bytes
  pub begun : new.has_begun ≡ old.has_begun
