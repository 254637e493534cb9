-- What is told of a line that is not UTF-8, and what a new reader has left.
use Rattle.std.proofs.Common.{◌≡◌, ◌∙◌, ℕ, List, [], ap, inr, Result, Ok, Err}
use Rattle.std.specs.Io.Buffered.{reader_buffer, reader_capacity, reader_inner, reader_remaining}
use Rattle.std.specs.Io.KnownBytes.{prepend_known}
use Rattle.std.specs.Prelude.{◌==◌, if◌then◌else◌, IfOk, IsUtf8, Option, None, Some}
use Rattle.std.specs.declared.io.buffered.BufReader.{BufReader}
use Rattle.std.specs.declared.alloc.AllocError.{AllocError}
use Rattle.neldrafi_check.specs.Files.{Errors, LineTold, UnreadTold}
use Rattle.neldrafi_check.specs.Forms.{Form}
use Rattle.neldrafi_check.specs.Messages.{Adds}
use Rattle.neldrafi_check.specs.declared.counts.Counts.{Counts}
use Rattle.neldrafi_check.specs.declared.lines.LineKind.{LineKind}
use Rattle.neldrafi_check.specs.declared.lines.LineKind.TheVariants.{Json, Text}

module _ (errors : Errors) (form : Form) where
  not_utf8 : (kind : LineKind) (number : ℕ) (line : List ℕ) (count : Counts) (made : List ℕ)
      → (IsUtf8 line → ⊥) → UnreadTold form number count made → LineTold errors form kind number line count made
  not_utf8 Json number line count made bad told = inr (inr (λ yes. absurd (bad yes), told))
  not_utf8 Text number line count made bad told = inr (bad, told)

  pub adds_not_utf8 : (kind : LineKind) (number : ℕ) (line old new : List ℕ) (result : Result Counts AllocError) → (IsUtf8 line → ⊥)
      → IfOk result (λ count. Adds (UnreadTold form number count) old new)
      → IfOk result (λ count. Adds (LineTold errors form kind number line count) old new)
  adds_not_utf8 kind number line old new (Ok count) bad put = (put.0, put.1, not_utf8 kind number line count put.0 bad put.2)
  adds_not_utf8 kind number line old new (Err e) bad put = tt

-- a reader that is new has the bytes of its file left
pub fresh_remaining : {T A : Type 0} (remaining : T → Option (List ℕ)) (r : BufReader T A) (file : T) (text : List ℕ)
    → reader_inner r ≡ file → reader_buffer r ≡ [] → reader_capacity r ≡ 65536 → remaining file ≡ Some text
    → reader_remaining remaining r ≡ Some text
fresh_remaining remaining r file text inner empty capacity is =
    ap (λ n. if n == 0 then None else prepend_known (reader_buffer r) (remaining (reader_inner r))) capacity
    ∙ ap (λ bs. prepend_known bs (remaining (reader_inner r))) empty
    ∙ ap (λ o. prepend_known [] o) (ap remaining inner ∙ is)
