-- What a run keeps from piece to piece.
use Rattle.std.proofs.Common.{◌≡◌, ℕ, ◌+◌, ◌-◌, ◌^◌, ◌<◌, ◌≤◌, Option, Some, None, List, ◌++◌, [], Result, Ok, Err, length, take, sym, ap, subst, ◌∙◌, arith}
use Rattle.std.proofs.Common.{length-append, append-nil, refl, IfSome}
use Rattle.std.specs.Io.KnownBytes.{Appends, Consumes, Keeps}
use Rattle.std.proofs.KnownBytes.{Consumes-nil, Appends-nil, Consumes-trans, Consumes-kept, Appends-trans}
use Rattle.strkw_cli.specs.Lines.{parts, ended_lines, last_part, lines}
use Rattle.strkw_cli.specs.Answer.{AreAnswers}
use Rattle.strkw_cli.specs.Bounds.{HasShortLines, IsOutcomeWithin, IsTaken}
use Rattle.strkw_cli.specs.declared.faults.RunFault.TheVariants.{Read, TooLong}
use Rattle.strkw_cli.specs.declared.running.Ending.{Ending}
use Rattle.strkw_cli.specs.declared.running.Ending.TheVariants.{AtEnd, AtLongLine}
use Rattle.strkw_cli.specs.Serving.{Serves}
use Rattle.strkw_cli.specs.declared.faults.RunFault.{RunFault}
use Rattle.strkw_cli.proofs.LineLemmas.{lines-append, ended_lines-append, last_part-append, last_part-again}
use Rattle.strkw_cli.proofs.AnswerLemmas.{AreAnswers-append}
use Rattle.strkw_cli.proofs.OutcomeLemmas.{Serves-after, outcome_from_fault}
use Rattle.strkw_cli.proofs.BoundLemmas.{fits_none, past_from_taken, taken_whole, within_none}

-- So many reads have each given bytes; each line that has ended is answered, and the line that is kept is what follows.
-- No line is longer than the bound.
pub record Runs (bound : Option ℕ) (left left' taken taken' : Option (List ℕ)) (line : List ℕ) (reads : ℕ) : Type 0 where
  pub read : List ℕ
  pub consumed : Consumes left left' read
  pub written : List ℕ
  pub took : Appends taken taken' written
  pub answered : AreAnswers (ended_lines read) written
  pub begun : line ≡ last_part read
  pub short : HasShortLines bound read
  pub counted : reads ≤ length read

-- where there are no bytes, no line ends, and the last part is empty
pub none_read : (ended_lines [] ≡ []) × (last_part [] ≡ [])
unfolding ended_lines last_part parts
none_read = (refl, refl)

-- at the start nothing is read
pub Runs-start : (bound : Option ℕ) (left taken : Option (List ℕ)) → Runs bound left left taken taken [] 0
Runs-start bound left taken = record {
  read = [];
  consumed = Consumes-nil left;
  written = [];
  took = Appends-nil taken;
  answered = rw none_read.0 refl;
  begun = sym none_read.1;
  short = rw (none_read.0, none_read.1) (within_none bound, fits_none bound);
  counted = omega arith;
}

-- what is kept is a last part
pub Runs-begun : {bound : Option ℕ} {left left' taken taken' : Option (List ℕ)} {line : List ℕ} {reads : ℕ} → Runs bound left left' taken taken' line reads
    → last_part line ≡ line
Runs-begun runs = rw runs.begun (last_part-again runs.read)

-- the line that is kept is within the bound
pub Runs-fits : (bound : Option ℕ) {left left' taken taken' : Option (List ℕ)} {line : List ℕ} {reads : ℕ} → Runs bound left left' taken taken' line reads
    → IfSome bound (λ longest. length line ≤ longest)
Runs-fits None runs = tt
Runs-fits (Some longest) runs = omega (arith, ap length runs.begun, runs.short.1)

module _ (bound : Option ℕ) (left left' left'' taken taken' taken'' : Option (List ℕ)) (line : List ℕ) (reads : ℕ)
    (runs : Runs bound left left' taken taken' line reads) where
  -- what a run has read and written
  abbrev pub HasWritten : Result Ending RunFault → Type 0
  HasWritten r = (read : List ℕ) × (written : List ℕ) × Consumes left left'' read × Appends taken taken'' written × IsOutcomeWithin bound r read written

  -- the clause of a run at a fault of the source
  pub written_at_read_fault : Keeps left' left'' → (read : List ℕ) × (written : List ℕ) × Consumes left left'' read × Appends taken taken' written
      × IsOutcomeWithin bound (Err Read) read written
  written_at_read_fault kept = (
    runs.read,
    runs.written,
    Consumes-kept left left' left'' runs.read runs.consumed kept,
    runs.took,
    (runs.read, taken_whole bound runs.read runs.short, runs.answered),
  )

  -- the clause of a run after so many reads
  pub written_at_too_long : 2 ^ 64 - 1 ≤ reads → (read : List ℕ) × (written : List ℕ) × Consumes left left' read × Appends taken taken' written
      × IsOutcomeWithin bound (Err TooLong) read written
  written_at_too_long many = (
    runs.read,
    runs.written,
    runs.consumed,
    runs.took,
    (
      runs.read,
      taken_whole bound runs.read runs.short,
      (runs.answered, omega (arith, many, runs.counted)),
    ),
  )

  -- what the last part of the run has served, after what was served before
  pub written_at_last : {T : Type 0} (r : Result T RunFault) → Consumes left' left'' []
      → (written : List ℕ) × Appends taken' taken'' written × Serves r (lines line) line written
      → (read : List ℕ) × (written : List ℕ) × Consumes left left'' read × Appends taken taken'' written × HasShortLines bound read
      × Serves r (lines read) read written
  written_at_last r none (written, took, serves) =
      let begun : line ≡ last_part runs.read ++ [] = runs.begun ∙ sym (append-nil (last_part runs.read)) in
      let all : ended_lines runs.read ++ lines line ≡ lines (runs.read ++ []) = ap (λ l. ended_lines runs.read ++ lines l) begun
      ∙ sym (lines-append runs.read []) in
      let joined = Serves-after r (lines line) runs.read [] runs.written written runs.answered (subst (λ l. Serves r (lines line) l written) begun serves) in (
        runs.read ++ [],
        runs.written ++ written,
        Consumes-trans left left' left'' runs.read [] runs.consumed none,
        Appends-trans taken taken' taken'' runs.written written runs.took took,
        subst (HasShortLines bound) (sym (append-nil runs.read)) runs.short,
        subst (λ q. Serves r q (runs.read ++ []) (runs.written ++ written)) all joined,
      )

  -- the clause of a run at a fault of its last part
  pub written_at_last_fault : {T : Type 0} (r : Result T RunFault) (e : RunFault) → r ≡ Err e → Consumes left' left'' []
      → (written : List ℕ) × Appends taken' taken'' written × Serves r (lines line) line written
      → HasWritten (Err e)
  written_at_last_fault {T} r e is none served =
      let (read, written, consumed, took, short, serves) = written_at_last r none served in (
        read,
        written,
        consumed,
        took,
        (
          read,
          taken_whole bound read short,
          outcome_from_fault T e (lines read) read written
              (subst (λ s. Serves s (lines read) read written) is serves),
        ),
      )

  -- and at the end
  pub written_at_end : {T : Type 0} (r : Result T RunFault) (done : T) → r ≡ Ok done → Consumes left' left'' []
      → (written : List ℕ) × Appends taken' taken'' written × Serves r (lines line) line written
      → HasWritten (Ok AtEnd)
  written_at_end r done is none served =
      let (read, written, consumed, took, short, serves) = written_at_last r none served in
      (read, written, consumed, took, (short, subst (λ s. Serves s (lines read) read written) is serves))

  -- the lines that have ended are answered, with those of one more piece
  answered_on : (piece more : List ℕ) → AreAnswers (ended_lines (line ++ piece)) more → AreAnswers (ended_lines (runs.read ++ piece)) (runs.written ++ more)
  answered_on piece more are = subst (λ x. AreAnswers x (runs.written ++ more))
      (ap (λ l. ended_lines runs.read ++ ended_lines (l ++ piece)) runs.begun ∙ sym (ended_lines-append runs.read piece))
      (AreAnswers-append (ended_lines runs.read) (ended_lines (line ++ piece)) runs.written more runs.answered are)

  -- one more piece that is served whole
  pub Runs-more : (piece line' : List ℕ) → Consumes left' left'' piece → 0 < length piece
      → HasShortLines bound (runs.read ++ piece)
      → (written : List ℕ) × Appends taken' taken'' written × AreAnswers (ended_lines (line ++ piece)) written
      → line' ≡ last_part (line ++ piece) → Runs bound left left'' taken taken'' line' (reads + 1)
  Runs-more piece line' consumed some short (written, took, are) begun = record {
    read = runs.read ++ piece;
    consumed = Consumes-trans left left' left'' runs.read piece runs.consumed consumed;
    written = runs.written ++ written;
    took = Appends-trans taken taken' taken'' runs.written written runs.took took;
    answered = answered_on piece written are;
    begun = begun ∙ ap (λ l. last_part (l ++ piece)) runs.begun ∙ sym (last_part-append runs.read piece);
    short = short;
    counted = omega (arith, length-append runs.read piece, runs.counted);
  }

  -- the clause of a run at a fault while the front of a piece is served
  pub written_at_fault : (U : Type 0) (e : RunFault) (piece front : List ℕ) → Consumes left' left'' piece
      → IsTaken bound (runs.read ++ piece) (runs.read ++ front)
      → (written : List ℕ) × Appends taken' taken'' written × Serves {T = U} (Err e) (ended_lines (line ++ front)) (line ++ front) written
      → HasWritten (Err e)
  written_at_fault U e piece front consumed is (written, took, serves) =
      let whole = ended_lines (line ++ front) in
      let joined = Serves-after {T = U} (Err e) whole runs.read front runs.written written runs.answered
      (subst (λ l. Serves {T = U} (Err e) whole (l ++ front) written) runs.begun serves) in (
        runs.read ++ piece,
        runs.written ++ written,
        Consumes-trans left left' left'' runs.read piece runs.consumed consumed,
        Appends-trans taken taken' taken'' runs.written written runs.took took,
        (runs.read ++ front, is, outcome_from_fault U e (ended_lines runs.read ++ whole) (runs.read ++ front) (runs.written ++ written) joined),
      )

  -- the clause of a run where a line of a piece is too long, and the bytes before it were served
  pub written_at_long_line : (piece : List ℕ) (count : ℕ) → Consumes left' left'' piece → count < length piece
      → IsTaken bound (runs.read ++ piece) (runs.read ++ take count piece)
      → (written : List ℕ) × Appends taken' taken'' written × AreAnswers (ended_lines (line ++ take count piece)) written
      → HasWritten (Ok AtLongLine)
  written_at_long_line piece count consumed few is (written, took, are) = (
    runs.read ++ piece,
    runs.written ++ written,
    Consumes-trans left left' left'' runs.read piece runs.consumed consumed,
    Appends-trans taken taken' taken'' runs.written written runs.took took,
    record {
      taken = runs.read ++ take count piece;
      rest = is.rest;
      splits = is.splits;
      short = is.short;
      goes_past = past_from_taken bound runs.read piece count few is;
      answered = answered_on (take count piece) written are;
    },
  )
