-- Lemmas on lines that have a bound.
use Rattle.std.proofs.Common.{◌≡◌, ℕ, ◌+◌, ◌-◌, ◌<◌, ◌≤◌, false, Option, Some, None, List, [], ◌∷◌, ◌++◌, length, take, drop, get_or, refl, sym, ap, subst, ◌∙◌}
use Rattle.std.proofs.Common.{append_assoc, append-nil, arith, inl, inr, length-append, length-take, length-drop, position}
use Rattle.std.proofs.lemmas.List.{drop_more, get_or-drop, take_all}
use Rattle.std.proofs.lemmas.List.Quantifiers.{position-Some}
use Rattle.std.proofs.lemmas.List.Elements.{All-take}
use lib.Seq.{take-add}
use Rattle.strkw_cli.specs.Bounds.{AreWithin, Fits, GoesPast, HasShortLines, IsTaken}
use Rattle.strkw_cli.specs.Lines.{ended_lines, is_line_feed, last_part}
use Rattle.strkw_cli.proofs.LineLemmas.{HasNoLineFeed, plain_more}
use Rattle.strkw_cli.proofs.AnswerLemmas.{cut_at, ends_line, goes_on, plain_from_none, plain_before}

-- ---- lines within a bound

-- an empty line is within any bound
pub fits_none : (bound : Option ℕ) → Fits bound []
fits_none None = tt
fits_none (Some longest) = omega arith

-- an empty list of lines is within any bound
pub within_none : (bound : Option ℕ) → AreWithin bound []
unfolding AreWithin
within_none bound = tt

-- lines that are within a bound, and one more that is, are within it together
within_one_more : (bound : Option ℕ) (before : List (List ℕ)) (line : List ℕ) → AreWithin bound before → Fits bound line → AreWithin bound (before ++ line ∷ [])
unfolding AreWithin
within_one_more bound [] line none fits = (fits, tt)
within_one_more bound (first ∷ more) line (short, are) fits = (short, within_one_more bound more line are fits)

-- without a bound all lines are within it
unbounded : (lines : List (List ℕ)) → AreWithin None lines
unfolding AreWithin
unbounded [] = tt
unbounded (line ∷ more) = (tt, unbounded more)

-- all of the bytes are taken
pub taken_whole : (bound : Option ℕ) (read : List ℕ) → HasShortLines bound read → IsTaken bound read read
taken_whole bound read short = record { rest = []; splits = sym (append-nil read); short = short; stops = inl refl }

-- without a bound all of a piece is taken
pub taken_unbounded : (bound : Option ℕ) (start piece : List ℕ) → bound ≡ None → IsTaken bound (start ++ piece) (start ++ take (length piece) piece)
taken_unbounded bound start piece none =
    let whole : start ++ take (length piece) piece ≡ start ++ piece = ap (λ x. start ++ x) (take_all (length piece) piece (omega arith)) in
    rw (none, whole) (taken_whole None (start ++ piece) (unbounded (ended_lines (start ++ piece)), tt))

-- ---- a piece

-- the lines up to a place of a piece are short, and so many bytes more go onto the last of them
pub record Reaches (longest : ℕ) (bytes : List ℕ) (room : ℕ) : Type 0 where
  pub within : AreWithin (Some longest) (ended_lines bytes)
  pub room_is : length (last_part bytes) + room ≡ longest

module _ (longest : ℕ) (start piece : List ℕ) where
  -- a line ends
  pub reaches_next : (at offset room : ℕ) → Reaches longest (start ++ take at piece) room → position is_line_feed (drop at piece) ≡ Some offset → offset ≤ room
      → Reaches longest (start ++ take (at + offset + 1) piece) longest
  reaches_next at offset room reaches found fits =
      let line = ends_line start piece at offset found in
      let bytes = start ++ take at piece in
      let count : length (take offset (drop at piece)) ≡ offset = omega (arith, length-take offset (drop at piece), length-drop at piece, line.within) in
      let short : length (last_part bytes ++ take offset (drop at piece)) ≤ longest =
      omega (arith, length-append (last_part bytes) (take offset (drop at piece)), count, reaches.room_is, fits) in
      record {
        within = subst (AreWithin (Some longest)) (sym line.ended) (within_one_more (Some longest) (ended_lines bytes) _ reaches.within short);
        room_is = omega (arith, ap length line.begun);
      }

  -- what goes on without a line feed
  short_plain : (at count : ℕ) → HasNoLineFeed (take count (drop at piece)) → (room : ℕ) → Reaches longest (start ++ take at piece) room
      → at + count ≤ length piece → count ≤ room
      → HasShortLines (Some longest) (start ++ take (at + count) piece) × (length (last_part (start ++ take (at + count) piece)) + (room - count) ≡ longest)
  short_plain at count plain room reaches within fits =
      let bytes = start ++ take at piece in
      let more = take count (drop at piece) in
      let whole : start ++ take (at + count) piece ≡ bytes ++ more =
      ap (λ x. start ++ x) (take-add at count piece) ∙ sym (append_assoc start (take at piece) more) in
      let both = plain_more bytes more plain in
      let size : length more ≡ count = omega (arith, length-take count (drop at piece), length-drop at piece, within) in
      let last : length (last_part (start ++ take (at + count) piece)) ≡ length (last_part bytes) + count =
      ap (λ x. length (last_part x)) whole ∙ ap length both.1 ∙ length-append (last_part bytes) more ∙ ap (λ n. length (last_part bytes) + n) size in (
        (subst (AreWithin (Some longest)) (sym (ap ended_lines whole ∙ both.0)) reaches.within, omega (arith, last, reaches.room_is, fits)),
        omega (arith, last, reaches.room_is, fits),
      )

  -- what is taken where the line goes on past its room
  past : (at room : ℕ) → HasNoLineFeed (take room (drop at piece)) → Reaches longest (start ++ take at piece) room → at + room < length piece
      → is_line_feed (get_or (drop at piece) room 0) ≡ false → IsTaken (Some longest) (start ++ piece) (start ++ take (at + room) piece)
  past at room plain reaches within other =
      let short = short_plain at room plain room reaches (omega (arith, within)) (omega arith) in
      let full : length (last_part (start ++ take (at + room) piece)) ≡ longest = omega (arith, short.1) in
      record {
        rest = drop (at + room) piece;
        splits = cut_at start piece (at + room);
        short = short.0;
        stops = inr (subst (GoesPast (Some longest) (start ++ take (at + room) piece)) (sym (drop_more piece (at + room) 0 within))
            (full, sym (ap is_line_feed (get_or-drop at piece room 0)) ∙ other));
      }

  -- where a line feed comes behind the room
  pub taken_before : (at offset room : ℕ) → Reaches longest (start ++ take at piece) room → position is_line_feed (drop at piece) ≡ Some offset → room < offset
      → IsTaken (Some longest) (start ++ piece) (start ++ take (at + room) piece)
  taken_before at offset room reaches found long =
      let (below, feed, before) = position-Some is_line_feed (drop at piece) offset 0 found in
      past at room (plain_before (drop at piece) offset room before (omega (arith, long))) reaches (omega (arith, length-drop at piece, below, long))
      (before room long)

  -- where none comes any more, and the room is less than what is left
  pub taken_short : (at room : ℕ) → Reaches longest (start ++ take at piece) room → position is_line_feed (drop at piece) ≡ None → room < length piece - at
      → IsTaken (Some longest) (start ++ piece) (start ++ take (at + room) piece)
  taken_short at room reaches none long =
      let plain = plain_from_none (drop at piece) none in
      let within : room < length (drop at piece) = omega (arith, length-drop at piece, long) in
      past at room (All-take (λ byte. is_line_feed byte ≡ false) room (drop at piece) plain) reaches (omega (arith, long)) (plain room 0 within)

  -- where none comes any more, and there is room for what is left
  pub taken_all : (at room : ℕ) → Reaches longest (start ++ take at piece) room → position is_line_feed (drop at piece) ≡ None → length piece - at ≤ room
      → IsTaken (Some longest) (start ++ piece) (start ++ take (length piece) piece)
  taken_all at room reaches none fits =
      let both = goes_on start piece at none in
      let short : length (last_part (start ++ piece)) ≤ longest =
      omega (arith, ap length both.1, length-append (last_part (start ++ take at piece)) (drop at piece), length-drop at piece, reaches.room_is, fits) in
      let whole : start ++ take (length piece) piece ≡ start ++ piece = ap (λ x. start ++ x) (take_all (length piece) piece (omega arith)) in
      subst (IsTaken (Some longest) (start ++ piece)) (sym whole)
      (taken_whole (Some longest) (start ++ piece) (subst (AreWithin (Some longest)) (sym both.0) reaches.within, short))

-- ---- a run that stops

-- what is left is not empty, so that a line is too long
pub past_from_taken : (bound : Option ℕ) (before piece : List ℕ) (count : ℕ) → count < length piece
    → (t : IsTaken bound (before ++ piece) (before ++ take count piece)) → GoesPast bound (before ++ take count piece) t.rest
past_from_taken bound before piece count few t = elim t.stops [
  | inl none ↦ absurd (omega (
    arith,
    few,
    ap length t.splits,
    ap length none,
    length-append before piece,
    length-append (before ++ take count piece) t.rest,
    length-append before (take count piece),
    length-take count piece,
  ))
  | inr past ↦ past
]
