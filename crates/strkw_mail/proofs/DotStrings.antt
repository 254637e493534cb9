-- A Dot-string and its "@", read atom by atom.
use Rattle.std.proofs.Common.{◌≡◌, ◌↔◌, ℕ, false, List, [], ◌∷◌, inl, inr, refl}
use Rattle.strkw_text.specs.Abnf.{Form, ◌⨾◌, Literal, Repeat, OneOf}
use Rattle.strkw_text.specs.Fronts.{StartsWith, StartsWithNo, RunThen, NotFirst}
use Rattle.strkw_text.proofs.Equivalences.{iff_trans, iff_sym}
use Rattle.strkw_text.proofs.Laws.{assoc, repeat_then, literal_at, literal_not, not_first}
use Rattle.strkw_text.proofs.Optionals.{literal_ind, repeat_then_at, repeat_then_off}
use Rattle.strkw_text.proofs.Runs.{OneOf-free, free_then, run_then, one_stops, no_start_first, differ}
use Rattle.strkw_mail.specs.Mailbox.{AtomOf, DotStringOf}
use Rattle.strkw_mail.specs.Scan.{atext, DotStringAt, StartsOnly}
use Rattle.strkw_mail.specs.declared.scan.Charset.{Charset}
use Rattle.strkw_mail.specs.declared.scan.Charset.TheVariants.{Ascii, Utf8}
use Rattle.strkw_mail.proofs.OnlyFronts.{starts_then_literal}

-- the dot is no character of an atom
pub no_dot : (s : Charset) → atext s 46 ≡ false
no_dot Ascii = refl
no_dot Utf8 = refl

-- nor is "@"
pub no_at : (s : Charset) → atext s 64 ≡ false
no_at Ascii = refl
no_at Utf8 = refl

-- nor the quote
pub no_quote : (s : Charset) → atext s 34 ≡ false
no_quote Ascii = refl
no_quote Utf8 = refl

-- "@" and then x
abbrev pub AtAnd : List ℕ → Form
AtAnd x = Literal (64 ∷ []) ⨾ Literal x

module _ (s : Charset) where
  -- a character of an atom
  abbrev AtomChar : Form
  AtomChar = OneOf (atext s)

  -- a further atom and the dot before it
  abbrev DotAtom : Form
  DotAtom = Literal (46 ∷ []) ⨾ AtomOf (atext s)

  -- what stands behind an atom: further ones, "@" and then x
  abbrev BehindAtom : List ℕ → Form
  BehindAtom x = Repeat DotAtom ⨾ AtAnd x

  -- the same in a row
  in_row : (text x : List ℕ) → StartsWith (DotStringAt s) text x ↔ (AtomOf (atext s) ⨾ BehindAtom x) text
  in_row text x = iff_trans (starts_then_literal (DotStringOf (atext s)) (Literal (64 ∷ [])) text x) (assoc (AtomOf (atext s)) (Repeat DotAtom) (AtAnd x) text)

  -- what stands behind an atom begins with no character of one
  behind_stops : (x y : List ℕ) → BehindAtom x y → StartsWithNo AtomChar y
  behind_stops x y h = elim ((repeat_then DotAtom (AtAnd x) y).0 h) [
    | inl a ↦ literal_ind (StartsWithNo AtomChar) 64 (Literal x) (λ r. one_stops (atext s) 64 (64 ∷ r) r refl (no_at s)) y a
    | inr b ↦ literal_ind (StartsWithNo AtomChar) 46 (AtomOf (atext s) ⨾ BehindAtom x) (λ r. one_stops (atext s) 46 (46 ∷ r) r refl (no_dot s)) y
        ((assoc (Literal (46 ∷ [])) (AtomOf (atext s)) (BehindAtom x) y).0 b)
  ]

  module _ (text mid after : List ℕ) (f : StartsWith AtomChar text mid) (r : RunThen AtomChar mid after) where
    -- where the characters of the first atom are read, the rest stands behind it
    atom_read : (x : List ℕ) → StartsWith (DotStringAt s) text x ↔ BehindAtom x after
    atom_read x =
        iff_trans (in_row text x)
        (iff_trans (assoc AtomChar (Repeat AtomChar) (BehindAtom x) text)
        (iff_trans (free_then AtomChar (Repeat AtomChar ⨾ BehindAtom x) text mid (OneOf-free (atext s)) f)
        (run_then AtomChar (BehindAtom x) mid after (OneOf-free (atext s)) (behind_stops x) r)))

    -- behind a dot a Dot-string and its "@" follow again
    pub dot_step : (next : List ℕ) → after ≡ 46 ∷ next → (x : List ℕ) → StartsWith (DotStringAt s) text x ↔ StartsWith (DotStringAt s) next x
    dot_step next e x =
        let no_at = literal_not (Literal x) 64 after (not_first 46 64 after next e (differ 46 64 refl)) in
        iff_trans (atom_read x) (iff_trans (repeat_then_at 46 (AtomOf (atext s)) (AtAnd x) after next e no_at) (iff_sym (in_row next x)))

    -- at "@" the Dot-string ends
    pub dot_end : NotFirst 46 after → (rest : List ℕ) → after ≡ 64 ∷ rest → StartsOnly (DotStringAt s) text rest
    dot_end n rest e x = iff_trans (atom_read x) (iff_trans (repeat_then_off 46 (AtomOf (atext s)) (AtAnd x) after n) (literal_at (Literal x) 64 after rest e))

    -- at neither there is none
    pub dot_stop : NotFirst 46 after → NotFirst 64 after → StartsWithNo (DotStringAt s) text
    dot_stop n m x h = literal_not (Literal x) 64 after m ((repeat_then_off 46 (AtomOf (atext s)) (AtAnd x) after n).0 ((atom_read x).0 h))

  -- a text that begins with no character of an atom begins with no Dot-string
  pub no_dot_string : (text : List ℕ) → StartsWithNo AtomChar text → StartsWithNo (DotStringOf (atext s)) text
  no_dot_string text n = no_start_first (AtomOf (atext s)) (Repeat DotAtom) text (no_start_first AtomChar (Repeat AtomChar) text n)

  -- nor with one and its "@"
  pub dot_none : (text : List ℕ) → StartsWithNo AtomChar text → StartsWithNo (DotStringAt s) text
  dot_none text n = no_start_first (DotStringOf (atext s)) (Literal (64 ∷ [])) text (no_dot_string text n)
