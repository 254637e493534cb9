-- A local part and its "@", by the first character.
use Rattle.std.proofs.Common.{◌≡◌, ◌↔◌, ◌⊎◌, ℕ, List, [], ◌∷◌}
use Rattle.strkw_text.specs.Abnf.{◌⨾◌, Literal}
use Rattle.strkw_text.specs.Fronts.{StartsWith, StartsWithNo, NotFirst}
use Rattle.strkw_text.proofs.Equivalences.{iff_trans, iff_sym, only_first, only_second}
use Rattle.strkw_text.proofs.Laws.{assoc, either_then, literal_at, literal_not, no_start_then}
use Rattle.strkw_text.proofs.Runs.{one_stops}
use Rattle.strkw_mail.specs.Mailbox.{DotStringOf, QuotedStringOf, LocalPartOf}
use Rattle.strkw_mail.specs.Scan.{atext, qtext, DotStringAt, InQuotes, LocalPartAt, StartsOnly}
use Rattle.strkw_mail.specs.declared.scan.Charset.{Charset}
use Rattle.strkw_mail.proofs.DotStrings.{AtAnd, no_quote, no_dot_string}
use Rattle.strkw_mail.proofs.OnlyFronts.{starts_then_literal, only_then}

module _ (s : Charset) where
  -- one of the two kinds, "@" and then x
  kinds : (text x : List ℕ) → StartsWith (LocalPartAt s) text x ↔ ((DotStringOf (atext s) ⨾ AtAnd x) text ⊎ (QuotedStringOf (qtext s) ⨾ AtAnd x) text)
  kinds text x = iff_trans (starts_then_literal (LocalPartOf (atext s) (qtext s)) (Literal (64 ∷ [])) text x)
      (either_then (DotStringOf (atext s)) (QuotedStringOf (qtext s)) (AtAnd x) text)

  -- a quoted one, "@" and then x, behind the quote
  quoted_row : (text inside x : List ℕ) → text ≡ 34 ∷ inside → (QuotedStringOf (qtext s) ⨾ AtAnd x) text ↔ (InQuotes s ⨾ AtAnd x) inside
  quoted_row text inside x e = iff_trans (assoc (Literal (34 ∷ [])) (InQuotes s) (AtAnd x) text) (literal_at (InQuotes s ⨾ AtAnd x) 34 text inside e)

  -- behind a quote, what stands between quotes and "@" follow
  quoted : (text inside x : List ℕ) → text ≡ 34 ∷ inside → StartsWith (LocalPartAt s) text x ↔ (InQuotes s ⨾ AtAnd x) inside
  quoted text inside x e =
      let none = no_start_then (DotStringOf (atext s)) (AtAnd x) text (no_dot_string s text (one_stops (atext s) 34 text inside e (no_quote s))) in
      iff_trans (kinds text x) (only_second none (quoted_row text inside x e))

  -- without a quote in front, a local part is a Dot-string
  pub unquoted : (text : List ℕ) → NotFirst 34 text → (x : List ℕ) → StartsWith (LocalPartAt s) text x ↔ StartsWith (DotStringAt s) text x
  unquoted text n x =
      let none : (QuotedStringOf (qtext s) ⨾ AtAnd x) text → ⊥ =
      λ h. literal_not (InQuotes s ⨾ AtAnd x) 34 text n ((assoc (Literal (34 ∷ [])) (InQuotes s) (AtAnd x) text).0 h) in
      iff_trans (kinds text x) (only_first none (iff_sym (starts_then_literal (DotStringOf (atext s)) (Literal (64 ∷ [])) text x)))

  module _ (text inside : List ℕ) (e : text ≡ 34 ∷ inside) where
    -- a text between quotes that is never closed
    pub quoted_open : StartsWithNo (InQuotes s) inside → StartsWithNo (LocalPartAt s) text
    quoted_open n x h = no_start_then (InQuotes s) (AtAnd x) inside n ((quoted text inside x e).0 h)

    -- and one that is, up to behind
    module _ (behind : List ℕ) (only : StartsOnly (InQuotes s) inside behind) where
      -- "@" follows the quotes
      quoted_read : (x : List ℕ) → StartsWith (LocalPartAt s) text x ↔ AtAnd x behind
      quoted_read x = iff_trans (quoted text inside x e) (only_then (InQuotes s) (AtAnd x) inside behind only)

      -- where it does, the rest comes behind it
      pub quoted_end : (rest : List ℕ) → behind ≡ 64 ∷ rest → StartsOnly (LocalPartAt s) text rest
      quoted_end rest f x = iff_trans (quoted_read x) (literal_at (Literal x) 64 behind rest f)

      -- where it does not, there is no local part with "@"
      pub quoted_stop : NotFirst 64 behind → StartsWithNo (LocalPartAt s) text
      quoted_stop n x h = literal_not (Literal x) 64 behind n ((quoted_read x).0 h)
