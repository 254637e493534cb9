-- What stands between quotes, and the quote that closes.
use Rattle.std.proofs.Common.{◌≡◌, ◌↔◌, ℕ, false, IsTrue, List, [], ◌∷◌, ◌++◌, inl, inr, refl, sym, ap, subst, ◌∙◌}
use Rattle.std.proofs.lemmas.Bool.{false≢true}
use Rattle.strkw_text.specs.Abnf.{Form, ◌⨾◌, Literal, Repeat, OneOf}
use Rattle.strkw_text.specs.Fronts.{StartsWith, StartsWithNo, RunThen, NotFirst}
use Rattle.strkw_text.proofs.Equivalences.{iff_trans}
use Rattle.strkw_text.proofs.Laws.{literal_at, literal_not, repeat_then, no_start_then}
use Rattle.strkw_text.proofs.Optionals.{literal_ind}
use Rattle.strkw_text.proofs.Runs.{IsPrefixFree, OneOf-free, Literal-free, Then-free, either-free, free_then, run_then, one_stops, then_start, no_start_first}
use Rattle.strkw_text.proofs.Runs.{no_start_second, no_start_either, start_left, start_right, literal_start, no_literal_start}
use Rattle.strkw_mail.specs.Characters.{is_escaped}
use Rattle.strkw_mail.specs.Mailbox.{QuotedPairSmtp, QcontentOf}
use Rattle.strkw_mail.specs.Scan.{qtext, InQuotes, StartsOnly}
use Rattle.strkw_mail.specs.declared.scan.Charset.{Charset}
use Rattle.strkw_mail.specs.declared.scan.Charset.TheVariants.{Ascii, Utf8}
use Rattle.strkw_mail.proofs.OnlyFronts.{starts_then_literal}

-- the backslash is no character that needs none
pub no_backslash : (s : Charset) → qtext s 92 ≡ false
no_backslash Ascii = refl
no_backslash Utf8 = refl

-- nor is the quote
pub no_quote : (s : Charset) → qtext s 34 ≡ false
no_quote Ascii = refl
no_quote Utf8 = refl

module _ (s : Charset) where
  -- a character that needs no backslash
  abbrev Plain : Form
  Plain = OneOf (qtext s)

  -- a backslash
  abbrev Backslash : Form
  Backslash = Literal (92 ∷ [])

  -- a text that begins with a quoted pair begins with a backslash
  first_of_pair : (text y : List ℕ) → (g : StartsWith QuotedPairSmtp text y) → 92 ∷ (g.is.back ++ y) ≡ text
  first_of_pair text y g = ap (λ u. u ++ y) (ap (λ u. u ++ g.is.back) (sym g.is.first) ∙ g.is.joined) ∙ g.joined

  -- no text begins both with a plain character and with a quoted pair
  apart : (text x y : List ℕ) → StartsWith Plain text x → StartsWith QuotedPairSmtp text y → ⊥
  apart text x y f g =
      let e : f.is.character ∷ x ≡ 92 ∷ (g.is.back ++ y) = ap (λ u. u ++ x) (sym f.is.is) ∙ f.joined ∙ sym (first_of_pair text y g) in
      let same : f.is.character ≡ 92 = cc in
      false≢true (sym (no_backslash s) ∙ subst (λ c. IsTrue (qtext s c)) same f.is.member)

  -- where one of either ends is settled by the text
  qcontent_free : IsPrefixFree (QcontentOf (qtext s))
  qcontent_free = either-free Plain QuotedPairSmtp (OneOf-free (qtext s))
      (Then-free Backslash (OneOf is_escaped) (Literal-free (92 ∷ [])) (OneOf-free is_escaped))
      apart

  -- what begins with another character than a backslash begins with no quoted pair
  no_pair : (text : List ℕ) → NotFirst 92 text → StartsWithNo QuotedPairSmtp text
  no_pair text n = no_start_first Backslash (OneOf is_escaped) text (no_literal_start 92 text n)

  -- a quote begins neither
  quote_stops : (rest : List ℕ) → StartsWithNo (QcontentOf (qtext s)) (34 ∷ rest)
  quote_stops rest = no_start_either Plain QuotedPairSmtp (34 ∷ rest) (one_stops (qtext s) 34 (34 ∷ rest) rest refl (no_quote s))
      (no_pair (34 ∷ rest) (λ r e. cc))

  -- a backslash, and then one that may stand behind it
  pub pair_start : (text escaped rest : List ℕ) → text ≡ 92 ∷ escaped → StartsWith (OneOf is_escaped) escaped rest → StartsWith (QcontentOf (qtext s)) text rest
  pair_start text escaped rest e f = start_right Plain QuotedPairSmtp text rest
      (then_start Backslash (OneOf is_escaped) text escaped rest (literal_start 92 text escaped e) f)

  -- a backslash, and then one that may not
  pub pair_stop : (text escaped : List ℕ) → text ≡ 92 ∷ escaped → StartsWithNo (OneOf is_escaped) escaped → StartsWithNo (QcontentOf (qtext s)) text
  pair_stop text escaped e n = no_start_either Plain QuotedPairSmtp text (one_stops (qtext s) 92 text escaped e (no_backslash s))
      (no_start_second Backslash (OneOf is_escaped) text escaped (Literal-free (92 ∷ [])) (literal_start 92 text escaped e) n)

  -- no backslash, and a plain character
  pub plain_start : (text rest : List ℕ) → StartsWith Plain text rest → StartsWith (QcontentOf (qtext s)) text rest
  plain_start text rest f = start_left Plain QuotedPairSmtp text rest f

  -- neither
  pub plain_stop : (text : List ℕ) → NotFirst 92 text → StartsWithNo Plain text → StartsWithNo (QcontentOf (qtext s)) text
  plain_stop text n m = no_start_either Plain QuotedPairSmtp text m (no_pair text n)

  -- the quote and then x
  abbrev QuoteAnd : List ℕ → Form
  QuoteAnd x = Literal (34 ∷ []) ⨾ Literal x

  module _ (text rest : List ℕ) (r : RunThen (QcontentOf (qtext s)) text rest) where
    -- where all that stands between quotes is read, the quote comes next
    quotes_read : (x : List ℕ) → StartsWith (InQuotes s) text x ↔ QuoteAnd x rest
    quotes_read x =
        iff_trans (starts_then_literal (Repeat (QcontentOf (qtext s))) (Literal (34 ∷ [])) text x)
        (run_then (QcontentOf (qtext s)) (QuoteAnd x) text rest qcontent_free (literal_ind (StartsWithNo (QcontentOf (qtext s))) 34 (Literal x) quote_stops) r)

    -- behind it the rest follows
    pub quotes_end : (behind : List ℕ) → rest ≡ 34 ∷ behind → StartsOnly (InQuotes s) text behind
    quotes_end behind e x = iff_trans (quotes_read x) (literal_at (Literal x) 34 rest behind e)

    -- without it there is none
    pub quotes_stop : NotFirst 34 rest → StartsWithNo (InQuotes s) text
    quotes_stop n x h = literal_not (Literal x) 34 rest n ((quotes_read x).0 h)

  -- a character that may stand between quotes, or a pair, and then what stands there
  pub in_step : (text rest : List ℕ) → NotFirst 34 text → StartsWith (QcontentOf (qtext s)) text rest → InQuotes s text ↔ InQuotes s rest
  in_step text rest n f =
      let i = repeat_then (QcontentOf (qtext s)) (Literal (34 ∷ [])) text in
      let j = free_then (QcontentOf (qtext s)) (InQuotes s) text rest qcontent_free f in
      (λ h. elim (i.0 h) [ inl b ↦ absurd (n [] b) | inr q ↦ j.0 q ], λ h. i.1 (inr (j.1 h)))

  -- neither of them, and not the quote
  pub in_stop : (text : List ℕ) → NotFirst 34 text → StartsWithNo (QcontentOf (qtext s)) text → InQuotes s text → ⊥
  in_stop text n m h = elim ((repeat_then (QcontentOf (qtext s)) (Literal (34 ∷ [])) text).0 h) [
    | inl b ↦ n [] b
    | inr q ↦ no_start_then (QcontentOf (qtext s)) (InQuotes s) text m q
  ]

  -- at the quote nothing may follow
  pub in_end : (text rest : List ℕ) → text ≡ 34 ∷ rest → InQuotes s text ↔ (rest ≡ [])
  in_end text rest e =
      let i = repeat_then (QcontentOf (qtext s)) (Literal (34 ∷ [])) text in (
        λ h. elim (i.0 h) [
          | inl b ↦ let t : 34 ∷ rest ≡ 34 ∷ [] = sym e ∙ b in let u : rest ≡ [] = cc in u
          | inr q ↦ absurd (no_start_then (QcontentOf (qtext s)) (InQuotes s) text
              (subst (StartsWithNo (QcontentOf (qtext s))) (sym e) (quote_stops rest)) q)
        ],
        λ r. i.1 (inl (e ∙ ap (λ x. 34 ∷ x) r)),
      )
