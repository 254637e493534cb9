-- Whether a userinfo is there, and where it ends, is settled by the text.
use Rattle.std.proofs.Common.{◌≡◌, ◌↔◌, ℕ, Bool, true, false, eqb, List, [], ◌∷◌, ◌++◌, inl, inr, refl, sym, ap, ◌∙◌, codes}
use Rattle.std.proofs.lemmas.Bool.{eqb-true}
use Rattle.strkw_text.specs.Abnf.{Form, ◌⨾◌, Literal, Optional, Repeat, OneOf}
use Rattle.strkw_text.specs.Fronts.{StartsWithNo, RunThen, NotFirst}
use Rattle.strkw_text.proofs.Equivalences.{iff_trans}
use Rattle.strkw_text.proofs.Laws.{assoc, assoc3, optional_then, literal_at, literal_not}
use Rattle.strkw_text.proofs.Optionals.{literal_ind}
use Rattle.strkw_text.proofs.Runs.{run_then, run_once, no_start_either, start_right}
use Rattle.strkw_uri.specs.Characters.{Alphabet, is_reg_name_char, is_userinfo_char}
use Rattle.strkw_uri.specs.Uri.{PctEncoded, Encoded, Userinfo, Host, Port, Authority, PathAbempty, QueryAndFragment}
use Rattle.strkw_uri.specs.Scan.{PathAndTail, AuthorityAndTail}
use Rattle.strkw_uri.proofs.Encodings.{encoded_free, encoded_char, stops_at}
use Rattle.strkw_uri.proofs.Paths.{or_other}

-- The run of the userinfo's class at the front of a host and what follows it does not end at "@".
pub record HostRun (class : ℕ → Bool) (text : List ℕ) : Type 0 where
  pub rest : List ℕ
  pub run : RunThen (Encoded class) text rest
  pub no_at : NotFirst 64 rest

module _ (class : ℕ → Bool) (pc : class 37 ≡ false) (at : class 64 ≡ false) (H : Form) (shape : (x : List ℕ) → H x → HostRun class x) where
  -- a run of the class and "@", or neither, and then an H
  abbrev WithUserinfo : Form
  WithUserinfo = Optional (Repeat (Encoded class) ⨾ Literal (64 ∷ [])) ⨾ H

  -- an "@" and an H begin with no character of the class or percent-encoding
  stops : (x : List ℕ) → (Literal (64 ∷ []) ⨾ H) x → StartsWithNo (Encoded class) x
  stops = literal_ind (StartsWithNo (Encoded class)) 64 H (stops_at class 64 at refl)

  -- behind the run of a userinfo
  past : (text rest : List ℕ) → RunThen (Encoded class) text rest → ((Repeat (Encoded class) ⨾ Literal (64 ∷ [])) ⨾ H) text ↔ (Literal (64 ∷ []) ⨾ H) rest
  past text rest r = iff_trans (assoc (Repeat (Encoded class)) (Literal (64 ∷ [])) H text)
      (run_then (Encoded class) (Literal (64 ∷ []) ⨾ H) text rest (encoded_free class pc) stops r)

  -- with "@" behind the run, a text is `WithUserinfo` exactly where an H follows it
  pub userinfo_at : (text rest host : List ℕ) → RunThen (Encoded class) text rest → rest ≡ 64 ∷ host → WithUserinfo text ↔ H host
  userinfo_at text rest host r e =
      let i = iff_trans (past text rest r) (literal_at H 64 rest host e) in
      let j = optional_then (Repeat (Encoded class) ⨾ Literal (64 ∷ [])) H text in (
        λ h. elim (j.0 h) [
          | inl q ↦ i.0 q
          | inr b ↦ let s = shape text b in absurd (s.no_at host (run_once (Encoded class) (encoded_free class pc) text s.rest rest s.run r ∙ e))
        ],
        λ h. j.1 (inl (i.1 h)),
      )

  -- with none there, exactly where all of the text is an H
  pub userinfo_off : (text rest : List ℕ) → RunThen (Encoded class) text rest → NotFirst 64 rest → WithUserinfo text ↔ H text
  userinfo_off text rest r n =
      let j = optional_then (Repeat (Encoded class) ⨾ Literal (64 ∷ [])) H text in
      (λ h. elim (j.0 h) [ inl q ↦ absurd (literal_not H 64 rest n ((past text rest r).0 q)) | inr b ↦ b ], λ h. j.1 (inr h))

-- an authority, a path, a query and a fragment are grouped in either way
pub authority_regroup : (K : Alphabet) (text : List ℕ) → ((Authority K ⨾ PathAbempty K) ⨾ QueryAndFragment K) text ↔ AuthorityAndTail K text
authority_regroup K text =
    iff_trans (assoc (Authority K) (PathAbempty K) (QueryAndFragment K) text)
    (assoc3 (Optional (Userinfo K ⨾ Literal (codes "@"))) (Host K) (Optional (Literal (codes ":") ⨾ Port)) (PathAndTail K) text)

-- where no character of a name stands, one of a userinfo is a colon
pub userinfo_stops : (K : Alphabet) (text : List ℕ) → StartsWithNo (Encoded (is_reg_name_char K)) text → NotFirst 58 text
    → StartsWithNo (Encoded (is_userinfo_char K)) text
userinfo_stops K text stops other = no_start_either (OneOf (is_userinfo_char K)) PctEncoded text one
    (λ y f. stops y (start_right (OneOf (is_reg_name_char K)) PctEncoded text y f))
  where
    one : StartsWithNo (OneOf (is_userinfo_char K)) text
    one y f = by_class (is_reg_name_char K c) refl
      where
        c : ℕ
        c = f.is.character

        at : text ≡ c ∷ y
        at = sym f.joined ∙ ap (λ s. s ++ y) f.is.is

        by_class : (b : Bool) → is_reg_name_char K c ≡ b → ⊥
        by_class true h = stops y (encoded_char (is_reg_name_char K) c text y at h)
        by_class false h = other y (at ∙ ap (λ d. d ∷ y) (eqb-true c 58 (or_other (is_reg_name_char K c) (eqb c 58) f.is.member h)))
