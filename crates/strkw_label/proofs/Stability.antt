-- Which characters NFKC, case folding and NFKC leave as they are (RFC 5892 section 2.2).
use Rattle.std.proofs.Common.{◌≡◌, ◌≢◌, ℕ, ◌≤◌, Bool, true, false, not, List, [], ◌∷◌, ◌++◌, length}
use Rattle.std.proofs.Common.{inl, inr, sym, ap, subst, ◌∙◌, append-nil, arith}
use Rattle.std.specs.Prelude.{◌↔◌, IsTrue}
use Rattle.std.specs.Str.{bytes_eq}
use Rattle.std.proofs.lemmas.Bool.{cases_Bool}
use Rattle.std.proofs.lemmas.Bool.Decides.{same_from_decides}
use Rattle.std.proofs.lemmas.Slice.Eq.{bytes_eq-Decides}
use Rattle.caseless.specs.Caseless.{default_case_fold}
use Rattle.caseless.proofs.CaselessLemmas.{default_case_fold-nil, default_case_fold-cons, default_case_fold-append, full_fold-none, full_fold-some}
use Rattle.ucd_case.specs.CaseFolding.{full_fold, full_folding}
use Rattle.unicode_normalization.specs.Forms.{nfkc, Nfkc}
use Rattle.unicode_normalization.proofs.FormsLemmas.{normalize_idem}
use Rattle.strkw_label.specs.DerivedProperty.{is_unstable}

-- a character that is not in the form NFKC is unstable, since what NFKC gives is in it
pub unstable_from_abnormal : (c : ℕ) → nfkc (c ∷ []) ≢ c ∷ [] → is_unstable c ≡ true
unfolding is_unstable
unstable_from_abnormal c h =
    let folded = default_case_fold (nfkc (c ∷ [])) in
    elim (cases_Bool (bytes_eq (nfkc folded) (c ∷ []))) [
      | inl same_text ↦
          let same : nfkc folded ≡ c ∷ [] = (bytes_eq-Decides (nfkc folded) (c ∷ [])).0 same_text in
          absurd (h (sym (ap nfkc same) ∙ normalize_idem Nfkc folded ∙ same))
      | inr other ↦ ap not other
    ]

-- a character in the form NFKC that folds to itself is stable
pub stable_from_normal : (c : ℕ) (table : List ℕ) → nfkc (c ∷ []) ≡ c ∷ [] → table ≡ full_folding c → length table ≡ 0 → is_unstable c ≡ false
unfolding is_unstable
stable_from_normal c table normal e none =
    let alone : full_fold c ≡ c ∷ [] = full_fold-none c table e (omega arith) in
    let folded : default_case_fold (c ∷ []) ≡ c ∷ [] =
    default_case_fold-cons c [] ∙ ap (λ xs. full_fold c ++ xs) default_case_fold-nil ∙ append-nil (full_fold c) ∙ alone in
    let same : nfkc (default_case_fold (nfkc (c ∷ []))) ≡ c ∷ [] = ap (λ xs. nfkc (default_case_fold xs)) normal ∙ ap nfkc folded ∙ normal in
    ap not ((bytes_eq-Decides (nfkc (default_case_fold (nfkc (c ∷ [])))) (c ∷ [])).1 same)

-- whether the text that the three steps make is the character tells whether it is unstable
pub unstable_by_steps : (c : ℕ) (normal folded stable : List ℕ) (r : Bool) → normal ≡ nfkc (c ∷ []) → folded ≡ default_case_fold normal → stable ≡ nfkc folded
    → IsTrue r ↔ (stable ≡ c ∷ []) → not r ≡ is_unstable c
unfolding is_unstable
unstable_by_steps c normal folded stable r e f g same =
    let made = nfkc (default_case_fold (nfkc (c ∷ []))) in
    let steps : stable ≡ made = g ∙ ap nfkc (f ∙ ap default_case_fold e) in
    ap not (same_from_decides r (bytes_eq made (c ∷ [])) (subst (λ x. IsTrue r ↔ (x ≡ c ∷ [])) steps same) (bytes_eq-Decides made (c ∷ [])))

-- the folding of a text and that of one character more are the folding of both
pub folded_push : (done : List ℕ) (c : ℕ) (out new : List ℕ) → out ≡ default_case_fold done → new ≡ out ++ full_fold c
    → new ≡ default_case_fold (done ++ c ∷ [])
folded_push done c out new h f =
    let one : default_case_fold (c ∷ []) ≡ full_fold c =
    default_case_fold-cons c [] ∙ ap (λ xs. full_fold c ++ xs) default_case_fold-nil ∙ append-nil (full_fold c) in
    f ∙ ap (λ xs. xs ++ full_fold c) h ∙ ap (λ xs. default_case_fold done ++ xs) (sym one) ∙ sym (default_case_fold-append done (c ∷ []))

-- an appended text is the folding of a character, where the table has none for it
pub folding_none : (c : ℕ) (table out new : List ℕ) → table ≡ full_folding c → length table ≡ 0 → new ≡ out ++ c ∷ [] → new ≡ out ++ full_fold c
folding_none c table out new e none f = f ∙ ap (λ xs. out ++ xs) (sym (full_fold-none c table e (omega arith)))

-- and where it has one
pub folding_some : (c : ℕ) (table out new : List ℕ) → table ≡ full_folding c → 1 ≤ length table → new ≡ out ++ table → new ≡ out ++ full_fold c
folding_some c table out new e some f = f ∙ ap (λ xs. out ++ xs) (sym (full_fold-some c table e some))
