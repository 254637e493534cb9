-- The messages about errors, one after the other.
use Rattle.std.proofs.Common.{◌≡◌, ◌++◌, ◌+◌, ◌<◌, ◌≤◌, ℕ, List, [], length, drop, get_or, refl, sym, subst, append_assoc, append-nil}
use Rattle.std.proofs.lemmas.List.{drop_all, drop_more}
use Rattle.neldrafi_schema.specs.declared.error.ValidationError.{ValidationError}
use Rattle.neldrafi_schema.specs.machine.Found.{error_seen, errors_of}
use Rattle.neldrafi_check.specs.Forms.{Form}
use Rattle.neldrafi_check.specs.Messages.{AreSaid, Positions, Says}

module _ (form : Form) (positions : Positions) (es : List ValidationError) where
  -- with this made, the messages about the errors from a number on make those about all
  abbrev pub Left : ℕ → List ℕ → Type 0
  Left i made = (later : List ℕ) → AreSaid form positions (errors_of (drop i es)) later → AreSaid form positions (errors_of es) (made ++ later)

  pub left_start : Left 0 []
  left_start later said = said

  pub left_more : (i : ℕ) (e : ValidationError) (made one : List ℕ) → i < length es → e ≡ get_or es i e → Says form positions (error_seen e) one
      → Left i made → Left (i + 1) (made ++ one)
  left_more i e made one less is says left later said =
      let next : AreSaid form positions (errors_of (drop i es)) (one ++ later) =
      subst (λ l. AreSaid form positions (errors_of l) (one ++ later)) (sym (drop_more es i e less))
      (one, later, subst (λ x. Says form positions (error_seen x) one) is says, said, refl) in
      subst (λ l. AreSaid form positions (errors_of es) l) (sym (append_assoc made one later)) (left (one ++ later) next)

  pub left_end : (i : ℕ) (made : List ℕ) → length es ≤ i → Left i made → AreSaid form positions (errors_of es) made
  left_end i made past left =
      let none : AreSaid form positions (errors_of (drop i es)) [] = subst (λ l. AreSaid form positions (errors_of l) []) (sym (drop_all i es past)) refl in
      subst (λ l. AreSaid form positions (errors_of es) l) (append-nil made) (left [] none)
