-- The tokens of a pointer, and the keys that they stand for.
use Rattle.std.proofs.Common.{◌<◌, ◌≡◌, ◌≢◌, ◌∙◌, ◌==◌, ℕ, List, [], ◌∷◌, ◌++◌, Bool, true, false, refl, sym, ap, eqb-true, lit<, ne_eqb}
use Rattle.std.proofs.Math.Utf8.{encode}
use Rattle.std.proofs.lemmas.Str.{encode_ascii}
use Rattle.std.proofs.lemmas.List.Splits.{slice_split-cons_no, slice_split-cons_yes}
use Rattle.std.specs.List.{flat_map, onto_first, slice_split}
use Rattle.serde_json.specs.Find.{unescape}
use Rattle.neldrafi_schema.specs.machine.Words.{after_tilde}

-- a list that is not of those that begin with an ASCII character
other : (c d : ℕ) (cs : List ℕ) → d < 128 → ((rest : List ℕ) → c ∷ cs ≢ encode d ++ rest) → (c == d) ≡ false
other c d cs low not_such = ne_eqb c d (λ e. not_such cs (ap (λ x. x ∷ cs) e ∙ ap (λ l. l ++ cs) (sym (encode_ascii d low))))

-- a part that begins with neither is behind a `~` that stands for itself
pub after_other : (cs : List ℕ) → ((rest : List ℕ) → cs ≢ encode 49 ++ rest) → ((rest : List ℕ) → cs ≢ encode 48 ++ rest) → after_tilde cs ≡ 126 ∷ cs
after_other [] one zero = refl
after_other (c ∷ cs) one zero = rw (other c 49 cs (lit< tt) one, other c 48 cs (lit< tt) zero) refl

-- the first part, and what the others stand for
abbrev pub joined : List (List ℕ) → List ℕ
joined [] = []
joined (part ∷ parts) = part ++ flat_map after_tilde parts

abbrev pub parts_of : List ℕ → List (List ℕ)
parts_of = slice_split (λ b. b == 126)

joined_onto : (c : ℕ) (parts : List (List ℕ)) → joined (onto_first c parts) ≡ c ∷ joined parts
joined_onto c [] = refl
joined_onto c (part ∷ parts) = refl

behind_one : (parts : List (List ℕ)) → flat_map after_tilde (onto_first 49 parts) ≡ 47 ∷ joined parts
behind_one [] = refl
behind_one (part ∷ parts) = refl

behind_zero : (parts : List (List ℕ)) → flat_map after_tilde (onto_first 48 parts) ≡ 126 ∷ joined parts
behind_zero [] = refl
behind_zero (part ∷ parts) = refl

behind_other : (c : ℕ) (parts : List (List ℕ)) → (c == 49) ≡ false → (c == 48) ≡ false → flat_map after_tilde (onto_first c parts) ≡ 126 ∷ c ∷ joined parts
behind_other c [] one zero = rw (one, zero) refl
behind_other c (part ∷ parts) one zero = rw (one, zero) refl

plain : (c : ℕ) (cs : List ℕ) → (c == 126) ≡ false → unescape (c ∷ cs) ≡ c ∷ unescape cs
unfolding unescape
plain c [] e = refl
plain c (d ∷ cs) e = rw e refl

abbrev Parts : List ℕ → Type 0
Parts cs = (unescape cs ≡ joined (parts_of cs)) × (unescape (126 ∷ cs) ≡ flat_map after_tilde (parts_of cs))

-- a byte more in front
module _ (c : ℕ) (cs : List ℕ) (more : Parts cs) where
  no_tilde : (c == 126) ≡ false → unescape (c ∷ cs) ≡ joined (parts_of (c ∷ cs))
  no_tilde e = plain c cs e ∙ ap (λ l. c ∷ l) more.0 ∙ sym (ap joined (slice_split-cons_no (λ b. b == 126) c cs e) ∙ joined_onto c (parts_of cs))

  in_front : (b : Bool) → (c == 126) ≡ b → unescape (c ∷ cs) ≡ joined (parts_of (c ∷ cs))
  in_front true e = ap (λ x. unescape (x ∷ cs)) (eqb-true c 126 e) ∙ more.1 ∙ sym (ap joined (slice_split-cons_yes (λ b. b == 126) c cs e))
  in_front false e = no_tilde e

  behind : (tilde one zero : Bool) → (c == 126) ≡ tilde → (c == 49) ≡ one → (c == 48) ≡ zero → unescape (126 ∷ c ∷ cs) ≡ flat_map after_tilde (parts_of (c ∷ cs))
  unfolding unescape
  behind true one zero e f g =
      let same = eqb-true c 126 e in
      ap (λ x. unescape (126 ∷ x ∷ cs)) same ∙ ap (λ l. 126 ∷ l) more.1 ∙ sym (ap (flat_map after_tilde) (slice_split-cons_yes (λ b. b == 126) c cs e))
  behind false true zero e f g =
      ap (λ x. unescape (126 ∷ x ∷ cs)) (eqb-true c 49 f) ∙ ap (λ l. 47 ∷ l) more.0
      ∙ sym (ap (flat_map after_tilde) (slice_split-cons_no (λ b. b == 126) c cs e ∙ ap (λ x. onto_first x (parts_of cs)) (eqb-true c 49 f))
      ∙ behind_one (parts_of cs))
  behind false false true e f g =
      ap (λ x. unescape (126 ∷ x ∷ cs)) (eqb-true c 48 g) ∙ ap (λ l. 126 ∷ l) more.0
      ∙ sym (ap (flat_map after_tilde) (slice_split-cons_no (λ b. b == 126) c cs e ∙ ap (λ x. onto_first x (parts_of cs)) (eqb-true c 48 g))
      ∙ behind_zero (parts_of cs))
  behind false false false e f g =
      rw (f, g) (ap (λ l. 126 ∷ l) (plain c cs e ∙ ap (λ l. c ∷ l) more.0))
      ∙ sym (ap (flat_map after_tilde) (slice_split-cons_no (λ b. b == 126) c cs e) ∙ behind_other c (parts_of cs) f g)

pub parts : (cs : List ℕ) → Parts cs
unfolding unescape
parts [] = (refl, refl)
parts (c ∷ cs) = (in_front c cs (parts cs) (c == 126) refl, behind c cs (parts cs) (c == 126) (c == 49) (c == 48) refl refl refl)
