-- A text, character by character.
use Rattle.std.proofs.Common.{◌≡◌, ◌≢◌, ◌∙◌, ◌==◌, ℕ, ◌+◌, ◌-◌, ◌<◌, List, ◌∷◌, ◌++◌, Bool, true, false, get_or, length, take, drop, drop-drop, refl, sym, ap, arith, eq-eqb, ne_eqb}
use Rattle.std.proofs.lemmas.Bool.Decides.{nat_tests}
use Rattle.std.proofs.lemmas.List.{at_drop_more, length-drop, take-append-drop}
use Rattle.std.specs.Prelude.{◌||◌, slice_range}
use Rattle.std.specs.Str.{IsUtf8}
use Rattle.neldrafi_position.specs.declared.parts.Within.{Within}
use Rattle.neldrafi_position.specs.machine.Walks.{Cut, EndOf, parts_left}
use Rattle.neldrafi_position.specs.Parts.{behind_separators, behind_space, closes, in_escape, in_string, is_space, opens, separates}

-- a byte that passes one of these tests is ASCII
one_of : (a b : Bool) (P : Type 0) → (a ≡ true → P) → (b ≡ true → P) → (a || b) ≡ true → P
one_of true b P f g e = f refl
one_of false b P f g e = g e

is_low : (c d : ℕ) → d < 128 → (c == d) ≡ true → c < 128
is_low c d h e = grind (arith, nat_tests)

pub space_is_low : (c : ℕ) → is_space c ≡ true → c < 128
space_is_low c e =
    one_of (c == 32 || c == 9 || c == 10) (c == 13) _
    (one_of (c == 32 || c == 9) (c == 10) _ (one_of (c == 32) (c == 9) _ (is_low c 32 (omega arith)) (is_low c 9 (omega arith))) (is_low c 10 (omega arith)))
    (is_low c 13 (omega arith)) e

-- ---- white space

module _ (text : List ℕ) (i : ℕ) (h : i < length text) where
  abbrev here : ℕ
  here = get_or text i 0

  pub spaced : is_space here ≡ true → behind_space (drop (i + 1) text) ≡ behind_space (drop i text)
  spaced e = sym (at_drop_more behind_space text i 0 h ∙ rw e refl)

-- ---- commas and colons

module _ (depth c : ℕ) (text : List ℕ) where
  pub string_begins : c ≡ 34 → in_string depth text ≡ behind_separators depth (c ∷ text)
  string_begins e = sym (rw (eq-eqb c 34 e) refl)

  pub string_ends : c ≡ 34 → behind_separators depth text ≡ in_string depth (c ∷ text)
  string_ends e = sym (rw (eq-eqb c 34 e) refl)

  pub escape_begins : c ≢ 34 → c ≡ 92 → in_escape depth text ≡ in_string depth (c ∷ text)
  escape_begins n e = sym (rw (ne_eqb c 34 n, eq-eqb c 92 e) refl)

  pub string_goes_on : c ≢ 34 → c ≢ 92 → in_string depth text ≡ in_string depth (c ∷ text)
  string_goes_on n m = sym (rw (ne_eqb c 34 n, ne_eqb c 92 m) refl)

  pub deeper : c ≢ 34 → opens c ≡ true → behind_separators (depth + 1) text ≡ behind_separators depth (c ∷ text)
  deeper n e = sym (rw (ne_eqb c 34 n, e) refl)

  pub closed : c ≢ 34 → opens c ≡ false → closes c ≡ true → depth ≢ 0 → behind_separators (depth - 1) text ≡ behind_separators depth (c ∷ text)
  closed n e f m = sym (rw (ne_eqb c 34 n, e, f, ne_eqb depth 0 m) refl)

  pub inside : c ≢ 34 → opens c ≡ false → closes c ≡ false → separates c ≡ true → depth ≢ 0 → behind_separators depth text ≡ behind_separators depth (c ∷ text)
  inside n e f g m = sym (rw (ne_eqb c 34 n, e, f, g, ne_eqb depth 0 m) refl)

  pub other : c ≢ 34 → opens c ≡ false → closes c ≡ false → separates c ≡ false → behind_separators depth text ≡ behind_separators depth (c ∷ text)
  other n e f g = sym (rw (ne_eqb c 34 n, e, f, g) refl)

-- ---- a byte more

module _ (bytes : List ℕ) (i depth depth' : ℕ) (within within' : Within) (h : i < length bytes) where
  pub kept : (v v' : Within) (e' : ℕ) → within ≡ v → within' ≡ v' → depth' ≡ e' → parts_left v' e' (drop (i + 1) bytes) ≡ parts_left v depth (get_or bytes i 0 ∷ drop (i + 1) bytes)
      → parts_left within depth (drop i bytes) ≡ behind_separators 0 bytes → parts_left within' depth' (drop (i + 1) bytes) ≡ behind_separators 0 bytes
  kept v v' e' was is to step all =
      rw (is, to) step ∙ sym (rw was at (at_drop_more (parts_left within depth) bytes i 0 h)) ∙ rw was at all

n-0 : (n : ℕ) → n - 0 ≡ n
n-0 n = omega arith

-- ---- where a text ends and goes on

pub behind : (text mid rest : List ℕ) → EndOf text mid → EndOf mid rest → EndOf text rest
behind text mid rest e f =
    let long : length mid ≡ length text - e.passed = ap length e.rest_is ∙ length-drop e.passed text in
    record {
      passed = e.passed + f.passed;
      within = let w = f.within in let v = e.within in omega arith;
      rest_is = f.rest_is ∙ ap (drop f.passed) e.rest_is ∙ drop-drop f.passed e.passed text;
      utf8 = f.utf8;
    }

pub cut_at : (text front rest : List ℕ) (e : ℕ) → e < length text → front ≡ slice_range text 0 e → rest ≡ drop (e + 1) text → IsUtf8 front → IsUtf8 rest
    → behind_separators 0 text ≡ rest ∷ behind_separators 0 rest → Cut text front rest
cut_at text front rest e h f r front_utf8 utf8 others =
    let first : front ≡ take e text = f ∙ ap (λ n. take n text) (n-0 e) in
    record {
      mark = get_or text e 0;
      front_utf8 = front_utf8;
      end = record { passed = e + 1; within = omega arith; rest_is = r; utf8 = utf8 };
      joined = sym (rw (first, r) (ap (λ t. take e text ++ t) (sym (at_drop_more (λ t. t) text e 0 h)) ∙ take-append-drop e text));
      others = others;
    }
