-- The fragment of a reference.
use Rattle.std.proofs.Common.{Bor, ◌≡◌, ◌≢◌, ◌==◌, ◌++◌, ◌∙◌, ℕ, List, [], ◌∷◌, Bool, true, false, Option, Some, None, refl, sym, ap, eqb-true, arith}
use Rattle.std.specs.Prelude.{MatchOption, encode_utf8, if◌then◌else◌, option_map}
use Rattle.std.specs.Str.Pattern.{FindsCharPrefix, StripsPrefix}
use Rattle.std.proofs.lemmas.Str.{encode_ascii}
use Rattle.std.proofs.lemmas.Str.Pattern.{drop_at_char}
use Rattle.neldrafi_table.specs.Keywords.{fragment}

by_first : (b : Bool) (c : ℕ) (cs : List ℕ) → (c == 35) ≡ b → ((rest : List ℕ) → c ∷ cs ≢ encode_utf8 35 ++ rest) → None ≡ (if b then Some cs else None)
by_first true c cs is none = absurd (none cs (ap (λ d. d ∷ cs) (eqb-true c 35 is) ∙ ap (λ ds. ds ++ cs) (sym (encode_ascii 35 (omega arith)))))
by_first false c cs is none = refl

absent : (s : List ℕ) → ((rest : List ℕ) → s ≢ encode_utf8 35 ++ rest) → None ≡ fragment s
absent [] none = refl
absent (c ∷ cs) none = by_first (c == 35) c cs refl none

-- what is left of a text behind `#` is its fragment
pub stripped : (s : List ℕ) (r : Option (Bor (List ℕ))) → MatchOption r (FindsCharPrefix 35 s None) (λ x. StripsPrefix (FindsCharPrefix 35) s x.now)
    → option_map (λ x. x.now) r ≡ fragment s
stripped s None none = absent s none
stripped s (Some x) (n, at, is, len) = ap fragment (sym (drop_at_char 35 s 0 n at (omega arith) ∙ ap (λ r. 35 ∷ r) (sym is)))
