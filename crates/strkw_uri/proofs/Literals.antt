-- A bracketed host ends at the first bracket that closes.
use Rattle.std.proofs.Common.{◌≡◌, ◌↔◌, ◌<◌, ℕ, Bool, false, List, [], ◌∷◌, ◌++◌, inl, inr, refl, arith, codes}
use Rattle.std.specs.Char.{is_ascii_hexdigit}
use Rattle.strkw_text.specs.Abnf.{Form, ◌⨾◌, Literal, Repeat, Repeat1, OneOf}
use Rattle.strkw_text.specs.Characters.{is_one_of}
use Rattle.strkw_text.specs.Delimiters.{Without}
use Rattle.strkw_text.specs.Fronts.{StartsWith, StartsWithNo, RunThen}
use Rattle.strkw_text.proofs.Delimiters.{then_without, repeat_without, one_without, character_without, delimiter_then, no_delimiter_then}
use Rattle.strkw_text.proofs.Equivalences.{iff_trans}
use Rattle.strkw_text.proofs.Laws.{assoc}
use Rattle.strkw_text.proofs.Optionals.{literal_ind}
use Rattle.strkw_text.proofs.Runs.{OneOf-free, free_then, run_whole, run_then, one_stops, one_stops_nil}
use Rattle.strkw_net.specs.Addresses.{IsIpv6}
use Rattle.strkw_uri.specs.Characters.{uri, is_userinfo_char}
use Rattle.strkw_uri.specs.Uri.{BracketedAddress}

-- the character "]" is an ASCII character
low : 93 < 128
low = omega arith

-- no bracketed address holds "]", where no IPv6 address does
address_no_bracket : ((x : List ℕ) → IsIpv6 x → Without 93 x) → (x : List ℕ) → BracketedAddress x → Without 93 x
address_no_bracket no_bracket x (inl six) = no_bracket x six
address_no_bracket no_bracket x (inr future) =
    let hex = one_without 93 low is_ascii_hexdigit refl in
    let end = one_without 93 low (is_userinfo_char uri) refl in
    then_without 93 low _ _ (one_without 93 low (is_one_of (codes "vV")) refl)
    (then_without 93 low _ _ (then_without 93 low _ _ hex (repeat_without 93 low _ hex))
    (then_without 93 low _ _ (character_without 93 low 46 refl) (then_without 93 low _ _ end (repeat_without 93 low _ end))))
    x future

-- an address, its bracket and B
pub address_then : ((x : List ℕ) → IsIpv6 x → Without 93 x) → (B : Form) (text address rest : List ℕ) → Without 93 address → text ≡ address ++ 93 ∷ rest
    → (BracketedAddress ⨾ Literal (codes "]") ⨾ B) text ↔ (BracketedAddress address × B rest)
address_then no_bracket B = delimiter_then 93 low BracketedAddress B (address_no_bracket no_bracket)

-- a text without "]" is no address, "]" and B
pub no_address_then : (B : Form) (text : List ℕ) → Without 93 text → (BracketedAddress ⨾ Literal (codes "]") ⨾ B) text → ⊥
no_address_then B = no_delimiter_then 93 low BracketedAddress B

-- 1*class that is the whole text
pub repeat1_whole : (class : ℕ → Bool) (text mid rest : List ℕ) → StartsWith (OneOf class) text mid → RunThen (OneOf class) mid rest
    → Repeat1 (OneOf class) text ↔ (rest ≡ [])
repeat1_whole class text mid rest f r =
    iff_trans (free_then (OneOf class) (Repeat (OneOf class)) text mid (OneOf-free class) f)
    (run_whole (OneOf class) mid rest (OneOf-free class) (one_stops_nil class [] refl) r)

-- 1*class "." B
pub repeat1_dot : (class : ℕ → Bool) (B : Form) → class 46 ≡ false → (text mid rest : List ℕ) → StartsWith (OneOf class) text mid
    → RunThen (OneOf class) mid rest
    → (Repeat1 (OneOf class) ⨾ Literal (46 ∷ []) ⨾ B) text ↔ (Literal (46 ∷ []) ⨾ B) rest
repeat1_dot class B n text mid rest f r =
    let dot = literal_ind (StartsWithNo (OneOf class)) 46 B (λ x. one_stops class 46 (46 ∷ x) x refl n) in
    iff_trans (assoc (OneOf class) (Repeat (OneOf class)) (Literal (46 ∷ []) ⨾ B) text)
    (iff_trans (free_then (OneOf class) (Repeat (OneOf class) ⨾ Literal (46 ∷ []) ⨾ B) text mid (OneOf-free class) f)
    (run_then (OneOf class) (Literal (46 ∷ []) ⨾ B) mid rest (OneOf-free class) dot r))
