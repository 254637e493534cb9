-- Labels that begin with the prefix `xn--`, told by their first four characters.
use Rattle.std.proofs.Common.{◌≡◌, ℕ, ◌<◌, List, length, get_or, map, take, drop, codes, sym, ap, ap₂, ◌∙◌, arith}
use Rattle.std.specs.Char.{to_ascii_lowercase}
use Rattle.std.proofs.Math.ListN.{get_or-map}
use Rattle.std.proofs.Math.Seq.{take-append_seam, drop-append_seam}
use Rattle.std.proofs.lemmas.Bool.Decides.{nat_tests}
use Rattle.std.proofs.lemmas.List.{get_or-take, length-map, take-append-drop}
use Rattle.strkw_label.specs.HostName.{IsXnLabel}

-- the first four characters are the prefix
abbrev pub HasPrefix : List ℕ → Type 0
HasPrefix label = map to_ascii_lowercase (take 4 label) ≡ codes "xn--"

-- then what follows them is the payload
pub IsXnLabel-from_prefix : (label : List ℕ) → HasPrefix label → IsXnLabel label (drop 4 label)
IsXnLabel-from_prefix label h = (take 4 label, h, sym (take-append-drop 4 label))

-- and the only one
pub prefix_and_payload : (label payload : List ℕ) → IsXnLabel label payload → HasPrefix label × (drop 4 label ≡ payload)
prefix_and_payload label payload (prefix, low, whole) =
    let four : length prefix ≡ 4 = omega (arith, ap length low, length-map prefix to_ascii_lowercase) in
    let front : take 4 label ≡ prefix = ap₂ take (sym four) whole ∙ take-append_seam prefix payload in
    (ap (map to_ascii_lowercase) front ∙ low, ap₂ drop (sym four) whole ∙ drop-append_seam prefix payload)

-- the two hyphens of the prefix, which have no letter case
-- stand at the same places of a label that has the prefix
pub hyphen_of_prefix : (label : List ℕ) (k : ℕ) → k < 4 → get_or (codes "xn--") k 0 ≡ 45 → HasPrefix label → get_or label k 0 ≡ 45
hyphen_of_prefix label k lt e h =
    no_case (get_or label k 0) (
    ap to_ascii_lowercase (sym (get_or-take 4 label k 0 lt)) ∙ sym (get_or-map to_ascii_lowercase (take 4 label) k 0) ∙ ap (λ l. get_or l k 0) h ∙ e
    )
  where
    -- only the hyphen is a hyphen in lower case
    no_case : (c : ℕ) → to_ascii_lowercase c ≡ 45 → c ≡ 45
    no_case c low = grind (arith, nat_tests)
