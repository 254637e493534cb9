-- The components of a URI reference (RFC 3986, section 3 and appendix B). A text is its UTF-8 bytes.
use Rattle.std.specs.Prelude.{◌==◌, ℕ, List, [], ◌∷◌, Bool, false, not, ◌&&◌, Option, Some, None}
use Rattle.std.specs.Prelude.{if◌then◌else◌, length, drop, nat_lt}
use Rattle.std.specs.List.{position_or_len, before_first, after_first}
use Rattle.std.specs.Str.{byte}

-- what stands before the first such character, or everything if there is none
abbrev pub before : ℕ → List ℕ → List ℕ
before c text = before_first (λ b. b == c) text

abbrev pub has : ℕ → List ℕ → Bool
has c text = nat_lt (position_or_len (λ b. b == c) text) (length text)

-- what follows it, if there is one
abbrev pub behind : ℕ → List ℕ → Option (List ℕ)
behind c text = if has c text then Some (after_first (λ b. b == c) text) else None

-- from it on
abbrev pub from : ℕ → List ℕ → List ℕ
from c text = drop (position_or_len (λ b. b == c) text) text

-- ---- the fragment, which `#` begins (section 3.5)

abbrev pub without_fragment : List ℕ → List ℕ
without_fragment reference = before (byte "#") reference

abbrev pub fragment_of : List ℕ → Option (List ℕ)
fragment_of reference = behind (byte "#") reference

-- ---- the others

-- those of a reference that has no fragment
pub record Components : Type 0 where
  pub scheme : Option (List ℕ)
  pub authority : Option (List ℕ)
  pub path : List ℕ
  pub query : Option (List ℕ)

-- A scheme is not empty, and ends at the first `:`, which no `/` precedes (section 3.1; appendix B).
abbrev pub is_scheme : List ℕ → Bool
is_scheme text = nat_lt 0 (length text) && not (has (byte "/") text)

abbrev pub has_scheme : List ℕ → Bool
has_scheme text = has (byte ":") text && is_scheme (before (byte ":") text)

abbrev pub scheme_of : List ℕ → Option (List ℕ)
scheme_of text = if has_scheme text then Some (before (byte ":") text) else None

abbrev pub behind_scheme : List ℕ → List ℕ
behind_scheme text = if has_scheme text then after_first (λ b. b == byte ":") text else text

-- An authority begins behind `//`, and ends before the next `/` (section 3.2).
abbrev pub has_authority : List ℕ → Bool
has_authority [] = false
has_authority (c ∷ []) = false
has_authority (c ∷ d ∷ text) = c == byte "/" && d == byte "/"

abbrev pub authority_of : List ℕ → Option (List ℕ)
authority_of text = if has_authority text then Some (before (byte "/") (drop 2 text)) else None

abbrev pub behind_authority : List ℕ → List ℕ
behind_authority text = if has_authority text then from (byte "/") (drop 2 text) else text

-- A query begins behind `?`, and ends with the reference (section 3.4).
abbrev pub components_of : List ℕ → Components
components_of reference = let text = before (byte "?") reference in record {
  scheme = scheme_of text;
  authority = authority_of (behind_scheme text);
  path = behind_authority (behind_scheme text);
  query = behind (byte "?") reference;
}
