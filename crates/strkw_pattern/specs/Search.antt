-- What a literal pattern means: the search of ECMA-262 (RegExpBuiltinExec, section 22.2.7.2) for
-- its tree in a text.
use Rattle.std.specs.Prelude.{◌≡◌, ℕ, Bool, true, false, IsTrue, List, [], ◌++◌, map, All, Contains}
use Rattle.strkw_pattern.specs.Literal.{Literal, prefix, exact, alternation, no_whitespace, text_of}
use Rattle.strkw_pattern.specs.Whitespace.{is_ecma_whitespace}

-- what the part of a literal between its anchors derives
abbrev pub Derives : Literal → List ℕ → Type 0
Derives (prefix xs) body = body ≡ text_of xs
Derives (exact xs) body = body ≡ text_of xs
Derives (alternation xss) body = Contains (map text_of xss) body
Derives no_whitespace body = All (λ c. is_ecma_whitespace c ≡ false) body

-- whether it ends with a `$` that is not escaped; each begins with a `^`
abbrev pub is_anchored_at_end : Literal → Bool
is_anchored_at_end (prefix xs) = false
is_anchored_at_end (exact xs) = true
is_anchored_at_end (alternation xss) = true
is_anchored_at_end no_whitespace = true

-- the literal is found in the text
pub record Search (l : Literal) (text : List ℕ) : Type 0 where
  pub before : List ℕ
  pub body : List ℕ
  pub after : List ℕ
  pub split : text ≡ before ++ body ++ after
  pub derived : Derives l body
  pub at_start : before ≡ []
  pub at_end : IsTrue (is_anchored_at_end l) → after ≡ []
