-- Literals as they are written, and white space, computed.
use Rattle.std.proofs.Common.{◌≡◌, true, false, [], ◌∷◌, map, refl, codes}
use Rattle.strkw_pattern.specs.Whitespace.{is_ecma_whitespace}
use Rattle.strkw_pattern.specs.Literal.{plain, escaped, is_plain, is_escapable, text_of, prefix, exact, alternation, spelling}

-- a character before and after each range of white space, and its ends
pub white_space : map is_ecma_whitespace (0x8 ∷ 0x9 ∷ 0xD ∷ 0xE ∷ 0x1F ∷ 0x20 ∷ 0x21 ∷ 0x85 ∷ 0xA0 ∷ 0x1680 ∷ 0x180E ∷ 0x1FFF ∷ 0x2000 ∷ 0x200A ∷ 0x200B
    ∷ 0x2028 ∷ 0x2029 ∷ 0x202F ∷ 0x205F ∷ 0x2060 ∷ 0x3000 ∷ 0xFEFF ∷ [])
    ≡ false ∷ true ∷ true ∷ false ∷ false ∷ true ∷ false ∷ false ∷ true ∷ true ∷ false ∷ false ∷ true ∷ true ∷ false ∷ true ∷ true ∷ true ∷ true ∷ false ∷ true
    ∷ true ∷ []
white_space = refl

-- `/` may stand with a backslash and without one; what else may follow one never stands for itself
pub slash : (is_plain 47 ≡ true) × (is_escapable 47 ≡ true)
unfolding is_plain is_escapable
slash = (refl, refl)

-- none of the other characters that may follow a backslash stands for itself
pub escapable_alone : map is_plain (codes "^$\\.*+?()[]{}|") ≡ map (λ c. false) (codes "^$\\.*+?()[]{}|")
unfolding is_plain
escapable_alone = refl

-- an exact literal, a prefix and an alternation as they are written
pub spellings :
    (spelling (exact (escaped 36 ∷ map plain (codes "ref"))) ≡ codes "^\\$ref$")
    × (spelling (prefix (escaped 47 ∷ [])) ≡ codes "^\\/")
    × (spelling (alternation (map plain (codes "get") ∷ map plain (codes "put") ∷ [])) ≡ codes "^(get|put)$")
spellings = (refl, refl, refl)

-- the text that items stand for is without their backslashes
pub text : text_of (escaped 36 ∷ map plain (codes "ref")) ≡ codes "$ref"
text = refl
