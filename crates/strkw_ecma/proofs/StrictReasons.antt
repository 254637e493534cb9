-- In a strict form no character stands behind a backslash that mode `u` does not let stand there.
use Rattle.std.proofs.Common.{◌≡◌, ℕ, zero, suc, Bool, true, false, ◌||◌, ◌==◌, List, [], ◌∷◌, ◌++◌, codes, refl, sym, ap, subst, ◌∙◌, true≢false}
use Rattle.std.specs.List.{list_all}
use Rattle.std.specs.Str.{byte}
use Rattle.std.proofs.lemmas.List.{append_cancel_left}
use Rattle.strkw_text.specs.Characters.{is_one_of}
use Rattle.strkw_charset.proofs.Booleans.{and_left, and_right}
use Rattle.strkw_regex_grammar.specs.Codes.{code_spelling}
use Rattle.strkw_regex_grammar.specs.Regex.{parts}
use Rattle.strkw_regex_grammar.specs.Syntax.{enclosing_spelling}
use Rattle.strkw_regex_grammar.proofs.Letters.{same_char}
use Rattle.strkw_regex_reader.specs.Refusals.{IsBeginning, IsReason, is_needlessly_escaped, written}
use Rattle.strkw_regex_reader.specs.declared.refusals.PatternRefusal.TheVariants.{IdentityEscape}
use Rattle.strkw_ecma.specs.Lenient.{is_lenient, byte_escape, strict_form}
use Rattle.strkw_ecma.proofs.StrictPatterns.{Stays, both, enclosing_stays, parts_stay, rewritten, stays_strict}

-- what a character has, if it is the first of some or one of the others
by_place : (f : ℕ → Bool) (c d : ℕ) (ds : List ℕ) (b : Bool) → (c == d) ≡ b → f d ≡ true → (is_one_of ds c ≡ true → f c ≡ true)
    → (b || is_one_of ds c) ≡ true → f c ≡ true
by_place f c d ds true e h more o = ap f (sym (same_char c d e)) ∙ h
by_place f c d ds false e h more o = more o

-- so what all of them have, each of them has
each : (f : ℕ → Bool) (ds : List ℕ) → list_all f ds ≡ true → (c : ℕ) → is_one_of ds c ≡ true → f c ≡ true
each f [] h c o = absurd (true≢false (sym o))
each f (d ∷ ds) h c o = by_place f c d ds (c == d) refl (and_left (f d) _ h) (each f ds (and_right (f d) _ h) c) o

-- what is told of is rewritten
told_rewritten : (c : ℕ) → is_needlessly_escaped c ≡ true → is_lenient false c ≡ true
told_rewritten = each (is_lenient false) (codes "!\"#%&',-:;<=>@_`~") refl

-- the beginning of a pattern, up to where a term may stand, is its own strict form
begins_stay : (n : ℕ) (text : List ℕ) → IsBeginning n text → Stays false false text
begins_stay zero text b = subst (Stays false false) b.2 (parts_stay (parts b.0) b.1.0)
begins_stay (suc n) text b =
    subst (Stays false false) b.6
    (both false false false (b.0 ++ enclosing_spelling b.1) (written b.2)
    (both false false false b.0 (enclosing_spelling b.1) (begins_stay n b.0 b.3) (enclosing_stays b.1 b.4)) (parts_stay (parts b.2) b.5.0))

-- the second character, or another
second : ℕ → List ℕ → ℕ
second d [] = d
second d (a ∷ []) = d
second d (a ∷ b ∷ cs) = b

-- so no strict form is refused for such an escape
pub no_escape : (source : List ℕ) (c : ℕ) → IsReason (strict_form source) (IdentityEscape c) → ⊥
unfolding second
no_escape source c r =
    let before = r.1.1.0 in
    let after = r.1.1.1 in
    let tail = byte "\\" ∷ c ∷ after in
    let form = byte "\\" ∷ (code_spelling (byte_escape c) ++ strict_form after) in
    let same : before ++ form ≡ before ++ tail =
    ap (λ z. before ++ z) (sym (rewritten c after (told_rewritten c r.0))) ∙ sym (begins_stay r.1.0 before r.1.1.2 tail)
    ∙ ap strict_form r.1.1.3 ∙ stays_strict source ∙ sym r.1.1.3 in
    let x_is : byte "x" ≡ c = ap (second 0) (append_cancel_left before form tail same) in
    true≢false (sym r.0 ∙ ap is_needlessly_escaped (sym x_is))
