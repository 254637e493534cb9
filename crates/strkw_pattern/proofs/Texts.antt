-- A literal pattern is ASCII: what is read of its bytes is so of its characters.
use Rattle.std.proofs.Common.{◌≡◌, ℕ, ◌+◌, true, List, [], ◌∷◌, ◌++◌, map, sym, subst, codes, arith, Option, Some, None, Result, Ok, Err, nat_cmp, refl}
use Rattle.std.specs.Prelude.{All, IfOk, MatchOption, String, nat_lt}
use Rattle.std.specs.List.{AllByRecursion, list_all}
use Rattle.std.specs.List.Sorted.{IsSorted}
use Rattle.std.specs.Str.{chars, IsUtf8, IsAscii}
use Rattle.std.specs.String.{string_bytes, string_cmp}
use Rattle.std.specs.Cmp.Lexicographic.{slice_cmp}
use Rattle.std.specs.declared.alloc.AllocError.{AllocError}
use Rattle.std.proofs.lemmas.Bool.{and_parts, ltb-true}
use Rattle.std.proofs.lemmas.Str.{IsAscii-append}
use Rattle.std.proofs.lemmas.Str.Ascii.{IsAscii-nil, IsAscii-cons}
use Rattle.std.proofs.lemmas.List.{get_or-map, length-map}
use Rattle.std.proofs.lemmas.List.Elements.{All-head, All-tail}
use Rattle.strkw_text.proofs.AsciiForms.{DerivesAscii, derives_by_bytes, IsAscii-joined}
use Rattle.strkw_pattern.specs.Literal.{Item, plain, escaped, IsItem, AreItems, spelling_of, Literal, prefix, exact, alternation, no_whitespace, IsLiteral}
use Rattle.strkw_pattern.specs.Literal.{IsWellFormed, spelling}
use Rattle.strkw_pattern.specs.Analysis.{IsAnalysis}
use Rattle.strkw_pattern.specs.declared.literal.PatternOptimization.{PatternOptimization}
use Rattle.strkw_pattern.specs.declared.literal.PatternOptimization.TheVariants.{Prefix, Exact, Alternation, NoWhitespace}
use Rattle.strkw_pattern.proofs.Items.{item_ascii}

-- characters that all pass the test for ASCII are ASCII
ascii_by_test : (cs : List ℕ) → list_all (λ c. nat_lt c 128) cs ≡ true → IsAscii cs
ascii_by_test [] e = IsAscii-nil
ascii_by_test (c ∷ cs) e =
    let parts = and_parts (nat_lt c 128) (list_all (λ c. nat_lt c 128) cs) e in
    IsAscii-cons c cs (ltb-true c 128 parts.0) (ascii_by_test cs parts.1)

-- items are written in ASCII
items_ascii : (xs : List Item) → All IsItem xs → IsAscii (spelling_of xs)
items_ascii [] h = IsAscii-nil
items_ascii (plain c ∷ xs) h = IsAscii-cons c (spelling_of xs) (item_ascii (plain c) (All-head IsItem (plain c) xs h))
    (items_ascii xs (All-tail IsItem (plain c) xs h))
items_ascii (escaped c ∷ xs) h =
    IsAscii-cons 92 (c ∷ spelling_of xs) (omega arith)
    (IsAscii-cons c (spelling_of xs) (item_ascii (escaped c) (All-head IsItem (escaped c) xs h)) (items_ascii xs (All-tail IsItem (escaped c) xs h)))

-- and so is each of some alternatives
each_ascii : (xss : List (List Item)) → All AreItems xss → AllByRecursion IsAscii (map spelling_of xss)
each_ascii [] h = tt
each_ascii (xs ∷ xss) h = let head = All-head AreItems xs xss h in (items_ascii xs head.each, each_ascii xss (All-tail AreItems xs xss h))

-- and so is a literal
spelling_ascii : (l : Literal) → IsWellFormed l → IsAscii (spelling l)
spelling_ascii (prefix xs) are = IsAscii-append (codes "^") (spelling_of xs) (ascii_by_test (codes "^") refl) (items_ascii xs are.each)
spelling_ascii (exact xs) are =
    IsAscii-append (codes "^") (spelling_of xs ++ codes "$") (ascii_by_test (codes "^") refl)
    (IsAscii-append (spelling_of xs) (codes "$") (items_ascii xs are.each) (ascii_by_test (codes "$") refl))
spelling_ascii (alternation xss) are =
    IsAscii-append (codes "^(") _ (ascii_by_test (codes "^(") refl)
    (IsAscii-append _ (codes ")$") (IsAscii-joined 124 (map spelling_of xss) (omega arith) (each_ascii xss are.each)) (ascii_by_test (codes ")$") refl))
spelling_ascii no_whitespace are = ascii_by_test (codes "^\\S*$") refl

-- a pattern that is literal is ASCII
literal_ascii : DerivesAscii IsLiteral
literal_ascii pattern (l, are, e) = subst IsAscii (sym e) (spelling_ascii l are)

-- what is analysed is literal
pub analysed_literal : (pattern : List ℕ) (o : PatternOptimization) → IsAnalysis pattern o → IsLiteral pattern
analysed_literal pattern (Prefix s) (xs, are, e, same) = (prefix xs, are, e)
analysed_literal pattern (Exact s) (xs, are, e, same) = (exact xs, are, e)
analysed_literal pattern (Alternation v) (xss, are, e, same) = (alternation xss, are, e)
analysed_literal pattern NoWhitespace e = (no_whitespace, tt, e)

-- what the analysis answers for the bytes of a pattern, it answers for its characters
pub analysis-chars : (bs : List ℕ) → IsUtf8 bs → (r : Result (Option PatternOptimization) AllocError)
    → IfOk r (λ o. MatchOption o (IsLiteral bs → ⊥) (IsAnalysis bs))
    → IfOk r (λ o. MatchOption o (IsLiteral (chars bs) → ⊥) (IsAnalysis (chars bs)))
analysis-chars bs utf8 (Err e) h = tt
analysis-chars bs utf8 (Ok None) h = λ is. h ((derives_by_bytes IsLiteral literal_ascii bs utf8).0 is)
analysis-chars bs utf8 (Ok (Some o)) h = (derives_by_bytes (λ p. IsAnalysis p o) (λ p is. literal_ascii p (analysed_literal p o is)) bs utf8).1 h

-- texts in order, by their bytes
-- where texts are in order, so are their bytes
pub sorted_texts : {Z : Type 0} (vs : List (String Z)) → IsSorted string_cmp vs → IsSorted (slice_cmp nat_cmp) (map string_bytes vs)
sorted_texts [] h = λ k d low high. absurd (omega arith)
sorted_texts (v ∷ vs) h = λ k d low high.
    let len = length-map (v ∷ vs) string_bytes in
    let next = get_or-map string_bytes (v ∷ vs) (k + 1) v d (omega (arith, len, high)) in
    let this = get_or-map string_bytes (v ∷ vs) k v d (omega (arith, len, high)) in
    rw (next, this) (h k v low (omega (arith, len, high)))
