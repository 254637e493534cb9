-- What a matcher answers is the search of the literal that it was made for.
use Rattle.std.proofs.Common.{◌≡◌, ℕ, Bool, true, false, not, ◌||◌, ◌&&◌, List, [], ◌∷◌, ◌++◌, map, length, drop, refl, sym, subst, ap, ◌∙◌, ◌⊎◌, inl, inr}
use Rattle.std.specs.Prelude.{nat_eq, All, Contains, Decides, String}
use Rattle.std.specs.List.{starts_with, list_any}
use Rattle.std.specs.Str.{chars, bytes_eq, IsAscii}
use Rattle.std.specs.String.{string_bytes}
use Rattle.std.proofs.lemmas.Bool.Decides.{Decides-by_and, Decides-by_or, Decides-like}
use Rattle.std.proofs.lemmas.List.{append-nil}
use Rattle.std.proofs.lemmas.List.Elements.{All-head, All-tail, Decides-contains}
use Rattle.std.proofs.lemmas.List.Sorted.{list_any-IsPermutation}
use Rattle.std.proofs.lemmas.Slice.Eq.{bytes_eq-Decides}
use Rattle.std.proofs.lemmas.Str.{chars-IsAscii}
use Rattle.std.proofs.lemmas.Str.Ascii.{IsAscii-nil, IsAscii-cons}
use Rattle.strkw_pattern.specs.Whitespace.{is_ecma_whitespace}
use Rattle.strkw_pattern.specs.Literal.{Item, IsItem, item_char, text_of, AreItems, AreAlternatives, Literal, prefix, exact, alternation, no_whitespace}
use Rattle.strkw_pattern.specs.Literal.{IsWellFormed, spelling}
use Rattle.strkw_pattern.specs.Search.{Search, Derives, is_anchored_at_end}
use Rattle.strkw_pattern.specs.Analysis.{IsAnalysis, IsSortedGroup}
use Rattle.strkw_pattern.specs.Matcher.{outcome_of, literal_outcome, matcher_of, IsSearch}
use Rattle.strkw_pattern.specs.declared.engine.Outcome.{Outcome}
use Rattle.strkw_pattern.specs.declared.engine.Outcome.TheVariants as outcome
use Rattle.strkw_pattern.specs.declared.literal.PatternOptimization.{PatternOptimization}
use Rattle.strkw_pattern.specs.declared.literal.PatternOptimization.TheVariants.{Prefix, Exact, Alternation, NoWhitespace}
use Rattle.strkw_pattern.proofs.Items.{item_ascii}
use Rattle.strkw_pattern.proofs.Matching.{front_of, starts_with-from, or_same}

-- what a search splits, from its start
-- with nothing before it, the text is what was found and what follows it
from_start : (text before body after : List ℕ) → text ≡ before ++ body ++ after → before ≡ [] → text ≡ body ++ after
from_start text before body after split none = split ∙ ap (λ (b : List ℕ). b ++ body ++ after) none

-- a literal that is anchored at both ends is found where it derives the whole text
whole : (l : Literal) (text : List ℕ) → is_anchored_at_end l ≡ true → (b : Bool) → Decides b (Derives l text) → Decides b (Search l text)
whole l text anchored b test =
    Decides-like b
    (λ d. record { before = []; body = text; after = []; split = sym (append-nil text); derived = d; at_start = refl; at_end = λ e. refl })
    (λ s.
    let same : text ≡ s.body = from_start text s.before s.body s.after s.split s.at_start ∙ ap (λ (a : List ℕ). s.body ++ a) (s.at_end anchored)
    ∙ append-nil s.body in
    subst (Derives l) (sym same) s.derived) test

-- a prefix is found exactly where the text begins with what it stands for
search-prefix : (xs : List Item) (text : List ℕ) → Decides (starts_with nat_eq text (text_of xs)) (Search (prefix xs) text)
search-prefix xs text = (
  λ h. record {
    before = [];
    body = text_of xs;
    after = drop (length (text_of xs)) text;
    split = front_of text (text_of xs) h;
    derived = refl;
    at_start = refl;
    at_end = λ e. cc e;
  },
  λ s. starts_with-from text (text_of xs) s.after (from_start text s.before s.body s.after s.split s.at_start ∙ ap (λ (b : List ℕ). b ++ s.after) s.derived),
)

-- the test of each text for being this one tells whether it is among them
among : (texts : List (List ℕ)) (text : List ℕ) → Decides (list_any (λ t. bytes_eq t text) texts) (Contains texts text)
among texts text = Decides-contains texts text _ (Decides-by_or (λ t. bytes_eq t text) (λ t. t ≡ text) (list_any (λ t. bytes_eq t text))
    (λ t. bytes_eq-Decides t text) refl (λ _ _. refl) texts)

-- it is not one or the other exactly where it is neither
not_or : (a b : Bool) → not (a || b) ≡ (not a && not b)
not_or true b = refl
not_or false b = refl

-- the negation of a truth value tells whether it is false
is_false : (b : Bool) → Decides (not b) (b ≡ false)
is_false true = (λ h. sym h, λ h. sym h)
is_false false = (λ h. refl, λ h. refl)

-- the test for no white space tells whether each character is none
none_white : (text : List ℕ) → Decides (not (list_any is_ecma_whitespace text)) (All (λ c. is_ecma_whitespace c ≡ false) text)
none_white text =
    Decides-by_and (λ c. not (is_ecma_whitespace c)) (λ c. is_ecma_whitespace c ≡ false) (λ cs. not (list_any is_ecma_whitespace cs))
    (λ c. is_false (is_ecma_whitespace c)) refl
    (λ c cs. not_or (is_ecma_whitespace c) (list_any is_ecma_whitespace cs)) text

-- the text of items is ASCII, so its characters are its bytes
text_ascii : (xs : List Item) → All IsItem xs → IsAscii (text_of xs)
text_ascii [] h = IsAscii-nil
text_ascii (x ∷ xs) h = IsAscii-cons (item_char x) (text_of xs) (item_ascii x (All-head IsItem x xs h)) (text_ascii xs (All-tail IsItem x xs h))

-- bytes that are the text of items have it as their characters
text-chars : (bytes : List ℕ) (xs : List Item) → AreItems xs → bytes ≡ text_of xs → chars bytes ≡ text_of xs
text-chars bytes xs are e = ap chars e ∙ chars-IsAscii (text_of xs) (text_ascii xs are.each)

-- some element passes a test of what it holds exactly where some of what they hold passes it
any-map : {Z : Type 0} (p : List ℕ → Bool) (h : Z → List ℕ) (zs : List Z) → list_any (λ z. p (h z)) zs ≡ list_any p (map h zs)
any-map p h [] = refl
any-map p h (z ∷ zs) = or_same _ _ _ _ refl (any-map p h zs)

-- some text of items is the text by its characters exactly where one is by its bytes
any-text_of : (xss : List (List Item)) (text : List ℕ) → All AreItems xss
    → list_any (λ t. bytes_eq (chars t) text) (map text_of xss) ≡ list_any (λ t. bytes_eq t text) (map text_of xss)
any-text_of [] text are = refl
any-text_of (xs ∷ xss) text are =
    or_same _ _ _ _ (ap (λ (t : List ℕ). bytes_eq t text) (text-chars (text_of xs) xs (All-head AreItems xs xss are) refl))
    (any-text_of xss text (All-tail AreItems xs xss are))

-- some alternative of the matcher is some alternative of the tree
any-sorted : {Z : Type 0} (xss : List (List Item)) (vs : List (String Z)) (text : List ℕ) → AreAlternatives xss
    → IsSortedGroup (map text_of xss) (map string_bytes vs)
    → list_any (λ s. bytes_eq (chars (string_bytes s)) text) vs ≡ list_any (λ t. bytes_eq t text) (map text_of xss)
any-sorted xss vs text are group =
    any-map (λ t. bytes_eq (chars t) text) string_bytes vs ∙ sym (list_any-IsPermutation (λ t. bytes_eq (chars t) text) (map text_of xss) (map string_bytes vs)
    group.same) ∙ any-text_of xss text are.each

-- the outcome of a test that tells whether something holds tells it too
told : (P : Type 0) (b : Bool) → Decides b P → (P × (outcome_of b ≡ outcome.Match)) ⊎ ((P → ⊥) × (outcome_of b ≡ outcome.NoMatch))
told P true d = inl (d.0 refl, refl)
told P false d = inr (λ p. cc (d.1 p), refl)

-- an analysed pattern spells a literal, and the outcome of its matcher tells the search of that
pub analysis_search : (pattern : List ℕ) (o : PatternOptimization) → IsAnalysis pattern o → (l : Literal) × IsWellFormed l × (pattern ≡ spelling l)
    × IsSearch l (literal_outcome (matcher_of o))
analysis_search pattern (Prefix s) (xs, are, e, same) = (
  prefix xs,
  are,
  e,
  λ text. told _ _ (subst (λ (t : List ℕ). Decides (starts_with nat_eq text t) (Search (prefix xs) text)) (sym (text-chars (string_bytes s) xs are same))
      (search-prefix xs text)),
)
analysis_search pattern (Exact s) (xs, are, e, same) = (
  exact xs,
  are,
  e,
  λ text. told _ _ (subst (λ (t : List ℕ). Decides (bytes_eq text t) (Search (exact xs) text)) (sym (text-chars (string_bytes s) xs are same))
      (whole (exact xs) text refl _ (bytes_eq-Decides text (text_of xs)))),
)
analysis_search pattern (Alternation v) (xss, are, e, group) = (
  alternation xss,
  are,
  e,
  λ text. told _ _ (subst (λ b. Decides b (Search (alternation xss) text)) (sym (any-sorted xss v.items text are group))
      (whole (alternation xss) text refl _ (among (map text_of xss) text))),
)
analysis_search pattern NoWhitespace e = (no_whitespace, tt, e, λ text. told _ _ (whole no_whitespace text refl _ (none_white text)))

-- each literal has an outcome that tells its search
pub outcome_exists : (l : Literal) → (o : List ℕ → Outcome) × IsSearch l o
outcome_exists (prefix xs) = (λ text. outcome_of (starts_with nat_eq text (text_of xs)), λ text. told _ _ (search-prefix xs text))
outcome_exists (exact xs) = (
  λ text. outcome_of (bytes_eq text (text_of xs)),
  λ text. told _ _
      (whole (exact xs) text refl _ (bytes_eq-Decides text (text_of xs))),
)
outcome_exists (alternation xss) = (
  λ text. outcome_of (list_any (λ t. bytes_eq t text) (map text_of xss)),
  λ text. told _ _ (whole (alternation xss) text refl _ (among (map text_of xss) text)),
)
outcome_exists no_whitespace = (
  λ text. outcome_of (not (list_any is_ecma_whitespace text)),
  λ text. told _ _
      (whole no_whitespace text refl _ (none_white text)),
)
