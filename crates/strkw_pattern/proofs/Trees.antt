-- A pattern is spelled by one literal at most.
use Rattle.std.proofs.Common.{◌≡◌, ℕ, List, [], ◌∷◌, ◌++◌, slice_index, drop, refl, sym, ap, ◌∙◌, codes, arith}
use Rattle.std.proofs.lemmas.List.{append-nil}
use Rattle.std.proofs.lemmas.List.Elements.{All-head, All-tail}
use Rattle.strkw_pattern.specs.Literal.{Item, AreItems, AreAlternatives, spelling_of, is_escapable, Literal, prefix, exact, alternation, no_whitespace}
use Rattle.strkw_pattern.specs.Literal.{IsWellFormed, spelling}
use Rattle.strkw_pattern.specs.Reading.{group_spelling}
use Rattle.strkw_pattern.proofs.Items.{same_items, no_item-nil, no_item-backslash}
use Rattle.strkw_pattern.proofs.Runs.{dollar_ends, bar_ends, parenthesis_ends}
use Rattle.strkw_pattern.proofs.Alternatives.{group_spelling-more}
use Rattle.strkw_pattern.proofs.Analyses.{no_run_here, no_parenthesis}

-- lists that are the same begin with the same element
heads : (a b : ℕ) (xs ys : List ℕ) → a ∷ xs ≡ b ∷ ys → a ≡ b
heads a b xs ys e = ap (λ (r : List ℕ). slice_index r 0) e

-- an alternation is read in one way
group_once : (xss yss : List (List Item)) → AreAlternatives xss → AreAlternatives yss → group_spelling xss ≡ group_spelling yss → xss ≡ yss
group_once [] yss a b e = absurd (let some = a.some in omega (arith, some))
group_once (xs ∷ xss) [] a b e = absurd (let some = b.some in omega (arith, some))
group_once (xs ∷ []) (ys ∷ []) a b e =
    let x = All-head AreItems xs [] a.each in
    let y = All-head AreItems ys [] b.each in
    ap (λ zs. zs ∷ []) (same_items xs ys (codes ")$") (codes ")$") x.each y.each (parenthesis_ends _) (parenthesis_ends _) e).0
group_once (xs ∷ []) (ys ∷ zs ∷ yss) a b e =
    let x = All-head AreItems xs [] a.each in
    let y = All-head AreItems ys (zs ∷ yss) b.each in
    let rest = (same_items xs ys (codes ")$") (124 ∷ group_spelling (zs ∷ yss)) x.each y.each (parenthesis_ends _) (bar_ends _)
    (e ∙ group_spelling-more ys (zs ∷ yss) (omega arith))).1 in
    let head = heads 41 124 _ _ rest in
    absurd (omega (arith, head))
group_once (xs ∷ ws ∷ xss) (ys ∷ []) a b e =
    let x = All-head AreItems xs (ws ∷ xss) a.each in
    let y = All-head AreItems ys [] b.each in
    let rest = (same_items xs ys (124 ∷ group_spelling (ws ∷ xss)) (codes ")$") x.each y.each (bar_ends _) (parenthesis_ends _)
    (sym (group_spelling-more xs (ws ∷ xss) (omega arith)) ∙ e)).1 in
    let head = heads 124 41 _ _ rest in
    absurd (omega (arith, head))
group_once (xs ∷ ws ∷ xss) (ys ∷ zs ∷ yss) a b e =
    let x = All-head AreItems xs (ws ∷ xss) a.each in
    let y = All-head AreItems ys (zs ∷ yss) b.each in
    let both = same_items xs ys (124 ∷ group_spelling (ws ∷ xss)) (124 ∷ group_spelling (zs ∷ yss)) x.each y.each (bar_ends _) (bar_ends _)
    (sym (group_spelling-more xs (ws ∷ xss) (omega arith)) ∙ e ∙ group_spelling-more ys (zs ∷ yss) (omega arith)) in
    let others : ws ∷ xss ≡ zs ∷ yss = group_once (ws ∷ xss) (zs ∷ yss)
    (record { each = All-tail AreItems xs (ws ∷ xss) a.each; some = omega arith })
    (record { each = All-tail AreItems ys (zs ∷ yss) b.each; some = omega arith }) (ap (drop 1) both.1) in
    rw (both.0, others) refl

-- no two kinds are spelled alike
-- no run of items is written as another is with a `$` behind it
not_longer : (xs ys : List Item) → AreItems xs → AreItems ys → spelling_of xs ≡ spelling_of ys ++ codes "$" → ⊥
not_longer xs ys a b e = cc (same_items xs ys [] (codes "$") a.each b.each no_item-nil (dollar_ends []) (append-nil (spelling_of xs) ∙ e)).1

-- no run of items, whatever follows it, begins with a parenthesis
not_group : (xs : List Item) (tail group : List ℕ) → AreItems xs → spelling_of xs ++ tail ≡ 40 ∷ group → ⊥
not_group xs tail group a e = no_run_here (40 ∷ group) tail xs (no_parenthesis group) a (sym e)

-- nor is one, whatever follows it, `\S*$`
not_class : (xs : List Item) (tail : List ℕ) → AreItems xs → spelling_of xs ++ tail ≡ codes "\\S*$" → ⊥
unfolding is_escapable
not_class xs tail a e = no_run_here (codes "\\S*$") tail xs (no_item-backslash 83 (codes "*$") refl) a (sym e)

-- no pattern goes on both with a parenthesis and with a backslash
parenthesis_apart : (group class : List ℕ) → 94 ∷ 40 ∷ group ≡ 94 ∷ 92 ∷ class → ⊥
parenthesis_apart group class e = let head = heads 40 92 group class (ap (drop 1) e) in omega (arith, head)

-- two literals that are written alike are the same
pub literal_once : (l m : Literal) → IsWellFormed l → IsWellFormed m → spelling l ≡ spelling m → l ≡ m
literal_once (prefix xs) (prefix ys) a b e = ap prefix (same_items xs ys [] [] a.each b.each no_item-nil no_item-nil
    (append-nil (spelling_of xs) ∙ ap (drop 1) e ∙ sym (append-nil (spelling_of ys)))).0
literal_once (prefix xs) (exact ys) a b e = absurd (not_longer xs ys a b (ap (drop 1) e))
literal_once (prefix xs) (alternation yss) a b e = absurd (not_group xs [] _ a (append-nil (spelling_of xs) ∙ ap (drop 1) e))
literal_once (prefix xs) no_whitespace a b e = absurd (not_class xs [] a (append-nil (spelling_of xs) ∙ ap (drop 1) e))
literal_once (exact xs) (prefix ys) a b e = absurd (not_longer ys xs b a (ap (drop 1) (sym e)))
literal_once (exact xs) (exact ys) a b e = ap exact (same_items xs ys (codes "$") (codes "$") a.each b.each (dollar_ends []) (dollar_ends []) (ap (drop 1) e)).0
literal_once (exact xs) (alternation yss) a b e = absurd (not_group xs (codes "$") _ a (ap (drop 1) e))
literal_once (exact xs) no_whitespace a b e = absurd (not_class xs (codes "$") a (ap (drop 1) e))
literal_once (alternation xss) (prefix ys) a b e = absurd (not_group ys [] _ b (append-nil (spelling_of ys) ∙ ap (drop 1) (sym e)))
literal_once (alternation xss) (exact ys) a b e = absurd (not_group ys (codes "$") _ b (ap (drop 1) (sym e)))
literal_once (alternation xss) (alternation yss) a b e = ap alternation (group_once xss yss a b (ap (drop 2) e))
literal_once (alternation xss) no_whitespace a b e = absurd (parenthesis_apart _ _ e)
literal_once no_whitespace (prefix ys) a b e = absurd (not_class ys [] b (append-nil (spelling_of ys) ∙ ap (drop 1) (sym e)))
literal_once no_whitespace (exact ys) a b e = absurd (not_class ys (codes "$") b (ap (drop 1) (sym e)))
literal_once no_whitespace (alternation yss) a b e = absurd (parenthesis_apart _ _ (sym e))
literal_once no_whitespace no_whitespace a b e = refl
