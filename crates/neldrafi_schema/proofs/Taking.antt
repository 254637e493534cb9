-- Children that are taken step by step from those that are left.
use Rattle.std.proofs.Common.{◌≡◌, ◌↔◌, ◌⊎◌, inl, inr, ℕ, ◌+◌, ◌<◌, ◌≤◌, List, [], ◌∷◌, ◌++◌, take, length, get_or, map, refl, sym, ap, ◌∙◌, subst, Bool, true, false, cond, Some, None, Option}
use Rattle.std.proofs.lemmas.Bool.{false≢true}
use Rattle.std.proofs.lemmas.List.{take_all}
use Rattle.neldrafi_schema.proofs.Lists.{take_one}
use Rattle.std.specs.List.{filter}
use Rattle.serde_json.specs.Data.{Data}
use Rattle.strkw_keywords.specs.Meanings.{Lists}
use Rattle.neldrafi_schema.specs.declared.node.Part.{Part}
use Rattle.neldrafi_schema.specs.Paths.{Segment}
use Rattle.neldrafi_schema.specs.Rules.{Child, Target, is_all_of, part_of, spans, tested}
use Rattle.neldrafi_schema.specs.Schemas.{Keyword, rule, Rule, Branch, Schema}
use Rattle.neldrafi_schema.specs.Meaning.{AreLeft, AreVerdicts, Below, Evaluating, KeywordEvaluates, OneOf, Reports, TargetEvaluates, root_site}
use Rattle.neldrafi_schema.specs.machine.Left.{AreSpans}
use Rattle.neldrafi_schema.proofs.Determined.{verdicts_same}
use Rattle.neldrafi_schema.proofs.Spanning.{left_too}

pub left_none : (E : Segment → Type 0) → ((s : Segment) → E s → ⊥) → (cs : List Child) → AreLeft E cs cs
left_none E none [] = refl
left_none E none (c ∷ cs) = (cs, left_none E none cs, inr (none c.0, refl))

neither : (A B : Type 0) → (A → ⊥) → (B → ⊥) → A ⊎ B → ⊥
neither A B n o (inl a) = n a
neither A B n o (inr b) = o b

-- first by one, then by another
pub left_then : (E F : Segment → Type 0) (cs l m : List Child) → AreLeft E cs l → AreLeft F l m → AreLeft (λ s. E s ⊎ F s) cs m
left_then E F [] l m p q = subst (λ x. AreLeft F x m) p q
left_then E F (c ∷ cs) l m (a, p, inl (e, x)) q = (m, left_then E F cs a m p (subst (λ y. AreLeft F y m) x q), inl (inl e, refl))
left_then E F (c ∷ cs) l m (a, p, inr (n, x)) q = kept (λ b r. left_then E F cs a b p r) (subst (λ y. AreLeft F y m) x q) where
  kept : ((b : List Child) → AreLeft F a b → AreLeft (λ s. E s ⊎ F s) cs b) → AreLeft F (c ∷ a) m → AreLeft (λ s. E s ⊎ F s) (c ∷ cs) m
  kept rest (b, r, inl (f, y)) = (b, rest b r, inl (inr f, y))
  kept rest (b, r, inr (o, y)) = (b, rest b r, inr (neither (E c.0) (F c.0) n o, y))

left_one : (E : Segment → Type 0) (b : Bool) (c : Child) (cs l : List Child) → (b ≡ true → E c.0 → ⊥) → (b ≡ false → E c.0) → AreLeft E cs l
    → AreLeft E (c ∷ cs) (cond b (c ∷ l) l)
left_one E true c cs l n e p = (l, p, inr (n refl, refl))
left_one E false c cs l n e p = (l, p, inl (e refl, refl))

-- what a test keeps
pub left_filtered : (E : Segment → Type 0) (keeps : Child → Bool) → ((c : Child) → keeps c ≡ true → E c.0 → ⊥) → ((c : Child) → keeps c ≡ false → E c.0)
    → (cs : List Child) → AreLeft E cs (filter keeps cs)
left_filtered E keeps n e [] = refl
left_filtered E keeps n e (c ∷ cs) = left_one E (keeps c) c cs (filter keeps cs) (n c) (e c) (left_filtered E keeps n e cs)

-- ---- one after the other

one_of_both : {A : Type 0} (P : A → Type 0) (xs : List A) (y : A) → OneOf P (xs ++ y ∷ []) ↔ (OneOf P xs ⊎ P y)
one_of_both P xs y = (first xs, back xs) where
  first : (xs : List _) → OneOf P (xs ++ y ∷ []) → OneOf P xs ⊎ P y
  first [] (inl p) = inr p
  first [] (inr p) = absurd p
  first (x ∷ xs) (inl p) = inl (inl p)
  first (x ∷ xs) (inr p) = later x xs (first xs p) where
    later : (x : _) (xs : List _) → OneOf P xs ⊎ P y → OneOf P (x ∷ xs) ⊎ P y
    later x xs (inl q) = inl (inr q)
    later x xs (inr q) = inr q

  back : (xs : List _) → OneOf P xs ⊎ P y → OneOf P (xs ++ y ∷ [])
  back [] (inl p) = absurd p
  back [] (inr p) = inl p
  back (x ∷ xs) (inl (inl p)) = inl p
  back (x ∷ xs) (inl (inr p)) = inr (back xs (inl p))
  back (x ∷ xs) (inr p) = inr (back xs (inr p))

pub left_more : {A : Type 0} (P : Segment → A → Type 0) (xs : List A) (i : ℕ) (x : A) (cs l m : List Child) → i < length xs → x ≡ get_or xs i x
    → AreLeft (λ s. OneOf (P s) (take i xs)) cs l → AreLeft (λ s. P s x) l m → AreLeft (λ s. OneOf (P s) (take (i + 1) xs)) cs m
left_more P xs i x cs l m inside is p q =
    let more : take (i + 1) xs ≡ take i xs ++ x ∷ [] = take_one xs i x inside is in
    rw more (left_too (λ s. OneOf (P s) (take i xs) ⊎ P s x) (λ s. OneOf (P s) (take i xs ++ x ∷ []))
    (λ s. let b = one_of_both (P s) (take i xs) x in (b.1, b.0)) cs m (left_then (λ s. OneOf (P s) (take i xs)) (λ s. P s x) cs l m p q))

-- what holds of one of those that are seen
pub one_seen : {A B : Type 0} (P : B → Type 0) (f : A → B) (xs : List A) → OneOf (λ x. P (f x)) xs ↔ OneOf P (map f xs)
one_seen P f xs = (there xs, back xs) where
  there : (xs : List _) → OneOf (λ x. P (f x)) xs → OneOf P (map f xs)
  there [] p = p
  there (x ∷ xs) (inl p) = inl p
  there (x ∷ xs) (inr p) = inr (there xs p)

  back : (xs : List _) → OneOf P (map f xs) → OneOf (λ x. P (f x)) xs
  back [] p = p
  back (x ∷ xs) (inl p) = inl p
  back (x ∷ xs) (inr p) = inr (back xs p)

-- all are taken
pub left_all_seen : {A B : Type 0} (P : Segment → B → Type 0) (f : A → B) (xs : List A) (i : ℕ) (cs l : List Child) → length xs ≤ i
    → AreLeft (λ s. OneOf (λ x. P s (f x)) (take i xs)) cs l → AreLeft (λ s. OneOf (P s) (map f xs)) cs l
left_all_seen P f xs i cs l all p = left_too (λ s. OneOf (λ x. P s (f x)) xs) (λ s. OneOf (P s) (map f xs)) (λ s. one_seen (P s) f xs) cs l
    (subst (λ ys. AreLeft (λ s. OneOf (λ x. P s (f x)) ys) cs l) (take_all i xs all) p)

-- ---- by the targets of a keyword, what it evaluates

module _ (schemas : List Schema) (lists : Lists) (k : ℕ) where
  abbrev pub below : Below
  below = Reports schemas lists k

  same_verdicts : (word : List ℕ) (ts : List Target) (vs ws : List Bool) → AreVerdicts below root_site word ts vs → AreVerdicts below root_site word ts ws → vs ≡ ws
  same_verdicts word ts vs ws p q = verdicts_same below root_site word ts vs ws p q

  speaks_not : (o : Option Part) (s : Segment) → o ≡ None → is_all_of s o ≡ true → ⊥
  speaks_not None s e f = false≢true f
  speaks_not (Some x) s e f = cc

  pub keyword_left : (inner : Segment → Evaluating) (beside : List Keyword) (word : List ℕ) (r : Rule) (bs : List Branch) (d : Data) (ts : List Target) (cs l : List Child)
      → part_of r ≡ None → AreSpans below beside (rule word r bs) d ts → AreLeft (λ s. OneOf (TargetEvaluates (inner s) s) ts) cs l
      → AreLeft (λ s. KeywordEvaluates below (inner s) beside d s (rule word r bs)) cs l
  keyword_left inner beside word r bs d ts cs l none (vs, v, e) p =
      left_too (λ s. OneOf (TargetEvaluates (inner s) s) ts) (λ s. KeywordEvaluates below (inner s) beside d s (rule word r bs)) agree cs l p where
        back : (s : Segment) → KeywordEvaluates below (inner s) beside d s (rule word r bs) → OneOf (TargetEvaluates (inner s) s) ts
        back s (inl f) = absurd (speaks_not (part_of r) s none f)
        back s (inr (ws, w, q)) = subst (λ x. OneOf (TargetEvaluates (inner s) s) x)
            (ap (λ us. spans beside r bs d us) (same_verdicts word (tested r bs d) ws vs w v) ∙ sym e) q

        agree : (s : Segment) → OneOf (TargetEvaluates (inner s) s) ts ↔ KeywordEvaluates below (inner s) beside d s (rule word r bs)
        agree s = ((λ q. inr (vs, v, subst (λ x. OneOf (TargetEvaluates (inner s) s) x) e q)), back s)
