-- How many verdicts are true, target by target.
use Rattle.std.proofs.Common.{◌≡◌, ◌↔◌, ◌∙◌, ℕ, suc, ◌+◌, ◌<◌, List, [], ◌∷◌, refl, sym, ap, arith, Bool, true, false, Option, None, Some, IsTrue}
use Rattle.std.proofs.lemmas.Bool.{false≢true}
use Rattle.std.proofs.lemmas.Bool.Decides.{nat_tests}
use Rattle.std.specs.Prelude.{nat_le, not, ◌&&◌}
use Rattle.std.specs.List.{list_any}
use Rattle.strkw_report.specs.declared.error.Site.{Site}
use Rattle.neldrafi_schema.specs.Errors.{Kind}
use Rattle.neldrafi_schema.specs.Meaning.{AreVerdicts, Below, site_of}
use Rattle.neldrafi_schema.specs.Rules.{Target, count_of, is_between, unless}
use Rattle.neldrafi_schema.specs.machine.Counted.{AreCounted, is_past}
use Rattle.neldrafi_schema.proofs.Visited.{verdict_first}

-- ---- what rules say of a count

pub some_by_count : (kind : Kind) (vs : List Bool) → (unless (list_any (λ v. v) vs) kind ≡ []) ↔ (nat_le 1 (count_of vs) ≡ true)
some_by_count kind [] = (λ r. cc, λ t. absurd (false≢true t))
some_by_count kind (true ∷ vs) = (λ r. grind (arith, nat_tests), λ t. refl)
some_by_count kind (false ∷ vs) = some_by_count kind vs

pub none_by_count : (kind : Kind) (vs : List Bool) → (unless (not (list_any (λ v. v) vs)) kind ≡ []) ↔ ((nat_le 0 (count_of vs) && nat_le (count_of vs) 0) ≡ true)
none_by_count kind [] = (λ r. refl, λ t. refl)
none_by_count kind (true ∷ vs) = (λ r. cc, λ t. absurd (false≢true (sym (too_many (count_of vs)) ∙ t))) where
  too_many : (n : ℕ) → (nat_le 0 (suc n) && nat_le (suc n) 0) ≡ false
  too_many n = grind (arith, nat_tests)
none_by_count kind (false ∷ vs) = none_by_count kind vs

-- ---- target by target

past_all : (least : ℕ) (most : Option ℕ) (count more all : ℕ) → is_past most count ≡ true → count < all → is_between least most all ≡ false
past_all least None count more all e h = absurd (false≢true e)
past_all least (Some n) count more all e h = grind (arith, nat_tests)

same_verdict : (X : Type 0) (a b : Bool) → (IsTrue a ↔ X) → (IsTrue b ↔ X) → a ≡ b
same_verdict X true true p q = refl
same_verdict X false false p q = refl
same_verdict X true false p q = sym (q.1 (p.0 refl))
same_verdict X false true p q = p.1 (q.0 refl)

module _ (below : Below) (site : Site) (word : List ℕ) (all : List Target) where
  abbrev Are : List Target → List Bool → Type 0
  Are ts vs = AreVerdicts below site word ts vs

  -- so many verdicts are true so far, and those on what is left follow
  pub record Counted (count : ℕ) (left : List Target) : Type 0 where
    pub whole : (later : List Bool) → Are left later → (vs : List Bool) × Are all vs × (count_of vs ≡ count + count_of later)
    pub rest : (vs : List Bool) → Are all vs → (later : List Bool) × Are left later × (count_of vs ≡ count + count_of later)

  pub none_counted : Counted 0 all
  none_counted = record { whole = λ later p. (later, p, omega arith); rest = λ vs p. (vs, p, omega arith) }

  module _ (count : ℕ) (t : Target) (ts : List Target) (b : Bool) (says : IsTrue b ↔ below t.schema t.value (site_of site word t) []) (before : Counted count (t ∷ ts)) where
    -- the verdict on the first, and those on the rest
    first : (vs : List Bool) → Are all vs → (later : List Bool) × Are ts later × (count_of vs ≡ count + count_of (b ∷ later))
    first vs p =
        let (those, (v, later, its, more, e), sum) = before.rest vs p in
        let same : v ≡ b = same_verdict _ v b its says in
        (later, more, sum ∙ ap (λ l. count + count_of l) e ∙ ap (λ x. count + count_of (x ∷ later)) same)

    behind : (later : List Bool) → Are ts later → (vs : List Bool) × Are all vs × (count_of vs ≡ count + count_of (b ∷ later))
    behind later p = before.whole (b ∷ later) (verdict_first below site word t ts b later says p)

    pub counted_more : b ≡ true → Counted (count + 1) ts
    counted_more e = record {
      whole = λ later p. let (vs, q, sum) = behind later p in (vs, q, more (count_of later) (count_of vs) (sum ∙ ap (λ x. count + count_of (x ∷ later)) e));
      rest = λ vs p. let (later, q, sum) = first vs p in (later, q, more (count_of later) (count_of vs) (sum ∙ ap (λ x. count + count_of (x ∷ later)) e));
    } where
      more : (n m : ℕ) → m ≡ count + suc n → m ≡ count + 1 + n
      more n m e = omega (arith, e)

    pub counted_less : b ≡ false → Counted count ts
    counted_less e = record {
      whole = λ later p. let (vs, q, sum) = behind later p in (vs, q, sum ∙ ap (λ x. count + count_of (x ∷ later)) e);
      rest = λ vs p. let (later, q, sum) = first vs p in (later, q, sum ∙ ap (λ x. count + count_of (x ∷ later)) e);
    }

    pub counted_past : (least : ℕ) (most : Option ℕ) → b ≡ true → is_past most count ≡ true → AreCounted below site word all least most → ⊥
    counted_past least most e past (vs, p, holds) =
        let (later, q, sum) = first vs p in
        let here : count_of vs ≡ count + suc (count_of later) = sum ∙ ap (λ x. count + count_of (x ∷ later)) e in
        false≢true (sym (past_all least most count (count_of later) (count_of vs) past (omega (arith, here))) ∙ holds)

  pub all_counted : (count : ℕ) (least : ℕ) (most : Option ℕ) (b : Bool) → b ≡ is_between least most count → Counted count []
      → IsTrue b ↔ AreCounted below site word all least most
  all_counted count least most b is before = (
    λ t. let (vs, p, sum) = before.whole [] refl in (vs, p, ap (is_between least most) (sum ∙ none count) ∙ sym is ∙ t),
    λ (vs, p, holds). let (later, none_left, sum) = before.rest vs p in
        is ∙ ap (is_between least most) (sym (none count) ∙ ap (λ l. count + count_of l) (sym none_left) ∙ sym sum) ∙ holds,
  ) where
    none : (n : ℕ) → n + count_of [] ≡ n
    none n = omega arith
