-- The first of all problems, and places that stay.
use Rattle.std.proofs.Common.{◌≡◌, ℕ, zero, suc, ◌≤◌, List, [], ◌∷◌, ◌++◌, length, refl, sym, ap, ◌∙◌, subst, arith, append_assoc, append-nil, Some, None, Option, Less, Equal, Greater, Bool, true, ◌==◌}
use Rattle.std.proofs.lemmas.Cmp.{nat_cmp_total, nat_list_cmp_total, lists_total}
use Rattle.std.specs.Prelude.{slice_get}
use Rattle.std.specs.Cmp.{IsTotalOrder}
use Rattle.std.specs.List.{AllByRecursion}
use Rattle.std.specs.declared.cmp.Ordering.{Ordering}
use Rattle.std.specs.Ordering.{ordering_index, ordering_reverse}
use Rattle.neldrafi_schema.specs.declared.problem.Problem.{Problem}
use Rattle.neldrafi_schema.specs.Scopes.{ScopedPath}
use Rattle.neldrafi_schema.specs.Paths.{Path, Segment, key, place, document, segment_cmp, path_cmp, StandsBefore}
use Rattle.neldrafi_schema.specs.machine.Places.{Extends}
use Rattle.neldrafi_schema.specs.machine.Problems.{IsKept, Notes, problem_of}
use Rattle.neldrafi_schema.specs.Refusals.{IsFirst, body_problems, problems}
use Rattle.neldrafi_schema.specs.Refusals.{Problem as Refused}
use Rattle.neldrafi_schema.specs.Schemas.{Schema}

-- ---- the order of paths

segments_antisymm : (a b : Segment) → segment_cmp a b ≡ ordering_reverse (segment_cmp b a)
segments_antisymm (key a) (key b) = nat_list_cmp_total.antisymm a b
segments_antisymm (place m) (place n) = nat_cmp_total.antisymm m n
segments_antisymm (document m) (document n) = nat_cmp_total.antisymm m n
segments_antisymm a b = refl

segments_trans : (a b c : Segment) → segment_cmp a b ≡ Less → segment_cmp b c ≡ Less → segment_cmp a c ≡ Less
segments_trans (key a) (key b) (key c) p q = nat_list_cmp_total.trans a b c p q
segments_trans (key a) (place m) (key c) p q = cc
segments_trans (key a) (document m) (key c) p q = cc
segments_trans (key a) b (place n) p q = refl
segments_trans (key a) b (document n) p q = refl
segments_trans (place m) (key b) c p q = cc
segments_trans (place l) (place m) (key c) p q = cc
segments_trans (place l) (document m) (key c) p q = cc
segments_trans (place l) (place m) (place n) p q = nat_cmp_total.trans l m n p q
segments_trans (place l) (document m) (place n) p q = cc
segments_trans (place l) b (document n) p q = refl
segments_trans (document m) (key b) c p q = cc
segments_trans (document m) (place n) c p q = cc
segments_trans (document l) (document m) (key c) p q = cc
segments_trans (document l) (document m) (place n) p q = cc
segments_trans (document l) (document m) (document n) p q = nat_cmp_total.trans l m n p q

segments_congr : (a b c : Segment) → segment_cmp a b ≡ Equal → segment_cmp a c ≡ segment_cmp b c
segments_congr (key a) (key b) (key c) e = nat_list_cmp_total.congr a b c e
segments_congr (place l) (place m) (place n) e = nat_cmp_total.congr l m n e
segments_congr (document l) (document m) (document n) e = nat_cmp_total.congr l m n e
segments_congr a b c e = cc

pub paths_total : IsTotalOrder path_cmp
paths_total = lists_total (record { antisymm = segments_antisymm; trans = segments_trans; congr = segments_congr })

reversed : (o : Ordering) → o ≡ ordering_reverse o → o ≡ Less → ⊥
reversed Less e h = cc
reversed Equal e h = cc
reversed Greater e h = cc

pub not_before_itself : (p : Path) → StandsBefore p p → ⊥
not_before_itself p h = reversed (path_cmp p p) (paths_total.antisymm p p) h

-- ---- what is noted

pub all_both : {A : Type 0} (P : A → Type 0) (xs ys : List A) → AllByRecursion P xs → AllByRecursion P ys → AllByRecursion P (xs ++ ys)
all_both P [] ys p q = q
all_both P (x ∷ xs) ys p q = (p.0, all_both P xs ys p.1 q)

pub all_more : {A : Type 0} (P : A → Type 0) (xs : List A) (x : A) → AllByRecursion P xs → P x → AllByRecursion P (xs ++ x ∷ [])
all_more P xs x all p = all_both P xs (x ∷ []) all (p, tt)

pub all_weaker : {A : Type 0} (P Q : A → Type 0) → ((a : A) → P a → Q a) → (xs : List A) → AllByRecursion P xs → AllByRecursion Q xs
all_weaker P Q f [] p = tt
all_weaker P Q f (x ∷ xs) p = (f x p.0, all_weaker P Q f xs p.1)

-- a problem that is noted behind the first, and does not stand before it
still_first : (all : List Refused) (first p : Refused) → IsFirst all first → (StandsBefore p.0 first.0 → ⊥) → IsFirst (all ++ p ∷ []) first
still_first all first p is later = record {
  before = is.before;
  behind = is.behind ++ p ∷ [];
  among = ap (λ l. l ++ p ∷ []) is.among ∙ append_assoc is.before (first ∷ is.behind) (p ∷ []);
  first = all_both (λ q. StandsBefore q.0 first.0 → ⊥) all (p ∷ []) is.first (later, tt);
}

-- one that stands before the first is the first
now_first : (all : List Refused) (first p : Refused) → IsFirst all first → StandsBefore p.0 first.0 → IsFirst (all ++ p ∷ []) p
now_first all first p is earlier = record {
  before = all;
  behind = [];
  among = refl;
  first =
      all_both (λ q. StandsBefore q.0 p.0 → ⊥) all (p ∷ []) (all_weaker _ _
      (λ q not_before before. not_before (paths_total.trans q.0 p.0 first.0 before earlier)) all is.first) (not_before_itself p.0, tt);
}

only_one : (all : List Refused) (p : Refused) → all ≡ [] → IsFirst (all ++ p ∷ []) p
only_one all p e = record { before = all; behind = []; among = refl; first = rw e (not_before_itself p.0, tt) }

pub noted_later : (p : Refused) (kept : Problem) → (StandsBefore p.0 (problem_of kept).0 → ⊥) → Notes (p ∷ []) (Some kept) (Some kept)
noted_later p kept later = record { kept = λ all is. still_first all (problem_of kept) p is later }

pub noted_first : (p kept : Problem) → StandsBefore (problem_of p).0 (problem_of kept).0 → Notes (problem_of p ∷ []) (Some kept) (Some p)
noted_first p kept earlier = record { kept = λ all is. now_first all (problem_of kept) (problem_of p) is earlier }

pub noted_alone : (p : Problem) → Notes (problem_of p ∷ []) None (Some p)
noted_alone p = record { kept = λ all e. only_one all (problem_of p) e }

pub nothing_noted : (o : Option Problem) → Notes [] o o
nothing_noted o = record { kept = λ all is. subst (λ l. IsKept l o) (sym (append-nil all)) is }

pub noted_both : (xs ys : List Refused) (o m n : Option Problem) → Notes xs o m → Notes ys m n → Notes (xs ++ ys) o n
noted_both xs ys o m n p q = record {
  kept = λ all is. subst (λ l. IsKept l n) (append_assoc all xs ys) (q.kept (all ++ xs) (p.kept all is));
}

-- ---- places that stay

pub stays : (old new : List ScopedPath) (n : ℕ) (at : ScopedPath) → Extends old new → slice_get old n ≡ Some at → slice_get new n ≡ Some at
stays old new n at extends e = subst (λ l. slice_get l n ≡ Some at) (sym extends.longer) (behind old extends.more n e) where
  behind : (old more : List ScopedPath) (n : ℕ) → slice_get old n ≡ Some at → slice_get (old ++ more) n ≡ Some at
  behind [] more n e = cc
  behind (p ∷ old) more zero e = e
  behind (p ∷ old) more (suc n) e = behind old more n e

pub extends_itself : (paths : List ScopedPath) → Extends paths paths
extends_itself paths = record { more = []; longer = sym (append-nil paths) }

pub extends_both : (a b c : List ScopedPath) → Extends a b → Extends b c → Extends a c
extends_both a b c p q = record {
  more = p.more ++ q.more;
  longer = q.longer ∙ ap (λ l. l ++ q.more) p.longer ∙ append_assoc a p.more q.more;
}

no_problems : (paths : List Path) → problems paths [] ≡ []
no_problems [] = refl
no_problems (p ∷ paths) = refl

-- the problems of one schema more
pub problems_more : (paths : List Path) (ts : List Schema) (path : Path) (t : Schema) → slice_get paths (length ts) ≡ Some path
    → problems paths (ts ++ t ∷ []) ≡ problems paths ts ++ body_problems path t.body
problems_more [] ts path t e = cc
problems_more (p ∷ paths) [] path t e = let same : p ≡ path = cc in rw (same, no_problems paths) (append-nil (body_problems path t.body))
problems_more (p ∷ paths) (s ∷ ts) path t e =
    ap (λ l. body_problems p s.body ++ l) (problems_more paths ts path t e)
    ∙ sym (append_assoc (body_problems p s.body) (problems paths ts) (body_problems path t.body))

-- those of some schemas stay where more places are found
pub problems_stay : (paths more : List Path) (ts : List Schema) → length ts ≤ length paths → problems (paths ++ more) ts ≡ problems paths ts
problems_stay [] [] ts h = refl
problems_stay [] (p ∷ more) [] h = refl
problems_stay [] (p ∷ more) (t ∷ ts) h = absurd (omega arith)
problems_stay (p ∷ paths) more [] h = refl
problems_stay (p ∷ paths) more (t ∷ ts) h = ap (λ l. body_problems p t.body ++ l) (problems_stay paths more ts (omega arith))

-- ---- the test of the code

pub less_by_index : (o : Ordering) (b : Bool) → b ≡ (ordering_index o == 0) → (b ≡ true → o ≡ Less) × (o ≡ Less → b ≡ true)
less_by_index Less b e = (λ t. refl, λ l. e)
less_by_index Equal b e = (λ t. cc, λ l. cc)
less_by_index Greater b e = (λ t. cc, λ l. cc)
