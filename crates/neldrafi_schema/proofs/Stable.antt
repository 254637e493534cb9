-- As many steps as there are schemas are enough to find the ways that end.
use Rattle.std.proofs.Common.{◌≡◌, ◌⊎◌, ◌∙◌, ◌+◌, ◌<◌, ◌≤◌, ℕ, zero, suc, List, [], ◌∷◌, length, get_or, Bool, true, false, Option, Some, None, inl, inr, refl, sym, ap, arith, suc-add, zero-add}
use Rattle.std.proofs.lemmas.Bool.{false≢true}
use Rattle.std.proofs.lemmas.Option.{slice_get_cases, slice_get_past}
use Rattle.std.specs.Prelude.{slice_get}
use Rattle.std.specs.List.{list_all}
use Rattle.neldrafi_schema.specs.Refusals.{body_ends, ends, in_place, keywords_end, schema_ends}
use Rattle.neldrafi_schema.specs.Schemas.{Body, Keyword, Schema, always, keywords, neither, never}
use Rattle.neldrafi_schema.proofs.Endings.{all_stay}
use Rattle.neldrafi_schema.proofs.Fitting.{and_left, and_right}

-- ---- flags that are counted

bit : Bool → ℕ
bit true = 1
bit false = 0

count : (ℕ → Bool) → ℕ → ℕ
count f zero = 0
count f (suc n) = bit (f n) + count f n

at_most_one : (b : Bool) → bit b ≤ 1
unfolding bit
at_most_one true = omega arith
at_most_one false = omega arith

all_counted : (f : ℕ → Bool) (n : ℕ) → count f n ≤ n
unfolding count
all_counted f zero = omega arith
all_counted f (suc n) = omega (arith, at_most_one (f n), all_counted f n)

bits : (a b : Bool) → (a ≡ true → b ≡ true) → bit a ≤ bit b
unfolding bit
bits true true h = omega arith
bits true false h = absurd (false≢true (h refl))
bits false b h = omega arith

last_or_before : (m n : ℕ) → m < suc n → (m ≡ n) ⊎ (m < n)
last_or_before zero zero h = inl refl
last_or_before zero (suc n) h = inr (omega arith)
last_or_before (suc m) zero h = absurd (omega arith)
last_or_before (suc m) (suc n) h = further (last_or_before m n (omega arith)) where
  further : (m ≡ n) ⊎ (m < n) → (suc m ≡ suc n) ⊎ (suc m < suc n)
  further (inl e) = inl (ap suc e)
  further (inr less) = inr (omega arith)

-- where each flag that is set stays so, the flags are the same, or more of them are set
module _ (f g : ℕ → Bool) (keeps : (n : ℕ) → f n ≡ true → g n ≡ true) where
  abbrev Compared : ℕ → Type 0
  Compared n = ((m : ℕ) → m < n → f m ≡ g m) ⊎ (count f n < count g n)

  none_fewer : (n : ℕ) → count f n ≤ count g n
  unfolding count
  none_fewer zero = omega arith
  none_fewer (suc n) = omega (arith, none_fewer n, bits (f n) (g n) (keeps n))

  one_same : (n : ℕ) → f n ≡ g n → Compared n → Compared (suc n)
  unfolding count
  one_same n e (inl same) = inl (λ m h. at m (last_or_before m n h)) where
    at : (m : ℕ) → (m ≡ n) ⊎ (m < n) → f m ≡ g m
    at m (inl is) = rw is e
    at m (inr less) = same m less
  one_same n e (inr more) = inr (omega (arith, more, bits (f n) (g n) (keeps n)))

  one_more : (n : ℕ) (a b : Bool) → f n ≡ a → g n ≡ b → Compared n → Compared (suc n)
  unfolding count bit
  one_more n true true e h c = one_same n (e ∙ sym h) c
  one_more n true false e h c = absurd (false≢true (sym h ∙ keeps n e))
  one_more n false true e h c = inr (rw (e, h) (omega (arith, none_fewer n)))
  one_more n false false e h c = one_same n (e ∙ sym h) c

  compared : (n : ℕ) → Compared n
  compared zero = inl (λ m h. absurd (omega arith))
  compared (suc n) = one_more n (f n) (g n) refl refl (compared n)

-- ---- one step more

module _ (f g : ℕ → Bool) (keeps : (n : ℕ) → f n ≡ true → g n ≡ true) where
  pub all_keep : (ns : List ℕ) → list_all f ns ≡ true → list_all g ns ≡ true
  all_keep [] e = refl
  all_keep (n ∷ ns) e = rw (keeps n (and_left (f n) _ e), all_keep ns (and_right (f n) _ e)) refl

  keywords_keep : (ks : List Keyword) → keywords_end f ks ≡ true → keywords_end g ks ≡ true
  keywords_keep [] e = refl
  keywords_keep (k ∷ ks) e =
      rw (all_keep (in_place k) (and_left (list_all f (in_place k)) _ e), keywords_keep ks (and_right (list_all f (in_place k)) _ e)) refl

  body_keeps : (body : Body) → body_ends f body ≡ true → body_ends g body ≡ true
  body_keeps always e = refl
  body_keeps never e = refl
  body_keeps neither e = refl
  body_keeps (keywords ks) e = keywords_keep ks e

  schema_keeps : (t : Option Schema) → schema_ends f t ≡ true → schema_ends g t ≡ true
  schema_keeps None e = e
  schema_keeps (Some t) e = body_keeps t.body e

module _ (schemas : List Schema) where
  -- what ends does so in more steps too
  step_keeps : (steps n : ℕ) → ends schemas steps n ≡ true → ends schemas (suc steps) n ≡ true
  unfolding ends
  step_keeps zero n e = absurd (false≢true e)
  step_keeps (suc steps) n e = schema_keeps (ends schemas steps) (ends schemas (suc steps)) (step_keeps steps) (slice_get schemas n) e

  pub steps_keep : (more steps n : ℕ) → ends schemas steps n ≡ true → ends schemas (more + steps) n ≡ true
  steps_keep zero steps n e = rw zero-add e
  steps_keep (suc more) steps n e = rw suc-add (step_keeps (more + steps) n (steps_keep more steps n e))

  none_past : (steps n : ℕ) → length schemas ≤ n → ends schemas steps n ≡ false
  unfolding ends
  none_past zero n h = refl
  none_past (suc steps) n h = rw (slice_get_past schemas n h) refl

  abbrev IsStill : ℕ → Type 0
  IsStill k = (n : ℕ) → ends schemas k n ≡ ends schemas (suc k) n

  still_everywhere : (k : ℕ) → ((m : ℕ) → m < length schemas → ends schemas k m ≡ ends schemas (suc k) m) → IsStill k
  still_everywhere k same n = at (slice_get_cases schemas n).1 where
    at : ((t : Schema) × (n < length schemas) × (slice_get schemas n ≡ Some t) × (get_or schemas n t ≡ t))
        ⊎ ((length schemas ≤ n) × (slice_get schemas n ≡ None)) → ends schemas k n ≡ ends schemas (suc k) n
    at (inl (t, h, e, f)) = same n h
    at (inr (h, e)) = none_past k n h ∙ sym (none_past (suc k) n h)

  -- each step finds one more, or none does any more
  still : (k : ℕ) → ((j : ℕ) × (j < k) × IsStill j) ⊎ (k ≤ count (ends schemas k) (length schemas))
  still zero = inr (omega arith)
  still (suc k) = more (still k) (compared (ends schemas k) (ends schemas (suc k)) (step_keeps k) (length schemas)) where
    more : ((j : ℕ) × (j < k) × IsStill j) ⊎ (k ≤ count (ends schemas k) (length schemas))
        → Compared (ends schemas k) (ends schemas (suc k)) (step_keeps k) (length schemas)
        → ((j : ℕ) × (j < suc k) × IsStill j) ⊎ (suc k ≤ count (ends schemas (suc k)) (length schemas))
    more (inl (j, h, s)) c = inl (j, omega arith, s)
    more (inr big) (inl same) = inl (k, omega arith, still_everywhere k same)
    more (inr big) (inr up) = inr (omega arith)

  pub enough_to_end : (steps n : ℕ) → length schemas ≤ steps → ends schemas steps n ≡ true → ends schemas (length schemas) n ≡ true
  unfolding ends
  enough_to_end steps n h e = by (still (suc (length schemas))) where
    by : ((j : ℕ) × (j < suc (length schemas)) × IsStill j) ⊎ (suc (length schemas) ≤ count (ends schemas (suc (length schemas))) (length schemas))
        → ends schemas (length schemas) n ≡ true
    by (inl (j, less, s)) =
        let stays = all_stay schemas (ends schemas j) j (λ m. refl) s in
        sym (stays (length schemas) n (omega arith)) ∙ stays steps n (omega arith) ∙ e
    by (inr big) = absurd (omega (arith, all_counted (ends schemas (suc (length schemas))) (length schemas)))
