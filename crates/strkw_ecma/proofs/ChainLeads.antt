-- A chain leads through a text where its classes read it.
use Rattle.std.proofs.Common.{◌≡◌, ◌↔◌, ◌⊎◌, ℕ, zero, suc, ◌+◌, ◌<◌, ◌≤◌, Bool, true, false, ◌&&◌, List, [], ◌∷◌, ◌++◌, length, drop, replicate}
use Rattle.std.proofs.Common.{get_or, slice_get, Option, Some, None, refl, sym, ap, subst, ◌∙◌, inl, inr, ⊎_elim, true≢false, drop-drop, arith}
use Rattle.std.proofs.lemmas.Bool.Decides.{nat_tests}
use Rattle.std.proofs.lemmas.List.{length-append, length-replicate}
use Rattle.std.proofs.lemmas.Option.{none-some, same_Some, slice_get-get_or}
use Rattle.strkw_regex_core.specs.machine.MarkedMeaning.{Rounds, no_round, a_round}
use Rattle.strkw_regex_core.specs.Meaning.{before, is_edge}
use Rattle.strkw_regex_core.specs.machine.Program.{Instruction}
use Rattle.strkw_ecma.specs.machine.Chains.{is_often, numbers_of, ends_of, once, repeated}
use Rattle.strkw_ecma.specs.machine.Links.{begins_with}
use Rattle.strkw_regex_search.specs.machine.Machine.{class_reads}
use Rattle.strkw_regex_search.specs.machine.Instructions.{instructions, read_instruction}
use Rattle.strkw_ecma.specs.declared.links.FixedSequence.{FixedSequence}
use Rattle.strkw_ecma.specs.declared.links.Often.{Often}
use Rattle.strkw_ecma.specs.declared.links.Often.TheVariants.{AtMost, AnyTimes, SomeTimes}
use Rattle.strkw_regex_search.specs.declared.code.Class.{Class}
use Rattle.strkw_regex_search.specs.declared.code.Instruction.{Instruction as CodeInstruction}
use Rattle.strkw_regex_search.specs.declared.code.Instruction.TheVariants.{Read}
use Rattle.strkw_ecma.proofs.Anchors.{nothing_before, nothing_behind}
use Rattle.strkw_ecma.proofs.Linked.{begins_behind}
use Rattle.strkw_ecma.proofs.Leads.{is_straight, are_straight, Goes, Leads, leads_behind}
use Rattle.strkw_charset.proofs.Booleans.{and_true, and_left, and_right}
use Rattle.strkw_regex_search.proofs.Written.{more_instructions}

-- at a place of a list stands an element, and the others behind it; or the list has ended
at_place : (xs : List ℕ) (i : ℕ)
    → ((c : ℕ) × (slice_get xs i ≡ Some c) × (drop i xs ≡ c ∷ drop (suc i) xs)) ⊎ ((drop i xs ≡ []) × (slice_get xs i ≡ None))
at_place [] zero = inr (refl, refl)
at_place [] (suc i) = inr (refl, refl)
at_place (x ∷ xs) zero = inl (x, refl, refl)
at_place (x ∷ xs) (suc i) = at_place xs i

-- so what stands at a place is the first of what is behind it
pub there : (xs : List ℕ) (i c : ℕ) → slice_get xs i ≡ Some c → drop i xs ≡ c ∷ drop (suc i) xs
there xs i c e = ⊎_elim (λ w. w.2 ∙ ap (λ (d : ℕ). d ∷ drop (suc i) xs) (same_Some w.0 c (sym w.1 ∙ e)))
    (λ w. absurd (none-some c (sym w.1 ∙ e))) (at_place xs i)

module _ (classes : List Class) where
  module _ (text : List ℕ) where
    -- a character of a class is read
    abbrev IsRead : Option Class → ℕ → ℕ → Type 0
    IsRead o i j = (c : ℕ) × (slice_get text i ≡ Some c) × (class_reads (Some c) o ≡ true) × (j ≡ i + 1)

    -- what an instruction does that reads a class once
    pub goes_once : (o : Option Class) (i j : ℕ) → Goes text (read_instruction false false o) i j ≡ IsRead o i j
    goes_once None i j = refl
    goes_once (Some k) i j = refl

    -- and one that may leave it out
    pub goes_at_most_once : (o : Option Class) (i j : ℕ) → Goes text (read_instruction false true o) i j ≡ ((i ≡ j) ⊎ IsRead o i j)
    goes_at_most_once None i j = refl
    goes_at_most_once (Some k) i j = refl

    -- and those that repeat it
    goes_any_times : (o : Option Class) (i j : ℕ) → Goes text (read_instruction true true o) i j ≡ Rounds (IsRead o) j i
    goes_any_times None i j = refl
    goes_any_times (Some k) i j = refl

    goes_some_times : (o : Option Class) (i j : ℕ)
        → Goes text (read_instruction true false o) i j ≡ ((l : ℕ) × IsRead o i l × Rounds (IsRead o) j l)
    goes_some_times None i j = refl
    goes_some_times (Some k) i j = refl

    -- the text goes on at a place with a character of each class
    abbrev Begins : List ℕ → ℕ → Type 0
    Begins ns i = begins_with classes ns (drop i text) ≡ true

    -- one that is read stands first
    read_first : (n : ℕ) (ns : List ℕ) (i j : ℕ) → IsRead (slice_get classes n) i j → Begins ns j → Begins (n ∷ ns) i
    read_first n ns i j w h =
        let next : j ≡ suc i = omega (arith, w.3) in
        ap (begins_with classes (n ∷ ns)) (there text i w.0 w.1)
        ∙ and_true _ _ w.2 (subst (Begins ns) next h)

    -- and one that stands first is read
    first_read : (n : ℕ) (ns : List ℕ) (i : ℕ) → Begins (n ∷ ns) i → IsRead (slice_get classes n) i (i + 1) × Begins ns (i + 1)
    first_read n ns i h =
        let next : suc i ≡ i + 1 = omega arith in
        ⊎_elim
        (λ w.
        let both : (class_reads (Some w.0) (slice_get classes n) && begins_with classes ns (drop (suc i) text)) ≡ true =
        sym (ap (begins_with classes (n ∷ ns)) w.2) ∙ h in (
          (w.0, w.1, and_left (class_reads (Some w.0) (slice_get classes n)) _ both, refl),
          subst (Begins ns) next (and_right (class_reads (Some w.0) (slice_get classes n)) _ both),
        ))
        (λ w. absurd (true≢false (sym h ∙ ap (begins_with classes (n ∷ ns)) w.0)))
        (at_place text i)

    -- instructions that read classes once lead over a character of each
    once_leads : (ns : List ℕ) (i j : ℕ) → Leads text (instructions classes (once ns)) i j ↔ (Begins ns i × (j ≡ i + length ns))
    once_leads [] i j = (λ w. (refl, omega (arith, w)), λ w. omega (arith, w.1))
    once_leads (n ∷ ns) i j = (
      λ w.
          let is : IsRead (slice_get classes n) i w.0 = subst (λ (A : Type 0). A) (goes_once (slice_get classes n) i w.0) w.1 in
          let rest = (once_leads ns w.0 j).0 w.2 in
          (read_first n ns i w.0 is rest.0, omega (arith, is.3, rest.1)),
      λ w.
          let is = first_read n ns i w.0 in (
            i + 1,
            subst (λ (A : Type 0). A) (sym (goes_once (slice_get classes n) i (i + 1))) is.0,
            (once_leads ns (i + 1) j).1 (is.1, omega (arith, w.1)),
          ),
    )

    -- so many of one class
    abbrev Several : ℕ → ℕ → ℕ → Type 0
    Several n count i = Begins (replicate count n) i

    -- copies that each may be missing lead over some of so many
    copies_lead : (n most i j : ℕ) → Leads text (instructions classes (replicate most (Read n false true))) i j
        → (count : ℕ) × (count ≤ most) × Several n count i × (j ≡ i + count)
    copies_lead n zero i j w = (0, omega arith, refl, omega (arith, w))
    copies_lead n (suc most) i j w =
        let rest = copies_lead n most w.0 j w.2 in
        ⊎_elim
        (λ e. (rest.0, omega (arith, rest.1), subst (Several n rest.0) (sym e) rest.2, omega (arith, e, rest.3)))
        (λ is. (suc rest.0, omega (arith, rest.1), read_first n (replicate rest.0 n) i w.0 is rest.2, omega (arith, is.3, rest.3)))
        (subst (λ (A : Type 0). A) (goes_at_most_once (slice_get classes n) i w.0) w.1)

    -- and over any number of these
    copies_led : (n most i count : ℕ) → count ≤ most → Several n count i
        → Leads text (instructions classes (replicate most (Read n false true))) i (i + count)
    copies_led n zero i zero w h = omega arith
    copies_led n zero i (suc count) w h = absurd (omega (arith, w))
    copies_led n (suc most) i zero w h = (
      i,
      subst (λ (A : Type 0). A) (sym (goes_at_most_once (slice_get classes n) i i)) (inl refl),
      copies_led n most i zero (omega arith) refl,
    )
    copies_led n (suc most) i (suc count) w h =
        let is = first_read n (replicate count n) i h in
        let sum : (i + 1) + count ≡ i + suc count = omega arith in (
          i + 1,
          subst (λ (A : Type 0). A) (sym (goes_at_most_once (slice_get classes n) i (i + 1))) (inr is.0),
          subst (Leads text (instructions classes (replicate most (Read n false true))) (i + 1)) sum
              (copies_led n most (i + 1) count (omega (arith, w)) is.1),
        )

    -- rounds read some
    rounds_read : (n j i : ℕ) → Rounds (IsRead (slice_get classes n)) j i → (count : ℕ) × Several n count i × (j ≡ i + count)
    rounds_read n j i (no_round _ e) = (0, refl, omega (arith, e))
    rounds_read n j i (a_round _ l is s) =
        let rest = rounds_read n j l s in
        (suc rest.0, read_first n (replicate rest.0 n) i l is rest.1, omega (arith, is.3, rest.2))

    -- and any number
    read_rounds : (n i count : ℕ) → Several n count i → Rounds (IsRead (slice_get classes n)) (i + count) i
    read_rounds n i zero h = no_round i (omega arith)
    read_rounds n i (suc count) h =
        let is = first_read n (replicate count n) i h in
        let sum : (i + 1) + count ≡ i + suc count = omega arith in
        a_round i (i + 1) is.0
        (subst (λ (k : ℕ). Rounds (IsRead (slice_get classes n)) k (i + 1)) sum (read_rounds n (i + 1) count is.1))

    -- the one class that may be read more often leads over as many as it may
    abbrev Often_read : Often → ℕ → ℕ → ℕ → Type 0
    Often_read often n i j = (count : ℕ) × (is_often often count ≡ true) × Several n count i × (j ≡ i + count)

    repeated_leads : (often : Often) (n i j : ℕ)
        → Leads text (instructions classes (repeated often n)) i j ↔ Often_read often n i j
    repeated_leads (AtMost most) n i j = (
      λ w. let r = copies_lead n most i j w in (r.0, grind (arith, nat_tests, r.1), r.2, r.3),
      λ w.
          let few : w.0 ≤ most = grind (arith, nat_tests, w.1) in
          subst (Leads text (instructions classes (replicate most (Read n false true))) i) (sym w.3)
          (copies_led n most i w.0 few w.2),
    )
    repeated_leads AnyTimes n i j = (
      λ w.
          let r = rounds_read n w.0 i (subst (λ (A : Type 0). A) (goes_any_times (slice_get classes n) i w.0) w.1) in
          (r.0, refl, r.1, omega (arith, r.2, w.2)),
      λ w. (i + w.0, subst (λ (A : Type 0). A) (sym (goes_any_times (slice_get classes n) i (i + w.0))) (read_rounds n i w.0 w.2), sym w.3),
    )
    repeated_leads SomeTimes n i j = (
      λ w.
          let is = subst (λ (A : Type 0). A) (goes_some_times (slice_get classes n) i w.0) w.1 in
          let r = rounds_read n w.0 is.0 is.2 in
          (suc r.0, grind (arith, nat_tests), read_first n (replicate r.0 n) i is.0 is.1 r.1, omega (arith, is.1.3, r.2, w.2)),
      some_led,
    )
      where
        -- once, and then any number of times
        some_led : Often_read SomeTimes n i j → Leads text (instructions classes (repeated SomeTimes n)) i j
        some_led (zero, often, h, e) = absurd (grind (arith, nat_tests, often))
        some_led (suc count, often, h, e) =
            let is = first_read n (replicate count n) i h in
            let rest : Rounds (IsRead (slice_get classes n)) j (i + 1) =
            subst (λ (k : ℕ). Rounds (IsRead (slice_get classes n)) k (i + 1)) (omega (arith, e)) (read_rounds n (i + 1) count is.1) in
            (j, subst (λ (A : Type 0). A) (sym (goes_some_times (slice_get classes n) i j)) (i + 1, is.0, rest), refl)

    -- a chain without its two ends
    abbrev pub inner : FixedSequence → List CodeInstruction
    inner c = once c.first.items ++ (repeated c.often c.middle ++ once c.last.items)

    -- it leads over a character of each class
    pub inner_leads : (c : FixedSequence) (i j : ℕ) → Leads text (instructions classes (inner c)) i j
        ↔ ((count : ℕ) × (is_often c.often count ≡ true) × Begins (numbers_of c count) i × (j ≡ i + (ends_of c + count)))
    inner_leads c i j =
        let first = c.first.items in
        let last = c.last.items in
        let split : instructions classes (inner c)
        ≡ instructions classes (once first) ++ (instructions classes (repeated c.often c.middle) ++ instructions classes (once last)) =
        more_instructions classes (once first) (repeated c.often c.middle ++ once last)
        ∙ ap (λ (is : List Instruction). instructions classes (once first) ++ is) (more_instructions classes (repeated c.often c.middle) (once last)) in
        rw split (
          λ w.
              let one = (leads_behind text (instructions classes (once first))
              (instructions classes (repeated c.often c.middle) ++ instructions classes (once last)) i j).0 w in
              let two = (leads_behind text (instructions classes (repeated c.often c.middle)) (instructions classes (once last)) one.0 j).0 one.2 in
              let a = (once_leads first i one.0).0 one.1 in
              let m = (repeated_leads c.often c.middle one.0 two.0).0 two.1 in
              let b = (once_leads last two.0 j).0 two.2 in (
                m.0,
                m.1,
                joined first (replicate m.0 c.middle) last i one.0 two.0 a.0 a.1 m.2 (m.3 ∙ many one.0 m.0) b.0,
                omega (arith, a.1, m.3, b.1),
              ),
          λ w.
              let count = w.0 in
              let parts = parted first (replicate count c.middle) last i w.2 in
              let place : i + length first + length (replicate count c.middle) ≡ i + length first + count = sym (many (i + length first) count) in
              (leads_behind text (instructions classes (once first))
              (instructions classes (repeated c.often c.middle) ++ instructions classes (once last)) i j).1 (
                i + length first,
                (once_leads first i (i + length first)).1 (parts.0, refl),
                (leads_behind text (instructions classes (repeated c.often c.middle)) (instructions classes (once last)) (i + length first) j).1 (
                  i + length first + count,
                  (repeated_leads c.often c.middle (i + length first) (i + length first + count)).1 (count, w.1, parts.1, refl),
                  (once_leads last (i + length first + count) j).1
                      (subst (Begins last) place parts.2, omega (arith, w.3)),
                ),
              ),
        )
      where
        -- so many copies are so many
        many : (k count : ℕ) → k + count ≡ k + length (replicate count c.middle)
        many k count = ap (λ (n : ℕ). k + n) (sym (length-replicate count c.middle))

        -- three parts one behind another
        joined : (xs ys zs : List ℕ) (i k l : ℕ) → Begins xs i → k ≡ i + length xs → Begins ys k → l ≡ k + length ys → Begins zs l
            → Begins (xs ++ (ys ++ zs)) i
        joined xs ys zs i k l a e m f b =
            begins_behind classes xs (ys ++ zs) (drop i text)
            ∙ and_true _ _ a
            (ap (begins_with classes (ys ++ zs)) (drop-drop (length xs) i text ∙ ap (λ (n : ℕ). drop n text) (sym e))
            ∙ begins_behind classes ys zs (drop k text)
            ∙ and_true _ _ m
            (ap (begins_with classes zs) (drop-drop (length ys) k text ∙ ap (λ (n : ℕ). drop n text) (sym f)) ∙ b))

        -- and each of them
        parted : (xs ys zs : List ℕ) (i : ℕ) → Begins (xs ++ (ys ++ zs)) i
            → Begins xs i × Begins ys (i + length xs) × Begins zs (i + length xs + length ys)
        parted xs ys zs i h =
            let one = sym (begins_behind classes xs (ys ++ zs) (drop i text)) ∙ h in
            let behind : Begins (ys ++ zs) (i + length xs) =
            sym (ap (begins_with classes (ys ++ zs)) (drop-drop (length xs) i text)) ∙ and_right (begins_with classes xs (drop i text)) _ one in
            let two = sym (begins_behind classes ys zs (drop (i + length xs) text)) ∙ behind in (
              and_left _ _ one,
              and_left _ _ two,
              sym (ap (begins_with classes zs) (drop-drop (length ys) (i + length xs) text))
                  ∙ and_right (begins_with classes ys (drop (i + length xs) text)) _ two,
            )

-- a program of a chain has no branch
pub straight_append : (xs ys : List Instruction) → are_straight xs ≡ true → are_straight ys ≡ true → are_straight (xs ++ ys) ≡ true
straight_append [] ys a b = b
straight_append (x ∷ xs) ys a b = and_true _ _ (and_left (is_straight x) _ a) (straight_append xs ys (and_right (is_straight x) _ a) b)

-- an instruction that reads a class has none
pub read_straight : (again optional : Bool) (o : Option Class) → is_straight (read_instruction again optional o) ≡ true
read_straight again optional None = refl
read_straight again optional (Some k) = refl

module _ (classes : List Class) where
  -- nor have those that read classes once
  once_straight : (ns : List ℕ) → are_straight (instructions classes (once ns)) ≡ true
  once_straight [] = refl
  once_straight (n ∷ ns) = and_true _ _ (read_straight false false (slice_get classes n)) (once_straight ns)

  -- nor copies
  copies_straight : (most n : ℕ) → are_straight (instructions classes (replicate most (Read n false true))) ≡ true
  copies_straight zero n = refl
  copies_straight (suc most) n = and_true _ _ (read_straight false true (slice_get classes n)) (copies_straight most n)

  -- nor those of the one class
  repeated_straight : (often : Often) (n : ℕ) → are_straight (instructions classes (repeated often n)) ≡ true
  repeated_straight (AtMost most) n = copies_straight most n
  repeated_straight AnyTimes n = and_true _ _ (read_straight true true (slice_get classes n)) refl
  repeated_straight SomeTimes n = and_true _ _ (read_straight true false (slice_get classes n)) refl

  -- nor the chain without its ends
  pub inner_straight : (text : List ℕ) (c : FixedSequence) → are_straight (instructions classes (inner classes text c)) ≡ true
  inner_straight text c =
      let first = once c.first.items in
      let middle = repeated c.often c.middle in
      let last = once c.last.items in
      ap are_straight (more_instructions classes first (middle ++ last))
      ∙ straight_append (instructions classes first) (instructions classes (middle ++ last)) (once_straight c.first.items)
      (ap are_straight (more_instructions classes middle last)
      ∙ straight_append (instructions classes middle) (instructions classes last) (repeated_straight c.often c.middle) (once_straight c.last.items))

-- no character stands before the first place alone, of those of a text
pub first_place : (text : List ℕ) (i : ℕ) → i ≤ length text → is_edge (before text i) ≡ true → i ≡ 0
first_place text zero w e = refl
first_place text (suc k) w e =
    let one : suc k ≡ k + 1 = omega arith in
    absurd ((nothing_before text (suc k) w).0 e (k, (get_or text k 0, slice_get-get_or text k 0 (omega (arith, w)), refl, one)))

-- none stands behind its end alone
pub last_place : (text : List ℕ) (j : ℕ) → is_edge (slice_get text j) ≡ true → length text ≤ j
last_place text j e =
    ⊎_elim (λ w. absurd ((nothing_behind (slice_get text j)).0 e (get_or text j 0) (slice_get-get_or text j 0 w))) (λ w. w) (either j (length text))
  where
    -- a number is less than another, or is at least that
    either : (k n : ℕ) → (k < n) ⊎ (n ≤ k)
    either k n = grind arith

-- how many classes a chain has then
pub numbers_long : (c : FixedSequence) (count : ℕ) → length (numbers_of c count) ≡ ends_of c + count
numbers_long c count =
    length-append c.first.items (replicate count c.middle ++ c.last.items)
    ∙ ap (λ (n : ℕ). length c.first.items + n)
    (length-append (replicate count c.middle) c.last.items ∙ ap (λ (n : ℕ). n + length c.last.items) (length-replicate count c.middle))
    ∙ omega arith

-- two truth values of which each holds where the other does are the same
pub same_truth : (a b : Bool) → (a ≡ true → b ≡ true) → (b ≡ true → a ≡ true) → a ≡ b
same_truth true b f g = sym (f refl)
same_truth false true f g = g refl
same_truth false false f g = refl
