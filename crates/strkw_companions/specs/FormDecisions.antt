-- Forms of ABNF that are decided: a text is derived, or it is not.
use Rattle.std.proofs.Common.{◌≡◌, ◌≤◌, ◌<◌, ◌+◌, ◌⊎◌, ◌↔◌, ℕ, zero, suc, Bool, List, [], ◌∷◌, ◌++◌}
use Rattle.std.proofs.Common.{length, refl, sym, ap, ◌∙◌, subst, inl, inr, arith, append-nil}
use Rattle.std.proofs.Common.{append_assoc, length-append}
use Rattle.std.specs.Prelude.{IsTrue}
use Rattle.std.specs.List.{concat, AllByRecursion}
use Rattle.strkw_text.specs.Abnf.{Form, ◌⨾◌, ◌∣◌, Literal, Empty, Optional, Repeat, Repeat1, Times}
use Rattle.strkw_text.specs.Abnf.{Exactly, OneOf, SeparatedBy}
use Rattle.strkw_text.proofs.Laws.{Repeat-cases}
use Rattle.strkw_companions.specs.Decisions.{Decision, by_other, decide_both, decide_either, is_so}
use Rattle.strkw_companions.specs.Decisions.{same_text}
use Rattle.strkw_companions.specs.Decisions.{some_below, at_most}

-- each text is derived, or it is not
abbrev pub Decided : Form → Type 0
Decided A = (text : List ℕ) → Decision (A text)

-- a literal is compared
pub literal : (cs : List ℕ) → Decided (Literal cs)
literal cs text = same_text text cs

-- one or the other
pub alternative : (A B : Form) → Decided A → Decided B → Decided (A ∣ B)
alternative A B a b text = decide_either (a text) (b text)

-- nothing, or the form
pub optional_form : (A : Form) → Decided A → Decided (Optional A)
optional_form A a text = decide_either (same_text text []) (a text)

-- a character of a class is tested, and a text of another length is none
pub one_of : (class : ℕ → Bool) → Decided (OneOf class)
one_of class [] = inr (λ h. let is = h.is in cc)
one_of class (c ∷ []) = by_other (
  (λ is_member. record { character = c; member = is_member; is = refl }),
  (λ h. let is = h.is in let member = h.member in cc),
) (is_so (class c))
one_of class (c ∷ d ∷ more) = inr (λ h. let is = h.is in cc)

-- ---- an A and then a B

-- an A that begins with the front, and then a B
record Behind (A B : Form) (front back : List ℕ) : Type 0 where
  more : List ℕ
  rest : List ℕ
  first : A (front ++ more)
  second : B rest
  joined : more ++ rest ≡ back

-- the A ends here, and a B is the back
nothing_more : (A B : Form) (front back : List ℕ) → A front → B back → Behind A B front back
nothing_more A B front back a b = record {
  more = [];
  rest = back;
  first = subst A (sym (append-nil front)) a;
  second = b;
  joined = refl;
}

-- nothing more of the A, or one character more
behind_cases : (A B : Form) (front : List ℕ) (c : ℕ) (back : List ℕ)
    → Behind A B front (c ∷ back)
    → (A front × B (c ∷ back)) ⊎ Behind A B (front ++ c ∷ []) back
behind_cases A B front c back h = by h.more h.first h.second h.joined
  where
    by : (more : List ℕ) {rest : List ℕ} → A (front ++ more) → B rest → more ++ rest ≡ c ∷ back
        → (A front × B (c ∷ back)) ⊎ Behind A B (front ++ c ∷ []) back
    by [] a b e = inl (subst A (append-nil front) a, subst B e b)
    by (d ∷ more) {rest} a b e =
        let same : d ≡ c = cc in
        let left : more ++ rest ≡ back = cc in
        let moved = ap (λ x. front ++ x ∷ more) same ∙ sym (append_assoc front (c ∷ []) more) in
        inr (record {
          more = more;
          rest = rest;
          first = subst A moved a;
          second = b;
          joined = left;
        })

-- so it is decided where the Bs that are no longer than the back are
decide_behind : (A B : Form) → Decided A → (front back : List ℕ)
    → ((rest : List ℕ) → length rest ≤ length back → Decision (B rest))
    → Decision (Behind A B front back)
decide_behind A B a front [] b = by_other (
  (λ h. nothing_more A B front [] h.0 h.1),
  (λ h. ended h.more h.first h.second h.joined),
) (decide_both (a front) (b [] (omega arith)))
  where
    ended : (more : List ℕ) {rest : List ℕ} → A (front ++ more) → B rest → more ++ rest ≡ []
        → A front × B []
    ended [] a b e = (subst A (append-nil front) a, subst B e b)
    ended (c ∷ more) a b e = absurd (let f : ⊥ = cc in f)
decide_behind A B a front (c ∷ back) b = by_other (
  elim [
    | inl h ↦ nothing_more A B front (c ∷ back) h.0 h.1
    | inr h ↦ record {
      more = c ∷ h.more;
      rest = h.rest;
      first = subst A (append_assoc front (c ∷ []) h.more) h.first;
      second = h.second;
      joined = ap (λ l. c ∷ l) h.joined;
    }
  ],
  behind_cases A B front c back,
) (
    decide_either (decide_both (a front) (b (c ∷ back) (omega arith)))
    (decide_behind A B a (front ++ c ∷ []) back (λ rest short. b rest (omega (arith, short)))))

-- with nothing in front, so is the whole text
pub sequence : (A B : Form) → Decided A → Decided B → Decided (A ⨾ B)
sequence A B a b text = by_other (
  (λ h. record {
    front = h.more;
    back = h.rest;
    first = h.first;
    second = h.second;
    joined = h.joined;
  }),
  (λ h. record {
    more = h.front;
    rest = h.back;
    first = h.first;
    second = h.second;
    joined = h.joined;
  }),
) (decide_behind A B a [] text (λ rest _. b rest))

-- ---- As in a row

-- As in a row are nothing, or an A of one character or more and then As
repeat_cons : (A : Form) (c : ℕ) (text : List ℕ)
    → Behind A (Repeat A) (c ∷ []) text ↔ Repeat A (c ∷ text)
repeat_cons A c text = (
  λ h. (Repeat-cases A (c ∷ text)).1 (inr (record {
    front = c ∷ h.more;
    back = h.rest;
    first = h.first;
    second = h.second;
    joined = ap (λ l. c ∷ l) h.joined;
  })),
  λ r. by r.parts r.each r.joined,
)
  where
    by : (parts : List (List ℕ)) → AllByRecursion A parts → concat parts ≡ c ∷ text
        → Behind A (Repeat A) (c ∷ []) text
    by [] each e = absurd (let f : ⊥ = cc in f)
    by ([] ∷ parts) each e = by parts each.1 e
    by ((d ∷ more) ∷ parts) each e =
        let same : d ≡ c = cc in
        let left : more ++ concat parts ≡ text = cc in
        record {
          more = more;
          rest = concat parts;
          first = subst (λ x. A (x ∷ more)) same each.0;
          second = record { parts = parts; each = each.1; joined = refl };
          joined = left;
        }

-- so a text is decided where the shorter ones are
repeat_within : (A : Form) → Decided A → (n : ℕ) (text : List ℕ) → length text ≤ n
    → Decision (Repeat A text)
repeat_within A a n [] short = inl (record { parts = []; each = tt; joined = refl })
repeat_within A a zero (c ∷ text) short = absurd (omega (arith, short))
repeat_within A a (suc n) (c ∷ text) short =
    by_other (repeat_cons A c text) (
    decide_behind A (Repeat A) a (c ∷ []) text (
    λ rest less. repeat_within A a n rest (omega (arith, short, less))))

pub repeat : (A : Form) → Decided A → Decided (Repeat A)
repeat A a text = repeat_within A a (length text) text (omega arith)

pub repeat1 : (A : Form) → Decided A → Decided (Repeat1 A)
repeat1 A a = sequence A (Repeat A) a (repeat A a)

pub separated_list : (c : ℕ) (A : Form) → Decided A → Decided (SeparatedBy c A)
separated_list c A a = sequence A (Repeat (Literal (c ∷ []) ⨾ A)) a
    (repeat (Literal (c ∷ []) ⨾ A) (sequence (Literal (c ∷ [])) A (literal (c ∷ [])) a))

-- ---- so many As

-- no As are the empty text
exactly_none : (A : Form) (text : List ℕ) → Empty text ↔ Exactly zero A text
exactly_none A text = (
  λ e. record {
    parts = [];
    each = tt;
    joined = sym e;
    at_least = omega arith;
    at_most = omega arith;
  },
  λ t. by t.parts t.joined t.at_most,
)
  where
    by : (parts : List (List ℕ)) → concat parts ≡ text → length parts ≤ zero → text ≡ []
    by [] e few = sym e
    by (p ∷ parts) e few = absurd (omega (arith, few))

-- an A and n As are n + 1 of them
exactly_more : (n : ℕ) (A : Form) (text : List ℕ)
    → (A ⨾ Exactly n A) text ↔ Exactly (suc n) A text
exactly_more n A text = (
  λ h. let r = h.second in record {
    parts = h.front ∷ r.parts;
    each = (h.first, r.each);
    joined = ap (λ l. h.front ++ l) r.joined ∙ h.joined;
    at_least = omega (arith, r.at_least);
    at_most = omega (arith, r.at_most);
  },
  λ t. by t.parts t.each t.joined t.at_least t.at_most,
)
  where
    by : (parts : List (List ℕ)) → AllByRecursion A parts → concat parts ≡ text
        → suc n ≤ length parts → length parts ≤ suc n → (A ⨾ Exactly n A) text
    by [] each e many few = absurd (omega (arith, many))
    by (p ∷ parts) each e many few = record {
      front = p;
      back = concat parts;
      first = each.0;
      second = record {
        parts = parts;
        each = each.1;
        joined = refl;
        at_least = omega (arith, many);
        at_most = omega (arith, few);
      };
      joined = e;
    }

-- so n As are decided, n being any number
pub exact_repeat : (n : ℕ) (A : Form) → Decided A → Decided (Exactly n A)
exact_repeat zero A a text = by_other (exactly_none A text) (same_text text [])
exact_repeat (suc n) A a text =
    by_other (exactly_more n A text) (sequence A (Exactly n A) a (exact_repeat n A a) text)

-- and As between two numbers, by each number
pub times : (low high : ℕ) (A : Form) → Decided A → Decided (Times low high A)
times low high A a text = by_other (
  (λ h. let many = h.2.0 in let t = h.2.1 in let within = h.1 in record {
    parts = t.parts;
    each = t.each;
    joined = t.joined;
    at_least = omega (arith, many, t.at_least);
    at_most = omega (arith, within, t.at_most);
  }),
  (λ t. (
    length t.parts,
    omega (arith, t.at_most),
    (
      t.at_least,
      record {
        parts = t.parts;
        each = t.each;
        joined = t.joined;
        at_least = omega arith;
        at_most = omega arith;
      },
    ),
  )),
) (
    some_below (λ k. (low ≤ k) × Exactly k A text)
    (λ k. decide_both (at_most low k) (exact_repeat k A a text)) (suc high))
