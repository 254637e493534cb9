-- Amounts, and durations by what follows their first amount.
use Rattle.std.proofs.lemmas.List.{length-append, take_rest}
use Rattle.std.proofs.Common.{get_or, take, drop, ◌-◌, ◌≡◌, ℕ, ◌≤◌, ◌<◌, List, [], ◌∷◌, ◌++◌, ◌↔◌, length, refl, ap, sym, subst, ◌∙◌, inl, inr, append_assoc}
use Rattle.std.proofs.Common.{arith}
use Rattle.std.specs.Char.{digit_value, is_ascii_digit}
use Rattle.std.specs.Str.Parse.{AllDigits}
use Rattle.strkw_text.specs.Abnf.{Form, ◌⨾◌, ◌∣◌, Literal, Empty, Optional, Repeat, Repeat1}
use Rattle.strkw_text.specs.Characters.{Digit}
use Rattle.strkw_text.specs.Fronts.{StartsWith, StartsWithNo, RunThen}
use Rattle.strkw_text.proofs.Equivalences.{iff_trans, only_first, only_second, neither}
use Rattle.strkw_text.proofs.Laws.{assoc, optional_then, either_then, no_start_then, starts_then, Repeat-cons}
use Rattle.strkw_text.proofs.Runs.{IsPrefixFree, OneOf-free, Literal-free, run1-free, free_then, free_whole, no_start_whole, one_stops_nil, run1_found}
use Rattle.strkw_text.proofs.Runs.{run1_once}
use Rattle.strkw_text.proofs.Classes.{digits_all, no_digit_stops}
use Rattle.strkw_text.proofs.AsciiForms.{DerivesAscii, Then-ascii, Either-ascii, Optional-ascii, Repeat-ascii, Digit-ascii, Character-ascii}
use Rattle.strkw_time.specs.Readers.{StartsWithNoDigit}
use Rattle.strkw_time.specs.Readers.{AmountThen, StartsWithNoDigit}
use Rattle.strkw_time.specs.Duration.{Amount, DurSecond, DurMinute, DurHour, DurTime, DurDay, DurWeek, DurMonth, DurYear, DurDate, IsDuration}

-- the digits at the front have been skipped
-- what is empty, or has a first character of a digit value of at least 10, begins with no digit
pub no_digit_first : (text : List ℕ) → StartsWithNoDigit text → StartsWithNo Digit text
no_digit_first [] h rest f = let t : f.is.character ∷ rest ≡ [] = ap (λ s. s ++ rest) (sym f.is.is) ∙ f.joined in cc
no_digit_first (c ∷ cs) h rest f = no_digit_stops c (c ∷ cs) cs refl h rest f

-- digits before what begins with no digit are the run of digits at the front
pub digits_run : (text digits rest : List ℕ) → text ≡ digits ++ rest → AllDigits 10 digits → StartsWithNoDigit rest → RunThen Digit text rest
digits_run text digits rest e d s = record { run = record { front = digits; is = (digits_all digits).1 d; joined = sym e }; stops = no_digit_first rest s }

-- what begins with the letter of a unit begins with no digit
unit_stops : (unit : ℕ) → 10 ≤ digit_value unit → (x y : List ℕ) → Literal (unit ∷ []) x → StartsWithNo Digit (x ++ y)
unit_stops unit h x y e = no_digit_stops unit (x ++ y) y (ap (λ s. s ++ y) e) h

-- an amount whose letter is no digit is prefix-free
pub amount_free : (unit : ℕ) → 10 ≤ digit_value unit → IsPrefixFree (Amount unit)
amount_free unit h = run1-free Digit (Literal (unit ∷ [])) (OneOf-free is_ascii_digit) (Literal-free (unit ∷ [])) (unit_stops unit h)

-- by what follows the digits
-- digits that have been skipped, and then the letter of a unit, are an amount of it
pub amount_found : (unit : ℕ) (text rest after : List ℕ) → RunThen Digit text rest → (length rest ≡ length text → ⊥) → rest ≡ unit ∷ after
    → StartsWith (Amount unit) text after
amount_found unit text rest after r n e =
    let f = run1_found Digit text rest r n in
    record {
      front = f.front ++ unit ∷ [];
      is = record { front = f.front; back = unit ∷ []; first = f.is; second = refl; joined = refl };
      joined = append_assoc f.front (unit ∷ []) after ∙ ap (λ s. f.front ++ s) (sym e) ∙ f.joined;
    }

-- a text that begins with an amount begins with its digits, which the letter follows
digits_of_amount : (unit : ℕ) (text after : List ℕ) → StartsWith (Amount unit) text after → StartsWith (Repeat1 Digit) text (unit ∷ after)
digits_of_amount unit text after f =
    let d = f.is in
    record {
      front = d.front;
      is = d.first;
      joined = ap (λ s. d.front ++ (s ++ after)) (sym d.second) ∙ sym (append_assoc d.front d.back after)
          ∙ ap (λ s. s ++ after) d.joined ∙ f.joined;
    }

-- the next character after the digits is the letter of their unit
pub amount_next : (unit : ℕ) (text rest after : List ℕ) → AmountThen unit text after → RunThen Digit text rest → rest ≡ unit ∷ after
amount_next unit text rest after a r =
    sym (run1_once Digit (OneOf-free is_ascii_digit) text (unit ∷ after) rest (digits_of_amount unit text after a.starts)
    (no_digit_stops unit (unit ∷ after) after refl a.letter) r)

-- the digits of an amount at the front are the run of digits there, which the letter follows
amount_run : (unit : ℕ) (text after : List ℕ) → AmountThen unit text after → RunThen Digit text (unit ∷ after)
amount_run unit text after a =
    let d = digits_of_amount unit text after a.starts in
    record {
      run = record {
        front = d.front;
        is = subst (Repeat Digit) d.is.joined (Repeat-cons Digit d.is.front d.is.back d.is.first d.is.second);
        joined = d.joined;
      };
      stops = no_digit_stops unit (unit ∷ after) after refl a.letter;
    }

-- the digits, the letter and the rest of a text that has been split after its digits
pub amount_of_split : (text digits rest : List ℕ) → text ≡ digits ++ rest → AllDigits 10 digits → StartsWithNoDigit rest → (length digits ≡ 0 → ⊥)
    → (length rest ≡ 0 → ⊥)
    → AmountThen (get_or rest 0 0) text (take (length rest - 1) (drop 1 rest))
amount_of_split text digits [] e d s n m = absurd (m refl)
amount_of_split text digits (c ∷ cs) e d s n m =
    let run = digits_run text digits (c ∷ cs) e d s in
    let a : AmountThen c text cs = record {
      letter = s;
      starts = amount_found c text (c ∷ cs) cs run
          (λ same. n (omega (arith, same, ap length e, length-append digits (c ∷ cs)))) refl;
    } in
    subst (AmountThen c text) (sym (take_rest (c ∷ cs) 1)) a

-- no amount of another unit stands there
abbrev pub Lacks : ℕ → Form
Lacks unit = StartsWithNo (Amount unit)

-- where an amount of one unit stands, none of another unit does
pub lacks_other : (unit other : ℕ) (text rest : List ℕ) → AmountThen unit text rest → 10 ≤ digit_value other → (unit ≡ other → ⊥) → Lacks other text
lacks_other unit other text rest a l n after s =
    let e : unit ∷ rest ≡ other ∷ after = amount_next other text (unit ∷ rest) after (record { letter = l; starts = s }) (amount_run unit text rest a) in
    n cc

-- where no amount stands, none of any unit whose letter is no digit does
pub lacks_all : (text : List ℕ) → ((unit : ℕ) → (rest : List ℕ) → AmountThen unit text rest → ⊥) → (unit : ℕ) → 10 ≤ digit_value unit → Lacks unit text
lacks_all text none unit l rest s = none unit rest (record { letter = l; starts = s })

-- an amount of one unit is one of a unit that is the same
pub as_unit : (other unit : ℕ) (text rest : List ℕ) → unit ≡ other → AmountThen unit text rest → AmountThen other text rest
as_unit other unit text rest e a = subst (λ u. AmountThen u text rest) e a

-- nor a time, nor the end
-- a text that begins with an amount begins with a digit
amount_digit : (unit : ℕ) (text rest : List ℕ) → AmountThen unit text rest → StartsWithNo Digit text → ⊥
amount_digit unit text rest a stops =
    let d = digits_of_amount unit text rest a.starts in
    no_start_then Digit (Repeat Digit ⨾ Literal (unit ∷ rest)) text stops
    ((assoc Digit (Repeat Digit) (Literal (unit ∷ rest)) text).0 (starts_then (Repeat1 Digit) (Literal (unit ∷ rest)) text (unit ∷ rest) d refl))

-- no text that begins with an amount is the time of a duration
no_time : (unit : ℕ) (text rest : List ℕ) → AmountThen unit text rest → DurTime text → ⊥
no_time unit text rest a h = amount_digit unit text rest a (no_digit_stops 84 text h.back (sym (ap (λ s. s ++ h.back) (sym h.first) ∙ h.joined)) (omega arith))

-- nor is it an optional time, which may be empty
no_optional_time : (unit : ℕ) (text rest : List ℕ) → AmountThen unit text rest → Optional DurTime text → ⊥
no_optional_time unit text rest a = neither (λ e. amount_digit unit text rest a (one_stops_nil is_ascii_digit text e)) (no_time unit text rest a)

-- what follows an amount, where the rule of its unit is read
-- an amount and B are a text exactly where what follows the amount is a B
pub by_amount : (unit : ℕ) (B : Form) (text rest : List ℕ) → AmountThen unit text rest → (Amount unit ⨾ B) text ↔ B rest
by_amount unit B text rest a = free_then (Amount unit) B text rest (amount_free unit a.letter) a.starts

-- an amount is the whole text exactly where nothing follows it
pub by_amount_alone : (unit : ℕ) (text rest : List ℕ) → AmountThen unit text rest → Amount unit text ↔ Empty rest
by_amount_alone unit text rest a = free_whole (Amount unit) text rest (amount_free unit a.letter) a.starts

-- an amount, A and B are a text exactly where what follows the amount is A B
pub by_amount_then : (unit : ℕ) (A B : Form) (text rest : List ℕ) → AmountThen unit text rest → ((Amount unit ⨾ A) ⨾ B) text ↔ (A ⨾ B) rest
by_amount_then unit A B text rest a = iff_trans (assoc (Amount unit) A B text) (by_amount unit (A ⨾ B) text rest a)

-- where no amount of the unit stands, one with A and B behind it does not
lacks_then : (unit : ℕ) (A B : Form) (text : List ℕ) → Lacks unit text → ((Amount unit ⨾ A) ⨾ B) text → ⊥
lacks_then unit A B text n h = no_start_then (Amount unit) (A ⨾ B) text n ((assoc (Amount unit) A B text).0 h)

-- (A / B / C) D is A D, B D or C D
dur_date : (A B C D : Form) (text : List ℕ) → ((A ∣ B ∣ C) ⨾ D) text ↔ ((A ⨾ D) ∣ (B ⨾ D) ∣ (C ⨾ D)) text
dur_date A B C D text =
    let i = either_then A (B ∣ C) D text in
    let j = either_then B C D text in
    (λ h. elim (i.0 h) [ inl a ↦ inl a | inr b ↦ inr (j.0 b) ], elim [ inl a ↦ i.1 (inl a) | inr b ↦ i.1 (inr (j.1 b)) ])

-- a duration after its "P", by its first amount
abbrev pub DurBody : Form
DurBody = DurDate ∣ DurTime ∣ DurWeek

-- where no amount of days, months or years stands, no date of a duration does
no_date : (text : List ℕ) → Lacks 68 text → Lacks 77 text → Lacks 89 text → DurDate text → ⊥
no_date text day month year h =
    neither (no_start_then (Amount 68) (Optional DurTime) text day)
    (neither (lacks_then 77 (Optional DurDay) (Optional DurTime) text month) (lacks_then 89 (Optional DurMonth) (Optional DurTime) text year))
    ((dur_date DurDay DurMonth DurYear (Optional DurTime) text).0 h)

-- a text with days first is a `DurBody` exactly where an optional time follows them
pub body_at_day : (text rest : List ℕ) → AmountThen 68 text rest → DurBody text ↔ Optional DurTime rest
body_at_day text rest a =
    only_first (neither (no_time 68 text rest a) (no_start_whole (Amount 87) text (lacks_other 68 87 text rest a (omega arith) (λ e. omega arith))))
    (iff_trans (dur_date DurDay DurMonth DurYear (Optional DurTime) text)
    (only_first (neither (lacks_then 77 (Optional DurDay) (Optional DurTime) text (lacks_other 68 77 text rest a (omega arith) (λ e. omega arith)))
    (lacks_then 89 (Optional DurMonth) (Optional DurTime) text (lacks_other 68 89 text rest a (omega arith) (λ e. omega arith))))
    (by_amount 68 (Optional DurTime) text rest a)))

-- with months first, exactly where an optional day and an optional time follow
pub body_at_month : (text rest : List ℕ) → AmountThen 77 text rest → DurBody text ↔ (Optional DurDay ⨾ Optional DurTime) rest
body_at_month text rest a =
    only_first (neither (no_time 77 text rest a) (no_start_whole (Amount 87) text (lacks_other 77 87 text rest a (omega arith) (λ e. omega arith))))
    (iff_trans (dur_date DurDay DurMonth DurYear (Optional DurTime) text)
    (only_second (no_start_then (Amount 68) (Optional DurTime) text (lacks_other 77 68 text rest a (omega arith) (λ e. omega arith)))
    (only_first (lacks_then 89 (Optional DurMonth) (Optional DurTime) text (lacks_other 77 89 text rest a (omega arith) (λ e. omega arith)))
    (by_amount_then 77 (Optional DurDay) (Optional DurTime) text rest a))))

-- with years first, exactly where an optional month and an optional time follow
pub body_at_year : (text rest : List ℕ) → AmountThen 89 text rest → DurBody text ↔ (Optional DurMonth ⨾ Optional DurTime) rest
body_at_year text rest a =
    only_first (neither (no_time 89 text rest a) (no_start_whole (Amount 87) text (lacks_other 89 87 text rest a (omega arith) (λ e. omega arith))))
    (iff_trans (dur_date DurDay DurMonth DurYear (Optional DurTime) text)
    (only_second (no_start_then (Amount 68) (Optional DurTime) text (lacks_other 89 68 text rest a (omega arith) (λ e. omega arith)))
    (only_second (lacks_then 77 (Optional DurDay) (Optional DurTime) text (lacks_other 89 77 text rest a (omega arith) (λ e. omega arith)))
    (by_amount_then 89 (Optional DurMonth) (Optional DurTime) text rest a))))

-- with weeks first, exactly where nothing follows
pub body_at_week : (text rest : List ℕ) → AmountThen 87 text rest → DurBody text ↔ Empty rest
body_at_week text rest a =
    only_second (no_date text (lacks_other 87 68 text rest a (omega arith) (λ e. omega arith)) (lacks_other 87 77 text rest a (omega arith) (λ e. omega arith))
    (lacks_other 87 89 text rest a (omega arith) (λ e. omega arith)))
    (only_second (no_time 87 text rest a) (by_amount_alone 87 text rest a))

-- with an amount of any other unit first, a text is no `DurBody`
pub no_body : (unit : ℕ) (text rest : List ℕ) → AmountThen unit text rest → (unit ≡ 68 → ⊥) → (unit ≡ 77 → ⊥) → (unit ≡ 89 → ⊥) → (unit ≡ 87 → ⊥) → DurBody text
    → ⊥
no_body unit text rest a day month year week =
    neither (no_date text (lacks_other unit 68 text rest a (omega arith) day) (lacks_other unit 77 text rest a (omega arith) month)
    (lacks_other unit 89 text rest a (omega arith) year))
    (neither (no_time unit text rest a) (no_start_whole (Amount 87) text (lacks_other unit 87 text rest a (omega arith) week)))

-- a text that begins with no amount is a `DurBody` exactly where it is a time
pub body_without : (text : List ℕ) → ((unit : ℕ) → (rest : List ℕ) → AmountThen unit text rest → ⊥) → DurBody text ↔ DurTime text
body_without text none =
    let lacks = lacks_all text none in
    only_second (no_date text (lacks 68 (omega arith)) (lacks 77 (omega arith)) (lacks 89 (omega arith)))
    (only_first (no_start_whole (Amount 87) text (lacks 87 (omega arith))) ((λ h. h), (λ h. h)))

-- what may follow a year, and a month
-- behind years, months may stand exactly where an optional day and an optional time follow them
pub years_at_month : (text rest : List ℕ) → AmountThen 77 text rest → (Optional DurMonth ⨾ Optional DurTime) text ↔ (Optional DurDay ⨾ Optional DurTime) rest
years_at_month text rest a = iff_trans (optional_then DurMonth (Optional DurTime) text)
    (only_first (no_optional_time 77 text rest a) (by_amount_then 77 (Optional DurDay) (Optional DurTime) text rest a))

-- behind months, days may stand exactly where an optional time follows them
pub months_at_day : (text rest : List ℕ) → AmountThen 68 text rest → (Optional DurDay ⨾ Optional DurTime) text ↔ Optional DurTime rest
months_at_day text rest a = iff_trans (optional_then DurDay (Optional DurTime) text)
    (only_first (no_optional_time 68 text rest a) (by_amount 68 (Optional DurTime) text rest a))

-- behind years, no amount of any other unit than months may stand
pub no_years : (unit : ℕ) (text rest : List ℕ) → AmountThen unit text rest → (unit ≡ 77 → ⊥) → (Optional DurMonth ⨾ Optional DurTime) text → ⊥
no_years unit text rest a n h =
    neither (lacks_then 77 (Optional DurDay) (Optional DurTime) text (lacks_other unit 77 text rest a (omega arith) n)) (no_optional_time unit text rest a)
    ((optional_then DurMonth (Optional DurTime) text).0 h)

-- behind months, no amount of any other unit than days may stand
pub no_months : (unit : ℕ) (text rest : List ℕ) → AmountThen unit text rest → (unit ≡ 68 → ⊥) → (Optional DurDay ⨾ Optional DurTime) text → ⊥
no_months unit text rest a n h =
    neither (no_start_then (Amount 68) (Optional DurTime) text (lacks_other unit 68 text rest a (omega arith) n)) (no_optional_time unit text rest a)
    ((optional_then DurDay (Optional DurTime) text).0 h)

-- behind years, a text that begins with no amount may stand exactly where it is an optional time
pub years_without : (text : List ℕ) → ((unit : ℕ) → (rest : List ℕ) → AmountThen unit text rest → ⊥)
    → (Optional DurMonth ⨾ Optional DurTime) text ↔ Optional DurTime text
years_without text none = iff_trans (optional_then DurMonth (Optional DurTime) text)
    (only_second (lacks_then 77 (Optional DurDay) (Optional DurTime) text (lacks_all text none 77 (omega arith))) ((λ h. h), (λ h. h)))

-- and the same of what stands behind months
pub months_without : (text : List ℕ) → ((unit : ℕ) → (rest : List ℕ) → AmountThen unit text rest → ⊥)
    → (Optional DurDay ⨾ Optional DurTime) text ↔ Optional DurTime text
months_without text none = iff_trans (optional_then DurDay (Optional DurTime) text)
    (only_second (no_start_then (Amount 68) (Optional DurTime) text (lacks_all text none 68 (omega arith))) ((λ h. h), (λ h. h)))

-- a time after its "T", by its first amount
abbrev pub TimeBody : Form
TimeBody = DurHour ∣ DurMinute ∣ DurSecond

-- a text with hours first is a `TimeBody` exactly where optional minutes follow
pub time_at_hour : (text rest : List ℕ) → AmountThen 72 text rest → TimeBody text ↔ Optional DurMinute rest
time_at_hour text rest a =
    only_first (neither (no_start_then (Amount 77) (Optional DurSecond) text (lacks_other 72 77 text rest a (omega arith) (λ e. omega arith)))
    (no_start_whole (Amount 83) text (lacks_other 72 83 text rest a (omega arith) (λ e. omega arith))))
    (by_amount 72 (Optional DurMinute) text rest a)

-- with minutes first, exactly where optional seconds follow
pub time_at_minute : (text rest : List ℕ) → AmountThen 77 text rest → TimeBody text ↔ Optional DurSecond rest
time_at_minute text rest a =
    only_second (no_start_then (Amount 72) (Optional DurMinute) text (lacks_other 77 72 text rest a (omega arith) (λ e. omega arith)))
    (only_first (no_start_whole (Amount 83) text (lacks_other 77 83 text rest a (omega arith) (λ e. omega arith)))
    (by_amount 77 (Optional DurSecond) text rest a))

-- with seconds first, exactly where nothing follows
pub time_at_second : (text rest : List ℕ) → AmountThen 83 text rest → TimeBody text ↔ Empty rest
time_at_second text rest a =
    only_second (no_start_then (Amount 72) (Optional DurMinute) text (lacks_other 83 72 text rest a (omega arith) (λ e. omega arith)))
    (only_second (no_start_then (Amount 77) (Optional DurSecond) text (lacks_other 83 77 text rest a (omega arith) (λ e. omega arith)))
    (by_amount_alone 83 text rest a))

-- where no amount of hours, minutes or seconds stands, a text is no `TimeBody`
pub no_time_body : (text : List ℕ) → Lacks 72 text → Lacks 77 text → Lacks 83 text → TimeBody text → ⊥
no_time_body text hour minute second = neither (no_start_then (Amount 72) (Optional DurMinute) text hour)
    (neither (no_start_then (Amount 77) (Optional DurSecond) text minute) (no_start_whole (Amount 83) text second))

-- durations are ASCII
-- an amount is ASCII where its letter is
amount_ascii : (unit : ℕ) → unit < 128 → DerivesAscii (Amount unit)
amount_ascii unit h = Then-ascii (Repeat1 Digit) (Literal (unit ∷ [])) (Then-ascii Digit (Repeat Digit) Digit-ascii (Repeat-ascii Digit Digit-ascii))
    (Character-ascii unit h)

-- an amount and an optional A are ASCII where its letter and A are
then_optional_ascii : (unit : ℕ) (A : Form) → unit < 128 → DerivesAscii A → DerivesAscii (Amount unit ⨾ Optional A)
then_optional_ascii unit A h a = Then-ascii (Amount unit) (Optional A) (amount_ascii unit h) (Optional-ascii A a)

-- A / B / C is ASCII where all three are
either_ascii3 : (A B C : Form) → DerivesAscii A → DerivesAscii B → DerivesAscii C → DerivesAscii (A ∣ B ∣ C)
either_ascii3 A B C a b c = Either-ascii A (B ∣ C) a (Either-ascii B C b c)

-- minutes, with their optional seconds, are ASCII
minute_ascii : DerivesAscii DurMinute
minute_ascii = then_optional_ascii 77 DurSecond (omega arith) (amount_ascii 83 (omega arith))

-- the time of a duration is ASCII
time_ascii : DerivesAscii DurTime
time_ascii = Then-ascii (Literal (84 ∷ [])) (DurHour ∣ DurMinute ∣ DurSecond) (Character-ascii 84 (omega arith))
    (either_ascii3 DurHour DurMinute DurSecond (then_optional_ascii 72 DurMinute (omega arith) minute_ascii) minute_ascii (amount_ascii 83 (omega arith)))

-- months, with their optional days, are ASCII
month_ascii : DerivesAscii DurMonth
month_ascii = then_optional_ascii 77 DurDay (omega arith) (amount_ascii 68 (omega arith))

-- the date of a duration, with its optional time, is ASCII
date_ascii : DerivesAscii DurDate
date_ascii = Then-ascii (DurDay ∣ DurMonth ∣ DurYear) (Optional DurTime)
    (either_ascii3 DurDay DurMonth DurYear (amount_ascii 68 (omega arith)) month_ascii (then_optional_ascii 89 DurMonth (omega arith) month_ascii))
    (Optional-ascii DurTime time_ascii)

-- durations are texts of ASCII characters
pub IsDuration-ascii : DerivesAscii IsDuration
IsDuration-ascii = Then-ascii (Literal (80 ∷ [])) (DurDate ∣ DurTime ∣ DurWeek) (Character-ascii 80 (omega arith))
    (either_ascii3 DurDate DurTime DurWeek date_ascii time_ascii (amount_ascii 87 (omega arith)))
