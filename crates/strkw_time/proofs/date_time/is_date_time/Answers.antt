use Rattle.std.proofs.Common.{arith, subst, sym, ◌∙◌}
use Rattle.std.proofs.lemmas.List.{take_rest}
use Rattle.std.proofs.lemmas.Bool.{false≢true}
use Rattle.strkw_text.proofs.Equivalences.{nope}
use Rattle.strkw_time.specs.Time.{IsFullTime}
use Rattle.strkw_time.proofs.Times.{date_time_at}
use Rattle.strkw_time.proofs.date_time.is_date_time.Goals as goal

pub returns-then-bytes-lt11 : goal.returns-then-bytes-lt11
returns-then-bytes-lt11 c = nope (λ d. omega (arith, ((date_time_at c.args.bytes.now).0 d).0))

pub returns-then-not-is_separator : goal.returns-then-not-is_separator
returns-then-not-is_separator c = nope (λ d. false≢true (sym c.if-not-is_separator.true ∙ c.is_separator.ensures.1 ((date_time_at c.args.bytes.now).0 d).1))

pub returns-then-is_full_date : goal.returns-then-is_full_date
returns-then-is_full_date c =
    let at = date_time_at c.args.bytes.now in (
      λ t. at.1 (
        omega arith,
        c.is_separator.ensures.0 c.if-not-is_separator.false,
        c.is_full_date.ensures.0 c.if-is_full_date.true,
        subst IsFullTime
            (take_rest c.args.bytes.now 11) (c.is_full_time.ensures.0 t),
      ),
      λ d. c.is_full_time.ensures.1 (subst IsFullTime (sym (take_rest c.args.bytes.now 11)) (at.0 d).3),
    )

pub returns-else-is_full_date : goal.returns-else-is_full_date
returns-else-is_full_date c = (
  λ t. absurd (false≢true (sym c.if-is_full_date.false ∙ t)),
  λ d. c.is_full_date.ensures.1
      ((date_time_at c.args.bytes.now).0 d).2,
)
