use Rattle.std.proofs.Common.{◌≡◌, length, arith, below_more, refl, sym, ◌∙◌}
use Rattle.std.proofs.lemmas.Bool.{false≢true}
use Rattle.strkw_label.proofs.context_rules.fits_context.Goals as goal

pub returns-then-not-fits_neighbours : goal.returns-then-not-fits_neighbours
returns-then-not-fits_neighbours c = (
  λ e. absurd (false≢true e),
  λ a. c.if-not-fits_neighbours.ensures.1 (a.neighbours c.loop-place.place c.loop-place-test.true),
)

pub loop-place-init : goal.loop-place-init
loop-place-init c = λ k lt. absurd (omega arith)

pub loop-place-preserved : goal.loop-place-preserved
loop-place-preserved c = below_more _ _ c.loop-place.invariant (c.if-not-fits_neighbours.ensures.0 refl)

pub returns-then-katakana_dot_fits : goal.returns-then-katakana_dot_fits
returns-then-katakana_dot_fits c =
    let end : c.loop-place.place ≡ length c.args.label.now = omega (arith, c.loop-place.auto.place-end, c.loop-place-test.false) in (
      λ t. record {
        neighbours = λ k lt. c.loop-place.invariant k (omega (arith, end));
        katakana_dot = c.katakana_dot_fits.ensures.0 c.if-katakana_dot_fits.true;
        one_digit_set = c.has_one_digit_set.ensures.0 t;
      },
      λ a. c.has_one_digit_set.ensures.1 a.one_digit_set,
    )

pub returns-else-katakana_dot_fits : goal.returns-else-katakana_dot_fits
returns-else-katakana_dot_fits c = (
  λ e. absurd (false≢true (sym c.if-katakana_dot_fits.false ∙ e)),
  λ a. c.katakana_dot_fits.ensures.1 a.katakana_dot,
)
