use Rattle.std.proofs.Common.{◌≡◌, ◌==◌, ◌||◌, length, get_or, arith, below_more, refl, sym, ap, ◌∙◌}
use Rattle.std.specs.Int.{is_in_range}
use Rattle.std.proofs.lemmas.List.{get_or_read}
use Rattle.std.proofs.lemmas.Bool.{false≢true, false_from_ne_true}
use Rattle.strkw_label.specs.LabelRules.{is_kana_or_han}
use Rattle.strkw_label.proofs.LabelRules.{Tells-none, Tells-more, Tells-all}
use Rattle.strkw_label.proofs.label_rules.validate_unicode_label.Goals as goal

pub returns-then-begins_with_mark : goal.returns-then-begins_with_mark
returns-then-begins_with_mark c = (λ e. absurd (false≢true e), λ a. let h = c.if-begins_with_mark.ensures.0 refl in sym (a.no_leading_mark h.0) ∙ h.1)

pub returns-then-not-stands_well : goal.returns-then-not-stands_well
returns-then-not-stands_well c = (
  λ e. absurd (false≢true e),
  λ a. c.if-not-stands_well.ensures.1 (a.each c.loop-place.place c.loop-place-test.true),
)

pub loop-place-init : goal.loop-place-init
loop-place-init c =
    let none = c.nothing-seen.ensures in
    record {
      places = λ k lt. absurd (omega arith);
      katakana_dot = Tells-none _ (λ x. x == 0x30FB) c.args.label.now none.katakana_dot;
      kana_or_han = Tells-none _ is_kana_or_han c.args.label.now none.kana_or_han;
      arabic_indic_digit = Tells-none _ (λ x. is_in_range 0x660 0x669 x) c.args.label.now none.arabic_indic_digit;
      extended_digit = Tells-none _ (λ x. is_in_range 0x6F0 0x6F9 x) c.args.label.now none.extended_digit;
    }

pub loop-place-preserved : goal.loop-place-preserved
loop-place-preserved c =
    let text = c.args.label.now in
    let before = c.loop-place.invariant in
    let now = c.and-seen.ensures in
    let read : c.index-label-place.result ≡ get_or text c.loop-place.place 0 = get_or_read _ _ _ c.loop-place-test.true c.index-label-place.is 0 in
    record {
      places = below_more _ _ before.places (c.if-not-stands_well.ensures.0 refl);
      katakana_dot = Tells-more _ _ (λ x. x == 0x30FB) _ text before.katakana_dot
          (now.katakana_dot ∙ ap (λ x. c.loop-place.seen.katakana_dot || (x == 0x30FB)) read);
      kana_or_han = Tells-more _ _ is_kana_or_han _ text before.kana_or_han
          (now.kana_or_han ∙ ap (λ x. c.loop-place.seen.kana_or_han || is_kana_or_han x) read);
      arabic_indic_digit = Tells-more _ _ (λ x. is_in_range 0x660 0x669 x) _ text before.arabic_indic_digit
          (now.arabic_indic_digit ∙ ap (λ x. c.loop-place.seen.arabic_indic_digit || is_in_range 0x660 0x669 x) read);
      extended_digit = Tells-more _ _ (λ x. is_in_range 0x6F0 0x6F9 x) _ text before.extended_digit
          (now.extended_digit ∙ ap (λ x. c.loop-place.seen.extended_digit || is_in_range 0x6F0 0x6F9 x) read);
    }

pub returns : goal.returns
returns c =
    let text = c.args.label.now in
    let last = c.loop-place.invariant in
    let seen = c.loop-place.seen in
    let end : c.loop-place.place ≡ length text = omega (arith, c.loop-place.auto.place-end, c.loop-place-test.false) in
    let dot = Tells-all seen.katakana_dot (λ x. x == 0x30FB) _ text last.katakana_dot end in
    let kana = Tells-all seen.kana_or_han is_kana_or_han _ text last.kana_or_han end in
    let arabic = Tells-all seen.arabic_indic_digit (λ x. is_in_range 0x660 0x669 x) _ text last.arabic_indic_digit end in
    let extended = Tells-all seen.extended_digit (λ x. is_in_range 0x6F0 0x6F9 x) _ text last.extended_digit end in
    let together = c.may_stand_together.ensures in (
      λ t. record {
        no_leading_mark = λ some. false_from_ne_true _ (λ m. false≢true (c.if-begins_with_mark.ensures.1 (some, m)));
        each = λ k lt. last.places k (omega (arith, end));
        katakana_dots = λ h. kana.0 (together.katakana_dots t (dot.1 h));
        one_digit_set = λ x y. together.one_digit_set t (arabic.1 x) (extended.1 y);
      },
      λ a. together.both (λ t. kana.1 (a.katakana_dots (dot.0 t))) (λ x y. a.one_digit_set (arabic.0 x) (extended.0 y)),
    )
