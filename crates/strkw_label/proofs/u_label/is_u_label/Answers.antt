use Rattle.std.proofs.Common.{◌≤◌, length, arith, sym, ◌∙◌}
use Rattle.std.proofs.lemmas.Bool.{false≢true}
use Rattle.strkw_text.proofs.Equivalences.{yes, nope}
use Rattle.strkw_label.specs.IdnHostName.{a_label}
use Rattle.strkw_label.proofs.IdnLabels.{a_label_length}
use Rattle.strkw_label.proofs.ULabels.{label_small}
use Rattle.strkw_label.proofs.u_label.is_u_label.Goals as goal

pub returns-then-label-gt-LONGEST_LABEL : goal.returns-then-label-gt-LONGEST_LABEL
returns-then-label-gt-LONGEST_LABEL c = nope (λ u. omega (arith, label_small c.args.label.now c.requires u, c.if-label-gt-LONGEST_LABEL.true))

pub returns-then-not-branch : goal.returns-then-not-branch
returns-then-not-branch c = nope (λ u. false≢true (sym c.if-not-branch.true ∙ c.in_ok-is_unicode_label.ensures.1 u.rules))

pub returns-then-encoded_length-gt-LONGEST_LABEL : goal.returns-then-encoded_length-gt-LONGEST_LABEL
returns-then-encoded_length-gt-LONGEST_LABEL c = nope (λ u.
    omega (arith, a_label_length c.args.label.now, u.size, c.in_ok-encoded_length.ensures, c.if-encoded_length-gt-LONGEST_LABEL.true))

pub returns-then-not-is_right_to_left_label : goal.returns-then-not-is_right_to_left_label
returns-then-not-is_right_to_left_label c =
    let label = c.args.label.now in
    let size : length (a_label label) ≤ 63 =
    omega (arith, a_label_length label, c.in_ok-encoded_length.ensures, c.if-encoded_length-gt-LONGEST_LABEL.false) in
    yes (record {
      rules = c.in_ok-is_unicode_label.ensures.0 c.if-not-branch.false;
      bidi = λ t. absurd (false≢true (sym c.if-not-is_right_to_left_label.true ∙ c.is_right_to_left_label.ensures ∙ t));
      size = size;
    })

pub returns : goal.returns
returns c =
    let label = c.args.label.now in
    let size : length (a_label label) ≤ 63 =
    omega (arith, a_label_length label, c.in_ok-encoded_length.ensures, c.if-encoded_length-gt-LONGEST_LABEL.false) in (
      λ t. record {
        rules = c.in_ok-is_unicode_label.ensures.0 c.if-not-branch.false;
        bidi = λ r. c.keeps_bidi_rule.ensures.0 t;
        size = size;
      },
      λ u. c.keeps_bidi_rule.ensures.1 (u.bidi (sym c.is_right_to_left_label.ensures ∙ c.if-not-is_right_to_left_label.false)),
    )
