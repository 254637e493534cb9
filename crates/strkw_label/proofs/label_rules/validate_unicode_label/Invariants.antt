use Rattle.std.proofs.Common.{ℕ, ◌<◌, ◌==◌}
use Rattle.std.specs.Int.{is_in_range}
use Rattle.strkw_label.specs.LabelRules.{StandsWell, is_kana_or_han}
use Rattle.strkw_label.proofs.LabelRules.{Tells}
use Rattle.strkw_label.proofs.label_rules.validate_unicode_label.Given as goal

abbrev pub invariant-loop-place : goal.invariant-loop-place
invariant-loop-place l = record {
  places : (k : ℕ) → k < l.place → StandsWell l.label k;
  katakana_dot : Tells l.seen.katakana_dot (λ c. c == 0x30FB) l.place l.label;
  kana_or_han : Tells l.seen.kana_or_han is_kana_or_han l.place l.label;
  arabic_indic_digit : Tells l.seen.arabic_indic_digit (λ c. is_in_range 0x660 0x669 c) l.place l.label;
  extended_digit : Tells l.seen.extended_digit (λ c. is_in_range 0x6F0 0x6F9 c) l.place l.label;
}
