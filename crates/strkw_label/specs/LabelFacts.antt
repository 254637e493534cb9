-- What the code keeps of the labels of an internationalised host name.
use Rattle.std.specs.Prelude.{◌≡◌, ℕ, ◌+◌, ◌↔◌, List, All, length, min, IsTrue}
use Rattle.std.specs.List.{list_any, sum_by}
use Rattle.strkw_label.specs.BidiRule.{KeepsBidiRule, is_right_to_left_label}
use Rattle.strkw_label.specs.IdnHostName.{encoded_form}
use Rattle.strkw_label.specs.declared.idn_host_name.LabelFacts.{LabelFacts}
use Rattle.strkw_label.specs.declared.idn_host_name.NameFacts.{NameFacts}

-- the facts are those of a label with this Unicode form
pub record AreFactsOf (facts : LabelFacts) (form : List ℕ) : Type 0 where
  pub encoded_length : facts.encoded_length ≡ length (encoded_form form)
  pub is_right_to_left : facts.is_right_to_left ≡ is_right_to_left_label form
  pub keeps_bidi_rule : IsTrue facts.keeps_bidi_rule ↔ KeepsBidiRule form

-- and those of labels in a row: a separator is counted for each, and nothing beyond 255
pub record AreFactsOfAll (facts : NameFacts) (forms : List (List ℕ)) : Type 0 where
  pub encoded_length : facts.encoded_length
      ≡ min 255 (sum_by (λ form. length (encoded_form form) + 1) forms)
  pub is_bidi : facts.is_bidi ≡ list_any is_right_to_left_label forms
  pub keeps_bidi_rule : IsTrue facts.keeps_bidi_rule ↔ All KeepsBidiRule forms
