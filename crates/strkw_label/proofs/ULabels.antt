-- U-labels by themselves: how long they are, and that no full stop stands in one.
use Rattle.std.proofs.Common.{◌≡◌, ◌≢◌, ℕ, ◌≤◌, Bool, true, false, List, length, All, refl, sym, ap, ◌∙◌, arith, cond}
use Rattle.std.specs.Char.{IsScalar}
use Rattle.std.proofs.lemmas.Bool.{false≢true}
use Rattle.std.proofs.lemmas.List.Elements.{recursion_from_All}
use Rattle.ucd_table.specs.Rows.{in_ranges, value_in}
use Rattle.ucd_category.specs.GeneralCategoryRows.{general_category_rows}
use Rattle.ucd_category.specs.GeneralCategory.{general_category}
use Rattle.ucd_props.specs.Ranges.{join_control_ranges}
use Rattle.ucd_props.specs.Binary.{is_join_control}
use Rattle.strkw_text.specs.Delimiters.{Without}
use Rattle.strkw_label.specs.DerivedProperty.{derived_property, is_disallowed_class, is_permitted}
use Rattle.strkw_label.specs.IdnHostName.{IsUnicodeLabel, IsULabel}
use Rattle.strkw_label.specs.declared.properties.DerivedProperty.TheVariants.{Disallowed}
use Rattle.strkw_label.proofs.EncodedLengths.{text_length}
use Rattle.strkw_label.proofs.IdnLabels.{a_label_length}

-- whether or not a class disallows the full stop, it is disallowed
either_way : (b : Bool) → is_permitted (cond b Disallowed Disallowed) ≡ false
either_way true = refl
either_way false = refl

-- the full stop is not permitted
no_full_stop : is_permitted (derived_property 46) ≡ false
unfolding derived_property general_category general_category_rows value_in is_join_control join_control_ranges in_ranges
no_full_stop = either_way (is_disallowed_class 46)

-- no U-label has a full stop
pub label_no_dot : (label : List ℕ) → IsUnicodeLabel label → Without 46 label
label_no_dot label u = recursion_from_All (λ c. c ≢ 46) label
    (λ k d h e. false≢true (sym no_full_stop ∙ ap (λ c. is_permitted (derived_property c)) (sym e) ∙ u.permitted k d h))

-- a U-label by itself has at most 63 characters
pub label_small : (label : List ℕ) → All IsScalar label → IsULabel label → length label ≤ 63
label_small label scalars u = omega (arith, text_length label scalars, a_label_length label, u.size)
