-- No ASCII character is a mark.
use Rattle.std.proofs.Common.{◌≡◌, ℕ, ◌<◌, true, false, refl}
use Rattle.std.proofs.lemmas.Bool.{agree_below, agree_below_at}
use Rattle.ucd_table.specs.Rows.{value_in}
use Rattle.ucd_category.specs.GeneralCategoryRows.{general_category_rows}
use Rattle.ucd_category.specs.GeneralCategory.{general_category}
use Rattle.strkw_label.specs.LabelRules.{is_mark}

-- the test for a mark fails at each number below 128, as one test of all of them
ascii : agree_below (λ c. is_mark (general_category c)) (λ c. false) 128 ≡ true
unfolding general_category general_category_rows value_in
ascii = refl

-- no character below 128 has the category of a mark
pub ascii_is_no_mark : (c : ℕ) → c < 128 → is_mark (general_category c) ≡ false
ascii_is_no_mark c lt = agree_below_at (λ x. is_mark (general_category x)) (λ x. false) 128 c ascii lt
