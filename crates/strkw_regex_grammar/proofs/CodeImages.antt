-- Of an escape by a number the code holds the number that its digits make.
use Rattle.std.proofs.Common.{◌≡◌, ℕ, ◌+◌, ◌*◌, ◌==◌, nat_le, Bool, true, false, ◌&&◌, List, [], ◌∷◌, ◌++◌, Option, Some, None, option_map, refl, ap}
use Rattle.std.proofs.Common.{◌∙◌}
use Rattle.std.specs.Char.{digit_value}
use Rattle.std.specs.Str.{byte}
use Rattle.strkw_regex_grammar.specs.Codes.{Code, unit_code, pair_code, point_code, is_hex_digit, hex_number_from, hex_number}
use Rattle.strkw_regex_grammar.specs.Codes.{max_code_point, is_lead, is_trail, is_scalar, code_value}
use Rattle.strkw_regex_grammar.specs.machine.CodeMakers.{value_if, hex_with, is_next_digit, code_trees, code_values}
use Rattle.strkw_regex_grammar.specs.machine.CodeReading.{Width, unit_width, trail_width, Wanted, one_more, two_more, three_more}
use Rattle.strkw_regex_grammar.specs.machine.CodeReading.{four_more, Coding, unit_opened, digits_of, lead_read, lead_escaped}
use Rattle.strkw_regex_grammar.specs.machine.CodeReading.{point_opened, Coded, fails, goes, makes, coded_if, make, with_lead, read_all, read_digit}
use Rattle.strkw_regex_grammar.specs.machine.CodeReading.{digit_or_none, on_digit, on_unit, point_digit, on_point, coding_next, value_or}

-- one more digit makes a number sixteen times as great, with the digit's value added
pub hex_push : (v : ℕ) (ds : List ℕ) (c : ℕ) → hex_number_from v (ds ++ c ∷ []) ≡ hex_number_from v ds * 16 + digit_value c
hex_push v [] c = refl
hex_push v (d ∷ ds) c = hex_push (v * 16 + digit_value d) ds c

-- the image of a width: with the number of the digits that it holds
abbrev width_image : Width code_trees → Width code_values
width_image unit_width = unit_width
width_image (trail_width ds) = trail_width (hex_number ds)

-- the image of a part of an escape by a number: with the numbers of its digits
abbrev pub coding_image : Coding code_trees → Coding code_values
coding_image unit_opened = unit_opened
coding_image (digits_of w n ds) = digits_of (width_image w) n (hex_number ds)
coding_image (lead_read ds) = lead_read (hex_number ds)
coding_image (lead_escaped ds) = lead_escaped (hex_number ds)
coding_image (point_opened o) = point_opened (option_map hex_number o)

-- the image of what comes of a character: a part with numbers, or the value of the escape
abbrev pub coded_image : Coded code_trees → Coded code_values
coded_image fails = fails
coded_image (goes k) = goes (coding_image k)
coded_image (makes d) = makes (code_value d)

-- a test may be asked before the image is taken or behind it
if_image : (b : Bool) (k : Coded code_trees) → coded_image (coded_if b k) ≡ coded_if b (coded_image k)
if_image false k = refl
if_image true k = refl

-- the image of what is made of an escape is made of its value
made_image : (d : Code) → coded_image (make d) ≡ make (code_value d)
made_image d = if_image (is_scalar (code_value d)) (makes d)

-- that of what is made of the digits behind `\u` is made of their number
lead_image : (ds : List ℕ) (b : Bool) → coded_image (with_lead ds b) ≡ with_lead (hex_number ds) b
lead_image ds false = made_image (unit_code ds)
lead_image ds true = refl

-- and that of what is made of all digits of a number
all_image : (w : Width code_trees) (ds : List ℕ) → coded_image (read_all w ds) ≡ read_all (width_image w) (hex_number ds)
all_image unit_width ds = lead_image ds (is_lead (hex_number ds))
all_image (trail_width ds) es =
    if_image (is_trail (hex_number es)) (make (pair_code ds es)) ∙ ap (coded_if (is_trail (hex_number es))) (made_image (pair_code ds es))

-- and that of what is made of digits, where more may be to come
digit_image : (w : Width code_trees) (n : Wanted) (ds : List ℕ) → coded_image (read_digit w n ds) ≡ read_digit (width_image w) n (hex_number ds)
digit_image w one_more ds = all_image w ds
digit_image w two_more ds = refl
digit_image w three_more ds = refl
digit_image w four_more ds = refl

-- digits with one more have the number with that digit, where they are taken
with_image : (ds : List ℕ) (c : ℕ) → option_map hex_number (code_trees.with_hex_digit ds c) ≡ hex_with (hex_number ds) c
with_image ds c =
    by_test (is_next_digit ds c) ∙ ap (λ (k : ℕ). value_if (is_hex_digit c && nat_le k max_code_point) k) (hex_push 0 ds c)
  where
    -- the same by whether they are
    by_test : (b : Bool) → option_map hex_number (value_if b (ds ++ c ∷ [])) ≡ value_if b (hex_number (ds ++ c ∷ []))
    by_test false = refl
    by_test true = refl

-- the image of what comes of a digit, or of none, comes of its number, or of none
or_none_image : (w : Width code_trees) (n : Wanted) (o : Option (List ℕ))
    → coded_image (digit_or_none w n o) ≡ digit_or_none (width_image w) n (option_map hex_number o)
or_none_image w n None = refl
or_none_image w n (Some ds) = digit_image w n ds

-- the image of what comes of a character among the digits comes of it behind their number
on_digit_image : (w : Width code_trees) (n : Wanted) (ds : List ℕ) (c : ℕ)
    → coded_image (on_digit w n ds c) ≡ on_digit (width_image w) n (hex_number ds) c
on_digit_image w n ds c = or_none_image w n (code_trees.with_hex_digit ds c) ∙ ap (digit_or_none (width_image w) n) (with_image ds c)

-- behind `\u` the image of what comes of a character is what comes of it in the code
unit_image : (c : ℕ) (b : Bool) → coded_image (on_unit c b) ≡ on_unit c b
unit_image c false = on_digit_image unit_width four_more [] c
unit_image c true = refl

-- the number of the digits that there are is the one that is held of them, or 0 of none
number_is : (o : Option (List ℕ)) → hex_number (value_or [] o) ≡ value_or 0 (option_map hex_number o)
number_is None = refl
number_is (Some ds) = refl

-- the image of what comes of digits between braces comes of their number
point_digit_image : (o : Option (List ℕ)) → coded_image (point_digit o) ≡ point_digit (option_map hex_number o)
point_digit_image None = refl
point_digit_image (Some ds) = refl

-- the image of what comes of a character behind `\u{` comes of it behind the number of the digits
point_image : (o : Option (List ℕ)) (c : ℕ) (b : Bool) → coded_image (on_point o c b) ≡ on_point (option_map hex_number o) c b
point_image o c false =
    point_digit_image (code_trees.with_hex_digit (value_or [] o) c)
    ∙ ap point_digit (with_image (value_or [] o) c ∙ ap (λ (k : ℕ). hex_with k c) (number_is o))
point_image None c true = refl
point_image (Some ds) c true = made_image (point_code ds)

-- the image of what comes of the next character comes of it behind the image of the part
pub next_coding_image : (k : Coding code_trees) (c : ℕ) → coded_image (coding_next k c) ≡ coding_next (coding_image k) c
next_coding_image unit_opened c = unit_image c (c == byte "{")
next_coding_image (digits_of w n ds) c = on_digit_image w n ds c
next_coding_image (lead_read ds) c = if_image (c == byte "\\") (goes (lead_escaped ds))
next_coding_image (lead_escaped ds) c = if_image (c == byte "u") (goes (digits_of (trail_width ds) four_more []))
next_coding_image (point_opened o) c = point_image o c (c == byte "}")
