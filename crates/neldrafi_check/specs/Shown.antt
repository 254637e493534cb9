-- How a text is shown in a message, so that each message is one line which shows what it is.
use Rattle.std.specs.Prelude.{ℕ, List, ◌++◌, Bool, true, false, codes, encode_utf8, if◌then◌else◌}
use Rattle.std.specs.List.{flat_map}
use Rattle.std.specs.Str.{chars}
use Rattle.std.specs.Fmt.{digits}
use Rattle.ucd_category.specs.GeneralCategory.{general_category}
use Rattle.ucd_category.specs.declared.GeneralCategory.{GeneralCategory}
use Rattle.ucd_category.specs.declared.GeneralCategory.TheVariants.{Control, Format, LineSeparator}
use Rattle.ucd_category.specs.declared.GeneralCategory.TheVariants.{ParagraphSeparator}

-- The general categories Cc, Cf, Zl and Zp: controls, marks that change how text runs, the
-- bidirectional ones among them, and ends of lines and paragraphs.
abbrev pub is_hidden_category : GeneralCategory → Bool
is_hidden_category Control = true
is_hidden_category Format = true
is_hidden_category LineSeparator = true
is_hidden_category ParagraphSeparator = true
is_hidden_category _ = false

abbrev pub is_hidden : ℕ → Bool
is_hidden c = is_hidden_category (general_category c)

-- `\u{202e}`, the code in base 16; any other character stands as it is
abbrev pub shown_char : ℕ → List ℕ
shown_char c = if is_hidden c then codes "\\u{" ++ digits 16 false c ++ codes "}" else encode_utf8 c

abbrev pub shown_text : List ℕ → List ℕ
shown_text text = flat_map shown_char (chars text)
