-- URI templates: RFC 6570 section 2. Above each form stands its rule.
use Rattle.std.specs.Prelude.{ℕ, Bool, not, ◌||◌, ◌==◌, codes}
use Rattle.std.specs.Str.{byte}
use Rattle.std.specs.Char.{is_ascii_alphanumeric}
use Rattle.strkw_text.specs.Abnf.{Form, ◌⨾◌, ◌∣◌, Literal, Optional, Repeat, Times, OneOf}
use Rattle.strkw_text.specs.Abnf.{SeparatedBy}
use Rattle.strkw_text.specs.Characters.{is_one_of, is_from_to, Digit}
use Rattle.strkw_uri.specs.Uri.{Encoded}

-- literals = %x21 / %x23-24 / %x26 / %x28-3B / %x3D / %x3F-5B / %x5D / %x5F / %x61-7A / %x7E /
-- ucschar / iprivate / pct-encoded; wider here: the apostrophe too (erratum 6937), and every
-- character past ASCII for ucschar / iprivate. So of the characters that stand for themselves: none
-- of the controls, the space, DEL, and these
abbrev pub is_literal_char : ℕ → Bool
is_literal_char c = not (is_from_to 0 0x20 c || c == 0x7F || is_one_of (codes "\"<>%\\^`{|}") c)

-- op-level2 / op-level3 / op-reserve, which are "+" / "#", "." / "/" / ";" / "?" / "&", "=" / "," /
-- "!" / "@" / "|"
abbrev pub is_operator : ℕ → Bool
is_operator c = is_one_of (codes "+#./;?&=,!@|") c

abbrev pub is_varchar : ℕ → Bool
is_varchar c = is_ascii_alphanumeric c || c == byte "_"

-- varchar = ALPHA / DIGIT / "_" / pct-encoded
abbrev pub Varchar : Form
Varchar = Encoded is_varchar

-- ["."] varchar
abbrev pub FurtherVarchar : Form
FurtherVarchar = Optional (Literal (codes ".")) ⨾ Varchar

-- varname = varchar *( ["."] varchar )
abbrev pub Varname : Form
Varname = Varchar ⨾ Repeat FurtherVarchar

-- max-length = %x31-39 0*3DIGIT: 1 to 9999
abbrev pub MaxLength : Form
MaxLength = OneOf (is_from_to (byte "1") (byte "9")) ⨾ Times 0 3 Digit

-- modifier-level4 = prefix / explode, prefix = ":" max-length, explode = "*"
abbrev pub ModifierLevel4 : Form
ModifierLevel4 = Literal (codes ":") ⨾ MaxLength ∣ Literal (codes "*")

-- varspec = varname [ modifier-level4 ]
abbrev pub Varspec : Form
Varspec = Varname ⨾ Optional ModifierLevel4

-- variable-list = varspec *( "," varspec )
abbrev pub VariableList : Form
VariableList = SeparatedBy (byte ",") Varspec

-- [ operator ] variable-list
abbrev pub OperatorAndVariables : Form
OperatorAndVariables = Optional (OneOf is_operator) ⨾ VariableList

-- [ operator ] variable-list "}"
abbrev pub InExpression : Form
InExpression = OperatorAndVariables ⨾ Literal (codes "}")

-- expression = "{" [ operator ] variable-list "}"
abbrev pub Expression : Form
Expression = Literal (codes "{") ⨾ InExpression

-- literals / expression
abbrev pub LiteralOrExpression : Form
LiteralOrExpression = Encoded is_literal_char ∣ Expression

-- URI-Template = *( literals / expression )
abbrev pub IsUriTemplate : Form
IsUriTemplate = Repeat LiteralOrExpression
