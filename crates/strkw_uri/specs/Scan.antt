-- What the private functions speak of: the classes that are read, and the grammars from a part on
-- to the end of the text.
use Rattle.std.specs.Prelude.{◌≡◌, ◌↔◌, ℕ, Bool, ◌||◌, ◌==◌, false, List, codes}
use Rattle.std.specs.Str.{byte}
use Rattle.std.specs.Char.{is_ascii_hexdigit, is_ascii_digit, is_ascii_alphabetic}
use Rattle.strkw_text.specs.Abnf.{Form, ◌⨾◌, ◌∣◌, Literal, Optional, Repeat}
use Rattle.strkw_text.specs.Characters.{is_one_of, is_from_to}
use Rattle.strkw_text.specs.Fronts.{NotFirst}
use Rattle.strkw_uri.specs.Characters.{is_scheme_char, Alphabet, uri, iri, is_reg_name_char}
use Rattle.strkw_uri.specs.Characters.{is_userinfo_char, is_pchar, is_nc_char, is_query_char}
use Rattle.strkw_uri.specs.Characters.{is_fragment_char, is_ucschar, is_iprivate}
use Rattle.strkw_uri.specs.Uri.{Encoded, Userinfo, BracketedAddress, Host, Port, PathAbempty}
use Rattle.strkw_uri.specs.Uri.{HierPart, QueryAndFragment}
use Rattle.strkw_uri.specs.Template.{is_varchar, is_operator}
use Rattle.strkw_uri.specs.Template.{Varspec}
use Rattle.strkw_uri.specs.Pointer.{IsJsonPointer}
use Rattle.strkw_uri.specs.declared.part.Syntax.{Syntax}
use Rattle.strkw_uri.specs.declared.part.Syntax.TheVariants.{Rfc3986, Rfc3987}
use Rattle.strkw_uri.specs.declared.part.Part.{Part}
use Rattle.strkw_uri.specs.declared.part.Part.TheVariants.{RegNameChar, UserinfoChar, PathChar}
use Rattle.strkw_uri.specs.declared.part.Part.TheVariants.{SegmentNcChar, QueryChar, FragmentChar}
use Rattle.strkw_uri.specs.declared.scan.Class.{Class}
use Rattle.strkw_uri.specs.declared.scan.Class.TheVariants.{Letter, SchemeChar, Decimal}
use Rattle.strkw_uri.specs.declared.scan.Class.TheVariants.{NonzeroDecimal, Hexadecimal, ZeroOrOne}
use Rattle.strkw_uri.specs.declared.scan.Class.TheVariants.{VersionLetter, FutureChar}
use Rattle.strkw_uri.specs.declared.scan.Class.TheVariants.{OperatorChar, NameChar}

abbrev pub alphabet : Syntax → Alphabet
alphabet Rfc3986 = uri
alphabet Rfc3987 = iri

-- a class with the slash
abbrev pub or_slash : (ℕ → Bool) → ℕ → Bool
or_slash class c = class c || c == byte "/"

-- the characters of a part that stand for themselves
abbrev pub is_part_char : Syntax → Part → ℕ → Bool
is_part_char s RegNameChar = is_reg_name_char (alphabet s)
is_part_char s UserinfoChar = is_userinfo_char (alphabet s)
is_part_char s PathChar = or_slash (is_pchar (alphabet s))
is_part_char s SegmentNcChar = is_nc_char (alphabet s)
is_part_char s QueryChar = is_query_char (alphabet s)
is_part_char s FragmentChar = is_fragment_char (alphabet s)

-- the characters of a part past ASCII
abbrev pub is_wide_part_char : Syntax → Part → ℕ → Bool
is_wide_part_char Rfc3986 p c = false
is_wide_part_char Rfc3987 RegNameChar c = is_ucschar c
is_wide_part_char Rfc3987 UserinfoChar c = is_ucschar c
is_wide_part_char Rfc3987 PathChar c = is_ucschar c
is_wide_part_char Rfc3987 SegmentNcChar c = is_ucschar c
is_wide_part_char Rfc3987 QueryChar c = is_ucschar c || is_iprivate c
is_wide_part_char Rfc3987 FragmentChar c = is_ucschar c

-- the bit that stands for a part in the table of bytes
abbrev pub bit : Part → ℕ
bit RegNameChar = 1
bit UserinfoChar = 2
bit PathChar = 4
bit SegmentNcChar = 8
bit QueryChar = 16
bit FragmentChar = 16

-- the classes that are read without percent-encodings
abbrev pub is_class_char : Class → ℕ → Bool
is_class_char Letter = is_ascii_alphabetic
is_class_char SchemeChar = is_scheme_char
is_class_char Decimal = is_ascii_digit
is_class_char NonzeroDecimal = is_from_to (byte "1") (byte "9")
is_class_char Hexadecimal = is_ascii_hexdigit
is_class_char ZeroOrOne = is_one_of (codes "01")
is_class_char VersionLetter = is_one_of (codes "vV")
is_class_char FutureChar = is_userinfo_char uri
is_class_char OperatorChar = is_operator
is_class_char NameChar = is_varchar

-- "#" at the end, or a pointer
abbrev pub HashOrPointer : Form
HashOrPointer = Literal (codes "#") ∣ IsJsonPointer

-- further variables of a template's expression, the brace that closes it, and then the tail
abbrev pub BehindVariable : List ℕ → Form
BehindVariable tail = Repeat (Literal (codes ",") ⨾ Varspec) ⨾ Literal (codes "}") ⨾ (λ x. x ≡ tail)

-- an A before what follows a variable leaves the rest, whatever the tail is
abbrev pub LeavesBehind : Form → List ℕ → List ℕ → Type 0
LeavesBehind A text rest =
    (tail : List ℕ) → (A ⨾ BehindVariable tail) text ↔ BehindVariable tail rest

-- the text begins with no A before what follows a variable
abbrev pub BeginsNot : Form → Form
BeginsNot A text = (tail : List ℕ) → (A ⨾ BehindVariable tail) text → ⊥

-- the rest of a URI from a part on
module _ (K : Alphabet) where
  abbrev pub PathAndTail : Form
  PathAndTail = PathAbempty K ⨾ QueryAndFragment K

  -- from within a path on
  abbrev pub InPathAndTail : Form
  InPathAndTail = Repeat (Encoded (or_slash (is_pchar K))) ⨾ QueryAndFragment K

  abbrev pub PortAndTail : Form
  PortAndTail = Optional (Literal (codes ":") ⨾ Port) ⨾ PathAndTail

  abbrev pub BracketedAddressAndTail : Form
  BracketedAddressAndTail = BracketedAddress ⨾ Literal (codes "]") ⨾ PortAndTail

  abbrev pub HostAndTail : Form
  HostAndTail = Host K ⨾ PortAndTail

  abbrev pub AuthorityAndTail : Form
  AuthorityAndTail = Optional (Userinfo K ⨾ Literal (codes "@")) ⨾ HostAndTail

  -- behind a slash: another one and an authority, or else from within a path on
  abbrev pub BehindSlash : Form
  BehindSlash = Literal (codes "/") ⨾ AuthorityAndTail
      ∣ (λ text. NotFirst (byte "/") text × InPathAndTail text)

  abbrev pub HierPartAndTail : Form
  HierPartAndTail = HierPart K ⨾ QueryAndFragment K
