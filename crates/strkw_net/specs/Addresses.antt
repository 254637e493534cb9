-- Internet addresses as texts: lists of characters.
use Rattle.std.specs.Prelude.{◌≡◌, ℕ, ◌+◌, ◌<◌, ◌≤◌, List, [], ◌∷◌, ◌++◌, length, codes, decimal}
use Rattle.std.specs.List.{join_with_byte, AllByRecursion}
use Rattle.std.specs.Str.{byte}
use Rattle.strkw_text.specs.Abnf.{Form, ◌⨾◌, ◌∣◌, Literal, Times}
use Rattle.strkw_text.specs.Characters.{HexDigit}
use Rattle.strkw_text.specs.Delimiters.{Without}

-- IPv4address, RFC 3986 section 3.2.2: four numbers below 256 in decimal, without leading zeros,
-- with "." between them
pub record IsIpv4 (text : List ℕ) : Type 0 where
  pub a : ℕ
  pub b : ℕ
  pub c : ℕ
  pub d : ℕ
  pub fit : (a < 256) × (b < 256) × (c < 256) × (d < 256)
  pub spelled : text ≡ join_with_byte (byte ".")
      (decimal a ∷ decimal b ∷ decimal c ∷ decimal d ∷ [])

-- What follows is RFC 4291 section 2.2.

-- h16 = 1*4HEXDIG: a group of 16 bits
abbrev pub H16 : Form
H16 = Times 1 4 HexDigit

-- x:x:x, so many groups with ":" between them, or none
pub record Groups (count : ℕ) (text : List ℕ) : Type 0 where
  pub groups : List (List ℕ)
  pub each : AllByRecursion H16 groups
  pub counted : count ≡ length groups
  pub spelled : text ≡ join_with_byte (byte ":") groups

-- x:x:d.d.d.d, groups and then an IPv4 address, which counts two
pub record GroupsAndIpv4 (count : ℕ) (text : List ℕ) : Type 0 where
  pub groups : List (List ℕ)
  pub each : AllByRecursion H16 groups
  pub address : List ℕ
  pub address_is : IsIpv4 address
  pub counted : count ≡ length groups + 2
  pub spelled : text ≡ join_with_byte (byte ":") (groups ++ address ∷ [])

-- what may stand at the end of an address
abbrev pub LastGroups : ℕ → Form
LastGroups count = Groups count ∣ GroupsAndIpv4 count

-- groups around one "::", which stands for at least one group of zeros
pub record IsCompressed (text : List ℕ) : Type 0 where
  pub before : ℕ
  pub after : ℕ
  pub at_most_seven : before + after ≤ 7
  pub spelled : (Groups before ⨾ Literal (codes "::") ⨾ LastGroups after) text

-- eight groups, or fewer and "::"
abbrev pub IsIpv6 : Form
IsIpv6 = LastGroups 8 ∣ IsCompressed

-- no character of the text is "]"
abbrev pub HasNoBracket : Form
HasNoBracket = Without (byte "]")
