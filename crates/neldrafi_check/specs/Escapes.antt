-- How a text is escaped, by the syntax in which it stands.
use Rattle.std.specs.Prelude.{ℕ, ◌==◌, ◌||◌, ◌&&◌, Bool, List, codes, encode_utf8, if◌then◌else◌, nat_le}
use Rattle.std.specs.List.{flat_map}
use Rattle.std.specs.Str.{chars}
use Rattle.neldrafi_check.specs.declared.escapes.Syntax.{Syntax}
use Rattle.neldrafi_check.specs.declared.escapes.Syntax.TheVariants.{CommandMessage, CommandProperty, SarifMessage, Xml}

-- ---- workflow commands of GitHub: `escapeData` and `escapeProperty` of `@actions/core`

abbrev pub escaped_in_message : ℕ → List ℕ
escaped_in_message c = if c == 37 then codes "%25" else (if c == 13 then codes "%0D"
    else (if c == 10 then codes "%0A" else encode_utf8 c))

abbrev pub escaped_in_property : ℕ → List ℕ
escaped_in_property c = if c == 58 then codes "%3A" else (if c == 44 then codes "%2C" else escaped_in_message c)

-- ---- XML 1.0

abbrev pub is_within : ℕ → ℕ → ℕ → Bool
is_within first last c = nat_le first c && nat_le c last

-- `Char` (section 2.2)
abbrev pub is_xml_char : ℕ → Bool
is_xml_char c = c == 9 || c == 10 || c == 13 || is_within 32 55295 c || is_within 57344 65533 c || is_within 65536 1114111 c

-- What is no `Char` is U+FFFD. White space but a blank is a reference, since an attribute would have blanks in its place
-- (section 3.3.3).
abbrev pub escaped_in_xml : ℕ → List ℕ
escaped_in_xml c = if c == 38 then codes "&amp;" else (if c == 60 then codes "&lt;" else (if c == 62 then codes "&gt;"
    else (if c == 34 then codes "&quot;" else (if c == 9 then codes "&#9;" else (if c == 10 then codes "&#10;"
    else (if c == 13 then codes "&#13;" else (if is_xml_char c then encode_utf8 c else encode_utf8 65533)))))))

-- ---- messages of SARIF 2.1.0: braces are of placeholders (section 3.11.5)

abbrev pub escaped_in_sarif : ℕ → List ℕ
escaped_in_sarif c = if c == 123 then codes "{{" else (if c == 125 then codes "}}" else encode_utf8 c)

-- ----

abbrev pub escaped_char : Syntax → ℕ → List ℕ
escaped_char CommandProperty c = escaped_in_property c
escaped_char CommandMessage c = escaped_in_message c
escaped_char Xml c = escaped_in_xml c
escaped_char SarifMessage c = escaped_in_sarif c

abbrev pub escaped_text : Syntax → List ℕ → List ℕ
escaped_text syntax text = flat_map (escaped_char syntax) (chars text)
