-- UUIDs, RFC 9562 section 4 (before it RFC 4122 section 3). HEXDIG stands in either case.
use Rattle.std.specs.Prelude.{codes}
use Rattle.strkw_text.specs.Abnf.{Form, ◌⨾◌, Literal, Exactly}
use Rattle.strkw_text.specs.Characters.{HexDigit}

-- 8HEXDIG "-" 4HEXDIG "-" 4HEXDIG "-" 4HEXDIG "-" 12HEXDIG
abbrev pub IsUuid : Form
IsUuid =
    Exactly 8 HexDigit ⨾ Literal (codes "-") ⨾ Exactly 4 HexDigit ⨾ Literal (codes "-")
    ⨾ Exactly 4 HexDigit ⨾ Literal (codes "-")
    ⨾ Exactly 4 HexDigit ⨾ Literal (codes "-") ⨾ Exactly 12 HexDigit
