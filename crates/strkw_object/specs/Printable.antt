-- Notes that have a text.
use Rattle.std.specs.Prelude.{◌≡◌, List, false}
use Rattle.std.specs.List.{All}
use Rattle.serde_json.specs.Written.{has_float}
use Rattle.strkw_keywords.specs.Remarks.{Remark}

-- the value of a note has a defined text: it holds no number but whole ones of 64 bits
abbrev pub HasText : Remark → Type 0
HasText r = has_float r.value ≡ false

abbrev pub ArePrintable : List Remark → Type 0
ArePrintable rs = All HasText rs
