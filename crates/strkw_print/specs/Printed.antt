-- Errors, refusals and notes as lines, each ended by a line feed.
use Rattle.std.specs.Prelude.{ℕ, List, ◌++◌, codes, map, if◌then◌else◌, nat_lt}
use Rattle.std.specs.List.{flat_map}
use Rattle.serde_json.specs.Written.{compact_text}
use Rattle.strkw_report.specs.Kinds.{Report, text_of}
use Rattle.strkw_report.specs.Refusals.{Refusal, explanation}
use Rattle.strkw_keywords.specs.Remarks.{Remark}

-- each character U+0000 to U+001F is printed as a space; in UTF-8 these are the bytes below 32
abbrev pub printed_char : ℕ → ℕ
printed_char c = if nat_lt c 32 then 32 else c

abbrev pub printed_text : List ℕ → List ℕ
printed_text text = map printed_char text

-- a word, a place and a text
abbrev pub line_of : List ℕ → List ℕ → List ℕ → List ℕ
line_of word place text = word ++ codes " " ++ place ++ codes ": " ++ text ++ codes "\n"

abbrev pub error_line : Report → List ℕ
error_line r = line_of (codes "error") r.schema_path (printed_text (text_of r))

abbrev pub error_lines : List Report → List ℕ
error_lines rs = flat_map error_line rs

abbrev pub refused_line : Refusal → List ℕ
refused_line r = line_of (codes "refused") r.location (printed_text (explanation r.reason))

-- a note, its value as compact JSON text (RFC 8259)
abbrev pub note_line : Remark → List ℕ
note_line r = line_of (codes "note") r.schema_path (compact_text r.value)

abbrev pub note_lines : List Remark → List ℕ
note_lines rs = flat_map note_line rs
