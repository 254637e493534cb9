-- Why a schema object is refused, in words.
use Rattle.std.specs.Prelude.{ℕ, List, ◌++◌, codes}
use Rattle.serde_json.specs.Data.{string}
use Rattle.serde_json.specs.Written.{compact_text}
use Rattle.strkw_report.specs.Refusals.{Reason, regex, Refusal, explanation}

-- the words behind a pattern say why `strkw_ecma` does not take it; which words they are is not
-- said
abbrev pub reason_text : List ℕ → Reason → List ℕ
reason_text words (regex p) =
    codes "the pattern " ++ compact_text (string p) ++ codes " is not taken: " ++ words
reason_text words why = explanation why

-- the place of the keyword, and the reason
abbrev pub refusal_text : List ℕ → Refusal → List ℕ
refusal_text words r = r.location ++ codes ": " ++ reason_text words r.reason
