-- What is said of a text, part by part.
use Rattle.std.specs.Prelude.{ℕ, List, [], ◌++◌, Option, Some, None, option_map, codes, decimal}
use Rattle.strkw_report.specs.Nouns.{characters}
use Rattle.strkw_report.specs.Quoting.{quoted_text}
use Rattle.strkw_report.specs.declared.wording.Wording.{Wording}
use Rattle.strkw_report.specs.declared.wording.Rest.{Rest}
use Rattle.strkw_report.specs.declared.wording.Rest.TheVariants.{Name, Characters}

-- what stands first: the text as a JSON string, where one is spoken of
abbrev pub front : Option (List ℕ) → List ℕ
front (Some text) = quoted_text text
front None = []

-- what stands behind the first words
abbrev pub rest_text : Rest → List ℕ
rest_text (Name name after) = name.now ++ after.now
rest_text (Characters n) = decimal n ++ codes " " ++ characters n

-- the whole
abbrev pub wording_text : Wording → List ℕ
wording_text w = front (option_map (λ text. text.now) w.text) ++ w.before.now ++ rest_text w.rest
