-- What is written about a value with an error, and about a line that has no value.
use Rattle.std.specs.Prelude.{ℕ, List, [], ◌∷◌, ◌++◌, codes, decimal}
use Rattle.serde_json.specs.Data.{Data, object, member, no_members, string, number, unsigned}
use Rattle.serde_json.specs.Written.{compact_text}
use Rattle.neldrafi_check.specs.Shown.{shown_text}
use Rattle.neldrafi_position.specs.declared.position.Position.{Position}
use Rattle.neldrafi_schema.specs.Errors.{Error, instance_of, instance_path_of, schema_path_of, text_of}
use Rattle.neldrafi_check.specs.Cutting.{cut_text}
use Rattle.neldrafi_check.specs.Kinds.{error_kind_name}

pub record Form : Type 0 where
  -- about an error of the value at a position
  pub said : Position → Error → List ℕ
  -- about a line that has no value from this position on, for this reason
  pub unread : Position → List ℕ → List ℕ

-- ---- lines of text

abbrev pub position_text : List ℕ → Position → List ℕ
position_text file at = shown_text file ++ codes ":" ++ decimal at.line ++ codes ":" ++ decimal at.column ++ codes ": "

-- where a value is in its document: nothing is said of the root
abbrev pub location_text : List ℕ → List ℕ
location_text [] = []
location_text (c ∷ cs) = shown_text (c ∷ cs) ++ codes ": "

abbrev pub text_form : List ℕ → Form
text_form file = record {
  said = λ at e. position_text file at ++ location_text (instance_path_of e) ++ cut_text (text_of e) ++ codes "\n";
  unread = λ at why. position_text file at ++ shown_text why ++ codes "\n";
}

-- ---- objects of JSON, one on a line, their members in the order of their names

abbrev pub error_object : List ℕ → Position → Error → Data
error_object file at e =
    object (member (codes "file") (string file)
    (member (codes "instance") (instance_of e)
    (member (codes "keyword") (string (schema_path_of e))
    (member (codes "kind") (string (error_kind_name e))
    (member (codes "line") (number (unsigned at.line))
    (member (codes "location") (string (instance_path_of e))
    (member (codes "message") (string (text_of e))
    (member (codes "position") (number (unsigned at.column)) no_members))))))))

abbrev pub unread_object : List ℕ → Position → List ℕ → Data
unread_object file at why =
    object (member (codes "file") (string file)
    (member (codes "kind") (string (codes "unread"))
    (member (codes "line") (number (unsigned at.line))
    (member (codes "message") (string why)
    (member (codes "position") (number (unsigned at.column)) no_members)))))

abbrev pub line_of : Data → List ℕ
line_of d = compact_text d ++ codes "\n"

abbrev pub json_form : List ℕ → Form
json_form file = record {
  said = λ at e. line_of (error_object file at e);
  unread = λ at why. line_of (unread_object file at why);
}
