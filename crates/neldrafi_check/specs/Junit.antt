-- Errors as test cases in the XML of JUnit, in which each file is a test suite.
use Rattle.std.specs.Prelude.{ℕ, List, ◌++◌, codes, decimal}
use Rattle.neldrafi_position.specs.declared.position.Position.{Position}
use Rattle.neldrafi_schema.specs.Errors.{instance_path_of, text_of}
use Rattle.neldrafi_check.specs.Cutting.{cut_text}
use Rattle.neldrafi_check.specs.Escapes.{escaped_text}
use Rattle.neldrafi_check.specs.Forms.{Form, location_text}
use Rattle.neldrafi_check.specs.Kinds.{error_kind_name}
use Rattle.neldrafi_check.specs.Shown.{shown_text}
use Rattle.neldrafi_check.specs.declared.escapes.Syntax.TheVariants.{Xml}

abbrev pub xml : List ℕ → List ℕ
xml text = escaped_text Xml text

unfoldable pub attribute : List ℕ → List ℕ → List ℕ
attribute name value = codes " " ++ name ++ codes "=\"" ++ value ++ codes "\""

-- ---- the elements of a file, each on a line

abbrev pub suite_start : List ℕ → List ℕ
suite_start file = codes "<testsuite" ++ attribute (codes "name") (xml file) ++ codes ">\n"

-- the start tag of a test case of this name
abbrev pub case_start : List ℕ → List ℕ → List ℕ
case_start name file = codes "<testcase" ++ attribute (codes "name") name ++ attribute (codes "classname") (xml file) ++ codes ">"

-- the test case of the whole file, with this in it
abbrev pub file_case : List ℕ → List ℕ → List ℕ
file_case file inner = case_start (xml file) file ++ inner ++ codes "</testcase>\n"

-- that the file could not be checked
abbrev pub error_element : List ℕ → List ℕ
error_element message = codes "<error" ++ attribute (codes "message") (xml message) ++ codes "/>"

-- ---- test cases of errors

abbrev pub place_in_xml : List ℕ → Position → List ℕ
place_in_xml file at = xml file ++ codes ":" ++ decimal at.line ++ codes ":" ++ decimal at.column

-- that a value fails, by a keyword or another kind of error
abbrev pub failure_element : List ℕ → Position → List ℕ → List ℕ → List ℕ
failure_element file at kind message =
    codes "<failure" ++ attribute (codes "message") (xml message) ++ attribute (codes "type") (xml kind) ++ codes ">"
    ++ place_in_xml file at ++ codes ": " ++ xml message ++ codes "</failure>"

unfoldable pub failed_case : List ℕ → Position → List ℕ → List ℕ → List ℕ
failed_case file at kind message = case_start (place_in_xml file at) file ++ failure_element file at kind message ++ codes "</testcase>\n"

-- the messages are those of the form of text, without the position
abbrev pub junit_form : List ℕ → Form
junit_form file = record {
  said = λ at e. failed_case file at (error_kind_name e) (location_text (instance_path_of e) ++ cut_text (text_of e));
  unread = λ at why. failed_case file at (codes "unread") (shown_text why);
}
