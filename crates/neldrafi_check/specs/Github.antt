-- Errors as annotations of GitHub: the workflow commands `error`, `warning` and `notice` (docs.github.com, "Workflow
-- commands for GitHub Actions").
use Rattle.std.specs.Prelude.{ℕ, List, [], ◌++◌, Option, None, Some, codes, decimal}
use Rattle.std.specs.Borrow.{Bor}
use Rattle.neldrafi_position.specs.declared.position.Position.{Position}
use Rattle.neldrafi_schema.specs.Errors.{instance_path_of, text_of}
use Rattle.neldrafi_check.specs.Cutting.{cut_text}
use Rattle.neldrafi_check.specs.Escapes.{escaped_text}
use Rattle.neldrafi_check.specs.Forms.{Form, location_text}
use Rattle.neldrafi_check.specs.Shown.{shown_text}
use Rattle.neldrafi_check.specs.declared.escapes.Syntax.TheVariants.{CommandMessage, CommandProperty}
use Rattle.neldrafi_check.specs.declared.github.AnnotationLevel.{AnnotationLevel}
use Rattle.neldrafi_check.specs.declared.github.AnnotationLevel.TheVariants.{Error, Notice, Warning}

abbrev pub level_name : AnnotationLevel → List ℕ
level_name Error = codes "error"
level_name Warning = codes "warning"
level_name Notice = codes "notice"

-- a command on a line: its name, its properties and its message
abbrev pub annotation_text : AnnotationLevel → List ℕ → List ℕ → List ℕ
annotation_text level properties message =
    codes "::" ++ level_name level ++ properties ++ codes "::" ++ escaped_text CommandMessage message ++ codes "\n"

abbrev pub file_property : List ℕ → List ℕ
file_property file = codes " file=" ++ escaped_text CommandProperty file

-- the property of a file, if one is meant
abbrev pub file_properties : Option (Bor (List ℕ)) → List ℕ
file_properties None = []
file_properties (Some file) = file_property file.now

abbrev pub position_properties : List ℕ → Position → List ℕ
position_properties file at = file_property file ++ codes ",line=" ++ decimal at.line ++ codes ",col=" ++ decimal at.column

-- the messages are those of the form of text, without the position
abbrev pub github_form : List ℕ → Form
github_form file = record {
  said = λ at e. annotation_text Error (position_properties file at) (location_text (instance_path_of e) ++ cut_text (text_of e));
  unread = λ at why. annotation_text Error (position_properties file at) (shown_text why);
}
