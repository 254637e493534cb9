-- Errors as results of SARIF 2.1.0 (OASIS, "Static Analysis Results Interchange Format").
use Rattle.std.specs.Prelude.{ℕ, List, codes}
use Rattle.serde_json.specs.Data.{Data, object, member, no_members, string, number, unsigned}
use Rattle.neldrafi_position.specs.declared.position.Position.{Position}
use Rattle.neldrafi_schema.specs.Errors.{Error, instance_path_of, text_of}
use Rattle.neldrafi_check.specs.Escapes.{escaped_text}
use Rattle.neldrafi_check.specs.Forms.{Form, line_of}
use Rattle.neldrafi_check.specs.Kinds.{error_kind_name}
use Rattle.neldrafi_check.specs.Objects.{array_of_one}
use Rattle.neldrafi_check.specs.Uris.{uri_of}
use Rattle.neldrafi_check.specs.declared.escapes.Syntax.TheVariants.{SarifMessage}

-- `artifactLocation` (section 3.4)
abbrev pub artifact_location : List ℕ → Data
artifact_location file = object (member (codes "uri") (string (uri_of file)) no_members)

-- `region` (section 3.30), with columns of `unicodeCodePoints`
abbrev pub region : Position → Data
region at =
    object (member (codes "startColumn") (number (unsigned at.column))
    (member (codes "startLine") (number (unsigned at.line)) no_members))

-- where something is in a file: `physicalLocation` (section 3.29)
abbrev pub physical_of : Data → Data → Data
physical_of artifact place = object (member (codes "artifactLocation") artifact (member (codes "region") place no_members))

abbrev pub physical_location : List ℕ → Position → Data
physical_location file at = physical_of (artifact_location file) (region at)

-- where a value is in its document: `logicalLocation` (section 3.33)
abbrev pub logical_location : List ℕ → Data
logical_location path = object (member (codes "fullyQualifiedName") (string path) no_members)

-- `message` (section 3.11)
abbrev pub message_object : List ℕ → Data
message_object text = object (member (codes "text") (string (escaped_text SarifMessage text)) no_members)

-- `result` (section 3.27) at one location
abbrev pub result_of : Data → List ℕ → Data → Data
result_of place rule message =
    object (member (codes "level") (string (codes "error"))
    (member (codes "locations") (array_of_one place)
    (member (codes "message") message
    (member (codes "ruleId") (string rule) no_members))))

-- `location` (section 3.28) of a value, and of a line that has no value
abbrev pub location_of : Data → Data → Data
location_of logical physical =
    object (member (codes "logicalLocations") (array_of_one logical) (member (codes "physicalLocation") physical no_members))

abbrev pub value_location : List ℕ → Position → List ℕ → Data
value_location file at path = location_of (logical_location path) (physical_location file at)

abbrev pub line_location : List ℕ → Position → Data
line_location file at = object (member (codes "physicalLocation") (physical_location file at) no_members)

abbrev pub error_result : List ℕ → Position → Error → Data
error_result file at e = result_of (value_location file at (instance_path_of e)) (error_kind_name e) (message_object (text_of e))

abbrev pub unread_result : List ℕ → Position → List ℕ → Data
unread_result file at why = result_of (line_location file at) (codes "unread") (message_object why)

abbrev pub sarif_form : List ℕ → Form
sarif_form file = record {
  said = λ at e. line_of (error_result file at e);
  unread = λ at why. line_of (unread_result file at why);
}
