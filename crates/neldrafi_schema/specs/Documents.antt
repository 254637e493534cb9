-- The documents that a schema is compiled from: its own, and further ones, to which references lead.
use Rattle.std.specs.Prelude.{◌==◌, codes, if◌then◌else◌, ℕ, zero, suc, List, [], ◌∷◌, Option, Some, None, option_and_then, option_map}
use Rattle.std.specs.Prelude.{slice_get, unwrap_or}
use Rattle.serde_json.specs.Data.{Data}
use Rattle.neldrafi_schema.specs.Paths.{Path, document, value_at}

pub record Document : Type 0 where
  pub uri : List ℕ
  pub value : Data

pub record Documents : Type 0 where
  pub schema : Data
  pub further : List Document

-- the base URI of a schema that has none (RFC 3986, section 5.1.4)
abbrev pub schema_uri : List ℕ
schema_uri = codes "json-schema:///"

-- by number: the schema itself, and behind it the others
abbrev pub document_at : Documents → ℕ → Option Document
document_at documents zero = Some (record { uri = schema_uri; value = documents.schema })
document_at documents (suc n) = slice_get documents.further n

-- The URI that was given for the document into which a path leads, whose first step is its number. The
-- schema itself has none.
abbrev pub uri_at : Documents → Path → List ℕ
uri_at documents (document n ∷ path) = if n == 0 then []
    else unwrap_or (option_map (λ d. d.uri) (document_at documents n)) []
uri_at documents other = []

-- the value at such a path
abbrev pub value_in : Documents → Path → Option Data
value_in documents (document n ∷ path) =
    option_and_then (λ d. value_at path d.value) (document_at documents n)
value_in documents other = None
