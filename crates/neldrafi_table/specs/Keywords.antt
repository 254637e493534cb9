-- Keywords of a schema and of the schemas to which its references lead.
use Rattle.std.specs.Prelude.{◌==◌, ℕ, zero, suc, List, [], ◌∷◌, Option, Some, None, codes, if◌then◌else◌, option_and_then}
use Rattle.std.specs.Option.{option_or}
use Rattle.std.specs.Str.{byte}
use Rattle.serde_json.specs.Data.{Data}
use Rattle.serde_json.specs.Find.{as_str, get, pointer}

-- the fragment of a reference that is nothing else (RFC 3986, section 4.4)
abbrev pub fragment : List ℕ → Option (List ℕ)
fragment [] = None
fragment (c ∷ cs) = if c == byte "#" then Some cs else None

-- the schema to which `$ref` leads within the document, by a JSON pointer
-- (Core 2020-12, section 8.2.3.1; RFC 6901, section 6)
abbrev pub referenced : Data → Data → Option Data
referenced document schema = option_and_then (λ place. pointer place document)
    (option_and_then fragment (option_and_then as_str (get (codes "$ref") schema)))

-- The value of a keyword in the schema to which the reference of a schema leads, or else in the schema
-- itself, over no more references than this. (Up to draft 7 nothing beside a reference counts.)
abbrev pub keyword_of : ℕ → Data → List ℕ → Data → Option Data
keyword_of zero document name schema = get name schema
keyword_of (suc n) document name schema = option_or
    (option_and_then (keyword_of n document name) (referenced document schema)) (get name schema)
