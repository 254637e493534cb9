-- A schema document, said as a list of schemas. A schema to which a keyword leads is the number of a
-- schema of the list, counted from 0; the document's root is number 0.
use Rattle.std.specs.Prelude.{ℕ, List, Bool, Option}
use Rattle.serde_json.specs.Data.{Data, Num}
use Rattle.strkw_keywords.specs.Errors.{Assertion}
use Rattle.strkw_report.specs.Refusals.{Reason as TextReason}
use Rattle.neldrafi_schema.specs.declared.json_type.JsonType.{JsonType}
use Rattle.neldrafi_schema.specs.declared.limits.Limit.{Limit}
use Rattle.neldrafi_schema.specs.declared.limits.Size.{Size}
use Rattle.neldrafi_schema.specs.declared.node.Part.{Part}
use Rattle.neldrafi_schema.specs.Paths.{Path, Segment}

-- why a schema document is refused
pub data Reason : Type 0 where
  -- the value is not of the kind that its keyword takes, or is no schema where one is to stand
  wrong_type : Reason
  -- the reference leads to no schema
  unresolved_reference : Reason
  -- the reference leads back to itself, and does not enter the instance on the way
  circular_reference : Reason
  unknown_dialect : Reason
  -- a string keyword is refused, as `strkw_keywords` says
  by_string_keyword : TextReason → Reason
  out_of_memory : Reason

-- names that are required where another is there
abbrev pub Dependency : Type 0
Dependency = List ℕ × List (List ℕ)

-- what a keyword says of instances, but for the schemas to which it leads
pub data Rule : Type 0 where
  -- the types; whether a float with no fractional part is an integer
  types : Bool → List JsonType → Rule
  among : List Data → Rule
  equal_to : Data → Rule
  limited : Limit → Num → Rule
  multiple_of : Num → Rule
  sized : Size → ℕ → Rule
  distinct : Rule
  required : List (List ℕ) → Rule
  -- each schema is of the whole instance: that of a reference, all, or where the member of its key is there
  reference : Rule
  all_of : Rule
  dependent : List Dependency → Rule
  -- each schema is of the member of its key, or of the members whose keys its pattern matches
  properties : Rule
  matching : List (List Assertion) → Rule
  -- the schema is of the members to which no such rule beside leads, or there are to be none
  other_members : Rule
  no_other_members : Rule
  -- the schema is of the keys
  member_names : Rule
  -- each schema is of the item at its place; the schema is of the items behind; there are to be none
  placed : Rule
  other_items : Rule
  no_other_items : Rule
  -- by how many of the schemas is the instance valid, or by the schema, how many items
  negation : Data → Rule
  any_of : Rule
  one_of : Rule
  -- so many at least, and at most; and whether the items that are valid count as evaluated
  contains : ℕ → Option ℕ → Bool → Rule
  -- the first schema is of the instance where it is valid by the second, or where it is not
  where_valid : Rule
  where_not_valid : Rule
  -- it reports nothing, but what the schema evaluates and annotates counts
  condition : Rule
  -- the schema is of the members or items that no keyword beside evaluates; without a schema, there
  -- are to be none
  unevaluated : Part → Rule
  -- nothing is said; the schemas have to be such
  held : Rule

-- a schema to which a keyword leads, and its key or place in the keyword's value, if it is part of it
pub record Branch : Type 0 where
  pub key : Option Segment
  pub schema : ℕ

-- what a member of a schema object comes to
pub data Keyword : Type 0 where
  -- the keyword of this name
  rule : List ℕ → Rule → List Branch → Keyword
  -- what the string keyword of this name asserts
  string_keyword : List ℕ → List Assertion → Keyword
  -- what stands there, below the object, has no meaning
  malformed : Path → Reason → Keyword

pub data Body : Type 0 where
  -- the schemas `true` and `false`
  always : Body
  never : Body
  -- an object's keywords, in the order of its members
  keywords : List Keyword → Body
  -- a value that is no schema
  neither : Body

-- what a keyword says for annotation, of any instance, or of strings alone
pub record Note : Type 0 where
  pub keyword : List ℕ
  pub value : Data
  pub of_texts : Bool

-- where a schema is, as a JSON pointer in its document and as a URI, and what its keywords annotate
pub record Header : Type 0 where
  pub location : List ℕ
  pub absolute : List ℕ
  pub notes : List Note

pub record Schema : Type 0 where
  pub header : Header
  pub body : Body
