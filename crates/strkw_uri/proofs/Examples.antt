-- Texts that are derived, each by its parts.
use Rattle.std.proofs.Common.{ℕ, IsTrue, List, [], inl, inr, refl, codes}
use Rattle.std.specs.List.{AllByRecursion}
use Rattle.strkw_text.specs.Abnf.{◌⨾◌, ◌∣◌, Literal, Repeat, OneOf}
use Rattle.strkw_text.proofs.Classes.{repeat_class}
use Rattle.strkw_text.proofs.Laws.{then, one_of, Repeat-nil, Repeat-cons, Repeat-append, Repeat-weaker}
use Rattle.strkw_uri.specs.Characters.{uri, is_scheme_char, is_reg_name_char}
use Rattle.strkw_uri.specs.Uri.{Encoded, Scheme, Authority, HierPart, QueryAndFragment, Segment, IsUri}
use Rattle.strkw_uri.specs.Template.{is_literal_char, is_varchar, FurtherVarchar, Varname, Varspec, VariableList, Expression, LiteralOrExpression}
use Rattle.strkw_uri.specs.Template.{IsUriTemplate}
use Rattle.strkw_uri.specs.Pointer.{is_unescaped, Escaped, ReferenceToken, IsJsonPointer, IsRelativeJsonPointer}

-- the text "http" is a scheme
http : Scheme (codes "http")
http = then (codes "h") (codes "ttp") (codes "http") (one_of _ 104 refl) ((repeat_class is_scheme_char (codes "ttp")).1 (refl, (refl, (refl, tt)))) refl

-- a text of a name's characters is a run of such characters or percent-encodings
name_run : (text : List ℕ) → AllByRecursion (λ c. IsTrue (is_reg_name_char uri c)) text → Repeat (Encoded (is_reg_name_char uri)) text
name_run text h = Repeat-weaker (OneOf (is_reg_name_char uri)) (Encoded (is_reg_name_char uri)) (λ x o. inl o) text
    ((repeat_class (is_reg_name_char uri) text).1 h)

-- the text "example.com" is an authority
host : Authority uri (codes "example.com")
host =
    then [] (codes "example.com") (codes "example.com") (inl refl)
    (then (codes "example.com") [] (codes "example.com")
    (inr (inr (name_run (codes "example.com") (refl, (refl, (refl, (refl, (refl, (refl, (refl, (refl, (refl, (refl, (refl, tt))))))))))))))
    (inl refl) refl) refl

-- the text "//example.com" is a hier-part
hier_part : HierPart uri (codes "//example.com")
hier_part =
    inl (then (codes "//") (codes "example.com") (codes "//example.com") refl
    (then (codes "example.com") [] (codes "example.com") host (Repeat-nil (Literal (codes "/") ⨾ Segment uri)) refl) refl)

-- an empty text is a query and a fragment, both left out
no_tail : QueryAndFragment uri []
no_tail = then [] [] [] (inl refl) (inl refl) refl

-- the text "http://example.com" is a URI
pub example_uri : IsUri (codes "http://example.com")
example_uri =
    then (codes "http") (codes "://example.com") (codes "http://example.com") http
    (then (codes ":") (codes "//example.com") (codes "://example.com") refl (then (codes "//example.com") [] (codes "//example.com") hier_part no_tail refl)
    refl) refl

-- the text "id" is a list of variables
variable : VariableList (codes "id")
variable =
    let further : Repeat FurtherVarchar (codes "d") = Repeat-cons FurtherVarchar (codes "d") []
    (then [] (codes "d") (codes "d") (inl refl) (inl (one_of is_varchar 100 refl)) refl) (Repeat-nil FurtherVarchar) in
    let name : Varname (codes "id") = then (codes "i") (codes "d") (codes "id") (inl (one_of is_varchar 105 refl)) further refl in
    let spec : Varspec (codes "id") = then (codes "id") [] (codes "id") name (inl refl) refl in
    then (codes "id") [] (codes "id") spec (Repeat-nil (Literal (codes ",") ⨾ Varspec)) refl

-- the text "{id}" is an expression
expression : Expression (codes "{id}")
expression = then (codes "{") (codes "id}") (codes "{id}") refl
    (then (codes "id") (codes "}") (codes "id}") (then [] (codes "id") (codes "id") (inl refl) variable refl) refl refl) refl

-- literal characters are a run of literals and expressions
literal_run : (text : List ℕ) → AllByRecursion (λ c. IsTrue (is_literal_char c)) text → Repeat LiteralOrExpression text
literal_run text h = Repeat-weaker (OneOf is_literal_char) LiteralOrExpression (λ x o. inl (inl o)) text ((repeat_class is_literal_char text).1 h)

-- the text "http://example.com/{id}" is a URI template
pub example_template : IsUriTemplate (codes "http://example.com/{id}")
example_template =
    Repeat-append LiteralOrExpression (codes "http://example.com/") (codes "{id}")
    (literal_run (codes "http://example.com/")
    (refl, (refl, (refl, (refl, (refl, (refl, (refl, (refl, (refl, (refl, (refl, (refl, (refl, (refl, (refl, (refl, (refl, (refl, (refl, tt))))))))))))))))))))
    (Repeat-cons LiteralOrExpression (codes "{id}") [] (inr expression) (Repeat-nil LiteralOrExpression))

-- the text "/a" is a JSON pointer
pub example_pointer : IsJsonPointer (codes "/a")
example_pointer =
    let token : ReferenceToken (codes "a") = Repeat-cons (OneOf is_unescaped ∣ Escaped) (codes "a") [] (inl (one_of is_unescaped 97 refl))
    (Repeat-nil (OneOf is_unescaped ∣ Escaped)) in
    Repeat-cons (Literal (codes "/") ⨾ ReferenceToken) (codes "/a") [] (then (codes "/") (codes "a") (codes "/a") refl token refl)
    (Repeat-nil (Literal (codes "/") ⨾ ReferenceToken))

-- the text "0" is a relative JSON pointer
pub example_relative_pointer : IsRelativeJsonPointer (codes "0")
example_relative_pointer = then (codes "0") [] (codes "0") (inl refl) (inr (Repeat-nil (Literal (codes "/") ⨾ ReferenceToken))) refl
