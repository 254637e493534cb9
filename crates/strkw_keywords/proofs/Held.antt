-- On the members that values make.
use Rattle.std.proofs.Common.{◌≡◌, List, [], ◌∷◌, ◌++◌, true, false, Option, Some, None, Ordering, Less, Equal, Greater, rules, refl, sym, ◌∙◌}
use Rattle.std.specs.Cmp.Lexicographic.{slice_cmp}
use Rattle.std.specs.List.{AllByRecursion}
use Rattle.std.specs.Ordering.{match_ordering, nat_cmp}
use Rattle.serde_json.specs.Data.{Data, Members}
use Rattle.serde_json.specs.Find.{get_member}
use Rattle.strkw_keywords.specs.declared.keyword.Keyword.{Keyword}
use Rattle.strkw_keywords.specs.declared.keyword.Keyword.TheVariants.{ContentMediaType, ContentEncoding, ContentSchema, Format, MinLength, MaxLength, Pattern}
use Rattle.strkw_keywords.specs.declared.values.Values.{Values}
use Rattle.strkw_keywords.specs.Keywords.{keyword_name}
use Rattle.strkw_keywords.specs.Object.{keywords}
use Rattle.strkw_keywords.specs.Values.{AreValuesOf, held_value, with_value, members_at, members_of}

-- the name of a keyword beside that of another one
abbrev names : Keyword → Keyword → Ordering
names k w = slice_cmp nat_cmp (keyword_name k) (keyword_name w)

-- the two names differ
abbrev Differ : Keyword → Keyword → Type 0
Differ k w = match_ordering (names k w) true false true ≡ true

-- where they do, the first of the members is not the one that is looked for
passed_over : (o : Ordering) (x y : Option Data) → match_ordering o true false true ≡ true → match_ordering o x y x ≡ x
passed_over Less x y differ = refl
passed_over Equal x y differ = absurd (cc)
passed_over Greater x y differ = refl

-- a value in front of the members is looked past at another keyword
past : (k w : Keyword) (o : Option Data) (ms : Members) → Differ k w → get_member (keyword_name k) (with_value w o ms) ≡ get_member (keyword_name k) ms
past k w None ms differ = refl
past k w (Some d) ms differ = passed_over (names k w) (get_member (keyword_name k) ms) (Some d) differ

-- and found at its own
found : (k : Keyword) (o : Option Data) (ms : Members) → names k k ≡ Equal → None ≡ get_member (keyword_name k) ms
    → o ≡ get_member (keyword_name k) (with_value k o ms)
found k None ms same none = none
found k (Some d) ms same none = rw same refl

-- there is no value at a keyword that is not among those of the members
none_at : (at : Keyword → Option Data) (k : Keyword) (ks : List Keyword) → AllByRecursion (Differ k) ks → None ≡ get_member (keyword_name k) (members_at at ks)
none_at at k [] differ = refl
none_at at k (w ∷ ks) (differ, more) = none_at at k ks more ∙ sym (past k w (at w) (members_at at ks) differ)

-- and one that is among them has the value there
held_at : (at : Keyword → Option Data) (k : Keyword) (before after : List Keyword) → names k k ≡ Equal
    → AllByRecursion (Differ k) before → AllByRecursion (Differ k) after
    → at k ≡ get_member (keyword_name k) (members_at at (before ++ k ∷ after))
held_at at k [] after same none differ = found k (at k) (members_at at after) same (none_at at k after differ)
held_at at k (w ∷ ws) after same (differ, more) later =
    held_at at k ws after same more later ∙ sym (past k w (at w) (members_at at (ws ++ k ∷ after)) differ)

-- what is there at a keyword is the value of the object that has these values, and nothing else
pub held_value_is_member : (at : Keyword → Option Data) (k : Keyword) → at k ≡ get_member (keyword_name k) (members_at at keywords)
held_value_is_member at ContentMediaType = held_at at ContentMediaType [] (ContentEncoding ∷ ContentSchema ∷ Format ∷ MinLength ∷ MaxLength ∷ Pattern ∷ [])
    refl (search rules) (search rules)
held_value_is_member at ContentEncoding = held_at at ContentEncoding (ContentMediaType ∷ []) (ContentSchema ∷ Format ∷ MinLength ∷ MaxLength ∷ Pattern ∷ [])
    refl (search rules) (search rules)
held_value_is_member at ContentSchema = held_at at ContentSchema (ContentMediaType ∷ ContentEncoding ∷ []) (Format ∷ MinLength ∷ MaxLength ∷ Pattern ∷ [])
    refl (search rules) (search rules)
held_value_is_member at Format = held_at at Format (ContentMediaType ∷ ContentEncoding ∷ ContentSchema ∷ []) (MinLength ∷ MaxLength ∷ Pattern ∷ []) refl
    (search rules) (search rules)
held_value_is_member at MinLength = held_at at MinLength (ContentMediaType ∷ ContentEncoding ∷ ContentSchema ∷ Format ∷ []) (MaxLength ∷ Pattern ∷ []) refl
    (search rules) (search rules)
held_value_is_member at MaxLength = held_at at MaxLength (ContentMediaType ∷ ContentEncoding ∷ ContentSchema ∷ Format ∷ MinLength ∷ []) (Pattern ∷ []) refl
    (search rules) (search rules)
held_value_is_member at Pattern = held_at at Pattern (ContentMediaType ∷ ContentEncoding ∷ ContentSchema ∷ Format ∷ MinLength ∷ MaxLength ∷ []) [] refl
    (search rules) (search rules)

-- and so that of each object that has the values
pub same_members : (values : Values) (ms : Members) → AreValuesOf ms values → (k : Keyword)
    → get_member (keyword_name k) (members_of values) ≡ get_member (keyword_name k) ms
same_members values ms are k = sym (held_value_is_member (held_value values) k) ∙ are.same k
