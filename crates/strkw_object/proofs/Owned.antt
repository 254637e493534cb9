-- On values that are owned, and the objects that have them.
use Rattle.std.proofs.Common.{◌≡◌, ℕ, List, Bool, true, false, bytes_eq, codes, Some, refl, sym, ap, ◌∙◌, subst, true≢false, if◌then◌else◌}
use Rattle.std.proofs.lemmas.Slice.Eq.{bytes_eq-Decides}
use Rattle.serde_json.specs.Data.{Data, Members, put}
use Rattle.serde_json.specs.Find.{get_member}
use Rattle.serde_json.proofs.Views.{get_member-put, get_member-put_other}
use Rattle.strkw_keywords.specs.declared.keyword.Keyword.{Keyword}
use Rattle.strkw_keywords.specs.declared.keyword.Keyword.TheVariants.{ContentMediaType, ContentEncoding, ContentSchema, Format, MinLength, MaxLength, Pattern}
use Rattle.strkw_keywords.specs.Keywords.{keyword_name}
use Rattle.strkw_keywords.specs.Object.{keywords}
use Rattle.strkw_keywords.specs.declared.values.Values.{Values}
use Rattle.strkw_keywords.specs.Values.{AreValuesOf, held_value, members_at}
use Rattle.strkw_keywords.specs.Without.{KeepsOthers}
use Rattle.strkw_keywords.proofs.Without.{same_others}
use Rattle.strkw_keywords.proofs.Held.{held_value_is_member}
use Rattle.strkw_object.specs.declared.values.OwnedValues.{OwnedValues}
use Rattle.strkw_object.specs.Values.{owned_value, AreOthersOf, AreOwnedOf}

-- ---- keywords have names of their own

-- a keyword by its name
abbrev by_its_name : List ℕ → Keyword
by_its_name name =
    if bytes_eq name (codes "contentMediaType") then ContentMediaType else (if bytes_eq name (codes "contentEncoding") then ContentEncoding
    else (if bytes_eq name (codes "contentSchema") then ContentSchema else (if bytes_eq name (codes "format") then Format
    else (if bytes_eq name (codes "minLength") then MinLength else (if bytes_eq name (codes "maxLength") then MaxLength else Pattern)))))

-- is the one that has it
its_own : (k : Keyword) → by_its_name (keyword_name k) ≡ k
its_own ContentMediaType = refl
its_own ContentEncoding = refl
its_own ContentSchema = refl
its_own Format = refl
its_own MinLength = refl
its_own MaxLength = refl
its_own Pattern = refl

-- so two keywords of one name are the same
one_name : (j k : Keyword) → keyword_name j ≡ keyword_name k → j ≡ k
one_name j k same = sym (its_own j) ∙ ap by_its_name same ∙ its_own k

-- ---- one member after another

-- with the value at a keyword put in, the values are those of the object with this member
pub owned_put : (ms : Members) (k : Keyword) (d : Data) (v w : OwnedValues) → owned_value w k ≡ Some d
    → ((j : Keyword) → (j ≡ k → ⊥) → owned_value w j ≡ owned_value v j)
    → AreOwnedOf ms v → AreOwnedOf (put (keyword_name k) d ms) w
owned_put ms k d v w own others are = record { same = λ j. by_test j (bytes_eq (keyword_name j) (keyword_name k)) refl }
  where
    -- whether a keyword is that one, as its name tells
    by_test : (j : Keyword) (b : Bool) → bytes_eq (keyword_name j) (keyword_name k) ≡ b → owned_value w j ≡ get_member (keyword_name j)
        (put (keyword_name k) d ms)
    by_test j true is =
        let same : j ≡ k = one_name j k ((bytes_eq-Decides (keyword_name j) (keyword_name k)).0 is) in
        subst (λ i. owned_value w i ≡ get_member (keyword_name i) (put (keyword_name k) d ms)) (sym same) (own ∙ sym (get_member-put (keyword_name k) d ms))
    by_test j false is =
        let apart = λ (same : keyword_name j ≡ keyword_name k). absurd (true≢false (sym ((bytes_eq-Decides (keyword_name j) (keyword_name k)).1 same) ∙ is)) in
        others j (λ same. apart (ap keyword_name same)) ∙ are.same j ∙ sym (get_member-put_other (keyword_name j) (keyword_name k) d ms apart)

-- a member that is at none of the keywords changes none of them
pub owned_beside : (ms : Members) (name : List ℕ) (d : Data) (v : OwnedValues) → ((k : Keyword) → name ≡ keyword_name k → ⊥)
    → AreOwnedOf ms v → AreOwnedOf (put name d ms) v
owned_beside ms name d v none are = record {
  same = λ k. are.same k ∙ sym (get_member-put_other (keyword_name k) name d ms (λ same. none k (sym same)));
}

-- ---- the values at the keywords other than `contentSchema`

-- they are those of the object whose values were owned before one was taken out
pub others_owned : (ms : Members) (values taken : OwnedValues) (others : Values) → AreOwnedOf ms values
    → ((k : Keyword) → (k ≡ ContentSchema → ⊥) → owned_value taken k ≡ owned_value values k) → ((k : Keyword) → held_value others k ≡ owned_value taken k)
    → AreOthersOf ms others
others_owned ms values taken others are same lent = record { same = λ k other. lent k ∙ same k other ∙ are.same k }

-- and those of an object without that value are those of the object
pub others_held : (ms left : Members) (others : Values) → KeepsOthers ms left → AreValuesOf left others → AreOthersOf ms others
others_held ms left others keeps are = record { same = λ k other. are.same k ∙ same_others ms left keeps k other }

-- ---- the object that values make

-- an object that has these values, and nothing else
pub object_of : (values : OwnedValues) → (ms : Members) × AreOwnedOf ms values
object_of values = (members_at (owned_value values) keywords, record { same = held_value_is_member (owned_value values) })
