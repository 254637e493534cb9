-- Steps that are enough for an instance.
use Rattle.std.proofs.Common.{◌≡◌, ℕ, suc, ◌<◌, ◌≤◌, List, [], ◌∷◌, length, subst, zero, Bool, true, false, Some, refl, arith}
use Rattle.std.proofs.lemmas.Bool.{false≢true}
use Rattle.std.specs.Prelude.{◌&&◌, if◌then◌else◌, slice_get}
use Rattle.std.specs.List.{AllByRecursion, flat_map, list_all}
use Rattle.serde_json.specs.Data.{Data, depth}
use Rattle.neldrafi_schema.specs.Schemas.{Keyword, rule, string_keyword, malformed, Rule, types, among, equal_to, limited, multiple_of, sized, distinct, required, reference, all_of, dependent, properties, matching, other_members, no_other_members, member_names, placed, other_items, no_other_items, negation, any_of, one_of, contains, where_valid, where_not_valid, condition, unevaluated, held, Branch}
use Rattle.neldrafi_schema.specs.Schemas.{Body, always, never, keywords, neither, Schema}
use Rattle.neldrafi_schema.specs.Rules.{Child, applied, on_each, part_of, tested}
use Rattle.neldrafi_schema.specs.declared.node.Part.{Part}
use Rattle.neldrafi_schema.specs.Meaning.{enough}
use Rattle.neldrafi_schema.specs.machine.Ready.{steps_for}
use Rattle.neldrafi_schema.specs.machine.Sound.{AreSound, IsSoundBody, IsSoundKeyword}
use Rattle.neldrafi_schema.specs.Refusals.{ends, body_ends, keywords_end, in_place, is_in_place, schema_ends, schemas_in}
use Rattle.neldrafi_schema.proofs.Depth.{enough_steps, fewer_steps}
use Rattle.neldrafi_schema.proofs.Within.{Deep, Hold, applied_hold, left_hold, tested_hold}

pub and_left : (a b : Bool) → (a && b) ≡ true → a ≡ true
and_left true b e = refl
and_left false b e = e

pub and_right : (a b : Bool) → (a && b) ≡ true → b ≡ true
and_right true b e = e
and_right false b e = absurd (false≢true e)

abbrev pub IsLess : Data → Child → Type 0
IsLess d c = depth c.1 < depth d

-- what is required of schemas at values, of all to which a schema leads
module _ (Fine : ℕ → Data → Type 0) where
  abbrev pub IsKeywordFine : Data → List Keyword → Keyword → Type 0
  IsKeywordFine d beside (rule word r bs) = Hold Fine (tested r bs d) × ((vs : List Bool) → Hold Fine (applied beside r bs d vs))
      × ((x : Part) → part_of r ≡ Some x → (left : List Child) → AllByRecursion (IsLess d) left → Hold Fine (flat_map (on_each left) bs))
  IsKeywordFine d beside (string_keyword word asserted) = Unit {0}
  IsKeywordFine d beside (malformed path why) = ⊥

  abbrev pub IsBodyFine : Data → Body → Type 0
  IsBodyFine d always = Unit {0}
  IsBodyFine d never = Unit {0}
  IsBodyFine d (keywords ks) = AllByRecursion (IsKeywordFine d ks) ks
  IsBodyFine d neither = ⊥

-- a rule that speaks of what is left is of children
pub enters_instance : (r : Rule) (x : Part) → part_of r ≡ Some x → is_in_place r ≡ false
enters_instance (types f ts) x e = cc
enters_instance (among ds) x e = cc
enters_instance (equal_to d) x e = cc
enters_instance (limited l m) x e = cc
enters_instance (multiple_of m) x e = cc
enters_instance (sized s n) x e = cc
enters_instance distinct x e = cc
enters_instance (required names) x e = cc
enters_instance reference x e = cc
enters_instance all_of x e = cc
enters_instance (dependent names) x e = cc
enters_instance properties x e = cc
enters_instance (matching ps) x e = cc
enters_instance other_members x e = cc
enters_instance no_other_members x e = cc
enters_instance member_names x e = cc
enters_instance placed x e = cc
enters_instance other_items x e = cc
enters_instance no_other_items x e = cc
enters_instance (negation schema) x e = cc
enters_instance any_of x e = cc
enters_instance one_of x e = cc
enters_instance (contains least most counts) x e = cc
enters_instance where_valid x e = cc
enters_instance where_not_valid x e = cc
enters_instance condition x e = cc
enters_instance (unevaluated y) x e = refl
enters_instance held x e = cc

module _ (schemas : List Schema) (sound : AreSound schemas) where
  -- within so many steps, the ways from a schema that do not enter the instance end
  abbrev pub Fits : ℕ → ℕ → Data → Type 0
  Fits k n d = (s : ℕ) × (ends schemas s n ≡ true) × (steps_for (length schemas) d s ≤ k)

  -- the document's
  pub enough_fits : (d : Data) → Fits (enough schemas d) 0 d
  enough_fits d = (length schemas, sound.end 0 sound.some, enough_steps (length schemas) (depth d))

  -- what a schema leads to fits in a step less
  module _ (k s : ℕ) (d : Data) (fits : steps_for (length schemas) d (suc s) ≤ suc k) where
    here_fit : (bs : List Branch) → list_all (ends schemas s) (schemas_in bs) ≡ true → AllByRecursion (λ b. Fits k b.schema d) bs
    here_fit [] e = tt
    here_fit (b ∷ bs) e = ((s, and_left (ends schemas s b.schema) _ e, omega arith), here_fit bs (and_right (ends schemas s b.schema) _ e))

    deep_fit : (bs : List Branch) → AllByRecursion (λ b. b.schema < length schemas) bs → AllByRecursion (Deep (Fits k) d) bs
    deep_fit [] inside = tt
    deep_fit (b ∷ bs) inside =
        ((λ v less. (length schemas, sound.end b.schema inside.0, omega (arith, fewer_steps (length schemas) (depth v) (depth d) 0 less))), deep_fit bs inside.1)

    placed_end : (b : Bool) (bs : List Branch) → list_all (ends schemas s) (if b then schemas_in bs else []) ≡ true → b ≡ true
        → list_all (ends schemas s) (schemas_in bs) ≡ true
    placed_end true bs e h = e
    placed_end false bs e h = absurd (false≢true h)

    keyword_fits : (beside : List Keyword) (key : Keyword) → IsSoundKeyword (length schemas) key → list_all (ends schemas s) (in_place key) ≡ true
        → IsKeywordFine (Fits k) d beside key
    keyword_fits beside (rule word r bs) good e =
        let here : is_in_place r ≡ true → AllByRecursion (λ b. Fits k b.schema d) bs = λ h. here_fit bs (placed_end (is_in_place r) bs e h) in
        let below : is_in_place r ≡ false → AllByRecursion (Deep (Fits k) d) bs = λ h. deep_fit bs good in (
          tested_hold (Fits k) d r bs here below,
          λ vs. applied_hold (Fits k) d beside r bs vs here below,
          λ x p left less. left_hold (Fits k) d left bs less (below (enters_instance r x p)),
        )
    keyword_fits beside (string_keyword word asserted) good e = tt
    keyword_fits beside (malformed path why) good e = good

    keywords_fit : (beside ks : List Keyword) → AllByRecursion (IsSoundKeyword (length schemas)) ks → keywords_end (ends schemas s) ks ≡ true
        → AllByRecursion (IsKeywordFine (Fits k) d beside) ks
    keywords_fit beside [] good e = tt
    keywords_fit beside (key ∷ ks) good e =
        (keyword_fits beside key good.0 (and_left _ _ e), keywords_fit beside ks good.1 (and_right (list_all (ends schemas s) (in_place key)) _ e))

    pub body_fits : (body : Body) → IsSoundBody (length schemas) body → body_ends (ends schemas s) body ≡ true
        → IsBodyFine (Fits k) d body
    body_fits always good e = tt
    body_fits never good e = tt
    body_fits (keywords ks) good e = keywords_fit ks ks good e
    body_fits neither good e = good

  -- and so does what it leads to, in as many
  pub body_fits_too : (k n : ℕ) (d : Data) → Fits k n d → (t : Schema) → slice_get schemas n ≡ Some t → IsBodyFine (Fits k) d t.body
  unfolding ends
  body_fits_too k n d (zero, e, fits) t is = absurd (false≢true e)
  body_fits_too k n d (suc s, e, fits) t is = body_fits k s d (omega (arith, fits)) t.body (sound.each n t is)
      (subst (λ o. schema_ends (ends schemas s) o ≡ true) is e)
