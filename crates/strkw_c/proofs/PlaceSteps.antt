-- A place by value. Assumes `Logic`.
--     Kept, Heap       what a place keeps, and its allocator, as rows.        E        a box of both
--     word, good       a place's machine value, which is of its type
--     place_out, place_in      a place by value is its machine value beside what it owns
--     the_one          what an option has
use mathlib.Core.Bool.{Bool, not}
use mathlib.Core.Path.{◌≡◌, refl, ap, subst, ◌∙◌}
use mathlib.Core.List.{List, [], ◌∷◌, ◌++◌}
use lib.Dec.{T, lit<}
use seplogic.Ra.Ura.{Ura}
use mir.Syntax.{Ty, ty_ptr, impl, tnil, dnil}
use mir.Val.{Val, vstruct, vcons, vnil, of_list, has_ty, WT}
use types.Kit.{Item, Goal, Seq, Step, step, ‵, ◌$◌, fsplit, fjoin, fpick, fpack, feq_i, feq_l, drop}
use types.Logic.{Logic}
use denote.RattleType.{RattleType, Valss}
use denote.RawPtr.{Ptr, RawPtr, block_ptr, null_ptr, ptr_val}
use denote.Param.{layout}
use denote.Steps.{nothing}
use denote.Struct.Struct.{within}
use denote.Struct.Owning.{shape}
use Rattle.std.proofs.BoxSteps.Form.{Bx}
pub use Rattle.std.specs.contracts.alloc.Global.{the_row as Heap}
use Rattle.std.proofs.alloc.Global.TheLaws.{the_row_laws as Heap_laws}
use Rattle.std.specs.contracts.impls.GlobalAllocator.TheImpl.{ghosts}
use Rattle.std.specs.Prelude.{IsSome, None, Option, Some}
use Rattle.strkw_c.specs.Owned.{kept_at}
pub use Rattle.strkw_c.specs.contracts.kept.Kept.{the_row as Kept}
use Rattle.strkw_c.proofs.kept.Kept.TheLaws.{the_row_laws as Kept_laws}
use Rattle.strkw_c.specs.contracts.place.Place as place

-- the box of what is kept, in the memory of the heap
abbrev pub E : Bx
E = record { row = Kept; laws = Kept_laws; al = record { row = Heap; laws = Heap_laws; g = ghosts; d = impl [] tnil dnil; drops = impl [] tnil dnil } }

-- an option that has something has one thing
pub the_one : {X : Type 0} (k : Option X) → IsSome k → (x : X) × (k ≡ Some x)
the_one (Some x) e = (x, refl)
the_one None e = absurd (subst (λ (y : Bool). T (not y)) e tt)

-- a place, as a row
abbrev pub Place : RattleType
Place = place.the_row

-- the value of a place in the machine: its pointer
abbrev pub word : Ptr → Val
word p = vstruct (vcons (ptr_val p) vnil)

-- a value is of a type, and is formed as the machine wants it
abbrev pub Good : Ty → Val → Type 0
Good τ v = T (has_ty τ v) × WT v

-- each pointer is
pub pointer_good : (p : Ptr) → Good ty_ptr (ptr_val p)
pointer_good (block_ptr b o) = (tt, tt)
pointer_good null_ptr = (tt, record { fits = lit< tt })

-- so is the value of each place
pub good : (p : Ptr) → Good (layout Place) (word p)
good (block_ptr b o) = (tt, (tt, tt))
good null_ptr = (tt, (record { fits = lit< tt }, tt))

module _ {M : Type 1} {𝓤 : Ura M} {𝓛 : Logic 𝓤} {K : Type 0} {Γ : List (Item 𝓤)} {G : Goal 𝓤 𝓛.H} where
  -- out of a place by value: its pointer, and what it keeps there
  pub place_out : K → (d : Place.Denot) (vs : List Val) → (vs ≡ word d.at ∷ [] → Seq K 𝓛 (‵ (kept_at Kept d.at d.kept_object) ∷ Γ) G)
      → Seq K 𝓛 (‵ (Place.own_val d vs) ∷ Γ) G
  place_out t d vs k =
      fsplit t $ fpick t (λ vss. fsplit t $ feq_l t (λ ev. fsplit t $ feq_l t (λ ep. drop t $
      k (ev ∙ ap (λ (ps : List Val). vstruct (of_list (ps ++ [])) ∷ []) ep))))

  -- and back into one
  pub place_in : K → (d : Place.Denot) → Step K 𝓛 (‵ (Place.own_val d (word d.at ∷ [])) ∷ Γ) G (‵ (kept_at Kept d.at d.kept_object) ∷ Γ) G
  place_in t d = step (λ s.
      nothing t $ feq_i t (List Val) (ptr_val d.at ∷ []) (ptr_val d.at ∷ []) refl $ fjoin t $ feq_i t (List Val) (word d.at ∷ []) (word d.at ∷ []) refl $
      fjoin t $
      fpack t (Valss (RawPtr ∷ [])) (within (shape place.the_type) (d.at, tt) (word d.at ∷ [])) (ptr_val d.at ∷ [], tt) $ fjoin t $ s)
