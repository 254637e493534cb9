-- A place of a box's parts owns what they owned.
use mathlib.Core.Path.{refl, sym, subst}
use mathlib.Core.List.{List, [], ◌∷◌, ◌++◌}
use mir.Val.{Val}
use base.Logic.{SProp, ent, id⊢}
use base.Fml.{ftrue, fsep}
use prog.Wp.{WpFn}
use types.Kit.{‵, ◌⊛◌, ◌$◌, ◌∵◌, !, qed, keep, move, split, fsplit, fjoin, fpack, join, suffices, done}
use types.Part.{agg, sub, whole}
use types.Run.{stop, fld, of_opd, no_more, and_then, returns, enter}
use types.ByLocal.{alloc_all, pass_all, free_all, look_at, get, get_in, sets}
use contract.Running.{tables}
use denote.Exit.{yes}
use denote.RattleType.{RattleType}
use denote.RawPtr.{Ptr, block_ptr}
use denote.Signature.{plain}
use denote.Steps.{nothing}
use denote.Triple.Walked.{says, Stays, walk_of, stay_dropped, Goes-dropped, ends_at}
use Rattle.std.proofs.raw_atomic.Walks.{proved_at}
use Rattle.std.proofs.BoxSteps.Form.{D, B, word as box_word, box_typed}
use Rattle.std.proofs.BoxSteps.Steps.{box_out}
use Rattle.std.specs.Box.Ownership.{box_owns}
use Rattle.std.specs.declared.alloc.Global.{Global}
use Rattle.std.specs.declared.option.Option.TheVariants.{Some}
use Rattle.std.specs.contracts.impls.GlobalAllocator.TheImpl.{ghosts}
use Rattle.strkw_c.specs.contracts.unboxed.Unboxed as unboxed
use Rattle.strkw_c.specs.contracts.place.Place.of as f
use Rattle.strkw_c.proofs.PlaceSteps.{E, Kept, Heap, Place, word, good, place_in}
use Rattle.strkw_c.proofs.place.Place.of.Statement.{statement}
use Rattle.strkw_c.proofs.place.Place.of.Code as code

-- the parts of a box, as a row
abbrev Parts : RattleType
Parts = unboxed.the_row Kept Heap ghosts

-- the parts are dropped
abbrev stayed : Stays f.ended.signature.params f.ended.kept
stayed = (stay_dropped (plain (λ _. Parts)) yes, tt)

-- `Place::of` meets its contract
pub of_spec : {M : Type 1} → statement M
of_spec 𝓤 𝓛 𝓜 𝓡 wired =
    let c = f.clauses 𝓛 𝓜.mem 𝓡.returns in let 𝓣 = tables 𝓤 𝓛.H 𝓜 𝓡 𝓡.env in
    proved_at 𝓛 f.ended stayed c 𝓜 𝓡 (Goes-dropped 𝓛 0 (plain (λ _. Parts)) yes (λ κs x w. refl), tt) f.Key.name code.function
    (code.unfolded 𝓤 𝓛.H 𝓜 𝓡 wired) (λ z are.
    let v = z.0.3.0 in let x = v.value in let Post : Val → SProp 𝓤 = (walk_of 𝓛 f.ended stayed c).post z in
    let whole_box : D E = record { ptr = v.at; alloc = v.alloc; value = x } in
    qed 𝓛 ((‵ ftrue ⊛ ‵ (fsep ((B E).own_val whole_box z.0.4.0) ftrue)) ∷ ‵ ftrue ∷ []) ∵ split ! $ move ! (1 ∷ []) $ fsplit ! $ keep ! (0 ∷ []) $
    box_out E ! whole_box z.0.4.0 (λ b o h e ws fits. fjoin ! $ keep ! (0 ∷ []) $
    let w = box_word E h b o in let p : Ptr = block_ptr b o in let Run : List Val → SProp 𝓤 = λ us. WpFn 𝓤 𝓛.H 𝓣.C 𝓣.Λ code.function us Post in
    fpack ! Global (λ heap. box_owns (ghosts.dealloc_token heap) Kept p x) v.alloc $
    suffices ! (Run (w ∷ [])) (subst (λ (us : List Val). ent 𝓤 (Run (w ∷ [])) (Run us)) (sym (λ i. ws i ++ [])) (id⊢ 𝓤 (Run (w ∷ [])))) $
    enter ! _ _ _ _ _ $ alloc_all ! (λ l. pass_all ! refl (box_typed E h b o fits, tt) $
    sets ! (of_opd ! (get_in ! (fld ! refl (stop !)) (sub ! 0 refl (whole !)))) refl (tt, tt) $ sets ! (of_opd ! (get ! refl)) refl (tt, tt) $
    sets ! (agg ! (and_then ! (get ! refl) (no_more !))) refl (good p) $ returns ! (look_at ! 0 refl) $ free_all ! refl $
    let made : Place.Denot = record { at = p; kept_object = Some x } in place_in ! made $
    suffices ! _ (ends_at 𝓛 f.ended stayed c z (word p) made (tt, tt) (tt, tt)) $ says ! refl $
    nothing ! $ nothing ! $ join ! $ join ! $ nothing ! $ join ! $ done !)))
