-- The parts own what the place owned.
use mathlib.Core.Path.{refl, sym, subst, ap, ◌≡◌, ◌∙◌}
use mathlib.Core.List.{List, [], ◌∷◌, ◌++◌}
use mir.Raw.{raw as bare}
use mir.Val.{Val}
use base.Logic.{SProp, ent, id⊢, never, fst∗}
use base.Fml.{ftrue, fsep}
use contract.Monad.{fact}
use contract.Running.{tables}
use prog.Wp.{WpFn}
use types.Logic.{sem}
use types.Kit.{‵, raw, ◌⊛◌, ◌$◌, ◌∵◌, !, qed, keep, move, split, fsplit, fpick, rewrite, join, suffices, use1, done}
use types.Part.{agg, sub, whole}
use types.Run.{stop, fld, of_opd, no_more, and_then, returns, enter}
use types.ByLocal.{alloc_all, pass_all, free_all, look_at, get, get_in, sets}
use denote.Exit.{yes}
use denote.RattleType.{RattleType}
use denote.RawPtr.{Ptr, block_ptr, null_ptr, in_a_block}
use denote.Signature.{plain}
use denote.Steps.{heard, nothing}
use denote.Triple.Walked.{says, Stays, walk_of, stay_dropped, Goes-dropped, ends_at}
use Rattle.std.proofs.alloc.Calls.{handle_tells}
use Rattle.std.proofs.raw_atomic.Walks.{proved_at}
use Rattle.std.proofs.BoxSteps.Form.{τ, word as box_word, box_typed}
use Rattle.std.proofs.BoxSteps.Steps.{box_in}
use Rattle.std.specs.Box.Ownership.{box_owns}
use Rattle.std.specs.Prelude.{IsSome, Option, Some}
use Rattle.std.specs.contracts.impls.GlobalAllocator.TheImpl.{ghosts}
use Rattle.strkw_c.specs.Owned.{kept_at}
use Rattle.strkw_c.specs.contracts.unboxed.Unboxed as unboxed
use Rattle.strkw_c.specs.contracts.place.Place.into_unboxed as f
use Rattle.strkw_c.proofs.PlaceSteps.{E, Kept, Heap, Place, word, good, place_out, the_one}
use Rattle.strkw_c.proofs.place.Place.into_unboxed.Statement.{statement}
use Rattle.strkw_c.proofs.place.Place.into_unboxed.Code as code

-- the parts of a box, as a row
abbrev Parts : RattleType
Parts = unboxed.the_row Kept Heap ghosts

-- the place and the allocator are dropped
abbrev stayed : Stays f.ended.signature.params f.ended.kept
stayed = (stay_dropped (plain (λ _. Place)) yes, (stay_dropped (plain (λ _. Heap)) yes, tt))

-- `Place::into_unboxed` meets its contract
pub into_unboxed_spec : {M : Type 1} → statement M
into_unboxed_spec 𝓤 𝓛 𝓜 𝓡 wired =
    let c = f.clauses 𝓛 𝓜.mem 𝓡.returns in let 𝓣 = tables 𝓤 𝓛.H 𝓜 𝓡 𝓡.env in
    proved_at 𝓛 f.ended stayed c 𝓜 𝓡 (
      Goes-dropped 𝓛 0 (plain (λ _. Place)) yes (λ κs x w. refl),
      (
        Goes-dropped 𝓛 0 (plain (λ _. Heap)) yes
            (λ κs x w. refl),
        tt,
      ),
    )
    f.Key.name code.function (code.unfolded 𝓤 𝓛.H 𝓜 𝓡 wired) (λ z are.
    let v = z.0.3.0 in let a = z.0.3.1.0 in let Post : Val → SProp 𝓤 = (walk_of 𝓛 f.ended stayed c).post z in
    let Run : List Val → SProp 𝓤 = λ us. WpFn 𝓤 𝓛.H 𝓣.C 𝓣.Λ code.function us Post in
    qed 𝓛 ((‵ ftrue ⊛ ‵ (fsep (Place.own_val v z.0.4.0) (fsep (Heap.own_val a z.0.4.1.0) ftrue))) ∷ raw (fact 𝓤 (IsSome v.kept_object)) ∷ []) ∵
    move ! (1 ∷ []) $ heard ! (IsSome v.kept_object) (λ some. let x = (the_one v.kept_object some).0 in
    let full : v.kept_object ≡ Some x = (the_one v.kept_object some).1 in split ! $
    move ! (1 ∷ []) $ fsplit ! $ place_out ! v z.0.4.0 (λ ws.
    rewrite ! 0 (λ (k : Option Kept.Denot). ‵ (kept_at Kept v.at k)) full refl $ fpick ! (λ heap.
    in_a_block ! v.at (λ p. box_owns (ghosts.dealloc_token heap) Kept p x) (fst∗ 𝓤 (never 𝓤) (sem 𝓛 (ghosts.dealloc_token heap (bare (τ E)) null_ptr)))
    (λ b o at.
    move ! (1 ∷ []) $ fsplit ! $ handle_tells E.al ! a z.0.4.1.0 (λ h eh fits. keep ! (0 ∷ 2 ∷ []) $
    let p : Ptr = block_ptr b o in let us : z.0.4.0 ≡ word p ∷ [] = ws ∙ ap (λ (q : Ptr). word q ∷ []) at in let args : List Val = word p ∷ h ∷ [] in
    -- [the handle; the value and its token]
    suffices ! (Run args) (subst (λ (vs : List Val). ent 𝓤 (Run args) (Run vs)) (sym (λ i. us i ++ (eh i ++ []))) (id⊢ 𝓤 (Run args))) $
    enter ! _ _ _ _ _ $ alloc_all ! (λ l. pass_all ! refl (good p, (fits, tt)) $
    sets ! (of_opd ! (get_in ! (fld ! refl (stop !)) (sub ! 0 refl (whole !)))) refl (tt, tt) $ sets ! (of_opd ! (get ! refl)) refl (tt, tt) $
    sets ! (agg ! (and_then ! (get ! refl) (and_then ! (get ! refl) (no_more !)))) refl (box_typed E h b o fits) $ returns ! (look_at ! 0 refl) $
    free_all ! refl $
    move ! (1 ∷ []) $ fsplit ! $ box_in E ! (record { ptr = p; alloc = a; value = x }) b o x refl refl $
    let made : Parts.Denot = record { at = p; alloc = a; value = x } in use1 𝓛 (‵ (Parts.own_val made (box_word E h b o ∷ []))) (id⊢ 𝓤 _) $
    suffices ! _ (ends_at 𝓛 f.ended stayed c z (box_word E h b o) made (tt, (tt, tt)) (tt, (tt, tt))) $ says ! full $
    nothing ! $ nothing ! $ join ! $ nothing ! $ join ! $ join ! $ nothing ! $ join ! $ done !)))))))
