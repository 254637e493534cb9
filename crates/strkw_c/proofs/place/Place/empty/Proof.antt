-- An empty place owns nothing.
use mathlib.Core.Path.{refl}
use mathlib.Core.List.{[], ◌∷◌}
use base.Fml.{ftrue}
use types.Kit.{‵, ◌⊛◌, ◌$◌, ◌∵◌, !, qed, keep, join, suffices, done}
use types.Part.{agg}
use types.Run.{lit, no_more, and_then, returns, enter}
use types.ByLocal.{alloc_all, pass_all, free_all, look_at, sets}
use denote.RawPtr.{null_ptr}
use denote.Steps.{nothing}
use denote.Triple.Walked.{says, Stays, ends_at}
use Rattle.std.proofs.raw_atomic.Walks.{proved_at}
use Rattle.std.specs.declared.option.Option.TheVariants.{None}
use Rattle.strkw_c.proofs.PlaceSteps.{Place, word, good, place_in}
use Rattle.strkw_c.specs.contracts.place.Place.empty as f
use Rattle.strkw_c.proofs.place.Place.empty.Statement.{statement}
use Rattle.strkw_c.proofs.place.Place.empty.Code as code

-- no parameter stays behind
abbrev stayed : Stays f.ended.signature.params f.ended.kept
stayed = tt

-- `Place::empty` meets its contract
pub empty_spec : {M : Type 1} → statement M
empty_spec 𝓤 𝓛 𝓜 𝓡 wired =
    let c = f.clauses 𝓛 𝓜.mem 𝓡.returns in
    proved_at 𝓛 f.ended stayed c 𝓜 𝓡 tt f.Key.name code.function (code.unfolded 𝓤 𝓛.H 𝓜 𝓡 wired) (λ z are.
    let made : Place.Denot = record { at = null_ptr; kept_object = None } in
    qed 𝓛 ((‵ ftrue ⊛ ‵ ftrue) ∷ ‵ ftrue ∷ []) ∵ keep ! [] $
    enter ! _ _ _ _ _ $ alloc_all ! (λ l. pass_all ! refl tt $
    sets ! (agg ! (and_then ! (lit ! tt) (no_more !))) refl (good null_ptr) $
    returns ! (look_at ! 0 refl) $ free_all ! refl $ nothing ! $ place_in ! made $
    suffices ! _ (ends_at 𝓛 f.ended stayed c z (word null_ptr) made tt tt) $ says ! refl $
    nothing ! $ join ! $ nothing ! $ join ! $ done !))
