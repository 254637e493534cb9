use Rattle.std.proofs.Common.{◌≡◌, ◌+◌, ◌*◌, ◌<◌, ℕ, List, Some, slice_get, refl, sym, subst, ◌∙◌}
use Rattle.std.proofs.lemmas.Option.{slice_get_read, IfSome_then}
use Rattle.strkw_regex_search.specs.machine.Machine.{pattern_of}
use Rattle.strkw_ecma.specs.machine.Dfa.{next_row, IsEntry}
use Rattle.strkw_ecma.specs.declared.states.State.{State}
use Rattle.strkw_ecma.proofs.DfaRows.{same_state, entry_finds, entry_leads}
use Rattle.strkw_ecma.proofs.states.entry_of.Goals as goal

pub returns-then-is_found-clause-right : goal.returns-then-is_found-clause-right
returns-then-is_found-clause-right c =
    let states = c.args.states.now.items in
    let state = c.in-Some.state.now in
    let look = c.in-Some.ensures.lookup.3 in
    let here : slice_get c.deref.result.now c.args.number ≡ Some state =
    slice_get_read c.deref.result.now _ c.args.number state refl look.0 (look.1 state) in
    let same : c.deref.result.now ≡ states = cc in
    λ s there row.
    subst (λ (t : State). IsEntry (pattern_of c.args.program.now) c.args.end states t row c.args.c 65535)
    (same_state states c.args.number state s (subst (λ (l : List State). slice_get l c.args.number ≡ Some state) same here) there)
    (entry_finds _ _ states state row c.args.c (sym c.in-Some-step.ensures.found ∙ c.if-is_found.true))

pub returns-clause-right : goal.returns-clause-right
returns-clause-right c =
    let states = c.args.states.now.items in
    let later = c.number_of.new.states.items in
    let state = c.in-Some.state.now in
    let look = c.in-Some.ensures.lookup.3 in
    let here : slice_get c.deref.result.now c.args.number ≡ Some state =
    slice_get_read c.deref.result.now _ c.args.number state refl look.0 (look.1 state) in
    let same : c.deref.result.now ≡ states = cc in
    let p = pattern_of c.args.program.now in
    IfSome_then c.place_of_row.result {P = λ (entry : ℕ). (entry ≡ c.in_ok-behind.behind * (c.args.end + 1)) × (entry < next_row)}
    {Q = λ (entry : ℕ). (s : State) → slice_get states c.args.number ≡ Some s → (row : ℕ) → IsEntry p c.args.end later s row c.args.c entry}
    c.place_of_row.ensures
    (λ entry place s there row.
    subst (λ (t : State). IsEntry p c.args.end later t row c.args.c entry)
    (same_state states c.args.number state s (subst (λ (l : List State). slice_get l c.args.number ≡ Some state) same here) there)
    (entry_leads p c.args.end later state row c.args.c entry c.in_ok-behind.behind _ (sym c.in-Some-step.ensures.found ∙ c.if-is_found.false)
    c.in-Some-step.ensures.marks c.in_ok-behind.ensures.right place))
