use Rattle.std.proofs.Common.{◌≡◌, ◌<◌, ℕ, List, Option, Some, IfSome, slice_get, length, get_or, refl, subst, ◌∙◌, arith}
use Rattle.std.proofs.lemmas.List.{get_or_default}
use Rattle.std.proofs.lemmas.Option.{slice_get_read}
use Rattle.strkw_regex_search.specs.machine.Machine.{pattern_of}
use Rattle.strkw_ecma.specs.machine.Dfa.{IsEntry, AreEntries}
use Rattle.strkw_ecma.specs.declared.states.State.{State}
use Rattle.strkw_ecma.proofs.DfaRows.{entries_begin, entry_added, row_added}
use Rattle.strkw_ecma.proofs.determinise.Draft.add_row.Goals as goal

pub loop-column-init : goal.loop-column-init
loop-column-init c = entries_begin _ _ _ _ _

pub loop-column-preserved : goal.loop-column-preserved
loop-column-preserved c =
    let samples = c.args.samples.now in
    let k = c.loop-column.column in
    let within : k < length samples = omega arith in
    let item = c.index-samples-column in
    let sample : item.result ≡ get_or samples k 0 = item.is ∙ get_or_default samples k item.result 0 within in
    let right : IfSome (Some c.in-Some-2.entry) (λ (e : ℕ). (s : State) → slice_get c.loop-column.self.states.items c.args.number ≡ Some s → (row : ℕ)
    → IsEntry (pattern_of c.args.program.now) (length samples) c.entry_of.new.states.items s row c.index-samples-column.result e) =
    subst
    (λ (o : Option ℕ). IfSome o (λ (e : ℕ). (s : State) → slice_get c.loop-column.self.states.items c.args.number ≡ Some s → (row : ℕ)
    → IsEntry (pattern_of c.args.program.now) (length samples) c.entry_of.new.states.items s row c.index-samples-column.result e))
    c.in-Some-2.is c.in_ok-entry.ensures.right in
    entry_added _ _ _ _ _ _ _ _ _ _ _ _ c.loop-column.invariant c.in_ok-entry.ensures.grows c.in_ok-push-in-Some-2.ensures.items sample right

pub returns-clause-right : goal.returns-clause-right
returns-clause-right c _ =
    let samples = c.args.samples.now in
    let all : c.loop-column.column ≡ length samples = omega arith in
    let entries =
    subst
    (λ (n : ℕ). AreEntries (pattern_of c.args.program.now) samples c.args.self.now.entries.items c.loop-column.self.entries.items
    c.args.self.now.states.items c.loop-column.self.states.items c.args.number n)
    all c.loop-column.invariant in
    let state = c.in-Some-get.state.now in
    let look = c.in-Some-get.ensures.lookup.3 in
    let there : slice_get c.deref-2.result.now c.args.number ≡ Some state =
    slice_get_read c.deref-2.result.now _ c.args.number state refl look.0 (look.1 state) in
    let same : c.deref-2.result.now ≡ c.loop-column.self.states.items = cc in
    row_added _ _ _ _ _ _ _ _ _ state c.requires.draft entries c.requires.there
    (subst (λ (l : List State). slice_get l c.args.number ≡ Some state) same there) (c.end_entry.ensures ∙ c.in-Some-step.ensures.found)
    c.in_ok-push.ensures.items
