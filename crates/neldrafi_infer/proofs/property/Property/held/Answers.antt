use Rattle.std.proofs.Common.{rules, ◌≡◌, ◌<◌, ◌≤◌, IsTrue, length, take, get_or, sym, ap, ◌∙◌, subst}
use Rattle.std.proofs.lemmas.List.{take_all}
use Rattle.std.proofs.lemmas.List.Elements.{All-more, All-same}
use Rattle.neldrafi_infer.specs.Tallies.{IsTallied}
use Rattle.neldrafi_infer.specs.Properties.{HoldsIn}
use Rattle.neldrafi_infer.specs.declared.tally.Tally.{Tally}
use Rattle.neldrafi_infer.proofs.PropertyLemmas.{first_tally, none_holds}
use Rattle.neldrafi_infer.proofs.property.Property.held.Goals as goal

pub returns-then-is_held-clause-held : goal.returns-then-is_held-clause-held
returns-then-is_held-clause-held c ss of =
    let ts = c.args.self.now.tallies.items in
    let i = c.loop-tally.tally-index in
    let t = c.tally-item.result in
    let within : i < length ts = search rules in
    let at : t ≡ get_or ts i t = c.tally-item.is ∙ ap (λ l. get_or l i t) c.deref-tally-items.ensures.value in
    let tallied : IsTallied ss t = subst (IsTallied ss) (sym at) (of.tallies i t within) in
    let is_true : IsTrue c.is_held.result = search rules in
    (tallied, first_tally c.args.group ss ts i t of.hypotheses (c.loop-tally.invariant ss of) within at ((c.is_held.ensures ss of tallied).0 is_true))

pub loop-tally-preserved : goal.loop-tally-preserved
loop-tally-preserved c ss of =
    let ts = c.args.self.now.tallies.items in
    let i = c.loop-tally.tally-index in
    let t = c.tally-item.result in
    let P : Tally → Type 0 = λ u. HoldsIn c.args.group ss u.hypothesis → ⊥ in
    let within : i < length ts = search rules in
    let at : t ≡ get_or ts i t = c.tally-item.is ∙ ap (λ l. get_or l i t) c.deref-tally-items.ensures.value in
    let tallied : IsTallied ss t = subst (IsTallied ss) (sym at) (of.tallies i t within) in
    let fails : P t = λ holds. let is_true : IsTrue c.is_held.result = (c.is_held.ensures ss of tallied).1 holds in search rules in
    All-more P ts i t within (c.loop-tally.invariant ss of) (subst P at fails)

pub returns-clause-none : goal.returns-clause-none
returns-clause-none c ss of none =
    let ts = c.args.self.now.tallies.items in
    let P : Tally → Type 0 = λ u. HoldsIn c.args.group ss u.hypothesis → ⊥ in
    let long : length ts ≤ c.loop-tally.tally-index = search rules in
    none_holds c.args.group ss ts of.hypotheses (All-same P ts (take c.loop-tally.tally-index ts) (sym (take_all c.loop-tally.tally-index ts long)) (c.loop-tally.invariant ss of))
