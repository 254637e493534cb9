use Rattle.std.proofs.Common.{rules, ◌≡◌, ◌<◌, ◌≤◌, length, get_or, take, sym, ap, ◌∙◌, subst}
use Rattle.std.proofs.lemmas.List.{take_all}
use Rattle.std.proofs.lemmas.List.Elements.{All-more, All-same}
use Rattle.neldrafi_infer.specs.Tallies.{IsTallied}
use Rattle.neldrafi_infer.specs.declared.hypotheses.Hypothesis.TheVariants.{OfType}
use Rattle.neldrafi_infer.specs.declared.tally.Tally.{Tally}
use Rattle.neldrafi_infer.proofs.PropertyLemmas.{has_each_type, type_if}
use Rattle.neldrafi_infer.proofs.property.Property.type_count.Goals as goal

pub returns-then-is_of : goal.returns-then-is_of
returns-then-is_of c ss of =
    let ts = c.args.self.now.tallies.items in
    let i = c.loop-tally.tally-index in
    let t = c.tally-item.result in
    let within : i < length ts = search rules in
    let at : t ≡ get_or ts i t = c.tally-item.is ∙ ap (λ l. get_or l i t) c.deref-tally-items.ensures.value in
    let tallied : IsTallied ss t = subst (IsTallied ss) (sym at) (of.tallies i t within) in
    let same : t.hypothesis ≡ OfType c.args.of_type = search rules in
    c.saturating_sub.ensures ∙ type_if ss t c.args.of_type c.args.self.now.values same tallied of.values

pub loop-tally-preserved : goal.loop-tally-preserved
loop-tally-preserved c =
    let ts = c.args.self.now.tallies.items in
    let i = c.loop-tally.tally-index in
    let t = c.tally-item.result in
    let P : Tally → Type 0 = λ u. u.hypothesis ≡ OfType c.args.of_type → ⊥ in
    let within : i < length ts = search rules in
    let at : t ≡ get_or ts i t = c.tally-item.is ∙ ap (λ l. get_or l i t) c.deref-tally-items.ensures.value in
    let other : P t = λ same. search rules in
    All-more P ts i t within c.loop-tally.invariant (subst P at other)

pub returns : goal.returns
returns c ss of =
    let ts = c.args.self.now.tallies.items in
    let P : Tally → Type 0 = λ u. u.hypothesis ≡ OfType c.args.of_type → ⊥ in
    let long : length ts ≤ c.loop-tally.tally-index = search rules in
    let none = All-same P ts (take c.loop-tally.tally-index ts) (sym (take_all c.loop-tally.tally-index ts long)) c.loop-tally.invariant in
    absurd (has_each_type c.args.of_type ts of.hypotheses none)
