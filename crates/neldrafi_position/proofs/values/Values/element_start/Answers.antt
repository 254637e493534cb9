use Rattle.std.proofs.Common.{◌≡◌, ◌∙◌, ℕ, Global, Vec, ap, subst}
use Rattle.std.specs.Prelude.{slice_get}
use Rattle.neldrafi_position.specs.machine.Kept.{AreElements}
use Rattle.neldrafi_position.proofs.KeptLemmas.{element_start, item_at, kept_at}
use Rattle.neldrafi_position.proofs.values.Values.element_start.Goals as goal

pub returns-in-Some-clause-start : goal.returns-in-Some-clause-start
returns-in-Some-clause-start c =
    let inside = c.args.inside in
    let index = c.args.index in
    let starts = c.in-Some.starts in
    let kept = kept_at (λ (v : Vec ℕ Global). AreElements c.self.inside.text.now inside v.items) c.get.result starts _ c.get.ensures.value c.in-Some.is
    (c.self.invariant.arrays inside) in
    let found : c.copied.result ≡ slice_get starts.now.items index =
    c.copied.ensures ∙ item_at c.deref.result.now index c.get-in-Some.result c.get-in-Some.ensures.lookup ∙ ap (λ xs. slice_get xs index) c.deref.ensures.value in
    element_start c.args.self.now inside starts.now.items index c.copied.result
    (subst (λ text. AreElements text inside starts.now.items) c.self.view_is kept) found

pub returns-clause-start : goal.returns-clause-start
returns-clause-start c =
    let inside = c.args.inside in
    let index = c.args.index in
    let starts = c.in_ok-starts.starts.items in
    let found : c.copied-found.result ≡ slice_get starts index =
    c.copied-found.ensures ∙ item_at c.deref-2.result.now index c.get-2.result c.get-2.ensures.lookup ∙ ap (λ xs. slice_get xs index) c.deref-2.ensures.value in
    element_start c.args.self.now inside starts index c.copied-found.result
    (subst (λ text. AreElements text inside starts) c.self.view_is c.in_ok-starts.ensures) found
