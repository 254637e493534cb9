use Rattle.std.proofs.Common.{rules, ◌≡◌, ◌∙◌, ◌&&◌, sym, ap, false, true, not, nat_le}
use Rattle.std.specs.List.{list_all}
use Rattle.neldrafi_infer.proofs.PropertyLemmas.{held_if}
use Rattle.neldrafi_infer.proofs.property.Property.are_words_held.Goals as goal

pub returns-then-self-lt-FEWEST_FITS : goal.returns-then-self-lt-FEWEST_FITS
returns-then-self-lt-FEWEST_FITS c ss of =
    let p = c.args.self.now in
    let held = held_if ss p.texts p.words.is_over p.words.words.items of.texts of.words.over of.words.words in
    let low : nat_le 50 p.texts ≡ false = search rules in
    sym (ap (λ b. b && (not p.words.is_over && list_all (λ w. w.is_repeated) p.words.words.items)) low) ∙ held

pub returns-then-self : goal.returns-then-self
returns-then-self c ss of =
    let p = c.args.self.now in
    let held = held_if ss p.texts p.words.is_over p.words.words.items of.texts of.words.over of.words.words in
    let enough : nat_le 50 p.texts ≡ true = search rules in
    let over : p.words.is_over ≡ true = search rules in
    sym (ap (λ b. b && (not p.words.is_over && list_all (λ w. w.is_repeated) p.words.words.items)) enough ∙ ap (λ b. not b && list_all (λ w. w.is_repeated) p.words.words.items) over) ∙ held

pub returns : goal.returns
returns c ss of =
    let p = c.args.self.now in
    let held = held_if ss p.texts p.words.is_over p.words.words.items of.texts of.words.over of.words.words in
    let enough : nat_le 50 p.texts ≡ true = search rules in
    let few : p.words.is_over ≡ false = search rules in
    (c.are_repeated.ensures ∙ ap (list_all (λ w. w.is_repeated)) c.deref.ensures.value)
    ∙ (sym (ap (λ b. b && (not p.words.is_over && list_all (λ w. w.is_repeated) p.words.words.items)) enough ∙ ap (λ b. not b && list_all (λ w. w.is_repeated) p.words.words.items) few) ∙ held)
