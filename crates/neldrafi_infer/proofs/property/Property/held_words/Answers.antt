use Rattle.std.proofs.Common.{◌≡◌, false, true, Some, None, Option, if◌then◌else◌, List, ℕ, map, sym, ap, ◌∙◌, string_bytes}
use Rattle.neldrafi_infer.specs.Properties.{are_held, texts_of}
use Rattle.neldrafi_infer.specs.Words.{distinct}
use Rattle.neldrafi_infer.specs.declared.words.Word.{Word}
use Rattle.neldrafi_infer.proofs.PropertyLemmas.{few_if_held, same_words}
use Rattle.neldrafi_infer.proofs.property.Property.held_words.Goals as goal

pub returns-then-are_words_held : goal.returns-then-are_words_held
returns-then-are_words_held c ss of =
    let texts = texts_of ss in
    let held : are_held texts ≡ true = sym (c.are_words_held.ensures ss of) ∙ c.if-are_words_held.true in
    let few : c.args.self.now.words.is_over ≡ false = of.words.over ∙ few_if_held texts held in
    let words = same_words texts c.args.self.now.words.words.items (of.words.words few) in
    let name : List Word → List (List ℕ) = λ ws. map (λ w. string_bytes w.text) ws in
    let same : Option (List (List ℕ)) → Option (List (List ℕ)) → Type 0 = λ a b. a ≡ b in
    let left : same (Some (name c.deref.result.now)) (Some (distinct texts)) = ap (λ l. Some l) (ap name c.deref.ensures.value ∙ words) in
    left ∙ sym (ap (λ b. if b then Some (distinct texts) else None) held)
