use Rattle.std.proofs.Common.{rules, ◌≡◌, ◌++◌, ◌∷◌, [], true, false, length, map, sym, ap, refl, ◌∙◌}
use Rattle.std.proofs.lemmas.List.{length-map}
use Rattle.std.specs.List.{list_any}
use Rattle.std.specs.Str.{bytes_eq}
use Rattle.neldrafi_infer.specs.Words.{marked, word_view}
use Rattle.neldrafi_infer.proofs.PropertyLemmas.{written_over}
use Rattle.neldrafi_infer.proofs.WordLemmas.{words_again, words_new}
use Rattle.neldrafi_infer.proofs.words.Words.see.Goals as goal

pub returns-then-mark : goal.returns-then-mark
returns-then-mark c ts are =
    let t = c.args.text.now in
    let old = c.args.self.now.words in
    let before : c.deref_mut.result.now ≡ old.items = search rules in
    let kept : length c.mark.new.words ≡ old.len = search rules in
    let after = written_over c.mark.new.words old.items old.len kept in
    let few : c.args.self.now.is_over ≡ false = search rules in
    let found : list_any (λ word. bytes_eq word.0 t) (map word_view old.items) ≡ true = ap (λ l. list_any (λ word. bytes_eq word.0 t) (map word_view l)) (sym before) ∙ (sym c.mark.ensures.found ∙ c.if-mark.true) in
    words_again ts t c.args.self.now _ few refl (ap (map word_view) after ∙ (c.mark.ensures.marked ∙ ap (λ l. map (marked t) (map word_view l)) before)) found are

pub returns : goal.returns
returns c ts are =
    let t = c.args.text.now in
    let old = c.args.self.now.words in
    let before : c.deref_mut.result.now ≡ old.items = search rules in
    let kept : length c.mark.new.words ≡ old.len = search rules in
    let after = written_over c.mark.new.words old.items old.len kept in
    let few : c.args.self.now.is_over ≡ false = search rules in
    let found : list_any (λ word. bytes_eq word.0 t) (map word_view old.items) ≡ false = ap (λ l. list_any (λ word. bytes_eq word.0 t) (map word_view l)) (sym before) ∙ (sym c.mark.ensures.found ∙ c.if-mark.false) in
    let marks = ap (map word_view) after ∙ (c.mark.ensures.marked ∙ ap (λ l. map (marked t) (map word_view l)) before) in
    let count : old.len ≡ length (map word_view old.items) = sym (sym (ap length before) ∙ c.deref_mut.ensures.len) ∙ sym (length-map old.items word_view) in
    words_new ts t c.args.self.now c.put.new.self old.len few count c.in_ok-put.ensures.over (λ is. c.in_ok-put.ensures.words is ∙ ap (λ l. l ++ (t, false) ∷ []) marks) found are
