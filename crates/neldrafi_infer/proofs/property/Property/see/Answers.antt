use Rattle.std.proofs.Common.{rules, ◌≡◌, ◌+◌, [], ◌∷◌, ◌++◌, All, OnOk, if◌then◌else◌, length, cond, not, map, sym, ap, subst, ◌∙◌}
use Rattle.std.proofs.lemmas.List.{length-append}
use Rattle.std.proofs.lemmas.List.Elements.{All-same}
use Rattle.neldrafi_infer.specs.Hypotheses.{seen}
use Rattle.neldrafi_infer.specs.Properties.{texts_of}
use Rattle.neldrafi_infer.specs.Words.{AreWords}
use Rattle.neldrafi_infer.specs.Tallies.{IsTallied}
use Rattle.neldrafi_infer.specs.Kinds.{is_null, is_text}
use Rattle.neldrafi_infer.proofs.PropertyLemmas.{count_step, text_more, written_over}
use Rattle.neldrafi_infer.proofs.property.Property.see.Goals as goal

pub returns : goal.returns
returns c ss of =
    let s = seen c.args.line c.args.kind c.args.text.now in
    let one : length (ss ++ s ∷ []) ≡ length ss + 1 = length-append ss (s ∷ []) in
    let ts = c.args.self.now.tallies.items in
    let values : c.in_ok-self-2.field-0 ≡ c.args.self.now.values + cond (not c.is_null.result) 1 0 = search rules in
    let texts : c.in_ok-self-3.field-0 ≡ c.args.self.now.texts + cond c.is_text.result 1 0 = search rules in
    let before : c.deref_mut.result.now ≡ ts = search rules in
    let kept : length c.see_each.new.tallies ≡ c.args.self.now.tallies.len = search rules in
    let after = written_over c.see_each.new.tallies ts c.args.self.now.tallies.len kept in
    let told : OnOk c.see_each.result (All (IsTallied (ss ++ s ∷ [])) c.see_each.new.tallies) = c.see_each.ensures.seen ss (All-same (IsTallied ss) c.deref_mut.result.now ts before of.tallies) in
    let all : All (IsTallied (ss ++ s ∷ [])) c.see_each.new.tallies = search rules in record {
      total = c.in_ok-self.ensures ∙ (ap (λ n. n + 1) of.total ∙ sym one);
      values = count_step (λ t. not (is_null t.kind)) ss s c.args.self.now.values c.in_ok-self-2.field-0 (not c.is_null.result) (ap not c.is_null.ensures) values of.values;
      texts = count_step (λ t. is_text t.kind) ss s c.args.self.now.texts c.in_ok-self-3.field-0 c.is_text.result c.is_text.ensures texts of.texts;
      hypotheses = ap (map (λ t. t.hypothesis)) after ∙ (c.in_ok-see_each.ensures.hypotheses ∙ (ap (map (λ t. t.hypothesis)) before ∙ of.hypotheses));
      tallies = All-same (IsTallied (ss ++ s ∷ [])) _ c.see_each.new.tallies after all;
      words = subst (λ t. AreWords t c.see_if.new.self) (ap (λ b. if b then texts_of ss ++ c.args.text.now ∷ [] else texts_of ss) c.is_text-2.ensures ∙ sym (text_more ss s)) (c.in_ok-see_if.ensures (texts_of ss) of.words);
    }
