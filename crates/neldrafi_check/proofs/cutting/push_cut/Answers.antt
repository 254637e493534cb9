use Rattle.std.proofs.Common.{◌++◌, ◌∙◌, sym, ap, arith, append_assoc, string_bytes, length-append, ◌∷◌, [], ℕ, List}
use Rattle.std.proofs.lemmas.Iterator.{YieldsList-from_chars}
use Rattle.std.proofs.lemmas.Iterator.Consumers.{YieldsList-end}
use Rattle.std.proofs.lemmas.List.{map-id}
use Rattle.std.specs.Str.{chars}
use Rattle.neldrafi_check.specs.machine.Cuts.{cut_front, cut_step}
use Rattle.neldrafi_check.proofs.CutLemmas.{kept_more, cut_whole}
use Rattle.neldrafi_check.proofs.cutting.push_cut.Goals as goal

pub loop-c-preserved : goal.loop-c-preserved
loop-c-preserved c =
    let inv = c.loop-c.invariant in
    let old = string_bytes c.args.out.now in
    let count = c.char_count-count.result in
    let step : ℕ → List ℕ = λ n. cut_step count n c.in-Some.c in
    let grown = c.in_ok-push_kept.ensures ∙ ap (λ l. l ++ step c.loop-c.index) inv.0 ∙ append_assoc old (cut_front count c.loop-c.yielded) (step c.loop-c.index) in
    let same = ap (λ n. cut_front count c.loop-c.yielded ++ step n) inv.1 ∙ sym (kept_more c.loop-c.yielded c.in-Some.c count) in
    (grown ∙ ap (λ l. old ++ l) same, omega (arith, inv.1, length-append c.loop-c.yielded (c.in-Some.c ∷ [])))

pub returns : goal.returns
returns c =
    let yields = YieldsList-from_chars c.args.text.now c.utf8.text cc in
    let t = YieldsList-end yields c.loop-c.yielded _ c.loop-c.yielded_by _ _ c.in-None.is c.next.ensures.steps in
    let all = sym (map-id c.loop-c.yielded) ∙ t.0 in
    let cs = chars c.args.text.now in
    c.loop-c.invariant.0 ∙ ap (λ l. string_bytes c.args.out.now ++ l)
    (ap (λ ys. cut_front c.char_count-count.result ys) all ∙ ap (λ n. cut_front n cs) c.char_count-count.ensures ∙ cut_whole cs)
