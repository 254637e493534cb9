use Rattle.std.proofs.Common.{rules, ◌≡◌, ◌∷◌, ◌++◌, [], length, arith}
use Rattle.std.proofs.lemmas.List.{length-append}
use Rattle.neldrafi_infer.specs.Hypotheses.{IsFit, IsMisfit, seen}
use Rattle.neldrafi_infer.proofs.TallyLemmas.{fit_more, keep_first, keep_more, misfit_more}
use Rattle.neldrafi_infer.proofs.tally.Tally.see.Goals as goal

pub returns-then-not-is_misfit-clause-seen : goal.returns-then-not-is_misfit-clause-seen
returns-then-not-is_misfit-clause-seen c ss is =
    let s = seen c.args.line c.args.kind c.args.text.now in
    let fits : IsFit c.args.self.now.hypothesis s = search (rules, c.is_misfit.ensures c.args.line) in
    record { misfits = is.misfits; are = fit_more c.args.self.now.hypothesis ss is.misfits s fits is.are; count = is.count; first = is.first }

pub returns-in_ok-push-clause-seen : goal.returns-in_ok-push-clause-seen
returns-in_ok-push-clause-seen c ss is =
    let s = seen c.args.line c.args.kind c.args.text.now in
    let fails : IsMisfit c.args.self.now.hypothesis s = search (rules, c.is_misfit.ensures c.args.line) in
    let count : c.in_ok-count.count ≡ length (is.misfits ++ s ∷ []) = rw length-append (grind (arith, is.count)) in
    record {
      misfits = is.misfits ++ s ∷ [];
      are = misfit_more c.args.self.now.hypothesis ss is.misfits s fails is.are;
      count = count;
      first = keep_more is.misfits c.args.self.now.first.items c.push.new.self.items s (record { line = c.args.line; kind = c.args.kind; text = c.in_ok-text.text }) (search rules) (search rules) (search rules) is.first;
    }

pub returns-else-len-lt-MOST_KEPT-clause-seen : goal.returns-else-len-lt-MOST_KEPT-clause-seen
returns-else-len-lt-MOST_KEPT-clause-seen c ss is =
    let s = seen c.args.line c.args.kind c.args.text.now in
    let fails : IsMisfit c.args.self.now.hypothesis s = search (rules, c.is_misfit.ensures c.args.line) in
    let count : c.in_ok-count.count ≡ length (is.misfits ++ s ∷ []) = rw length-append (grind (arith, is.count)) in
    record {
      misfits = is.misfits ++ s ∷ [];
      are = misfit_more c.args.self.now.hypothesis ss is.misfits s fails is.are;
      count = count;
      first = keep_first is.misfits c.args.self.now.first.items s (search rules) is.first;
    }
