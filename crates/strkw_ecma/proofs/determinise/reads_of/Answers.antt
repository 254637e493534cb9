use Rattle.std.proofs.Common.{◌≡◌, ℕ, Bool, List, [], ◌∷◌, ◌++◌, length, length-append, Vec, Global, Option, slice_get, refl, sym, ap, subst, ◌∙◌}
use Rattle.std.proofs.Common.{arith}
use Rattle.std.proofs.lemmas.Option.{slice_get_read, slice_get_past}
use Rattle.strkw_regex_search.specs.machine.Machine.{AreReadsOf, AreReadsOfAll}
use Rattle.strkw_regex_search.specs.declared.program.Program.{Program}
use Rattle.strkw_regex_search.proofs.Machines.{one_pushed}
use Rattle.strkw_ecma.proofs.determinise.reads_of.Goals as goal

-- the answers about one character more, or about the end of a text, are added
more_reads : (p : Program) (samples : List ℕ) (before after : List (Vec Bool Global)) (next : Option ℕ) (rs : Vec Bool Global)
    → AreReadsOfAll p samples before → after ≡ before ++ rs ∷ [] → slice_get samples (length before) ≡ next → AreReadsOf p next rs.items
    → AreReadsOfAll p samples after
more_reads p samples before after next rs right added here are =
    subst (AreReadsOfAll p samples) (sym added)
    (one_pushed (λ (k : ℕ) (rs : Vec Bool Global). AreReadsOf p (slice_get samples k) rs.items) before rs right
    (subst (λ (o : Option ℕ). AreReadsOf p o rs.items) (sym here) are))

pub loop-sample-preserved : goal.loop-sample-preserved
loop-sample-preserved c =
    let samples = c.args.samples.now in
    let so_many = c.loop-sample.invariant.so_many in
    let added = c.in_ok-push.ensures.items in
    record {
      so_many = ap length added ∙ length-append c.loop-sample.all.items (_ ∷ []) ∙ omega (arith, so_many);
      right =
          more_reads c.args.program.now samples _ _ _ _ c.loop-sample.invariant.right added
          (ap (slice_get samples) so_many ∙ slice_get_read samples _ c.loop-sample.sample-index _ refl c.loop-sample-test.true c.sample-item.is)
          c.in_ok-reads.ensures;
    }

pub returns : goal.returns
returns c =
    more_reads c.args.program.now c.args.samples.now _ _ _ _ c.loop-sample.invariant.right c.in_ok-push-2.ensures.items
    (slice_get_past c.args.samples.now _ (omega (arith, c.loop-sample.invariant.so_many, c.loop-sample-test.false))) c.in_ok-reads-2.ensures
