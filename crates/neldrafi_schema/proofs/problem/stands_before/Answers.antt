use Rattle.std.proofs.Common.{◌≡◌, ◌∙◌, sym}
use Rattle.std.specs.Cmp.Derive.Mapped.{lex_map}
use Rattle.neldrafi_schema.specs.Paths.{path_cmp, segment_cmp}
use Rattle.neldrafi_schema.specs.machine.Compiled.{path_of, segment_of}
use Rattle.neldrafi_schema.proofs.Keeping.{less_by_index}
use Rattle.neldrafi_schema.proofs.Order.{derived_paths}
use Rattle.neldrafi_schema.proofs.problem.stands_before.Goals as goal

pub returns : goal.returns
returns c =
    let less = less_by_index c.cmp.result c.eq.result c.eq.ensures in
    let same : path_cmp (path_of c.args.path.now) (path_of c.args.other.now) ≡ c.cmp.result =
    lex_map segment_of segment_cmp c.args.path.now c.args.other.now ∙ derived_paths c.args.path.now c.args.other.now ∙ sym c.cmp.ensures in
    ((λ t. same ∙ less.0 t), (λ s. less.1 (sym same ∙ s)))
