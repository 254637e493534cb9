use Rattle.std.proofs.Common.{rules}
use Rattle.strkw_object.proofs.Owned.{object_of}
use Rattle.strkw_cache.proofs.Compiling.{can_answer, compiled_to}
use Rattle.strkw_cache.proofs.terms.compile.Goals as goal

pub returns-clause-compiled : goal.returns-clause-compiled
returns-clause-compiled c = λ ms are.
    let compiled = c.compile_values.ensures in
    compiled_to _ c.args.terms ms (search rules) c.compile_values.result (compiled.compiled ms are) (compiled.refused ms are)

pub returns-clause-can_answer : goal.returns-clause-can_answer
returns-clause-can_answer c =
    let compiled = c.compile_values.ensures in
    let (ms, are) = object_of c.args.values.now in
    can_answer _ c.args.terms ms (search rules) c.compile_values.result (compiled.compiled ms are) compiled.in_use compiled.printable
