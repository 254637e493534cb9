use Rattle.std.proofs.Common.{sym, subst, Some, None}
use Rattle.std.specs.Str.{chars}
use Rattle.strkw_regex_search.specs.machine.Passes.{ComesTo}
use Rattle.strkw_regex_reader.specs.machine.Reading.{read_pattern}
use Rattle.strkw_ecma.proofs.Exact.{read_unmarked}
use Rattle.strkw_ecma.proofs.Taken.{read_clean, read_faced, read_small, read_outcome, comes_some}
use Rattle.strkw_ecma.proofs.engine.EcmaPatternsEngineBuilder.build.Goals as goal

pub of-requires : goal.of-requires
of-requires c =
    let tree = read_pattern (chars c.args.pattern.now) in
    let read : ComesTo (Some c.in-Ok-Some.passes) tree =
    subst (λ o. ComesTo o tree) c.in-Ok-Some.field-0-is c.in-Ok-Some.ensures in
    record {
      clean = read_clean c.in-Ok-Some.passes tree (read_unmarked (chars c.args.pattern.now)) read;
      faced = read_faced c.in-Ok-Some.passes tree read;
      small = read_small c.in-Ok-Some.passes tree read;
    }

pub returns-in-Ok-clause-built : goal.returns-in-Ok-clause-built
returns-in-Ok-clause-built c =
    let tree = read_pattern (chars c.args.pattern.now) in
    let read : ComesTo (Some c.in-Ok-Some.passes) tree =
    subst (λ o. ComesTo o tree) c.in-Ok-Some.field-0-is c.in-Ok-Some.ensures in
    read_outcome c.in-Ok-Some.passes c.in-Ok.engine c.in-Ok.ensures tree (read_unmarked (chars c.args.pattern.now)) read

pub returns-in-Ok-clause-taken : goal.returns-in-Ok-clause-taken
returns-in-Ok-clause-taken c =
    let tree = read_pattern (chars c.args.pattern.now) in
    let read : ComesTo (Some c.in-Ok-Some.passes) tree =
    subst (λ o. ComesTo o tree) c.in-Ok-Some.field-0-is c.in-Ok-Some.ensures in
    sym (comes_some (Some c.in-Ok-Some.passes) tree read)

pub returns-in-Ok-None-clause-refused : goal.returns-in-Ok-None-clause-refused
returns-in-Ok-None-clause-refused c =
    let tree = read_pattern (chars c.args.pattern.now) in
    let read : ComesTo None tree =
    subst (λ o. ComesTo o tree) c.in-Ok-None.field-0-is c.in-Ok-None.ensures in
    λ _. sym (comes_some None tree read)
