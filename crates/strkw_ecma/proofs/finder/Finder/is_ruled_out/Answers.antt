use Rattle.std.proofs.Common.{◌∙◌, sym}
use Rattle.std.specs.Str.{chars}
use Rattle.strkw_regex_search.specs.machine.Machine.{pattern_of}
use Rattle.strkw_ecma.proofs.Needs.{needed_ascii, ruled_out}
use Rattle.strkw_ecma.proofs.finder.Finder.is_ruled_out.Goals as goal

pub lacks-requires : goal.lacks-requires
lacks-requires c =
    let f = c.args.self.now in
    record { ascii = needed_ascii (pattern_of f.program) c.in-Some.byte (sym f.read ∙ c.in-Some.is) }

pub returns-in-Some : goal.returns-in-Some
returns-in-Some c = λ lacks b.
    let f = c.args.self.now in
    ruled_out (pattern_of f.program) c.in-Some.byte (chars c.args.text.now) b f.clean f.told (sym f.read ∙ c.in-Some.is) (c.lacks.ensures lacks)
