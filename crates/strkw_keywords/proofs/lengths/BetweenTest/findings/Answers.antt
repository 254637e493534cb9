use Rattle.std.proofs.Common.{rules, option_map}
use Rattle.strkw_keywords.specs.Demands.{at_least, at_most}
use Rattle.strkw_keywords.specs.Findings.{finding_of}
use Rattle.strkw_keywords.specs.Meanings.{no_lists}
use Rattle.strkw_keywords.proofs.Reports.{finds_two}
use Rattle.strkw_keywords.proofs.lengths.BetweenTest.findings.Goals as goal

pub returns-clause-found : goal.returns-clause-found
returns-clause-found g c = finds_two (at_least c.args.self.now.min) (at_most c.args.self.now.max) no_lists c.args.text.now
    (option_map finding_of c.then_some.result) (option_map finding_of c.then_some-2.result) (search rules) (search rules)
