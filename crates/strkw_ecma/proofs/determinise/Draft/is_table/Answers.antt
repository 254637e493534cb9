use Rattle.std.proofs.Common.{rules}
use Rattle.strkw_ecma.proofs.determinise.Draft.is_table.Goals as goal

pub returns : goal.returns
returns c h = record {
  few = c.args.sampled.now.columns.few;
  few_columns = c.args.sampled.now.columns.few_columns;
  told = search rules;
  lengths = search rules;
  sampled = search rules;
  begins = c.begins.ensures h;
  rows = c.requires;
}
