use Rattle.std.proofs.Common.{rules, ◌<◌, length}
use Rattle.csv.specs.Records.{fields_of}
use Rattle.serde_json.specs.View.{view}
use Rattle.neldrafi_table.proofs.ObjectLemmas.{all_columns, more_columns, read_field}
use Rattle.neldrafi_table.proofs.columns.columns_of.Goals as goal

pub loop-at-preserved : goal.loop-at-preserved
loop-at-preserved c =
    let names = fields_of c.args.names.now in
    let at = c.loop-at.at in
    let within : at < length names = search rules in
    let name = read_field names at c.get.result c.unwrap_or-name.result _ within c.get.ensures.value c.unwrap_or-name.ensures in
    more_columns (view c.args.document.now) names at c.unwrap_or-name.result.now _ c.loop-at.columns.items c.push.new.self.items within name
    c.in_ok-name.ensures.ok c.of_column-types.ensures c.in_ok-push.ensures.items c.loop-at.invariant

pub returns : goal.returns
returns c =
    all_columns (view c.args.document.now) (fields_of c.args.names.now) c.loop-at.at c.loop-at.columns.items (search rules) c.loop-at.invariant
