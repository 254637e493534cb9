use Rattle.std.proofs.Common.{rules, ◌≡◌, ◌∙◌, ◌<◌, ◌≤◌, length, arith, refl, sym, subst}
use Rattle.std.proofs.lemmas.List.{take_all}
use Rattle.std.specs.Prelude.{IsUtf8}
use Rattle.csv.specs.Records.{AllText}
use Rattle.csv.proofs.RecordFacts.{text-step}
use Rattle.neldrafi_csv.specs.Reading.{values_of}
use Rattle.neldrafi_csv.specs.Records.{texts_of}
use Rattle.serde_json.specs.View.{members_view}
use Rattle.neldrafi_table.proofs.ObjectLemmas.{first_not, none_left, put_next, read_text, texts_length}
use Rattle.neldrafi_table.proofs.rows.put_fields.Goals as goal

pub loop-at-init : goal.loop-at-init
unfolding AllText
loop-at-init g c = record { put = refl; text = tt }

pub returns-in_default-clause-first : goal.returns-in_default-clause-first
returns-in_default-clause-first g c =
    let values = values_of c.args.reader.now in
    let at = c.loop-at.at in
    let column : at < length c.args.columns.now = search rules in
    let within : at < length (texts_of values) = omega (arith, column, c.requires, texts_length values) in
    first_not (texts_of values) at c.unwrap_or-bytes.result.now within
    (read_text values at c.field.result c.unwrap_or-bytes.result _ c.field.ensures c.unwrap_or-bytes.ensures refl) c.in_default.ensures.cases.0 c.loop-at.invariant.text

pub loop-at-preserved : goal.loop-at-preserved
loop-at-preserved g c =
    let columns = c.args.columns.now in
    let values = values_of c.args.reader.now in
    let fields = texts_of values in
    let at = c.loop-at.at in
    let column : at < length columns = search rules in
    let within : at < length fields = omega (arith, column, c.requires, texts_length values) in
    let same = c.in-Ok.ensures.cases.0 in
    let field = same ∙ read_text values at c.field.result c.unwrap_or-bytes.result _ c.field.ensures c.unwrap_or-bytes.ensures refl in record {
      put = put_next c.args.empty columns fields at c.index-columns-at.result _ _ _ _ column within c.index-columns-at.is field c.in_ok-value.ensures (rw c.deref.ensures at c.in_ok-put_value.ensures) ∙ c.loop-at.invariant.put;
      text = text-step fields at within c.loop-at.invariant.text (subst IsUtf8 (sym same ∙ field) c.in-Ok.ensures.cases.1);
    }

pub returns-clause-put : goal.returns-clause-put
returns-clause-put g c none =
    sym (none_left c.args.empty c.args.columns.now (texts_of (values_of c.args.reader.now)) c.loop-at.at (members_view c.loop-at.members.entries) (search rules))
    ∙ c.loop-at.invariant.put

pub returns-clause-text : goal.returns-clause-text
returns-clause-text g c none =
    let values = values_of c.args.reader.now in
    let past : length c.args.columns.now ≤ c.loop-at.at = search rules in
    subst AllText (take_all c.loop-at.at (texts_of values) (omega (arith, past, c.requires, texts_length values))) c.loop-at.invariant.text
