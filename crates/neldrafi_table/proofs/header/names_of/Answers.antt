use Rattle.std.proofs.Common.{rules, ◌≡◌, ◌∙◌, ◌<◌, length, arith, refl, sym, subst}
use Rattle.std.specs.Prelude.{IsUtf8}
use Rattle.csv.specs.Records.{fields_of}
use Rattle.csv.proofs.RecordFacts.{text-step}
use Rattle.neldrafi_csv.specs.Reading.{values_of}
use Rattle.neldrafi_csv.specs.Records.{IsMisplaced, texts_of}
use Rattle.neldrafi_table.proofs.ObjectLemmas.{first_not, more_names, read_text, texts_length}
use Rattle.neldrafi_table.proofs.header.names_of.Goals as goal

pub returns-in_default-from_utf8-clause-why : goal.returns-in_default-from_utf8-clause-why
returns-in_default-from_utf8-clause-why g c misplaced =
    let values = values_of c.args.reader.now in
    let at = c.loop-at.at in
    let below : at < length values = search rules in
    let within : at < length (texts_of values) = omega (arith, below, texts_length values) in (
      subst (IsMisplaced values) c.in_default.is misplaced,
      first_not (texts_of values) at c.unwrap_or-bytes.result.now within
          (read_text values at c.field.result c.unwrap_or-bytes.result _ c.field.ensures c.unwrap_or-bytes.ensures refl) c.in_default-from_utf8.ensures.cases.0
          c.loop-at.invariant.text,
    )

pub loop-at-preserved : goal.loop-at-preserved
loop-at-preserved g c =
    let values = values_of c.args.reader.now in
    let at = c.loop-at.at in
    let below : at < length values = search rules in
    let within : at < length (texts_of values) = omega (arith, below, texts_length values) in
    let same = c.in-Ok.ensures.cases.0 in
    let field = same ∙ read_text values at c.field.result c.unwrap_or-bytes.result _ c.field.ensures c.unwrap_or-bytes.ensures refl in record {
      names = more_names (texts_of values) (fields_of c.loop-at.names) _ at c.in-Ok.name.now within field c.loop-at.invariant.names c.in_ok-push_field.ensures.fields;
      text = text-step (texts_of values) at within c.loop-at.invariant.text (subst IsUtf8 (sym same ∙ field) c.in-Ok.ensures.cases.1);
    }
