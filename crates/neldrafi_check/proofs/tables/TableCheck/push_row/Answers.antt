use Rattle.std.proofs.Common.{rules, ◌≡◌, Err, subst}
use Rattle.neldrafi_schema.specs.Meaning.{HasErrors}
use Rattle.neldrafi_schema.specs.machine.Words.{lists_in, schemas_in}
use Rattle.neldrafi_table.specs.Columns.{columns_seen}
use Rattle.neldrafi_table.specs.Objects.{IsRead}
use Rattle.neldrafi_check.proofs.TableLemmas.{fault_told}
use Rattle.neldrafi_check.proofs.tables.TableCheck.push_row.Goals as goal

pub returns-in_ok-why-in-Err : goal.returns-in_ok-why-in-Err
returns-in_ok-why-in-Err g c empty fields read =
    let this = c.args.self.now in
    let is : c.args.row.now.object ≡ Err c.in-Err.why = search rules in
    let lists = lists_in (λ b. (goal.Format-dyn g b).admits b.1) (λ b. (goal.MediaTypeCheck-dyn g b).accepts b.1)
    (λ b. (goal.ContentCodec-dyn g b).is_encoding b.1) (λ b. (goal.ContentCodec-dyn g b).decoding b.1) this.schema.now in
    fault_told (HasErrors (schemas_in g.E.RegexEngine.outcome this.schema.now) lists) (g.F.ErrorForm.writes this.form.now) empty (columns_seen this.columns.now) c.args.row.now.line fields _ _ c.in-Err.why c.push_unread.result
    (subst (λ object. IsRead empty (columns_seen this.columns.now) fields object) is read) c.push_unread.ensures
