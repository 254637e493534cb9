use Rattle.std.proofs.Common.{◌≡◌, ◌++◌, ℕ, List, string_bytes}
use Rattle.std.specs.Io.KnownBytes.{Appends}
use Rattle.neldrafi_csv.specs.declared.place.Place.{Place}
use Rattle.neldrafi_table.specs.Columns.{columns_seen}
use Rattle.neldrafi_table.specs.Reading.{HasLeft, delimiter_in, empty_in}
use Rattle.neldrafi_schema.specs.Meaning.{HasErrors}
use Rattle.neldrafi_schema.specs.machine.Words.{lists_in, schemas_in}
use Rattle.neldrafi_check.specs.Tables.{RecordTold}
use Rattle.neldrafi_check.specs.machine.Tables.{Checking}
use Rattle.neldrafi_check.proofs.tables.check_each.Given as goal

-- with what was written and gathered, what is told of the rest makes what is told of all
abbrev pub invariant-loop : goal.invariant-loop
invariant-loop g l =
    let schema = l.check.schema.now in
    let lists = lists_in (λ b. (goal.Format-dyn g b).admits b.1) (λ b. (goal.MediaTypeCheck-dyn g b).accepts b.1)
    (λ b. (goal.ContentCodec-dyn g b).is_encoding b.1) (λ b. (goal.ContentCodec-dyn g b).decoding b.1) schema in
    record {
      empty : empty_in l.rows ≡ empty_in l.initial.rows;
      delimiter : delimiter_in l.rows ≡ delimiter_in l.initial.rows;
      going : (place : Place) (text : List ℕ) → HasLeft g.R.Read.remaining l.initial.rows place text
          → (next : Place) × (rest : List ℕ) × (written : List ℕ) × HasLeft g.R.Read.remaining l.rows next rest
          × Appends (g.W.Write.contents l.initial.writer) (g.W.Write.contents l.writer) written
          × Checking (RecordTold (HasErrors (schemas_in g.E.RegexEngine.outcome schema) lists) (g.F.ErrorForm.writes l.check.form.now) (empty_in l.initial.rows)
          (columns_seen l.check.columns.now)) (delimiter_in l.initial.rows) place text l.counts next rest (written ++ string_bytes l.out);
    }
