use Rattle.std.proofs.Common.{◌≡◌, ◌++◌, ◌+◌, ℕ, List, Some, string_bytes}
use Rattle.std.specs.Io.Buffered.{reader_remaining}
use Rattle.std.specs.Io.KnownBytes.{Appends}
use Rattle.neldrafi_schema.specs.Meaning.{HasErrors}
use Rattle.neldrafi_schema.specs.machine.Words.{lists_in, schemas_in}
use Rattle.neldrafi_check.specs.Files.{LineTold}
use Rattle.neldrafi_check.specs.machine.Runs.{Going}
use Rattle.neldrafi_check.proofs.lines.check_each.Given as goal

-- with what was written and gathered, what is told of the rest makes what is told of all
abbrev pub invariant-loop-turn : goal.invariant-loop-turn
invariant-loop-turn g l =
    let schema = l.check.schema.now in
    let lists = lists_in (λ b. (goal.Format-dyn g b).admits b.1) (λ b. (goal.MediaTypeCheck-dyn g b).accepts b.1)
    (λ b. (goal.ContentCodec-dyn g b).is_encoding b.1) (λ b. (goal.ContentCodec-dyn g b).decoding b.1) schema in
    let told = LineTold (HasErrors (schemas_in g.E.RegexEngine.outcome schema) lists) (g.F.ErrorForm.writes l.check.form.now) l.check.kind in
    (text : List ℕ) → reader_remaining g.R.Read.remaining l.initial.reader ≡ Some text
    → (rest : List ℕ) × (written : List ℕ) × (reader_remaining g.R.Read.remaining l.reader ≡ Some rest)
    × Appends (g.W.Write.contents l.initial.writer) (g.W.Write.contents l.writer) written
    × Going told text (l.turn + 1) l.counts rest (written ++ string_bytes l.out)
