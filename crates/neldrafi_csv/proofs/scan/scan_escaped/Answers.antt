use Rattle.std.proofs.Common.{◌≡◌, ◌∙◌, ◌+◌, Some, None, subst, sym}
use Rattle.std.specs.Prelude.{slice_get}
use Rattle.std.proofs.lemmas.List.{take_rest}
use Rattle.neldrafi_csv.specs.machine.Scans.{IsInside}
use Rattle.neldrafi_csv.proofs.ScanLemmas.{ends-at, ends-last, escaped-field, escaped-misplaced, known-closed, past-none}
use Rattle.neldrafi_csv.proofs.scan.scan_escaped.Goals as goal

pub returns-in-None : goal.returns-in-None
returns-in-None c =
    let none : slice_get c.args.bytes.now (c.in-Ok.found.count + 2) ≡ None = sym c.byte_at.ensures ∙ c.in-None.is in
    escaped-field c.args.delimiter.byte c.args.bytes.now c.in-Ok.found.count c.in-Ok.found.shape c.args.is_last c.requires.quote c.in-Ok.ensures.found
    (ends-last c.args.delimiter.byte c.args.bytes.now _ c.args.is_last (past-none c.args.bytes.now (c.in-Ok.found.count + 2) none) c.if-is_last-2.true)

pub returns-in-None-2 : goal.returns-in-None-2
returns-in-None-2 c = (
  c.if-is_last-2.false,
  subst (λ l. IsInside l c.in-Ok.found) (take_rest c.args.bytes.now 1) (known-closed _ c.in-Ok.found c.in-Ok.ensures.found),
)

pub returns-in-Some : goal.returns-in-Some
returns-in-Some c =
    let here : slice_get c.args.bytes.now (c.in-Ok.found.count + 2) ≡ Some c.in-Some.byte = sym c.byte_at.ensures ∙ c.in-Some.is in
    escaped-field c.args.delimiter.byte c.args.bytes.now c.in-Ok.found.count c.in-Ok.found.shape c.args.is_last c.requires.quote c.in-Ok.ensures.found
    (ends-at c.args.delimiter.byte c.args.bytes.now _ c.in-Some.byte c.args.is_last here (sym c.ends_field.ensures ∙ c.if-ends_field.true))

pub end_misplaced-requires-clause-misplaced : goal.end_misplaced-requires-clause-misplaced
end_misplaced-requires-clause-misplaced c =
    let here : slice_get c.args.bytes.now (c.in-Ok.found.count + 2) ≡ Some c.in-Some.byte = sym c.byte_at.ensures ∙ c.in-Some.is in
    escaped-misplaced c.args.delimiter.byte c.args.bytes.now c.in-Ok.found.count c.in-Ok.found.shape c.args.is_last c.requires.quote c.in-Ok.ensures.found
    c.in-Some.byte here (sym c.ends_field.ensures ∙ c.if-ends_field.false)
