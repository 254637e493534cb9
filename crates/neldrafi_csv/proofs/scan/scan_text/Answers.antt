use Rattle.std.proofs.Common.{◌≡◌, ◌∙◌, Some, None, ap, sym, rules, get_or, true}
use Rattle.std.specs.Prelude.{slice_get}
use Rattle.std.proofs.lemmas.Option.{get_or_from_slice_get, slice_get_within}
use Rattle.neldrafi_csv.specs.Grammar.{IsField, ends_text, quote}
use Rattle.neldrafi_csv.proofs.ScanLemmas.{ends-at, ends-last, ends-no_quote, past-none, text-misplaced}
use Rattle.neldrafi_csv.proofs.scan.scan_text.Goals as goal

pub end_misplaced-requires-clause-misplaced : goal.end_misplaced-requires-clause-misplaced
end_misplaced-requires-clause-misplaced c =
    let here : slice_get c.args.bytes.now c.text_run-count.result ≡ Some quote = sym c.byte_at.ensures ∙ search rules in
    text-misplaced c.args.delimiter.byte c.args.bytes.now c.text_run-count.result c.text_run-count.ensures.run here c.requires

pub returns-in-Some : goal.returns-in-Some
returns-in-Some c =
    let run = c.text_run-count.ensures in
    let here : slice_get c.args.bytes.now c.text_run-count.result ≡ Some c.in-Some.field-0 = sym c.byte_at.ensures ∙ c.in-Some.is in
    let stops = run.stops (slice_get_within c.args.bytes.now c.text_run-count.result c.in-Some.field-0 here) in
    let ends : ends_text c.args.delimiter.byte c.in-Some.field-0 ≡ true =
    ap (λ b. ends_text c.args.delimiter.byte b) (sym (get_or_from_slice_get c.args.bytes.now c.text_run-count.result c.in-Some.field-0 0 here)) ∙ stops in
    record {
      within = run.within;
      field = IsField.text _ run.run;
      ends = ends-at c.args.delimiter.byte c.args.bytes.now c.text_run-count.result c.in-Some.field-0 c.args.is_last here (ends-no_quote _ _ ends c.in-Some.field-0-test.1);
    }

pub returns-in-None : goal.returns-in-None
returns-in-None c =
    let run = c.text_run-count.ensures in
    let none : slice_get c.args.bytes.now c.text_run-count.result ≡ None = sym c.byte_at.ensures ∙ c.in-None.is in
    record {
      within = run.within;
      field = IsField.text _ run.run;
      ends = ends-last c.args.delimiter.byte c.args.bytes.now c.text_run-count.result c.args.is_last (past-none c.args.bytes.now c.text_run-count.result none) c.if-is_last.true;
    }
