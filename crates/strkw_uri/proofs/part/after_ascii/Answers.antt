use Rattle.std.proofs.Common.{ℕ, subst, sym, List, length}
use Rattle.std.proofs.lemmas.Str.{IsCharBoundary-from_drop}
use Rattle.std.specs.Str.{chars}
use Rattle.strkw_uri.specs.Lanes.{goes_on, IsRun}
use Rattle.strkw_uri.specs.Scan.{is_part_char}
use Rattle.strkw_uri.specs.declared.part.Syntax.TheVariants.{Rfc3986}
use Rattle.strkw_uri.proofs.AsciiRuns.{part_front, part_stops}
use Rattle.strkw_text.specs.Abnf.{Repeat}
use Rattle.strkw_text.specs.Fronts.{StartsWith, StartsWithNo}
use Rattle.strkw_uri.specs.Uri.{Encoded}
use Rattle.strkw_uri.proofs.part.after_ascii.Goals as goal

pub range_from-requires : goal.range_from-requires
range_from-requires c =
    let n = c.ascii_run-run.result in
    let r : IsRun (goes_on (is_part_char Rfc3986 c.args.part) c.args.text.now) 0 (length c.args.text.now) n
    = subst (λ bs. IsRun (goes_on (is_part_char Rfc3986 c.args.part) bs) 0 (length bs) n) c.as_bytes.ensures.value c.ascii_run-run.ensures in
    let f = part_front c.args.syntax c.args.part c.args.text.now n r c.utf8.text in
    λ h. IsCharBoundary-from_drop c.args.text.now n r.within f.utf8

pub returns-clause-run : goal.returns-clause-run
returns-clause-run c =
    let n = c.ascii_run-run.result in
    let r : IsRun (goes_on (is_part_char Rfc3986 c.args.part) c.args.text.now) 0 (length c.args.text.now) n
    = subst (λ bs. IsRun (goes_on (is_part_char Rfc3986 c.args.part) bs) 0 (length bs) n) c.as_bytes.ensures.value c.ascii_run-run.ensures in
    let f = part_front c.args.syntax c.args.part c.args.text.now n r c.utf8.text in
    let P : List ℕ → Type 0 = λ x. StartsWith (Repeat (Encoded (is_part_char c.args.syntax c.args.part))) (chars c.args.text.now) (chars x) in
    subst P (sym c.range_from.ensures.value) f.run

pub returns-clause-stops : goal.returns-clause-stops
returns-clause-stops c =
    let n = c.ascii_run-run.result in
    let r : IsRun (goes_on (is_part_char Rfc3986 c.args.part) c.args.text.now) 0 (length c.args.text.now) n
    = subst (λ bs. IsRun (goes_on (is_part_char Rfc3986 c.args.part) bs) 0 (length bs) n) c.as_bytes.ensures.value c.ascii_run-run.ensures in
    let f = part_front c.args.syntax c.args.part c.args.text.now n r c.utf8.text in
    let P : List ℕ → Type 0 = λ x. StartsWithNo (Encoded (is_part_char Rfc3986 c.args.part)) (chars x) in
    subst P (sym c.range_from.ensures.value) (part_stops c.args.part c.args.text.now n f.utf8 r)
