use Rattle.std.proofs.Common.{◌≡◌, ◌∙◌, ap, drop, length, ℕ, subst}
use Rattle.std.proofs.lemmas.List.{take_rest}
use Rattle.neldrafi_csv.specs.Lines.{HasNoLineByte, behind_blank, blank_front}
use Rattle.neldrafi_csv.specs.Reading.{at_hand}
use Rattle.neldrafi_csv.proofs.LineLemmas.{blank_front-counted}
use Rattle.neldrafi_csv.proofs.reader.RecordReader.is_drained.Goals as goal

pub returns : goal.returns
returns g c =
    let unread = c.part-unread.result.now in
    let count = c.line_bytes_run.result in
    let run = c.line_bytes_run.ensures in
    let same : unread ≡ at_hand c.args.self.now =
    c.part-unread.ensures ∙ take_rest c.bytes-bytes.result.now c.args.self.now.taken ∙ ap (drop c.args.self.now.taken) c.bytes-bytes.ensures in
    let long : length (blank_front unread) ≡ count = blank_front-counted unread count run.within run.run run.stops in
    let behind : behind_blank unread ≡ drop count unread = ap (λ (n : ℕ). drop n unread) long in
    rw (← same, behind, ← take_rest unread count) c.is_line_free.ensures
