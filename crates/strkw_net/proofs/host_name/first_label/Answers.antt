use Rattle.std.proofs.Common.{arith, inl, inr}
use Rattle.std.proofs.lemmas.List.Sums.{prefix_len-le-length}
use Rattle.strkw_net.specs.HostName.{is_letter_digit_hyphen}
use Rattle.strkw_net.proofs.FirstLabels.{no_label_by_size, no_label_by_hyphen, no_label_by_end, run_is_label}
use Rattle.strkw_net.proofs.host_name.first_label.Goals as goal
use Rattle.strkw_net.proofs.host_name.first_label.Goals.{then-bytes-eq45-via-then-bytes-eq45, then-bytes-eq45-via-else-bytes-eq45+then-bytes-len-eq45}
use Rattle.strkw_net.proofs.host_name.first_label.Goals.{else-len-bytes-via-then-len-bytes+else-bytes-len-ne46, else-len-bytes-via-else-len-bytes}

pub returns-then-len-lt1 : goal.returns-then-len-lt1
returns-then-len-lt1 c = no_label_by_size c.args.bytes.now c.run_length-len.result c.run_length-len.ensures (λ some. omega (arith, c.then-len-lt1.either))

pub bounds-bytes-len : goal.bounds-bytes-len
bounds-bytes-len c = omega (arith, c.run_length-len.ensures, prefix_len-le-length is_letter_digit_hyphen c.args.bytes.now)

pub returns-then-bytes-eq45 : goal.returns-then-bytes-eq45
returns-then-bytes-eq45 c = no_label_by_hyphen c.args.bytes.now c.run_length-len.result c.run_length-len.ensures (elim c.then-bytes-eq45.branch [
  | then-bytes-eq45-via-then-bytes-eq45 w ↦ inl w.if-bytes-eq45.true
  | then-bytes-eq45-via-else-bytes-eq45+then-bytes-len-eq45 w ↦ inr w.if-bytes-len-eq45.true
])

pub returns-then-bytes-len-ne46 : goal.returns-then-bytes-len-ne46
returns-then-bytes-len-ne46 c = no_label_by_end c.args.bytes.now c.run_length-len.result c.run_length-len.ensures c.if-len-bytes.true c.if-bytes-len-ne46.true

pub returns : goal.returns
returns c = run_is_label c.args.bytes.now c.run_length-len.result c.run_length-len.ensures c.if-len-lt1.false c.if-len-gt-LONGEST_LABEL.false
    c.if-bytes-eq45.false c.if-bytes-len-eq45.false (λ lt. elim c.else-len-bytes.branch [
      | else-len-bytes-via-then-len-bytes+else-bytes-len-ne46 w ↦ w.if-bytes-len-ne46.false
      | else-len-bytes-via-else-len-bytes w ↦ absurd (omega (arith, lt, w.if-len-bytes.false))
    ])
