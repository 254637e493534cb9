use Rattle.std.proofs.Common.{sym, ◌∙◌}
use Rattle.std.proofs.lemmas.Bool.{false≢true}
use Rattle.strkw_net.proofs.UuidLemmas.{uuid_runs, IsUuid-from_runs}
use Rattle.strkw_net.proofs.UuidLemmas.{uuid_at}
use Rattle.strkw_text.proofs.Equivalences.{nope}
use Rattle.strkw_net.proofs.uuid.is_uuid.Goals.{then-bytes-ne36-via-then-bytes-ne36, then-bytes-ne36-via-else-bytes-ne36+then-bytes-ne45}
use Rattle.strkw_net.proofs.uuid.is_uuid.Goals.{then-bytes-ne36-via-else-bytes-ne36+else-bytes-ne45+then-bytes-ne45-2}
use Rattle.strkw_net.proofs.uuid.is_uuid.Goals.{then-bytes-ne36-via-else-bytes-ne36+else-bytes-ne45+else-bytes-ne45-2+then-bytes-ne45-3}
use Rattle.strkw_net.proofs.uuid.is_uuid.Goals.{then-bytes-ne36-via-else-bytes-ne36+else-bytes-ne45+else-bytes-ne45-2+else-bytes-ne45-3+then-bytes-ne45-4}
use Rattle.strkw_net.proofs.uuid.is_uuid.Goals as goal

pub returns-then-not-is_hexadecimal : goal.returns-then-not-is_hexadecimal
returns-then-not-is_hexadecimal c = (
  λ e. absurd (false≢true e),
  λ d. absurd
      (false≢true (sym c.if-not-is_hexadecimal.true ∙ c.is_hexadecimal.ensures.1 (uuid_runs c.args.bytes.now d).a)),
)

pub returns-then-not-is_hexadecimal-2 : goal.returns-then-not-is_hexadecimal-2
returns-then-not-is_hexadecimal-2 c = (
  λ e. absurd (false≢true e),
  λ d. absurd
      (false≢true (sym c.if-not-is_hexadecimal-2.true ∙ c.is_hexadecimal-2.ensures.1 (uuid_runs c.args.bytes.now d).b)),
)

pub returns-then-not-is_hexadecimal-3 : goal.returns-then-not-is_hexadecimal-3
returns-then-not-is_hexadecimal-3 c = (
  λ e. absurd (false≢true e),
  λ d. absurd
      (false≢true (sym c.if-not-is_hexadecimal-3.true ∙ c.is_hexadecimal-3.ensures.1 (uuid_runs c.args.bytes.now d).c)),
)

pub returns-then-not-is_hexadecimal-4 : goal.returns-then-not-is_hexadecimal-4
returns-then-not-is_hexadecimal-4 c = (
  λ e. absurd (false≢true e),
  λ d. absurd
      (false≢true (sym c.if-not-is_hexadecimal-4.true ∙ c.is_hexadecimal-4.ensures.1 (uuid_runs c.args.bytes.now d).d)),
)

pub returns : goal.returns
returns c = (
  λ t. IsUuid-from_runs c.args.bytes.now c.if-bytes-ne36.false c.if-bytes-ne45.false c.if-bytes-ne45-2.false c.if-bytes-ne45-3.false c.if-bytes-ne45-4.false
      (record {
        a = c.is_hexadecimal.ensures.0 c.if-not-is_hexadecimal.false;
        b = c.is_hexadecimal-2.ensures.0 c.if-not-is_hexadecimal-2.false;
        c = c.is_hexadecimal-3.ensures.0 c.if-not-is_hexadecimal-3.false;
        d = c.is_hexadecimal-4.ensures.0 c.if-not-is_hexadecimal-4.false;
        e = c.is_hexadecimal-5.ensures.0 t;
      }),
  λ d. c.is_hexadecimal-5.ensures.1 (uuid_runs c.args.bytes.now d).e,
)

pub returns-then-bytes-ne36 : goal.returns-then-bytes-ne36
returns-then-bytes-ne36 c = nope (λ d.
    let p = (uuid_at c.args.bytes.now).0 d in
    elim c.then-bytes-ne36.branch [
      | then-bytes-ne36-via-then-bytes-ne36 w ↦ w.if-bytes-ne36.true p.size
      | then-bytes-ne36-via-else-bytes-ne36+then-bytes-ne45 w ↦ w.if-bytes-ne45.true p.dash_8
      | then-bytes-ne36-via-else-bytes-ne36+else-bytes-ne45+then-bytes-ne45-2 w ↦ w.if-bytes-ne45-2.true p.dash_13
      | then-bytes-ne36-via-else-bytes-ne36+else-bytes-ne45+else-bytes-ne45-2+then-bytes-ne45-3 w ↦ w.if-bytes-ne45-3.true p.dash_18
      | then-bytes-ne36-via-else-bytes-ne36+else-bytes-ne45+else-bytes-ne45-2+else-bytes-ne45-3+then-bytes-ne45-4 w ↦ w.if-bytes-ne45-4.true p.dash_23
    ])
