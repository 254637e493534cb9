use Rattle.std.proofs.Common.{[], append-nil, refl, string_bytes, sym}
use Rattle.neldrafi_check.proofs.values.push_errors.Goals as goal

pub returns-then-branch : goal.returns-then-branch
returns-then-branch g c = (
  [],
  sym (append-nil (string_bytes c.args.out.now)),
  record {
    errors = [];
    reported = c.in_ok-is_valid.ensures.0 c.if-branch.true;
    counted = refl;
    said = refl;
  },
)
