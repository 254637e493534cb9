use Rattle.strkw_cli.proofs.Parts.{unknown_taken}
use Rattle.strkw_cli.proofs.request.Parts.take_member.Goals as goal

pub returns-in_ok-json_text-in_default-clause-ok : goal.returns-in_ok-json_text-in_default-clause-ok
returns-in_ok-json_text-in_default-clause-ok c =
    let (d, read, text) = c.in_ok-json_text-in_default.ensures.ok in
    let other = c.in_default in (
      d,
      read,
      unknown_taken c.args.name.now d c.args.self.now other.not-draft other.not-schema other.not-instance other.not-validate_formats
          other.not-ignore_unknown_formats other.not-fold _ c.args.values.now,
    )
