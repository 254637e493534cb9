use Rattle.std.proofs.Common.{refl, ap}
use Rattle.std.specs.Prelude.{option_map, string_bytes}
use Rattle.strkw_uses.proofs.Caller.{errors_are}
use Rattle.strkw_uses.proofs.patterns.errors_by.Goals as goal

pub returns : goal.returns
returns c = λ p d.
    errors_are _ c.object_says_its_pattern.ensures _ _ _ _ _ _ _ _
    (record {
      draft = c.new-ctx.ensures.draft;
      schema = c.new-ctx.ensures.location;
      prefix = ap (option_map string_bytes) c.new-ctx.ensures.absolute;
      options = c.new-ctx.ensures.options;
      lists = c.new-ctx.ensures.checks;
      takes = refl;
      outcome = refl;
    })
    c.in_ok-keywords.ensures.compiled c.new-ctx.ensures.checks c.root.ensures c.root-2.ensures c.new-errors.ensures.items
    c.in_ok-collect_errors.ensures.appended p d
