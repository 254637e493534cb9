use Rattle.std.proofs.Common.{◌≡◌, false, drop}
use Rattle.std.specs.Str.{chars}
use Rattle.strkw_ecma.specs.machine.Engine.{are_found_by, have_rows}
use Rattle.strkw_ecma.proofs.engine.are_found.Given as goal

abbrev pub invariant-loop-part : goal.invariant-loop-part
invariant-loop-part l = record {
  found : are_found_by l.parts (chars l.text) ≡ are_found_by (drop l.part-index l.parts) (chars l.text);
  memory : have_rows l.parts ≡ false → have_rows (drop l.part-index l.parts) ≡ false;
}
