use Rattle.std.proofs.Common.{◌≡◌, map, string_bytes}
use Rattle.neldrafi_schema.specs.Errors.{of_text}
use Rattle.neldrafi_schema.specs.Meaning.{absolute_below}
use Rattle.neldrafi_schema.specs.machine.Found.{Appended}
use Rattle.neldrafi_schema.proofs.collecting.push_texts.Given as goal

abbrev pub invariant-loop-error : goal.invariant-loop-error
invariant-loop-error l = Appended (λ es. es ≡ map (of_text (absolute_below (string_bytes l.header.absolute) l.keyword)) l.yielded) l.fn.errors.items l.errors.items
