use Rattle.std.proofs.Common.{◌≡◌, map, take}
use Rattle.strkw_keywords.specs.Remarks.{remark_of}
use Rattle.strkw_keywords.specs.Validators.{remarks_in}
use Rattle.strkw_object.proofs.strings.StringKeywords.notes.Given as goal

abbrev pub invariant-loop-validator : goal.invariant-loop-validator
invariant-loop-validator g l = map remark_of l.notes.items ≡ remarks_in (take l.validator-index l.self.validators.items)
