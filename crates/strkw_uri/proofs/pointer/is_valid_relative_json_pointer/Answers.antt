use Rattle.strkw_text.proofs.Equivalences.{carry, nope}
use Rattle.strkw_uri.specs.Scan.{HashOrPointer}
use Rattle.strkw_uri.proofs.RelativePointers.{number_zero, number_other, no_number, pointer_stops}
use Rattle.strkw_uri.proofs.pointer.is_valid_relative_json_pointer.Goals as goal

pub returns-in-Some : goal.returns-in-Some
returns-in-Some c = carry c.is_hash_or_pointer.ensures (number_zero HashOrPointer _ _ c.in-Some.ensures.cases)

pub returns-in-Some-after_one : goal.returns-in-Some-after_one
returns-in-Some-after_one c =
    carry c.is_hash_or_pointer-in-Some-after_one.ensures (number_other HashOrPointer _ _ _ pointer_stops c.in-None.ensures.cases
    c.in-Some-after_one.ensures.cases c.skip_class.ensures)

pub returns-in-None-after_one : goal.returns-in-None-after_one
returns-in-None-after_one c = nope (no_number HashOrPointer _ c.in-None.ensures.cases c.in-None-after_one.ensures.cases)
