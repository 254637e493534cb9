use Rattle.std.proofs.Common.{sym, arith}
use Rattle.std.proofs.lemmas.Fmt.{decimal-digits_of}
use Rattle.strkw_cache.proofs.fronts.number_of.Goals as goal

pub returns-in-Draft4 : goal.returns-in-Draft4
returns-in-Draft4 c = (record { number = 4; names = grind arith; small = omega arith }, sym (decimal-digits_of 4 (omega arith) (omega arith)))

pub returns-in-Draft6 : goal.returns-in-Draft6
returns-in-Draft6 c = (record { number = 6; names = grind arith; small = omega arith }, sym (decimal-digits_of 6 (omega arith) (omega arith)))

pub returns-in-Draft7 : goal.returns-in-Draft7
returns-in-Draft7 c = (record { number = 7; names = grind arith; small = omega arith }, sym (decimal-digits_of 7 (omega arith) (omega arith)))

pub returns-in-Draft201909 : goal.returns-in-Draft201909
returns-in-Draft201909 c = (record { number = 201909; names = grind arith; small = omega arith }, sym (decimal-digits_of 201909 (omega arith) (omega arith)))

pub returns-in-Draft202012 : goal.returns-in-Draft202012
returns-in-Draft202012 c = (record { number = 202012; names = grind arith; small = omega arith }, sym (decimal-digits_of 202012 (omega arith) (omega arith)))
