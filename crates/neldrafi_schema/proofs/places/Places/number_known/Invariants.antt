use Rattle.neldrafi_schema.proofs.places.Places.number_known.Given as goal

abbrev pub invariant-loop-number : goal.invariant-loop-number
invariant-loop-number l = Unit {0}
