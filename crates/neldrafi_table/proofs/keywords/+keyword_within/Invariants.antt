use Rattle.neldrafi_table.proofs.keywords.+keyword_within.Given as goal

abbrev pub decreases-keyword_within : goal.decreases-keyword_within
decreases-keyword_within l = l.references
