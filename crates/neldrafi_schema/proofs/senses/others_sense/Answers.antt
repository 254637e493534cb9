use Rattle.neldrafi_schema.proofs.senses.others_sense.Goals as goal

pub returns-in-Some-false-clause-leads : goal.returns-in-Some-false-clause-leads
returns-in-Some-false-clause-leads g c = λ documents there. c.assertion.ensures.leads documents
