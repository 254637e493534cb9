mod KeptLemmas
mod PlaceSteps
mod RegisteredLemmas
mod StatusLemmas
mod TextLemmas
mod VerdictLemmas
