use Rattle.std.proofs.Common.{sym, ◌∙◌}
use Rattle.std.proofs.lemmas.Str.{encodes-chars}
use Rattle.strkw_test_calls.proofs.doubles.ScriptedEngineRegexEngine.is_match.Goals as goal

pub returns-in-Match : goal.returns-in-Match
returns-in-Match c = record { answer = rw (encodes-chars c.args.text.now c.utf8.text, ← c.as_str.ensures.value) (sym c.outcome_in.ensures ∙ c.in-Match.is) }

pub returns-in-NoMatch : goal.returns-in-NoMatch
returns-in-NoMatch c = record { answer = rw (encodes-chars c.args.text.now c.utf8.text, ← c.as_str.ensures.value) (sym c.outcome_in.ensures ∙ c.in-NoMatch.is) }

pub returns-in-BacktrackLimit : goal.returns-in-BacktrackLimit
returns-in-BacktrackLimit c = record {
  answer = rw (encodes-chars c.args.text.now c.utf8.text, ← c.as_str.ensures.value)
      (sym c.outcome_in.ensures ∙ c.in-BacktrackLimit.is);
}

pub returns-in-Failed : goal.returns-in-Failed
returns-in-Failed c = record { answer = rw (encodes-chars c.args.text.now c.utf8.text, ← c.as_str.ensures.value) (sym c.outcome_in.ensures ∙ c.in-Failed.is) }
