use Rattle.std.proofs.Common.{◌≡◌, ℕ, ◌&&◌, List, sym, ap, ◌∙◌}
use Rattle.std.specs.Prelude.{find, option_map, unwrap_or}
use Rattle.std.specs.Str.{chars, bytes_eq, encode_utf8_all}
use Rattle.std.specs.String.{string_bytes}
use Rattle.std.proofs.lemmas.Str.{encodes-chars}
use Rattle.strkw_pattern.specs.declared.engine.Outcome.{Outcome}
use Rattle.strkw_pattern.specs.declared.engine.Outcome.TheVariants as outcome
use Rattle.strkw_test_calls.proofs.doubles.ScriptedBuilderEngineBuilder.build.Goals as goal

pub returns-then-not-has_pattern-clause-refused : goal.returns-then-not-has_pattern-clause-refused
returns-then-not-has_pattern-clause-refused c = λ _. rw (encodes-chars c.args.pattern.now c.utf8.pattern)
    (sym c.has_pattern.ensures ∙ c.if-not-has_pattern.true)

pub returns-in-Ok-clause-built : goal.returns-in-Ok-clause-built
returns-in-Ok-clause-built c =
    let same : string_bytes c.in-Ok.pattern ≡ encode_utf8_all (chars c.args.pattern.now) = c.in-Ok.ensures.ok
    ∙ sym (encodes-chars c.args.pattern.now c.utf8.pattern) in
    ap {B = List ℕ → Outcome} (λ (p : List ℕ) (t : List ℕ). unwrap_or
    (option_map (λ r. r.outcome) (find (λ r. bytes_eq r.pattern.now p && bytes_eq r.text.now (encode_utf8_all t)) c.args.self.now.rows.now))
    outcome.NoMatch) same

pub returns-in-Ok-clause-taken : goal.returns-in-Ok-clause-taken
returns-in-Ok-clause-taken c = rw (encodes-chars c.args.pattern.now c.utf8.pattern) (sym c.has_pattern.ensures ∙ c.if-not-has_pattern.false)
