use Rattle.std.proofs.Common.{sym, ap, ◌∙◌, ℕ, List}
use Rattle.std.proofs.lemmas.Str.{IsUtf8-string_bytes}
use Rattle.std.specs.Prelude.{nat_eq}
use Rattle.std.specs.List.{starts_with, list_any}
use Rattle.std.proofs.Common.{String, Global}
use Rattle.std.specs.Str.{chars, bytes_eq}
use Rattle.std.specs.String.{string_bytes}
use Rattle.strkw_pattern.specs.Matcher.{literal_outcome, outcome_of}
use Rattle.strkw_pattern.proofs.Matching.{answer_of, starts_with-chars, bytes_eq-chars, any_chars}
use Rattle.strkw_pattern.proofs.matcher.LiteralMatcherRegexEngine.is_match.Goals as goal

pub returns-in-Prefix-clause-answer : goal.returns-in-Prefix-clause-answer
returns-in-Prefix-clause-answer c =
    let text = c.args.text.now in
    let literal = string_bytes c.in-Prefix.literal in
    answer_of _ c.begins_with.result (
    ap (λ m. literal_outcome m (chars text)) c.in-Prefix.is
    ∙ ap outcome_of (sym (c.begins_with.ensures ∙ ap (λ (p : List ℕ). starts_with nat_eq text p) c.as_str.ensures.value
    ∙ starts_with-chars text literal c.utf8.text (IsUtf8-string_bytes c.in-Prefix.literal))))

pub returns-in-Exact-clause-answer : goal.returns-in-Exact-clause-answer
returns-in-Exact-clause-answer c =
    let text = c.args.text.now in
    let literal = string_bytes c.in-Exact.exact in
    answer_of _ c.eq.result (
    ap (λ m. literal_outcome m (chars text)) c.in-Exact.is
    ∙ ap outcome_of (sym (c.eq.ensures ∙ ap (λ (p : List ℕ). bytes_eq text p) c.as_str-in-Exact.ensures.value
    ∙ bytes_eq-chars text literal c.utf8.text (IsUtf8-string_bytes c.in-Exact.exact))))

pub returns-in-Alternation-clause-answer : goal.returns-in-Alternation-clause-answer
returns-in-Alternation-clause-answer c =
    let text = c.args.text.now in
    let items = c.in-Alternation.alternatives.items in
    answer_of _ c.is_among.result (
    ap (λ m. literal_outcome m (chars text)) c.in-Alternation.is
    ∙ ap outcome_of (sym (c.is_among.ensures ∙ ap (λ (vs : List (String Global)). list_any (λ s. bytes_eq (string_bytes s) text) vs) c.deref.ensures.value
    ∙ any_chars items text c.utf8.text)))
