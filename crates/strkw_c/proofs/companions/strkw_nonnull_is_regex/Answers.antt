use Rattle.std.proofs.Common.{rules, ◌≡◌, ◌↔◌, IsTrue, subst}
use Rattle.std.specs.Prelude.{IfOk}
use Rattle.std.specs.Str.{IsUtf8, chars}
use Rattle.std.proofs.lemmas.Result.{IfOk-weaker}
use Rattle.strkw_regex_grammar.specs.Regex.{IsRegex}
use Rattle.strkw_c.proofs.StatusLemmas.{tells}
use Rattle.strkw_c.proofs.companions.strkw_nonnull_is_regex.Goals as goal

pub returns-in-Some : goal.returns-in-Some
returns-in-Some c =
    let text = c.args.text.now in
    let utf8 : IsUtf8 text = search rules in
    let same : c.in-Some.text.now ≡ text = search rules in
    let answer = c.is_valid_regex.result in
    let told = subst (λ x. IfOk answer (λ b. IsTrue b ↔ IsRegex (chars x))) same c.is_valid_regex.ensures in
    tells (IsUtf8 text × IsRegex (chars text)) answer c.status_of.result
    (IfOk-weaker answer (λ b. IsTrue b ↔ IsRegex (chars text)) (λ b. IsTrue b ↔ (IsUtf8 text × IsRegex (chars text)))
    (λ b i. (λ t. (utf8, i.0 t), λ p. i.1 p.1)) told)
    c.status_of.ensures
