use Rattle.std.proofs.Common.{rules, ◌≡◌, ◌∙◌, ap, sym}
use Rattle.std.specs.Prelude.{option_map, unwrap_or}
use Rattle.serde_json.specs.Data.{number, unsigned}
use Rattle.serde_json.specs.View.{view}
use Rattle.neldrafi_schema.specs.Reading.{handed}
use Rattle.neldrafi_schema.proofs.reading.Reader.compiled_member.Goals as goal

pub returns-in-Some-clause-says : goal.returns-in-Some-clause-says
returns-in-Some-clause-says g c = λ at.
    let d = view c.args.member.now.value.now in
    let given : handed c.args.keyword d ≡ number (unsigned c.in-Some.limit) =
    c.length_in.ensures ∙ ap (λ o. unwrap_or (option_map (λ n. number (unsigned n)) o) d) c.in-Some.is in
    let value : view c.from.result ≡ number (unsigned c.in-Some.limit) = search rules in
    c.compiled.ensures.says at d (value ∙ sym given)

pub returns-in-None-clause-says : goal.returns-in-None-clause-says
returns-in-None-clause-says g c = λ at.
    let d = view c.args.member.now.value.now in
    let given : handed c.args.keyword d ≡ d = c.length_in.ensures ∙ ap (λ o. unwrap_or (option_map (λ n. number (unsigned n)) o) d) c.in-None.is in
    c.compiled-in-None.ensures.says at d (sym given)
