use Rattle.std.proofs.Common.{◌≡◌, Bool, true, false, None, IfOk, if◌then◌else◌, ap, ◌∙◌, subst}
use Rattle.std.specs.Str.{chars}
use Rattle.strkw_regex_grammar.specs.NullEscape.{is_apart}
use Rattle.strkw_regex_search.specs.machine.Passes.{ComesTo}
use Rattle.strkw_regex_reader.specs.machine.Reading.{keep_small, read_short}
use Rattle.strkw_ecma.proofs.taking.read_passes.Goals as goal

pub returns-then-not-is_apart : goal.returns-then-not-is_apart
returns-then-not-is_apart c =
    let text = chars c.args.source.now in
    let apart : false ≡ is_apart text = cc in
    subst (ComesTo None) (ap (λ (b : Bool). if b then keep_small (read_short text) else None) apart) tt

pub returns : goal.returns
returns c =
    let text = chars c.args.source.now in
    let apart : true ≡ is_apart text = cc in
    subst (λ q. IfOk c.passes_if_taken.result (λ made. ComesTo made q))
    (ap keep_small c.in_ok-read_short.ensures.tree ∙ ap (λ (b : Bool). if b then keep_small (read_short text) else None) apart) c.passes_if_taken.ensures
