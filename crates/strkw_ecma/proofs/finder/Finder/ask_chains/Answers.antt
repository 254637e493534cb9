use Rattle.std.proofs.Common.{Bool, List, None, sym, ap, ◌∙◌}
use Rattle.std.specs.Str.{chars}
use Rattle.strkw_regex_core.specs.machine.Mirror.{along}
use Rattle.strkw_regex_search.specs.declared.code.Class.{Class}
use Rattle.strkw_ecma.specs.machine.Chains.{are_chained}
use Rattle.strkw_regex_search.specs.machine.Machine.{pattern_of}
use Rattle.strkw_regex_search.specs.machine.Search.{search_from}
use Rattle.strkw_ecma.proofs.finder.Finder.ask_chains.Goals as goal

pub returns-then-is_ascii : goal.returns-then-is_ascii
returns-then-is_ascii c =
    let f = c.args.self.now in
    let text = chars c.args.text.now in
    let b = c.in_ok-chains.chains.now in
    let there = sym c.in_ok-chains.ensures.value in
    c.is_found_in_ascii.ensures f.program.code.classes.items (f.tabled b there) ∙ f.chained b there text
    ∙ sym (ap (λ (b : Bool). search_from (pattern_of f.program) None (along b text)) c.if-is_backward.false)

pub returns : goal.returns
returns c =
    let f = c.args.self.now in
    let text = chars c.args.text.now in
    let b = c.in_ok-chains.chains.now in
    c.is_found.ensures
    ∙ ap (λ (classes : List Class). are_chained classes b text) c.deref.ensures.value
    ∙ f.chained b (sym c.in_ok-chains.ensures.value) text
    ∙ sym (ap (λ (b : Bool). search_from (pattern_of f.program) None (along b text)) c.if-is_backward.false)
