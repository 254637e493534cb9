use Rattle.std.proofs.Common.{◌≡◌, ◌∷◌, ◌++◌, [], List, false, IfOk, sym, ap, subst, ◌∙◌}
use Rattle.strkw_regex_core.specs.machine.LeadingLookahead.{Part, rest, fronts, parts}
use Rattle.strkw_regex_core.specs.machine.Fronts.{parts_view}
use Rattle.strkw_regex_search.specs.machine.Passes.{Pass, ArePasses, passes_of, pass_of}
use Rattle.strkw_regex_core.specs.machine.Shape.{outline_pattern}
use Rattle.strkw_regex_search.proofs.passes.passes_for.Goals as goal

pub returns : goal.returns
returns c =
    let p = outline_pattern c.args.outline in
    let first : Part = record { negated = false; pattern = outline_pattern c.in_ok-cut.cut.rest } in
    let pass = c.in_ok-of.field-0 in
    let one : passes_of c.push.new.self.items ≡ pass_of pass ∷ [] =
    ap passes_of (c.in_ok-push.ensures.items ∙ ap (λ l. l ++ pass ∷ []) c.new-passes.ensures.items) in
    let are : ArePasses (passes_of c.push.new.self.items) (first ∷ []) =
    subst (λ (l : List Pass). ArePasses l (first ∷ [])) (sym one) (c.in_ok-of.ensures, tt) in
    let all : first ∷ parts_view c.cut.new.fronts.items ≡ parts p =
    ap (λ r. record { negated = false; pattern = r } ∷ parts_view c.cut.new.fronts.items) c.in_ok-cut.ensures.rest
    ∙ ap (λ (l : List Part). record { negated = false; pattern = rest p } ∷ l)
    (c.in_ok-cut.ensures.fronts ∙ ap (λ l. parts_view l ++ fronts p) c.new-fronts.ensures.items) in
    subst (λ (ps : List Part). IfOk c.with_fronts.result (λ made. ArePasses (passes_of made.items) ps)) all
    (c.with_fronts.ensures (first ∷ []) are)
