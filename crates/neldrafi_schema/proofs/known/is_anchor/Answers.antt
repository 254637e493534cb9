use Rattle.std.proofs.Common.{rules, tests, ◌∙◌, ◌-◌, ap, sym, drop, length, take}
use Rattle.std.specs.Prelude.{◌&&◌}
use Rattle.std.specs.List.{list_all}
use Rattle.std.proofs.lemmas.Iterator.{YieldsList-from_slice}
use Rattle.std.proofs.lemmas.Iterator.Search.{all_from_yields_List}
use Rattle.neldrafi_schema.specs.Drafts.{goes_on_in_anchor, is_anchor}
use Rattle.neldrafi_schema.proofs.Lists.{first_and_others}
use Rattle.neldrafi_schema.proofs.known.is_anchor.Goals as goal

pub returns-then-begins_anchor : goal.returns-then-begins_anchor
returns-then-begins_anchor c =
    let draft = c.args.draft in
    let cs = c.as_bytes.result.now in
    let others = take (length cs - 1) (drop 1 cs) in
    let all = all_from_yields_List (goes_on_in_anchor draft) _ _ c.all.result c.all.ensures.ran (YieldsList-from_slice others cc) (λ x b q k. search (rules, tests)) in
    let parts = ap (is_anchor draft) (sym c.as_bytes.ensures.value ∙ first_and_others cs 0 c.in-len1-up.len_at_least) in
    all ∙ ap (λ b. b && list_all (goes_on_in_anchor draft) others) c.if-begins_anchor.ensures ∙ sym parts
