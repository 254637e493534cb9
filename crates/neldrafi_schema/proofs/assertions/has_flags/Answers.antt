use Rattle.std.proofs.Common.{rules, tests, ◌≡◌, ◌∙◌, ap, refl, List, [], ◌∷◌, String, Global}
use Rattle.std.specs.Prelude.{◌&&◌, is_some}
use Rattle.std.specs.List.{list_all}
use Rattle.std.proofs.lemmas.Iterator.Consumers.{YieldsList-from_rest}
use Rattle.std.proofs.lemmas.Iterator.Search.{all_from_yields_List}
use Rattle.serde_json.specs.Find.{as_bool}
use Rattle.serde_json.specs.View.{members_view, view}
use Rattle.serde_json.specs.declared.value.Value.{Value}
use Rattle.neldrafi_schema.specs.Values.{are_flags, has_flags}
use Rattle.neldrafi_schema.proofs.assertions.has_flags.Goals as goal

flags_among : (ms : List (String Global × Value)) → list_all (λ m. is_some (as_bool (view m.1))) ms ≡ are_flags (members_view ms)
flags_among [] = refl
flags_among (m ∷ ms) = ap (λ b. is_some (as_bool (view m.1)) && b) (flags_among ms)

pub returns-in-Some : goal.returns-in-Some
returns-in-Some c =
    let ms = c.in-Some.members.now.entries in
    let all = all_from_yields_List (λ m. is_some (as_bool (view m.1))) _ _ c.all.result c.all.ensures.ran (YieldsList-from_rest ms c.iter.ensures.rest) (λ x b q k. search (rules, tests)) in
    all ∙ flags_among ms ∙ ap has_flags c.in-Some.ensures
