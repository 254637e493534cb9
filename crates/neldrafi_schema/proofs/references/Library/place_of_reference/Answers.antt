use Rattle.std.proofs.Common.{◌≡◌, ◌∙◌, [], ap, sym, subst, string_bytes, IfOk, Some}
use Rattle.std.specs.Prelude.{option_map, unwrap_or}
use Rattle.neldrafi_uri.specs.Components.{fragment_of, without_fragment}
use Rattle.neldrafi_uri.specs.Resolution.{resolved}
use Rattle.neldrafi_schema.specs.References.{decoded}
use Rattle.neldrafi_schema.specs.Resources.{base_among}
use Rattle.neldrafi_schema.specs.machine.Compiled.{path_of}
use Rattle.neldrafi_schema.specs.machine.Identifiers.{identifiers_of}
use Rattle.neldrafi_schema.specs.machine.Places.{documents_of, place_path, scope_of}
use Rattle.neldrafi_schema.proofs.Referring.{named_by_parts, text_or}
use Rattle.neldrafi_schema.proofs.references.Library.place_of_reference.Goals as goal

pub returns-in-Some-clause-path : goal.returns-in-Some-clause-path
returns-in-Some-clause-path c =
    let documents = documents_of c.args.self.now.documents in
    let path = path_of c.args.path.now in
    let text = c.args.text.now in
    let base : c.as_str.result.now ≡ base_among c.args.self.now.draft documents path = c.as_str.ensures.value ∙ c.in_ok-base.ensures in
    let uri : c.as_str-in-Some.result.now ≡ resolved (base_among c.args.self.now.draft documents path) (without_fragment text) =
    c.as_str-in-Some.ensures.value ∙ c.in_ok-uri.ensures ∙ ap (λ b. resolved b c.split_fragment.result.0.now) base
    ∙ ap (resolved (base_among c.args.self.now.draft documents path)) c.split_fragment.ensures.before in
    let left : c.unwrap_or.result.now ≡ unwrap_or (fragment_of text) [] =
    ap (λ t. t.now) c.unwrap_or.ensures ∙ text_or c.split_fragment.result.1 _ ∙ ap (λ o. unwrap_or o []) c.split_fragment.ensures.fragment in
    let fragment : Some c.as_str-name.result.now ≡ decoded (unwrap_or (fragment_of text) []) =
    ap Some c.as_str-name.ensures.value ∙ ap (option_map string_bytes) (sym c.in-Some.is) ∙ c.in_ok-name.ensures ∙ ap decoded left in
    subst (λ p. IfOk c.place_of_fragment.result (λ o. option_map place_path o ≡ p))
    (named_by_parts c.args.self.now.draft documents (scope_of c.args.scope.now) path text (identifiers_of c.args.self.now.identifiers.items) _ _ _ c.requires.library uri fragment
    c.dynamic_resource-uri.ensures) c.place_of_fragment.ensures.path
