-- What a reference names by its parts.
use Rattle.std.proofs.Common.{◌≡◌, ◌∙◌, ℕ, List, [], Bor, Option, Some, None, refl, ap}
use Rattle.std.specs.Prelude.{option_and_then, option_map, unwrap_or}
use Rattle.strkw_report.specs.declared.draft.Draft.{Draft}
use Rattle.neldrafi_uri.specs.Components.{fragment_of, without_fragment}
use Rattle.neldrafi_uri.specs.Resolution.{resolved}
use Rattle.neldrafi_schema.specs.Documents.{Documents}
use Rattle.neldrafi_schema.specs.Paths.{Path}
use Rattle.neldrafi_schema.specs.References.{decoded, path_of_fragment, path_of_reference}
use Rattle.neldrafi_schema.specs.Resources.{Identifier, all_identifiers, base_among}
use Rattle.neldrafi_schema.specs.Scopes.{Scope, dynamic_resource}

pub text_or : (o : Option (Bor (List ℕ))) (other : Bor (List ℕ)) → (unwrap_or o other).now ≡ unwrap_or (option_map (λ t. t.now) o) other.now
text_or None other = refl
text_or (Some t) other = refl

module _ (draft : Draft) (documents : Documents) (scope : Scope) (path : Path) (text : List ℕ) where
  -- a reference names what its fragment, decoded, names in the resource to which it leads
  pub named_by_parts : (ids : List Identifier) (uri used name : List ℕ) → ids ≡ all_identifiers draft documents
      → uri ≡ resolved (base_among draft documents path) (without_fragment text) → Some name ≡ decoded (unwrap_or (fragment_of text) [])
      → used ≡ dynamic_resource ids scope name uri → path_of_fragment documents ids used name ≡ path_of_reference draft documents scope path text
  named_by_parts ids uri used name known by is resource =
      let all = all_identifiers draft documents in
      let named = λ (others : List Identifier) (u n : List ℕ). path_of_fragment documents others (dynamic_resource others scope n u) n in
      ap (λ u. path_of_fragment documents ids u name) resource ∙ ap (λ others. named others uri name) known ∙ ap (λ u. named all u name) by
      ∙ ap (option_and_then (named all (resolved (base_among draft documents path) (without_fragment text)))) is
