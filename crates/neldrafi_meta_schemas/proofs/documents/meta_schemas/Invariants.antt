use Rattle.std.proofs.Common.{◌≡◌, Some, map, take}
use Rattle.std.specs.List.{AllByRecursion}
use Rattle.serde_json.specs.Read.{read as read_text}
use Rattle.serde_json.specs.View.{view}
use Rattle.neldrafi_meta_schemas.proofs.documents.meta_schemas.Given as goal

abbrev pub invariant-loop-uri : goal.invariant-loop-uri
invariant-loop-uri l = (map (λ m. m.uri.now) l.documents.items
    ≡ map (λ document. document.0.now) (take l.uri-index l.uri-items))
    × AllByRecursion (λ m. read_text m.text.now ≡ Some (view m.value)) l.documents.items
