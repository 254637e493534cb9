use Rattle.std.proofs.Common.{◌≡◌, ◌++◌, drop, Some}
use Rattle.std.specs.Prelude.{option_map}
use Rattle.serde_json.specs.View.{view}
use Rattle.neldrafi_schema.specs.Paths.{value_at}
use Rattle.neldrafi_schema.specs.References.{path_along}
use Rattle.neldrafi_schema.specs.machine.Compiled.{path_of}
use Rattle.neldrafi_schema.proofs.Pointers.{texts}
use Rattle.neldrafi_schema.proofs.places.place_along.Given as goal

-- the path so far leads to the value, from which the tokens that are left lead on
abbrev pub invariant-loop-token : goal.invariant-loop-token
invariant-loop-token l = record {
  path : path_along (texts l.tokens) (view l.document)
      ≡ option_map (λ below. path_of l.path.items ++ below) (path_along (texts (drop l.token-index l.tokens)) (view l.value));
  there : value_at (path_of l.path.items) (view l.document) ≡ Some (view l.value);
}
