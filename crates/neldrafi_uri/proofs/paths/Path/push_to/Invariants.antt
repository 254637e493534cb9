use Rattle.std.proofs.Common.{◌≡◌, ◌++◌, ◌∷◌, take, string_bytes}
use Rattle.std.specs.List.{flat_map}
use Rattle.neldrafi_uri.specs.machine.Texts.{texts}
use Rattle.neldrafi_uri.proofs.paths.Path.push_to.Given as goal

abbrev pub invariant-loop-segment : goal.invariant-loop-segment
invariant-loop-segment l = string_bytes l.text ≡ string_bytes l.initial.text ++ flat_map (λ s. 47 ∷ s) (texts (take l.segment-index l.self.others.items))
