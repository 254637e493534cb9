use Rattle.std.proofs.Common.{◌≡◌, ◌∙◌, ◌++◌, ◌∷◌, ◌≤◌, ℕ, List, Bor, length, string_bytes, subst, take}
use Rattle.std.proofs.lemmas.List.{append_assoc, take_all}
use Rattle.std.specs.List.{flat_map}
use Rattle.neldrafi_uri.specs.machine.Texts.{texts}
use Rattle.neldrafi_uri.proofs.paths.Path.push_to.Goals as goal

pub returns : goal.returns
returns c =
    let text = c.args.text.now in
    let first = c.args.self.now.first.now in
    let others = c.args.self.now.others.items in
    let pushed : string_bytes c.push_str.new.self ≡ string_bytes text ++ first = c.in_ok-push_str.ensures.bytes in
    let all : take c.loop-segment.segment-index others ≡ others =
    take_all c.loop-segment.segment-index others (subst (λ (xs : List (Bor (List ℕ))). length xs ≤ c.loop-segment.segment-index) c.deref-segment-items.ensures.value c.loop-segment-test.false) in
    c.loop-segment.invariant ∙ rw (pushed, all) (append_assoc (string_bytes text) first (flat_map (λ s. 47 ∷ s) (texts others)))
