use Rattle.std.proofs.Common.{◌≡◌, ◌∙◌, ◌++◌, ◌∷◌, [], ap, sym}
use Rattle.std.proofs.lemmas.List.{map_push}
use Rattle.neldrafi_uri.specs.Resolution.{without_dots}
use Rattle.neldrafi_uri.specs.machine.Texts.{texts}
use Rattle.neldrafi_uri.proofs.Dots.{kept}
use Rattle.neldrafi_uri.proofs.paths.Path.add.Goals as goal

pub returns-in_default : goal.returns-in_default
returns-in_default c =
    let first = c.args.self.now.first.now in
    let before = c.args.self.now.others.items in
    let pushed : texts c.push.new.self.items ≡ texts before ++ c.args.segment.now ∷ [] =
    ap texts c.in_ok-push-in_default.ensures.items ∙ map_push (λ s. s.now) before c.args.segment in
    λ others last. ap (λ ss. without_dots first ss others) pushed
    ∙ sym (kept first (texts before) c.args.segment.now others c.in_default.not-text c.in_default.not-text-2)
