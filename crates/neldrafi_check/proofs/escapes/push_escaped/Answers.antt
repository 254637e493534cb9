use Rattle.std.proofs.Common.{◌++◌, ◌∙◌, sym, ap, append_assoc, append-nil, string_bytes}
use Rattle.std.specs.List.{flat_map}
use Rattle.std.proofs.lemmas.Grind.{flat_map-append}
use Rattle.std.proofs.lemmas.Iterator.{YieldsList-from_chars}
use Rattle.std.proofs.lemmas.Iterator.Consumers.{YieldsList-end}
use Rattle.std.proofs.lemmas.List.{map-id}
use Rattle.neldrafi_check.specs.Escapes.{escaped_char}
use Rattle.neldrafi_check.proofs.escapes.push_escaped.Goals as goal

pub loop-c-preserved : goal.loop-c-preserved
loop-c-preserved c =
    simp (flat_map-append, append_assoc, append-nil, c.in_ok-push_escaped_char.ensures, c.loop-c.invariant)

pub returns : goal.returns
returns c =
    let yields = YieldsList-from_chars c.args.text.now c.utf8.text cc in
    let t = YieldsList-end yields c.loop-c.yielded _ c.loop-c.yielded_by _ _ c.in-None.is c.next.ensures.steps in
    c.loop-c.invariant ∙ ap (λ cs. string_bytes c.args.out.now ++ flat_map (escaped_char c.args.syntax) cs) (sym (map-id c.loop-c.yielded) ∙ t.0)
