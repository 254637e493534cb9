use Rattle.std.proofs.Common.{◌∷◌, [], drop, refl, subst}
use Rattle.neldrafi_position.specs.Parts.{parts}
use Rattle.neldrafi_position.proofs.MemberLemmas.{AreMade, all_made, one_made}
use Rattle.neldrafi_position.proofs.Texts.{behind}
use Rattle.neldrafi_position.proofs.starts.member_starts.Goals as goal

pub loop-key-preserved : goal.loop-key-preserved
loop-key-preserved c =
    let text = c.args.text.now in
    let rest = c.loop-key.rest.now in
    let value = c.in-Some.value.now in
    let next = c.in-Some-first_part.ensures in
    let at = behind text rest value c.loop-key.invariant.end c.in-Some.ensures.end in
    record {
      end = behind text value c.in-Some-first_part.behind.now at next.end;
      made = one_made text rest (parts (drop c.args.inside text)) c.in-Some.key.now value c.loop-key.starts c.put_start.new.starts c.value_start.result c.in-Some.ensures
          c.value_start.ensures c.in_ok-put_start.ensures c.loop-key.invariant.made (parts c.in-Some-first_part.behind.now) next.others;
    }

pub returns-in_default-first_part : goal.returns-in_default-first_part
returns-in_default-first_part c =
    let text = c.args.text.now in
    let all = parts (drop c.args.inside text) in
    let made = one_made text c.loop-key.rest.now all c.in-Some.key.now c.in-Some.value.now c.loop-key.starts c.put_start.new.starts c.value_start.result c.in-Some.ensures
    c.value_start.ensures c.in_ok-put_start.ensures c.loop-key.invariant.made [] c.in_default-first_part.ensures in
    all_made text [] c.args.inside c.put_start.new.starts (λ name. refl) made

pub returns : goal.returns
returns c =
    let text = c.args.text.now in
    let rest = c.loop-key.rest.now in
    all_made text (rest ∷ []) c.args.inside c.loop-key.starts (λ name. refl)
    (subst (λ left. AreMade text (rest ∷ left) (parts (drop c.args.inside text)) c.loop-key.starts) c.in_default.ensures c.loop-key.invariant.made)
