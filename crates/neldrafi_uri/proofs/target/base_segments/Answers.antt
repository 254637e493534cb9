use Rattle.std.proofs.Common.{rules, ◌≡◌, ◌∙◌, ap, sym, length, vec_len}
use Rattle.neldrafi_uri.specs.Resolution.{but_last}
use Rattle.neldrafi_uri.specs.machine.Texts.{components_in}
use Rattle.neldrafi_uri.proofs.Merging.{by_path, is_some_text, popped, without_authority}
use Rattle.neldrafi_uri.proofs.target.base_segments.Goals as goal
use Rattle.neldrafi_uri.proofs.target.base_segments.Goals.{else-is_some-via-then-is_some+else-is_empty, else-is_some-via-else-is_some}

pub returns : goal.returns
returns c =
    let base = components_in c.args.base in
    let segments = c.in_ok-segments.segments in
    let long : vec_len segments ≡ length segments.items = search rules in
    let cut = popped segments.items c.pop.new.self.items (vec_len segments) long c.pop.ensures.rest ∙ ap but_last c.in_ok-segments.ensures in
    elim c.else-is_some.branch [
      | else-is_some-via-then-is_some+else-is_empty w ↦ cut ∙ sym (by_path base (sym w.is_empty.ensures ∙ w.if-is_empty.false))
      | else-is_some-via-else-is_some w ↦ cut ∙ sym (without_authority base (is_some_text c.args.base.authority ∙ sym c.is_some.ensures ∙ w.if-is_some.false))
    ]
