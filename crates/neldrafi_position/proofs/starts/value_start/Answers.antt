use Rattle.std.proofs.Common.{◌∙◌}
use Rattle.neldrafi_position.proofs.Pointing.{counted_back, cut_back}
use Rattle.neldrafi_position.proofs.Texts.{behind}
use Rattle.neldrafi_position.proofs.starts.value_start.Goals as goal

pub returns : goal.returns
returns c =
    let text = c.args.text.now in
    let value = c.behind_space.result.now in
    let end = behind text c.args.rest.now value c.requires c.behind_space.ensures.end in
    record { cut = cut_back text value end; same = counted_back text value end ∙ c.behind_space.ensures.space }
