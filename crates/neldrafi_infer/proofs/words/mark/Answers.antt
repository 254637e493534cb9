use Rattle.std.proofs.Common.{rules, ◌≡◌, ◌<◌, length, get_or}
use Rattle.neldrafi_infer.proofs.WordLemmas.{found_more, left_more, mark_more}
use Rattle.neldrafi_infer.proofs.words.mark.Goals as goal

pub loop-word-preserved : goal.loop-word-preserved
loop-word-preserved c =
    let i = c.loop-word.word-index in
    let ws = c.loop-word.words in
    let old = c.args.words.now in
    let w = c.word-item.result in
    let text = c.args.text.now in
    let within : i < length ws = search rules in
    let at : w ≡ get_or ws i w = search rules in record {
      before = mark_more ws old i w c.mark-is_found.new.self text within at (search rules) c.loop-word.invariant.after c.loop-word.invariant.before;
      after = left_more ws old i c.mark-is_found.new.self c.loop-word.invariant.after;
      found = found_more ws old i w text c.loop-word.is_found c.mark-is_found.result within at c.loop-word.invariant.after (search rules) c.loop-word.invariant.found;
    }
