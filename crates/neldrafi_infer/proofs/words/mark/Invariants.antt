use Rattle.std.proofs.Common.{◌≡◌, drop, map, take}
use Rattle.std.specs.List.{list_any}
use Rattle.std.specs.Str.{bytes_eq}
use Rattle.neldrafi_infer.specs.Words.{marked, word_view}
use Rattle.neldrafi_infer.proofs.words.mark.Given as goal

-- the words so far are marked, and the others are as they were
abbrev pub invariant-loop-word : goal.invariant-loop-word
invariant-loop-word l = record {
  before : map word_view (take l.word-index l.words) ≡ map (marked l.text) (map word_view (take l.word-index l.fn.words));
  after : drop l.word-index l.words ≡ drop l.word-index l.fn.words;
  found : l.is_found ≡ list_any (λ word. bytes_eq word.0 l.text) (map word_view (take l.word-index l.fn.words));
}
