-- The check of lines, line by line.
use Rattle.std.proofs.Common.{◌≡◌, ◌∙◌, ◌++◌, ◌+◌, ◌<◌, ℕ, List, [], length, sym, ap, subst, append_assoc, append-nil}
use Rattle.std.specs.Io.BufRead.{drop_through, first_line}
use Rattle.neldrafi_check.proofs.CountLemmas.{both_assoc, nothing_before, nothing_behind}
use Rattle.neldrafi_check.specs.Counting.{both, of_nothing}
use Rattle.neldrafi_check.specs.Files.{LinesTold}
use Rattle.neldrafi_check.specs.declared.counts.Counts.{Counts}
use Rattle.neldrafi_check.specs.machine.Runs.{Going}

module _ (told : ℕ → List ℕ → Counts → List ℕ → Type 0) (text : List ℕ) where
  -- before the first line
  going_start : Going told text 1 of_nothing text []
  going_start others later rest = subst (λ n. LinesTold told 1 text n later) (sym (nothing_before others)) rest

  pub start : (out : List ℕ) → out ≡ [] → Going told text 1 of_nothing text ([] ++ out)
  start out is = subst (λ l. Going told text 1 of_nothing text l) (sym is) going_start

  -- one line more
  going_more : (number : ℕ) (count more : Counts) (rest made added : List ℕ) → Going told text number count rest made
      → 0 < length rest → told number (first_line rest) more added
      → Going told text (number + 1) (both count more) (drop_through 10 rest) (made ++ added)
  going_more number count more rest made added going some line others later lines =
      let all = going (both more others) (added ++ later) (LinesTold.more number rest more others added later some line lines) in
      subst (λ n. LinesTold told 1 text n ((made ++ added) ++ later)) (both_assoc count more others)
      (subst (λ l. LinesTold told 1 text (both count (both more others)) l) (sym (append_assoc made added later)) all)

  -- .. of which some was written, with what was gathered before, and the rest is kept
  pub step : (number : ℕ) (count more total : Counts) (rest line written old mid new put pushed : List ℕ)
      → Going told text number count rest (written ++ old) → 0 < length rest → line ≡ first_line rest
      → told number line more pushed → total ≡ both count more → mid ≡ old ++ pushed → mid ≡ put ++ new
      → Going told text (number + 1) total (drop_through 10 rest) ((written ++ put) ++ new)
  step number count more total rest line written old mid new put pushed going some is_line added sum grown kept =
      let next = going_more number count more rest (written ++ old) pushed going some (subst (λ l. told number l more pushed) is_line added) in
      let made = append_assoc written put new ∙ ap (λ l. written ++ l) (sym kept ∙ grown) ∙ sym (append_assoc written old pushed) in
      subst (λ l. Going told text (number + 1) total (drop_through 10 rest) l) (sym made)
      (subst (λ n. Going told text (number + 1) n (drop_through 10 rest) ((written ++ old) ++ pushed)) (sym sum) next)

  -- behind the last
  pub finish : (number : ℕ) (count : Counts) (rest made : List ℕ) → rest ≡ [] → Going told text number count rest made → LinesTold told 1 text count made
  finish number count rest made is going =
      let all = subst (λ r. Going told text number count r made) is going of_nothing [] (LinesTold.none number) in
      subst (λ n. LinesTold told 1 text n made) (nothing_behind count)
      (subst (λ l. LinesTold told 1 text (both count of_nothing) l) (append-nil made) all)
