use Rattle.std.proofs.Common.{ℕ, ◌%◌, nat_eq, ap, ◌∙◌}
use Rattle.std.proofs.lemmas.Nat.Bits.{shr_and_one}
use Rattle.strkw_regex_search.specs.machine.Bits.{bit}
use Rattle.strkw_regex_search.proofs.Bitted.{word_read}
use Rattle.strkw_regex_search.proofs.bits.Bits.get.Goals as goal

pub returns : goal.returns
returns c =
    let b = c.args.self.now in
    ap (λ (n : ℕ). nat_eq n 1) (shr_and_one c.word-word.result (c.args.place % 64))
    ∙ ap (λ (n : ℕ). bit n (c.args.place % 64)) c.word-word.ensures ∙ word_read b.words.items b.last b.filled c.args.place b.room b.low
