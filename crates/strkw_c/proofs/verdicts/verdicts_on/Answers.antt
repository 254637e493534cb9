use Rattle.std.proofs.Common.{◌≡◌, [], length, drop, subst, append-nil, ap, arith}
use Rattle.std.proofs.lemmas.List.{drop_all}
use Rattle.strkw_keywords.specs.Handed.{lists_of}
use Rattle.strkw_c.specs.Verdicts.{Passes, AreVerdicts}
use Rattle.strkw_c.specs.Texts.{numbers}
use Rattle.strkw_c.proofs.TextLemmas.{ascends, are_texts, starts_within, texts_from}
use Rattle.strkw_c.proofs.verdicts.verdicts_on.Goals as goal

pub loop-place-init : goal.loop-place-init
loop-place-init g c = (
  ap length c.in_ok-made.ensures.items,
  ascends c.args.texts.now c.args.start (numbers c.args.ends.now) c.requires.texts.0 c.requires.texts.1,
  λ more are.
      rw c.in_ok-made.ensures.items are,
)

pub returns-clause-verdicts : goal.returns-clause-verdicts
returns-clause-verdicts g c =
    let lists =
    lists_of (λ b. (goal.Format-dyn g b).admits b.1) (λ b. (goal.MediaTypeCheck-dyn g b).accepts b.1)
    (λ b. (goal.ContentCodec-dyn g b).is_encoding b.1) (λ b. (goal.ContentCodec-dyn g b).decoding b.1) c.args.checks.now in
    let (count, up, all) = c.loop-place.invariant in
    let ends = numbers c.args.ends.now in
    let texts = texts_from c.args.texts.now c.args.start ends in
    let none : drop c.loop-place.place ends ≡ [] = drop_all c.loop-place.place ends (omega (arith, c.loop-place-test.false)) in (
      texts,
      are_texts c.args.texts.now c.args.start ends
          (starts_within c.args.texts.now c.args.start ends c.requires.texts.0 c.requires.texts.1)
          (ascends c.args.texts.now c.args.start (numbers c.args.ends.now) c.requires.texts.0 c.requires.texts.1),
      subst (AreVerdicts (Passes g.E.RegexEngine.outcome c.args.keywords.now lists) texts) (append-nil c.loop-place.made.items) (all [] (rw none tt)),
    )
