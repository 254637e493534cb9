use Rattle.std.proofs.Common.{◌≡◌, ℕ, List, [], ◌∷◌, ◌++◌, ◌∙◌, length, sym, refl, ap, subst}
use Rattle.std.proofs.lemmas.Bool.{eqb-true, eqb-false}
use Rattle.std.proofs.KnownBytes.{Appends-nil}
use Rattle.strkw_cli.specs.Answer.{IsAnswer, AreAnswers}
use Rattle.strkw_cli.specs.Lines.{lines}
use Rattle.strkw_cli.proofs.AnswerLemmas.{AreAnswers-one}
use Rattle.strkw_cli.proofs.OutcomeLemmas.{written_short, written_whole, some_all, lines-last_empty, lines-last_one}
use Rattle.strkw_cli.proofs.running.serve_last.Goals as goal

-- an empty last part is no line
pub returns-then-is_empty-clause-written : goal.returns-then-is_empty-clause-written
returns-then-is_empty-clause-written g c =
    let none = lines-last_empty c.args.line.now c.requires.begun (eqb-true (length c.args.line.now) 0 (sym c.is_empty.ensures ∙ c.if-is_empty.true)) in
    ([], Appends-nil (g.K.Sink.bytes_taken c.args.sink.now), rw none refl)

-- the answer to the one line
one : (line lent out old : List ℕ) → lent ≡ out → old ≡ [] → lines line ≡ line ∷ [] → (made : List ℕ) × (out ≡ old ++ made) × IsAnswer line made
    → AreAnswers (lines line) lent
one line lent out old same none is (made, e, answer) =
    let whole : made ≡ lent = sym (same ∙ e ∙ ap (λ x. x ++ made) none) in
    rw is (AreAnswers-one line lent (subst (IsAnswer line) whole answer))

pub returns-then-is_err-clause-written : goal.returns-then-is_err-clause-written
returns-then-is_err-clause-written g c =
    let is = lines-last_one c.args.line.now c.requires.begun (eqb-false (length c.args.line.now) 0 (sym c.is_empty.ensures ∙ c.if-is_empty.false)) in
    let answered = one c.args.line.now c.deref.result.now c.answer_with.new.out.items c.clear.new.self.items c.deref.ensures.value c.clear.ensures.items is
    c.in_ok-answer_with.ensures.ok in
    written_short c.write_all.result (g.K.Sink.bytes_taken c.args.sink.now) (g.K.Sink.bytes_taken c.write_all.new.self) (lines c.args.line.now)
    c.deref.result.now (sym c.is_err.ensures.value ∙ c.if-is_err.true) c.write_all.ensures.short
    (some_all (lines c.args.line.now) c.deref.result.now answered)

pub returns-clause-written : goal.returns-clause-written
returns-clause-written g c =
    let is = lines-last_one c.args.line.now c.requires.begun (eqb-false (length c.args.line.now) 0 (sym c.is_empty.ensures ∙ c.if-is_empty.false)) in
    let answered = one c.args.line.now c.deref.result.now c.answer_with.new.out.items c.clear.new.self.items c.deref.ensures.value c.clear.ensures.items is
    c.in_ok-answer_with.ensures.ok in
    written_whole c.write_all.result (g.K.Sink.bytes_taken c.args.sink.now) (g.K.Sink.bytes_taken c.write_all.new.self) c.deref.result.now
    (lines c.args.line.now) (sym c.is_err.ensures.value ∙ c.if-is_err.false) c.write_all.ensures.ok answered
