-- Lemmas on what a run has written.
use Rattle.std.proofs.Common.{◌≡◌, ℕ, ◌+◌, ◌-◌, ◌<◌, true, false, Option, List, [], ◌∷◌, ◌++◌, Result, Ok, Err, OnOk, OnErr, is_err, length, take, drop, refl}
use Rattle.std.proofs.Common.{sym, ap, subst, ◌∙◌, append_assoc, append-nil, arith, inl, inr, cond, eqb, length-append, take-append-drop, eq-eqb}
use Rattle.std.proofs.lemmas.List.{take-append-le}
use Rattle.std.proofs.Math.Seq.{take-append-add}
use Rattle.std.proofs.lemmas.Bool.{cases_lt, ne_eqb}
use Rattle.std.specs.Io.KnownBytes.{Appends}
use Rattle.strkw_cli.specs.Lines.{ended_lines, last_part, lines}
use Rattle.strkw_cli.specs.Answer.{AreAnswers}
use Rattle.strkw_cli.specs.Outcome.{AnswersSome, IsCutShort, IsFaultOutcome}
use Rattle.strkw_cli.specs.Serving.{Serves}
use Rattle.strkw_cli.specs.declared.faults.RunFault.{RunFault}
use Rattle.strkw_cli.specs.declared.faults.RunFault.TheVariants.{Read, Write, Memory, TooLong}
use Rattle.strkw_cli.proofs.LineLemmas.{ended_lines-append, lines-append}
use Rattle.strkw_cli.proofs.AnswerLemmas.{AreAnswers-append, AreAnswers-one, none_ended}

-- the same after the lines that were answered before
pub AnswersSome-after : (front requests : List (List ℕ)) (made written : List ℕ) → AreAnswers front made → AnswersSome requests written
    → AnswersSome (front ++ requests) (made ++ written)
AnswersSome-after front requests made written are some = record {
  answered = front ++ some.answered;
  later = some.later;
  of_requests = ap (λ x. front ++ x) some.of_requests ∙ sym (append_assoc front some.answered some.later);
  wrote = AreAnswers-append front some.answered made written are some.wrote;
}

-- and so it is with answers that are cut short
pub IsCutShort-after : (front requests : List (List ℕ)) (made written : List ℕ) → AreAnswers front made → IsCutShort requests written
    → IsCutShort (front ++ requests) (made ++ written)
IsCutShort-after front requests made written are cut = record {
  answered = front ++ cut.answered;
  next = cut.next;
  later = cut.later;
  begun = cut.begun;
  missing = cut.missing;
  of_requests = ap (λ x. front ++ x) cut.of_requests ∙ sym (append_assoc front cut.answered (cut.next ∷ cut.later));
  whole = made ++ cut.whole;
  of_answered = AreAnswers-append front cut.answered made cut.whole are cut.of_answered;
  of_next = cut.of_next;
  wrote = ap (λ x. made ++ x) cut.wrote ∙ sym (append_assoc made cut.whole cut.begun);
}

-- less than the answers to these lines is cut short
cut_short : (answered later : List (List ℕ)) (out : List ℕ) (count : ℕ) → AreAnswers answered out → count < length out
    → IsCutShort (answered ++ later) (take count out)
cut_short [] later out count none short = let few : count < 0 = subst (λ x. count < length x) none short in absurd (omega (arith, few))
cut_short (line ∷ more) later out count (first, rest, is, are, e) short = elim (cases_lt count (length first)) [
  | inl here ↦ record {
    answered = [];
    next = line;
    later = more ++ later;
    begun = take count first;
    missing = drop count first;
    of_requests = refl;
    whole = [];
    of_answered = refl;
    of_next = rw (take-append-drop count first) is;
    wrote = ap (take count) e ∙ take-append-le count first rest (omega arith);
  }
  | inr past ↦
      let deeper : IsCutShort (more ++ later) (take (count - length first) rest) =
      cut_short more later rest (count - length first) are (omega (arith, ap length e, length-append first rest)) in
      let same : length first + (count - length first) ≡ count = omega arith in
      let joined : first ++ take (count - length first) rest ≡ take count out =
      sym (take-append-add first rest (count - length first)) ∙ ap (λ n. take n (first ++ rest)) same ∙ ap (take count) (sym e) in
      subst (IsCutShort (line ∷ (more ++ later))) joined (IsCutShort-after (line ∷ []) (more ++ later) first _ (AreAnswers-one line first is) deeper)
]

-- less than the answers to some beginning of the lines is cut short
pub cut_short_from_some : (requests : List (List ℕ)) (out : List ℕ) (count : ℕ) → AnswersSome requests out → count < length out
    → IsCutShort requests (take count out)
cut_short_from_some requests out count some short = rw some.of_requests (cut_short some.answered some.later out count some.wrote short)

-- the answers to some beginning of the lines that end
pub some_ended : (bytes out : List ℕ) → AnswersSome (ended_lines bytes) out → AnswersSome (lines bytes) out
unfolding lines
some_ended bytes out some =
    let last : List (List ℕ) = cond (eqb (length (last_part bytes)) 0) [] (last_part bytes ∷ []) in
    record {
      answered = some.answered;
      later = some.later ++ last;
      of_requests = ap (λ x. x ++ last) some.of_requests ∙ append_assoc some.answered some.later last;
      wrote = some.wrote;
    }

-- the answers to all of them
pub some_all : (requests : List (List ℕ)) (out : List ℕ) → AreAnswers requests out → AnswersSome requests out
some_all requests out are = record { answered = requests; later = []; of_requests = sym (append-nil requests); wrote = are }

-- nothing is the answers to no line
pub some_none : (requests : List (List ℕ)) → AnswersSome requests []
some_none requests = record { answered = []; later = requests; of_requests = refl; wrote = refl }

-- whether a piece was answered whole or not
pub some_either : {T E : Type 0} (r : Result T E) (old out : List ℕ) (requests : List (List ℕ)) → old ≡ []
    → OnOk r ((made : List ℕ) × (out ≡ old ++ made) × AreAnswers requests made)
    → OnErr r ((written : List ℕ) × (out ≡ old ++ written) × AnswersSome requests written) → AnswersSome requests out
some_either (Ok x) old out requests none (made, is, are) part = subst (AnswersSome requests) (sym (is ∙ ap (λ x. x ++ made) none)) (some_all requests made are)
some_either (Err x) old out requests none whole (written, is, some) = subst (AnswersSome requests) (sym (is ∙ ap (λ x. x ++ written) none)) some

-- what a failed write of the answers to some beginning of the lines has written
pub written_short : {T E : Type 0} (r : Result T E) (a b : Option (List ℕ)) (requests : List (List ℕ)) (out : List ℕ) → is_err r ≡ true
    → OnErr r ((count : ℕ) × (count < length out) × Appends a b (take count out)) → AnswersSome requests out
    → (written : List ℕ) × Appends a b written × IsCutShort requests written
written_short (Ok x) a b requests out e short some = cc
written_short (Err x) a b requests out e (count, short, took) some = (take count out, took, cut_short_from_some requests out count some short)

-- what a whole write has written
pub written_whole : {T E : Type 0} (r : Result T E) (a b : Option (List ℕ)) (out : List ℕ) (whole : List (List ℕ)) → is_err r ≡ false → OnOk r (Appends a b out)
    → AreAnswers whole out
    → (written : List ℕ) × Appends a b written × AreAnswers whole written
written_whole (Ok x) a b out whole e took are = (out, took, are)
written_whole (Err x) a b out whole e took are = cc

-- a last part that is empty is no line
pub lines-last_empty : (line : List ℕ) → last_part line ≡ line → length line ≡ 0 → lines line ≡ []
unfolding lines
lines-last_empty line begun empty = rw (none_ended line begun, begun, eq-eqb (length line) 0 empty) refl

-- a last part that is not empty is one line
pub lines-last_one : (line : List ℕ) → last_part line ≡ line → (length line ≡ 0 → ⊥) → lines line ≡ line ∷ []
unfolding lines
lines-last_one line begun some = rw (none_ended line begun, begun, ne_eqb (length line) 0 some) refl

-- a part of a run, after the lines that were answered before
pub Serves-after : {T : Type 0} (r : Result T RunFault) (whole : List (List ℕ)) (before more made written : List ℕ) → AreAnswers (ended_lines before) made
    → Serves r whole (last_part before ++ more) written
    → Serves r (ended_lines before ++ whole) (before ++ more) (made ++ written)
Serves-after (Ok x) whole before more made written are s = AreAnswers-append (ended_lines before) whole made written are s
Serves-after (Err Read) whole before more made written are s = s
Serves-after (Err TooLong) whole before more made written are s = s
Serves-after (Err Memory) whole before more made written are s =
    rw (ended_lines-append before more) (AnswersSome-after (ended_lines before) (ended_lines (last_part before ++ more)) made written are s)
Serves-after (Err Write) whole before more made written are s =
    rw (lines-append before more) (IsCutShort-after (ended_lines before) (lines (last_part before ++ more)) made written are s)

-- the fault of a part of a run is that of the run
pub outcome_from_fault : (U : Type 0) (e : RunFault) (whole : List (List ℕ)) (read written : List ℕ) → Serves {T = U} (Err e) whole read written
    → IsFaultOutcome e read written
outcome_from_fault U Read whole read written s = absurd s
outcome_from_fault U TooLong whole read written s = absurd s
outcome_from_fault U Memory whole read written s = s
outcome_from_fault U Write whole read written s = s
