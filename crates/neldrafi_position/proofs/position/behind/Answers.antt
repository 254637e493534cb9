use Rattle.std.proofs.Common.{◌≡◌, ◌∙◌, ◌+◌, ◌++◌, ◌∷◌, ℕ, List, [], append_assoc, ap, arith, get_or, subst, sym, take}
use Rattle.std.proofs.lemmas.List.{take_all, take_more}
use Rattle.neldrafi_position.specs.declared.position.Position.{Position}
use Rattle.neldrafi_position.specs.machine.Marks.{IsBehind}
use Rattle.neldrafi_position.proofs.MarkLemmas.{byte_passed, character_passed, line_fed}
use Rattle.neldrafi_position.proofs.position.behind.Goals.{then-byte-eq10, else-byte-eq10+then-begins_character, else-byte-eq10+else-begins_character}
use Rattle.neldrafi_position.proofs.position.behind.Goals as goal

pub loop-byte-preserved : goal.loop-byte-preserved
loop-byte-preserved c =
    let i = c.loop-byte.byte-index in
    let bytes = c.args.bytes.now in
    let byte = get_or bytes i 0 in
    let more : (text : List ℕ) → (text ++ take i bytes) ++ byte ∷ [] ≡ text ++ take (i + 1) bytes =
    λ text. append_assoc text (take i bytes) (byte ∷ []) ∙ ap (λ t. text ++ t) (sym (take_more bytes i 0 c.loop-byte-test.true)) in
    let before = c.loop-byte.invariant.behind in
    elim c.if-byte-eq10.branch [
      | then-byte-eq10 w ↦ record {
        line = omega (arith, ap (λ (p : Position). p.line) w.position-is);
        column = omega (arith, ap (λ (p : Position). p.column) w.position-is);
        behind = λ text front. subst (λ t. IsBehind t c.if-byte-eq10.position) (more text)
            (rw w.position-is (line_fed (text ++ take i bytes) byte c.loop-byte.position w.if-byte-eq10.true (before text front)));
      }
      | else-byte-eq10+then-begins_character w ↦ record {
        line = omega (arith, ap (λ (p : Position). p.line) w.position-is);
        column = omega (arith, ap (λ (p : Position). p.column) w.position-is);
        behind = λ text front. subst (λ t. IsBehind t c.if-byte-eq10.position) (more text)
            (rw w.position-is (character_passed (text ++ take i bytes) byte c.loop-byte.position w.if-byte-eq10.false
            (sym w.begins_character.ensures ∙ w.if-begins_character.true) (before text front)));
      }
      | else-byte-eq10+else-begins_character w ↦ record {
        line = omega (arith, ap (λ (p : Position). p.line) w.position-is);
        column = omega (arith, ap (λ (p : Position). p.column) w.position-is);
        behind = λ text front. subst (λ t. IsBehind t c.if-byte-eq10.position) (more text)
            (rw w.position-is (byte_passed (text ++ take i bytes) byte c.loop-byte.position w.if-byte-eq10.false
            (sym w.begins_character.ensures ∙ w.if-begins_character.false) (before text front)));
      }
    ]

pub returns : goal.returns
returns c text front =
    subst (λ t. IsBehind (text ++ t) c.loop-byte.position) (take_all c.loop-byte.byte-index c.args.bytes.now c.loop-byte-test.false)
    (c.loop-byte.invariant.behind text front)
