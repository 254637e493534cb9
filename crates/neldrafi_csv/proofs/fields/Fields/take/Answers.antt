use Rattle.std.proofs.Common.{◌≡◌, ◌∙◌, Some, ap, arith, refl, rules, subst, sym, length, drop, take}
use Rattle.std.specs.Prelude.{slice_get}
use Rattle.std.proofs.lemmas.List.{take_rest}
use Rattle.neldrafi_csv.specs.machine.Scans.{EndsBefore}
use Rattle.neldrafi_csv.proofs.FieldLemmas.{delimiter-taken, record-taken}
use Rattle.neldrafi_csv.proofs.fields.Fields.take.Goals as goal

pub fields-preserved : goal.fields-preserved
fields-preserved c =
    let here : slice_get c.args.bytes.now c.push.new.self.start ≡ Some c.args.delimiter.byte =
    sym c.byte_at.ensures ∙ c.in-Some.is ∙ ap (λ b. Some b) c.if-byte-delimiter.true in
    delimiter-taken c.args.delimiter.byte c.args.bytes.now c.fields.self c.push.new.self c.in-Field.size c.args.is_last c.fields.invariant
    c.in_ok-push-in-Field.ensures _ here refl refl refl refl refl

pub returns-in_default : goal.returns-in_default
returns-in_default c =
    record-taken c.args.delimiter.byte c.args.bytes.now c.fields.self c.push.new.self c.in-Field.size c.args.is_last c.fields.invariant
    c.in_ok-push-in-Field.ensures c.byte_at.result c.byte_at.ensures (λ e. c.if-byte-delimiter.false (cc (e, c.in-Some.is)))
    (subst (λ l. EndsBefore c.args.delimiter.byte (slice_get l c.in-Field.size) c.args.is_last) (take_rest c.args.bytes.now c.fields.self.start) c.in-Field.ensures.ends)

pub returns-in_default-2 : goal.returns-in_default-2
returns-in_default-2 c =
    record-taken c.args.delimiter.byte c.args.bytes.now c.fields.self c.push.new.self c.in-Field.size c.args.is_last c.fields.invariant
    c.in_ok-push-in-Field.ensures c.byte_at.result c.byte_at.ensures (λ e. cc (e, c.in_default.is))
    (subst (λ l. EndsBefore c.args.delimiter.byte (slice_get l c.in-Field.size) c.args.is_last) (take_rest c.args.bytes.now c.fields.self.start) c.in-Field.ensures.ends)
