use Rattle.std.proofs.Common.{◌≡◌, length, take, drop, rules, subst}
use Rattle.neldrafi_csv.specs.machine.Scans.{HasShape}
use Rattle.neldrafi_csv.proofs.FieldLemmas.{doubled-span, escaped-span}
use Rattle.neldrafi_csv.proofs.fields.Fields.span.Goals as goal

pub returns-in-Escaped-clause-ok : goal.returns-in-Escaped-clause-ok
returns-in-Escaped-clause-ok c =
    escaped-span c.args.delimiter.byte c.args.bytes.now c.args.self.now c.args.size c.requires.within
    (subst (HasShape c.args.delimiter.byte (take c.args.size (drop c.args.self.now.start c.args.bytes.now))) c.in-Escaped.is c.requires.shape)

pub returns-in_ok-push_value-in-Doubled-clause-ok : goal.returns-in_ok-push_value-in-Doubled-clause-ok
returns-in_ok-push_value-in-Doubled-clause-ok c =
    let from : c.len-copied.result ≡ length c.args.self.now.copied.items = search rules in
    let to : c.len.result ≡ length c.push_value.new.out.items = search rules in
    doubled-span c.args.delimiter.byte c.args.bytes.now c.args.self.now _ c.args.size c.len-copied.result c.len.result c.requires.within
    (subst (HasShape c.args.delimiter.byte (take c.args.size (drop c.args.self.now.start c.args.bytes.now))) c.in-Doubled.is c.requires.shape)
    (λ value escaped. c.in_ok-push_value-in-Doubled.ensures value escaped) from to
