use Rattle.strkw_keywords.specs.Lists.{lists_of}
use Rattle.strkw_keywords.specs.Meanings.{builtin}
use Rattle.strkw_keywords.specs.Demands.{is_format}
use Rattle.strkw_keywords.proofs.Reports.{finds_one, of_format, not_of_format}
use Rattle.strkw_keywords.proofs.format.OfBuiltinTest.findings.Goals as goal

pub returns-then-is_valid-clause-found : goal.returns-then-is_valid-clause-found
returns-then-is_valid-clause-found g c =
    let checks = lists_of (λ f. (goal.Format-dyn g (f.vtable, f.value)).admits f.value)
    (λ m. (goal.MediaTypeCheck-dyn g (m.vtable, m.value)).accepts m.value)
    (λ k. (goal.ContentCodec-dyn g (k.vtable, k.value)).is_encoding k.value)
    (λ k. (goal.ContentCodec-dyn g (k.vtable, k.value)).decoding k.value) c.args._checks.now in
    let format = builtin c.args.self.now.format in
    finds_one (is_format format) checks c.args.text.now _
    (of_format format checks c.args.text.now c.is_valid.result c.if-is_valid.true (rw c.as_str.ensures at c.is_valid.ensures))

pub returns-else-is_valid-clause-found : goal.returns-else-is_valid-clause-found
returns-else-is_valid-clause-found g c =
    let checks = lists_of (λ f. (goal.Format-dyn g (f.vtable, f.value)).admits f.value)
    (λ m. (goal.MediaTypeCheck-dyn g (m.vtable, m.value)).accepts m.value)
    (λ k. (goal.ContentCodec-dyn g (k.vtable, k.value)).is_encoding k.value)
    (λ k. (goal.ContentCodec-dyn g (k.vtable, k.value)).decoding k.value) c.args._checks.now in
    let format = builtin c.args.self.now.format in
    finds_one (is_format format) checks c.args.text.now _
    (not_of_format format checks c.args.text.now c.as_str-else-is_valid.result.now c.is_valid.result c.if-is_valid.false
    (rw c.as_str.ensures at c.is_valid.ensures) c.as_str-else-is_valid.ensures)
