use Rattle.strkw_keywords.specs.Lists.{lists_of}
use Rattle.strkw_keywords.specs.Choices.{choice_of}
use Rattle.strkw_keywords.specs.Demands.{is_encoded}
use Rattle.strkw_keywords.proofs.Reports.{finds_one}
use Rattle.strkw_keywords.proofs.content.checks.EncodedTest.findings.Goals as goal

pub returns-clause-found : goal.returns-clause-found
returns-clause-found g c =
    let checks = lists_of (λ f. (goal.Format-dyn g (f.vtable, f.value)).admits f.value)
    (λ m. (goal.MediaTypeCheck-dyn g (m.vtable, m.value)).accepts m.value)
    (λ k. (goal.ContentCodec-dyn g (k.vtable, k.value)).is_encoding k.value)
    (λ k. (goal.ContentCodec-dyn g (k.vtable, k.value)).decoding k.value) c.args.checks.now in
    finds_one (is_encoded (choice_of c.args.self.now.codec)) checks c.args.text.now _ (rw c.as_str.ensures at c.in_ok-finding.ensures)
