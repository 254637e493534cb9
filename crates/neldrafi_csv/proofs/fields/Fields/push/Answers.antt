use Rattle.std.proofs.Common.{◌≡◌, ◌+◌, ◌++◌, ◌∷◌, [], ◌∙◌, ap, arith, length, refl, rules, subst, sym}
use Rattle.neldrafi_csv.specs.Records.{IsMisplaced}
use Rattle.neldrafi_csv.specs.machine.Spans.{value_in, values_in}
use Rattle.neldrafi_csv.proofs.FieldLemmas.{counted, takes-one}
use Rattle.neldrafi_csv.proofs.fields.Fields.push.Goals as goal

pub returns : goal.returns
returns c =
    let spans = c.in_ok-push.ensures.items ∙ ap (λ v. v.items ++ (c.in_ok-span.span ∷ [])) c.span.ensures.spans in
    let long : c.len.result ≡ length c.push.new.self.items = search rules in
    takes-one c.args.delimiter.byte c.args.bytes.now c.args.self.now c.span.new.self _ c.args.size c.in_ok-span.span c.requires.kept c.requires.within
    c.in_ok-span.ensures.ok spans refl (ap (λ n. n + c.args.size) c.span.ensures.start)
    (c.first_misplaced-self.ensures c.args.bytes.now c.span.new.self.copied.items (values_in c.args.bytes.now c.args.self.now)
    (subst (λ o. IsMisplaced (values_in c.args.bytes.now c.args.self.now) o) (sym c.span.ensures.misplaced) c.requires.kept.misplaced)
    (counted c.args.bytes.now c.args.self.now c.in_ok-span.span _ _ long spans))
    c.nothing-self.ensures
