use Rattle.std.proofs.Common.{◌≡◌, length, map, drop, take_all, Some, arith, sym, ap, subst, ◌∙◌, length-drop}
use Rattle.std.specs.Char.{to_ascii_lowercase}
use Rattle.std.proofs.lemmas.Bool.{false≢true}
use Rattle.std.proofs.lemmas.Option.{none-some, same_Some}
use Rattle.idna.specs.Punycode.{decode}
use Rattle.strkw_label.specs.IdnHostName.{IsUnicodeLabel, encoded_form}
use Rattle.strkw_label.specs.LabelFacts.{AreFactsOf}
use Rattle.strkw_label.proofs.EncodedLengths.{decoded_from_encoded}
use Rattle.strkw_label.proofs.IdnLabels.{form_of_a_label, begins_from_a_label, payload_from_a_label}
use Rattle.strkw_label.proofs.IdnLabels.{a_label_from_decoded, length_from_a_label, stands_from_a_label}
use Rattle.strkw_label.proofs.Splitting.{some_seen, none_seen}
use Rattle.strkw_label.proofs.idn_host_name.a_label_facts.Goals as goal

pub returns-then-not-is_xn-clause-none : goal.returns-then-not-is_xn-clause-none
returns-then-not-is_xn-clause-none c = λ form s.
    let label = c.args.label.now in
    let h = form_of_a_label label form c.requires.ascii c.requires.reserved s in
    false≢true (sym c.if-not-is_xn.true ∙ c.is_xn.ensures.1 (begins_from_a_label label form h.2))

pub returns-in_default-clause-none : goal.returns-in_default-clause-none
returns-in_default-clause-none c = λ form s.
    let label = c.args.label.now in
    let payload : c.as_str.result.now ≡ map to_ascii_lowercase (drop 4 label) =
    c.as_str.ensures.value ∙ c.in_ok-payload.ensures
    ∙ ap (map to_ascii_lowercase) (take_all _ (drop 4 label) (omega (arith, length-drop 4 label))) in
    let h = form_of_a_label label form c.requires.ascii c.requires.reserved s in
    let there : decode c.as_str.result.now ≡ Some form = ap decode (payload ∙ payload_from_a_label label form h.2) ∙ decoded_from_encoded form h.0 in
    none-some form (sym (none_seen _ _ _ c.in_ok-form.ensures c.in_default.is) ∙ there)

pub returns-then-not-branch-clause-none : goal.returns-then-not-branch-clause-none
returns-then-not-branch-clause-none c = λ form s.
    let label = c.args.label.now in
    let payload : c.as_str.result.now ≡ map to_ascii_lowercase (drop 4 label) =
    c.as_str.ensures.value ∙ c.in_ok-payload.ensures
    ∙ ap (map to_ascii_lowercase) (take_all _ (drop 4 label) (omega (arith, length-drop 4 label))) in
    let h = form_of_a_label label form c.requires.ascii c.requires.reserved s in
    let there : decode c.as_str.result.now ≡ Some form = ap decode (payload ∙ payload_from_a_label label form h.2) ∙ decoded_from_encoded form h.0 in
    let same = same_Some _ _ (sym there ∙ some_seen _ _ c.in-Some.form _ c.in_ok-form.ensures c.in-Some.is) in
    false≢true (sym c.if-not-branch.true ∙ c.in_ok-is_unicode_label.ensures.1 (subst IsUnicodeLabel (same ∙ sym c.deref.ensures.value) h.1))

pub of-requires : goal.of-requires
of-requires c =
    let label = c.args.label.now in
    let payload : c.as_str.result.now ≡ map to_ascii_lowercase (drop 4 label) =
    c.as_str.ensures.value ∙ c.in_ok-payload.ensures
    ∙ ap (map to_ascii_lowercase) (take_all _ (drop 4 label) (omega (arith, length-drop 4 label))) in
    let form = c.in-Some.form.items in
    let found = some_seen _ _ c.in-Some.form _ c.in_ok-form.ensures c.in-Some.is in
    let begins = c.is_xn.ensures.0 c.if-not-is_xn.false in
    let unicode : IsUnicodeLabel form = subst IsUnicodeLabel c.deref.ensures.value (c.in_ok-is_unicode_label.ensures.0 c.if-not-branch.false) in
    let whole = a_label_from_decoded label c.as_str.result.now form c.requires.reserved begins payload found in
    length_from_a_label label form whole unicode.beyond_ascii ∙ ap (λ x. length (encoded_form x)) (sym c.deref-2.ensures.value)

pub returns-clause-some : goal.returns-clause-some
returns-clause-some c =
    let label = c.args.label.now in
    let payload : c.as_str.result.now ≡ map to_ascii_lowercase (drop 4 label) =
    c.as_str.ensures.value ∙ c.in_ok-payload.ensures
    ∙ ap (map to_ascii_lowercase) (take_all _ (drop 4 label) (omega (arith, length-drop 4 label))) in
    let form = c.in-Some.form.items in
    let found = some_seen _ _ c.in-Some.form _ c.in_ok-form.ensures c.in-Some.is in
    let begins = c.is_xn.ensures.0 c.if-not-is_xn.false in
    let unicode : IsUnicodeLabel form = subst IsUnicodeLabel c.deref.ensures.value (c.in_ok-is_unicode_label.ensures.0 c.if-not-branch.false) in (
      form,
      stands_from_a_label label c.as_str.result.now form c.requires.reserved begins payload found unicode c.requires.small,
      subst (AreFactsOf c.of.result) c.deref-2.ensures.value c.of.ensures.facts,
    )
