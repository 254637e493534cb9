use Rattle.std.proofs.Common.{◌≡◌, true, length, arith, sym, ap, ◌∙◌}
use Rattle.std.proofs.lemmas.Bool.{false≢true}
use Rattle.strkw_label.specs.IdnHostName.{is_all_ascii}
use Rattle.strkw_label.proofs.IdnLabels.{label_fits, form_in_ascii, encoded_plain}
use Rattle.strkw_label.proofs.idn_host_name.label_facts.Goals as goal

pub returns-then-label-gt-LONGEST_LABEL-clause-none : goal.returns-then-label-gt-LONGEST_LABEL-clause-none
returns-then-label-gt-LONGEST_LABEL-clause-none c = λ form s. omega (arith, label_fits c.args.label.now form s, c.if-label-gt-LONGEST_LABEL.true)

pub returns-then-not-is_ascii_label-clause-none : goal.returns-then-not-is_ascii_label-clause-none
returns-then-not-is_ascii_label-clause-none c = λ form s.
    let label = c.args.label.now in
    let ascii : is_all_ascii label ≡ true = sym c.is_all_ascii.ensures ∙ c.if-not-is_all_ascii.false in
    false≢true (
    sym c.if-not-is_ascii_label.true
    ∙ c.is_ascii_label.ensures.1 (
    form_in_ascii label form ascii (λ r. false≢true (sym c.if-has_reserved_hyphens.false ∙ c.has_reserved_hyphens.ensures.1 r)) s))

pub of-requires : goal.of-requires
of-requires c =
    let ascii : is_all_ascii c.args.label.now ≡ true = sym c.is_all_ascii.ensures ∙ c.if-not-is_all_ascii.false in
    ap length (sym (encoded_plain c.args.label.now ascii))
