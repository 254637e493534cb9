use Rattle.std.proofs.Common.{◌≡◌, get_or, arith, sym, ap, ◌∙◌, eqb-true, eq-eqb}
use Rattle.std.specs.Char.{to_ascii_lowercase}
use Rattle.std.proofs.lemmas.List.{get_or_read}
use Rattle.strkw_label.proofs.IdnLabels.{reserved_length}
use Rattle.strkw_label.proofs.idn_host_name.is_xn.Goals as goal

pub returns-then-to_ascii_lowercase-eq120 : goal.returns-then-to_ascii_lowercase-eq120
returns-then-to_ascii_lowercase-eq120 c =
    let label = c.args.label.now in
    let long = reserved_length label c.requires in
    let first : c.index-label-0.result ≡ get_or label 0 0 = get_or_read label 0 _ (omega (arith, long)) c.index-label-0.is 0 in
    let second : c.index-label-1.result ≡ get_or label 1 0 = get_or_read label 1 _ (omega (arith, long)) c.index-label-1.is 0 in
    let value = c.to_ascii_lowercase-then-to_ascii_lowercase-eq120.ensures.value in (
      λ t. (
        ap to_ascii_lowercase (sym first) ∙ sym c.to_ascii_lowercase.ensures.value ∙ c.if-to_ascii_lowercase-eq120.true,
        ap to_ascii_lowercase (sym second) ∙ sym value ∙ eqb-true _ 110 t,
      ),
      λ p. eq-eqb _ 110 (value ∙ ap to_ascii_lowercase second ∙ p.1),
    )
