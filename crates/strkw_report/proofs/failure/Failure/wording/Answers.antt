use Rattle.std.proofs.Common.{◌≡◌, ◌++◌, codes, ap, sym, ◌∙◌}
use Rattle.std.proofs.lemmas.List.{append_assoc}
use Rattle.strkw_report.specs.Quoting.{quoted_text}
use Rattle.strkw_report.specs.Kinds.{format, message}
use Rattle.strkw_report.specs.Failures.{kind_failed}
use Rattle.strkw_report.proofs.failure.Failure.wording.Goals as goal

pub returns-in-Format : goal.returns-in-Format
returns-in-Format c =
    let name = c.in-Format.name.now in
    let before = quoted_text c.args.text.now ++ codes " is not a \"" in
    let kind : kind_failed c.args.self.now ≡ format name = ap kind_failed c.in-Format.is in
    c.text_before-in-Format.ensures ∙ sym (append_assoc before name (codes "\""))
    ∙ ap (λ k. message k (quoted_text c.args.text.now)) (sym kind)
