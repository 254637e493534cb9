use Rattle.std.proofs.Common.{◌≢◌, [], refl, ap, length, arith}
use Rattle.std.proofs.lemmas.List.{nil_from_length}
use Rattle.strkw_text.proofs.Equivalences.{nope}
use Rattle.strkw_text.proofs.Separated.{SeparatedBy-weaker}
use Rattle.strkw_label.specs.HostName.{IsHostNameLabel}
use Rattle.strkw_label.specs.IdnHostName.{IsPlainLabel}
use Rattle.strkw_label.proofs.HostNames.{ascii_host_name}
use Rattle.strkw_label.proofs.PlainLabels.{host_name_label}
use Rattle.strkw_label.proofs.host_name.is_host_name.Goals as goal

pub returns-in-None : goal.returns-in-None
returns-in-None c = nope (λ w. c.in-None.ensures.none (ascii_host_name c.args.bytes.now w))

pub returns-in-Some-empty : goal.returns-in-Some-empty
returns-in-Some-empty c =
    let bytes = c.args.bytes.now in
    let plain = c.in-Some-empty.ensures.nothing (nil_from_length _ (omega (arith, c.in-Some-empty.len_below))) in (
      λ t. record { labels = SeparatedBy-weaker 46 IsPlainLabel IsHostNameLabel host_name_label bytes plain; size = c.in-Some-empty.ensures.size },
      λ w. refl,
    )

pub returns-in-Some : goal.returns-in-Some
returns-in-Some c =
    let some : c.in-Some.rest.now ≢ [] = λ e. omega (arith, ap length e, c.in-Some.len_at_least) in
    let labels = c.in-Some.ensures.rest some in (
      λ t. record { labels = labels.0 (c.are_host_name_labels.ensures.0 t); size = c.in-Some.ensures.size },
      λ w. c.are_host_name_labels.ensures.1 (labels.1 w.labels),
    )
