use Rattle.std.proofs.Common.{refl, sym, subst, arith}
use Rattle.std.specs.Str.{IsAscii}
use Rattle.std.proofs.lemmas.List.{nil_from_length}
use Rattle.std.proofs.lemmas.Str.{chars-IsAscii}
use Rattle.strkw_label.specs.IdnHostName.{IsIdnHostName}
use Rattle.strkw_label.proofs.PlainNames.{plain_name}
use Rattle.strkw_label.proofs.idn_host_name.is_valid_idn_hostname.Goals as goal

pub returns-in-Some-empty : goal.returns-in-Some-empty
returns-in-Some-empty c =
    let labels = c.in-Some-empty.ensures.nothing (nil_from_length _ (omega (arith, c.in-Some-empty.len_below))) in
    let plain = plain_name c.as_bytes.result.now c.in-Some-empty.ensures.size labels in
    let value = c.as_bytes.ensures.value in
    let same = chars-IsAscii c.args.hostname.now (subst IsAscii value plain.1) in
    (λ t. subst IsIdnHostName (sym same) (subst IsIdnHostName value plain.0), λ w. refl)
