use Rattle.std.proofs.Common.{◌≡◌, chars, rules, All, IfOk, sym, subst, arith}
use Rattle.std.specs.Prelude.{◌↔◌, IsTrue}
use Rattle.std.specs.Char.{IsScalar}
use Rattle.std.proofs.lemmas.Bool.{false≢true}
use Rattle.std.proofs.lemmas.Str.{chars_from_encodes}
use Rattle.strkw_label.specs.IdnHostName.{IsIdnHostName}
use Rattle.strkw_label.proofs.LongNames.{name_is_short}
use Rattle.strkw_label.proofs.Splitting.{chars_are_scalars}
use Rattle.strkw_label.proofs.idn_host_name.is_decoded_host_name.Goals as goal

pub returns-then-is_too_long : goal.returns-then-is_too_long
returns-then-is_too_long c = (
  λ t. absurd (false≢true t),
  λ name. absurd (omega (arith, c.is_too_long.ensures c.if-is_too_long.true, name_is_short (chars c.args.hostname.now) name)),
)

pub is_idn_host_name-requires : goal.is_idn_host_name-requires
is_idn_host_name-requires c =
    let text : c.deref.result.now ≡ chars c.args.hostname.now = search (rules, chars_from_encodes) in
    subst (All IsScalar) (sym text) (chars_are_scalars c.args.hostname.now c.utf8.hostname)

pub returns : goal.returns
returns c =
    let text : c.deref.result.now ≡ chars c.args.hostname.now = search (rules, chars_from_encodes) in
    subst (λ x. IfOk c.is_idn_host_name.result (λ valid. IsTrue valid ↔ IsIdnHostName x)) text c.is_idn_host_name.ensures
