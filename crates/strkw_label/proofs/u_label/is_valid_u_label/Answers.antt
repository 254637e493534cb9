use Rattle.std.proofs.Common.{◌≡◌, chars, rules, All, IfOk, sym, subst}
use Rattle.std.specs.Prelude.{◌↔◌, IsTrue}
use Rattle.std.specs.Char.{IsScalar}
use Rattle.std.proofs.lemmas.Str.{chars_from_encodes}
use Rattle.strkw_label.specs.IdnHostName.{IsULabel}
use Rattle.strkw_label.proofs.Splitting.{chars_are_scalars}
use Rattle.strkw_label.proofs.u_label.is_valid_u_label.Goals as goal

pub is_u_label-requires : goal.is_u_label-requires
is_u_label-requires c =
    let text : c.deref.result.now ≡ chars c.args.label.now = search (rules, chars_from_encodes) in
    subst (All IsScalar) (sym text) (chars_are_scalars c.args.label.now c.utf8.label)

pub returns : goal.returns
returns c =
    let text : c.deref.result.now ≡ chars c.args.label.now = search (rules, chars_from_encodes) in
    subst (λ x. IfOk c.is_u_label.result (λ valid. IsTrue valid ↔ IsULabel x)) text c.is_u_label.ensures
