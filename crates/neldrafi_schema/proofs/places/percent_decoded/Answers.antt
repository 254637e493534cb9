use Rattle.std.proofs.Common.{rules, ◌≡◌, ◌∙◌, ap, IfOk, string_bytes}
use Rattle.std.specs.Prelude.{option_map}
use Rattle.percent_encoding.specs.Percent.{percent_decode}
use Rattle.neldrafi_schema.proofs.Pointers.{text_read}
use Rattle.neldrafi_schema.proofs.places.percent_decoded.Goals as goal

pub returns : goal.returns
returns c =
    let bytes : c.append_to.new.out.items ≡ percent_decode c.args.fragment.now = search rules in
    let same : IfOk c.from_utf8.result (λ t. string_bytes t ≡ c.append_to.new.out.items) = search rules in
    ap (option_map string_bytes) c.ok.ensures.value ∙ text_read c.args.fragment.now c.append_to.new.out.items c.from_utf8.result bytes same c.from_utf8.ensures.succeeds
