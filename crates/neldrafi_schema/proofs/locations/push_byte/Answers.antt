use Rattle.std.proofs.Common.{◌∙◌, ◌/◌, ◌%◌, ◌++◌, ◌∷◌, [], append_assoc, string_bytes, sym, true}
use Rattle.std.specs.Fmt.{digit_glyph}
use Rattle.std.specs.Str.{byte}
use Rattle.neldrafi_schema.proofs.locations.push_byte.Goals as goal

pub returns : goal.returns
returns c =
    let uri = string_bytes c.args.uri.now in
    let percent = byte "%" ∷ [] in
    let high = digit_glyph true (c.args.byte / 16) ∷ [] in
    let low = digit_glyph true (c.args.byte % 16) ∷ [] in
    rw (
      c.in_ok-push-2.ensures.bytes,
      c.push-3.ensures.ascii c.digit-2.ensures.ascii,
      c.digit-2.ensures.glyph,
      c.in_ok-push.ensures.bytes,
      c.push-2.ensures.ascii c.digit.ensures.ascii,
      c.digit.ensures.glyph,
      c.in_ok-push_str.ensures.bytes,
      sym c.is_of_fragment.ensures,
      c.if-is_of_fragment.false,
    )
    (append_assoc (uri ++ percent) high low ∙ append_assoc uri percent (high ++ low))
