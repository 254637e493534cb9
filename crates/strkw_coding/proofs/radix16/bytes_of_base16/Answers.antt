use Rattle.std.proofs.Common.{sym, ◌∙◌, inl, inr}
use Rattle.strkw_coding.proofs.Base16.{decode_of-code, decode_of-encoding}
use Rattle.strkw_coding.proofs.Encoders.{code-base16}
use Rattle.strkw_coding.proofs.Decoding.{refused}
use Rattle.strkw_coding.proofs.radix16.bytes_of_base16.Goals as goal

pub returns-in-Ok : goal.returns-in-Ok
returns-in-Ok c =
    let is = decode_of-code _ c.in-Ok.bytes.items c.in-Ok.ensures.ok in
    record { are_bytes = is.0; is_code = is.1 ∙ code-base16 _ is.0 }

pub returns-in_default : goal.returns-in_default
returns-in_default c = λ (b, is).
    let ok = decode_of-encoding c.args.text.now b is.are_bytes (is.is_code ∙ sym (code-base16 b is.are_bytes)) in
    elim c.in-Err.ensures.err [
      | inl out_of_memory ↦ absurd (c.in_default.not-OutOfMemory out_of_memory)
      | inr err ↦ refused _ b _ ok err
    ]
