use Rattle.strkw_coding.proofs.Decoding.{refused}
use Rattle.strkw_coding.proofs.radix64.decode.Goals as goal

pub returns-in-Err-DecodeError : goal.returns-in-Err-DecodeError
returns-in-Err-DecodeError c = λ (b, bytes, is).
    let ok = (c.decode.ensures.strict c.requires b bytes).1 is in
    refused _ b _ ok (rw c.in-Err-DecodeError.field-0-is at c.in-Err-DecodeError.ensures.err)
