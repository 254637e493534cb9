-- What is said of a text that was not decoded.
use Rattle.std.specs.Prelude.{ℕ, List, codes}
use Rattle.strkw_coding.specs.declared.codec.DecodeError.{DecodeError}
use Rattle.strkw_coding.specs.declared.codec.DecodeError.TheVariants.{NotUtf8, Memory}

abbrev pub decode_text : DecodeError → List ℕ
decode_text NotUtf8 = codes "the encoded bytes are not UTF-8"
decode_text Memory = codes "out of memory"
