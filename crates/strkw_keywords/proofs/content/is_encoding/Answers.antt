use Rattle.strkw_keywords.proofs.content.is_encoding.Goals as goal

pub returns-in-Builtin : goal.returns-in-Builtin
returns-in-Builtin g c = rw c.in-Builtin.is c.is_encoded.ensures.encoded
