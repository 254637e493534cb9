use Rattle.std.proofs.Common.{refl, arith}
use Rattle.strkw_charset.specs.Sets.{digits, white_space, word_characters}
use Rattle.strkw_ecma.proofs.Complements.{pairs, complement}
use Rattle.strkw_ecma.proofs.laws.negative_sets_are_complements.Goals as goal

pub returns-clause-digits : goal.returns-clause-digits
returns-clause-digits c = λ d h. complement 0 (pairs digits) d refl (omega arith) h

pub returns-clause-white_space : goal.returns-clause-white_space
returns-clause-white_space c = λ d h. complement 0 (pairs white_space) d refl (omega arith) h

pub returns-clause-words : goal.returns-clause-words
returns-clause-words c = λ d h. complement 0 (pairs word_characters) d refl (omega arith) h
