use Rattle.std.proofs.Common.{rules, refl, length}
use Rattle.std.proofs.lemmas.Option.{slice_get_read}
use Rattle.strkw_keywords.proofs.Codecs.{decodes, row_decodes, row_decodes_to, no_row_decodes}
use Rattle.strkw_keywords.proofs.content.decode.Goals as goal

pub returns-in-Builtin-clause-text : goal.returns-in-Builtin-clause-text
returns-in-Builtin-clause-text g c = rw c.in-Builtin.is (decodes c.in-Builtin.codec c.args.text.now c.decode.result c.decode.ensures.text)

pub returns-in-Some-clause-text : goal.returns-in-Some-clause-text
returns-in-Some-clause-text g c =
    let rows = c.args.checks.now.codecs.now in
    let there = slice_get_read rows (length rows) c.in-Row.position c.in-Some.row.now refl (search rules) (search rules) in
    rw c.in-Row.is (row_decodes _ c.args.checks.now.codecs.now c.in-Row.position c.in-Some.row.now c.args.text.now c.decode-in-Some.result
    there c.decode-in-Some.ensures.text)

pub returns-in-Some-clause-not_utf8 : goal.returns-in-Some-clause-not_utf8
returns-in-Some-clause-not_utf8 g c = λ is.
    let rows = c.args.checks.now.codecs.now in
    let there = slice_get_read rows (length rows) c.in-Row.position c.in-Some.row.now refl (search rules) (search rules) in
    rw c.in-Row.is (row_decodes_to _ c.args.checks.now.codecs.now c.in-Row.position c.in-Some.row.now c.args.text.now _
    there (c.decode-in-Some.ensures.not_utf8 is))

pub returns-in-None-clause-text : goal.returns-in-None-clause-text
returns-in-None-clause-text g c =
    rw c.in-Row.is (no_row_decodes _ c.args.checks.now.codecs.now c.in-Row.position c.args.text.now (search rules))
