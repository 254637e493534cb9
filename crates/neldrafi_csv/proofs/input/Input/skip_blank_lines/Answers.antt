use Rattle.std.proofs.Common.{◌++◌, [], refl, ◌∙◌, arith, take, length-append, drop}
use Rattle.std.proofs.lemmas.Result.{err_from_is_err_and}
use Rattle.neldrafi_csv.proofs.InputLemmas.{fails-later, passes-filled, passes-none, passes-trans}
use Rattle.neldrafi_csv.proofs.LineLemmas.{are_line_bytes-append, take-length}
use Rattle.neldrafi_csv.proofs.input.Input.skip_blank_lines.Goals as goal

pub pieces-init : goal.pieces-init
pieces-init g c text e = ([], text, tt, passes-none g.R.Read.remaining c.args.self.now c.args.self.now text e refl refl, omega arith)

pub returns-in_err-has_more-clause-fails : goal.returns-in_err-has_more-clause-fails
returns-in_err-has_more-clause-fails g c text e =
    let (y, is, same) = err_from_is_err_and c.from_residual.result c.from_residual.ensures.1 in
    rw (is, same) (c.in_err-has_more.ensures.fails c.args.self.now.place text)

pub returns-in_err-take-clause-fails : goal.returns-in_err-take-clause-fails
returns-in_err-take-clause-fails g c text e =
    let (y, is, same) = err_from_is_err_and c.from_residual-in_err-take.result c.from_residual-in_err-take.ensures.1 in
    let (blank, rest, lines, h, count) = c.pieces.invariant text e in
    rw (is, same) (fails-later _ _ text _ _ _ h.splits (c.has_more.ensures.place ∙ h.place) (c.in_err-take.ensures.fails rest (c.has_more.ensures.text rest h.left)))

pub pieces-preserved : goal.pieces-preserved
pieces-preserved g c text e =
    let (blank, rest, lines, h, count) = c.pieces.invariant text e in
    let here = passes-filled g.R.Read.remaining c.args.self.now c.pieces.self c.has_more.new.self text blank rest h (c.has_more.ensures.text rest) c.has_more.ensures.place c.has_more.ensures.begun in
    let next = c.in_ok-take.ensures.passes rest here.left in
    let run = rw c.bytes.ensures at c.line_bytes_run-count.ensures.run in
    let within = rw c.bytes.ensures at c.line_bytes_run-count.ensures.within in
    let size = take-length c.line_bytes_run-count.result c.has_more.new.self.buffer within in
    let both = length-append blank (take c.line_bytes_run-count.result c.has_more.new.self.buffer) in (
      blank ++ take c.line_bytes_run-count.result c.has_more.new.self.buffer,
      _,
      are_line_bytes-append blank _ lines run,
      passes-trans g.R.Read.remaining c.args.self.now c.has_more.new.self c.take.new.self text blank rest _ _ here next,
      omega (arith, size, both, count, c.if-count-eq0.false),
    )
