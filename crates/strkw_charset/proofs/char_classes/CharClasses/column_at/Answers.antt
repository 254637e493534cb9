use Rattle.std.proofs.Common.{◌≡◌, ℕ, ◌+◌, ◌/◌, get_or, ap, sym, ◌∙◌}
use Rattle.strkw_charset.proofs.Bytes.{one_more, two_more, three_more, few_pages, one_byte, two_bytes, three_bytes, four_bytes}
use Rattle.strkw_charset.proofs.char_classes.CharClasses.column_at.Goals as goal

pub returns-then-first-lt128 : goal.returns-then-first-lt128
returns-then-first-lt128 c =
    let first : c.from-first.result ≡ get_or c.args.text.now c.args.place 0 = cc in
    one_byte _ _ c.requires.within c.requires.utf8 c.args.self.now c.column_in.result (rw (sym first) c.if-first-lt128.true)
    (λ d scalar page last. c.column_in.ensures d scalar (page ∙ ap (λ (b : ℕ). b / 64) (sym first)) last)

pub bounds-text-place-then-first-lt224 : goal.bounds-text-place-then-first-lt224
bounds-text-place-then-first-lt224 c =
    let first : c.from-first.result ≡ get_or c.args.text.now c.args.place 0 = cc in
    one_more _ _ c.requires.within c.requires.utf8 (rw (sym first) c.if-first-lt128.false)

pub returns-then-first-lt224 : goal.returns-then-first-lt224
returns-then-first-lt224 c =
    let first : c.from-first.result ≡ get_or c.args.text.now c.args.place 0 = cc in
    two_bytes _ _ c.requires.within c.requires.utf8 c.args.self.now c.column_in-then-first-lt224.result (rw (sym first) c.if-first-lt128.false)
    (rw (sym first) c.if-first-lt224.true) (rw (sym first) c.column_in-then-first-lt224.ensures)

pub bounds-text-place-2 : goal.bounds-text-place-2
bounds-text-place-2 c =
    let first : c.from-first.result ≡ get_or c.args.text.now c.args.place 0 = cc in
    one_more _ _ c.requires.within c.requires.utf8 (rw (sym first) c.if-first-lt128.false)

pub bounds-text-place-then-first-lt240 : goal.bounds-text-place-then-first-lt240
bounds-text-place-then-first-lt240 c =
    let first : c.from-first.result ≡ get_or c.args.text.now c.args.place 0 = cc in
    two_more _ _ c.requires.within c.requires.utf8 (rw (sym first) c.if-first-lt224.false)

pub returns-then-first-lt240 : goal.returns-then-first-lt240
returns-then-first-lt240 c =
    let first : c.from-first.result ≡ get_or c.args.text.now c.args.place 0 = cc in
    let second : c.from-second.result ≡ get_or c.args.text.now (c.args.place + 1) 0 = cc in
    three_bytes _ _ c.requires.within c.requires.utf8 c.args.self.now c.column_in-then-first-lt240.result (rw (sym first) c.if-first-lt224.false)
    (rw (sym first) c.if-first-lt240.true) (rw (sym first) (rw (sym second) c.column_in-then-first-lt240.ensures))

pub bounds-text-place-3 : goal.bounds-text-place-3
bounds-text-place-3 c =
    let first : c.from-first.result ≡ get_or c.args.text.now c.args.place 0 = cc in
    two_more _ _ c.requires.within c.requires.utf8 (rw (sym first) c.if-first-lt224.false)

pub bounds-text-place-4 : goal.bounds-text-place-4
bounds-text-place-4 c =
    let first : c.from-first.result ≡ get_or c.args.text.now c.args.place 0 = cc in
    three_more _ _ c.requires.within c.requires.utf8 (rw (sym first) c.if-first-lt240.false)

pub column_in-requires-2 : goal.column_in-requires-2
column_in-requires-2 c =
    let first : c.from-first.result ≡ get_or c.args.text.now c.args.place 0 = cc in
    let second : c.from-second.result ≡ get_or c.args.text.now (c.args.place + 1) 0 = cc in
    let third : c.from-third.result ≡ get_or c.args.text.now (c.args.place + 2) 0 = cc in
    rw first (rw second (rw third (few_pages _ _ c.requires.within c.requires.utf8 (rw (sym first) c.if-first-lt240.false))))

pub returns : goal.returns
returns c =
    let first : c.from-first.result ≡ get_or c.args.text.now c.args.place 0 = cc in
    let second : c.from-second.result ≡ get_or c.args.text.now (c.args.place + 1) 0 = cc in
    let third : c.from-third.result ≡ get_or c.args.text.now (c.args.place + 2) 0 = cc in
    four_bytes _ _ c.requires.within c.requires.utf8 c.args.self.now c.column_in-2.result (rw (sym first) c.if-first-lt240.false)
    (rw (sym first) (rw (sym second) (rw (sym third) c.column_in-2.ensures)))
