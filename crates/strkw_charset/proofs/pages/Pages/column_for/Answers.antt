use Rattle.std.proofs.Common.{◌≡◌, ◌<◌, ℕ, List, [], ◌∷◌, ◌++◌, Some, None, length, replicate, sym, ap, subst, ◌∙◌, arith}
use Rattle.strkw_charset.specs.machine.CharClasses.{answers, place_of}
use Rattle.strkw_charset.proofs.Paged.{new_place, column_added}
use Rattle.strkw_charset.proofs.pages.Pages.column_for.Goals as goal

pub returns-clause-column : goal.returns-clause-column
returns-clause-column c =
    let keys = c.args.self.now.keys.items in
    let key = c.answers-key.result in
    let none : place_of keys key ≡ None = cc in
    let len : length keys ≡ c.len-column.result = cc in
    subst (λ (l : List ℕ). place_of l (answers 0 c.args.classes.now c.args.c) ≡ Some c.len-column.result) (sym c.in_ok-push.ensures.items)
    (ap (λ (n : ℕ). place_of (keys ++ key ∷ []) n) (sym c.answers-key.ensures) ∙ new_place keys key none ∙ ap Some len)

pub returns-clause-paged : goal.returns-clause-paged
returns-clause-paged c =
    let keys = c.args.self.now.keys.items in
    let plain = c.args.self.now.plain.items in
    let cells = c.args.self.now.cells.items in
    let len : c.len-column.result ≡ length keys = cc in
    let count : c.len.result ≡ length cells = c.len.ensures ∙ c.args.self.now.cells.ok.0 in
    let few : length keys < 255 = omega (arith, c.requires.may_grow.paged.few_columns, len, c.if-column-eq-MOST_COLUMNS.false) in
    column_added c.args.classes.now keys _ plain _ c.args.self.now.pages.items cells _ c.answers-key.result _
    c.requires.may_grow.paged few c.in_ok-push.ensures.items
    (c.in_ok-push-3.ensures.items ∙ ap (λ (n : ℕ). plain ++ n ∷ []) count) c.in_ok-push-4.ensures.items (ap (replicate 64) len)
