use Rattle.std.proofs.Common.{ℕ, List, length, drop, replicate, sym, ap, ◌∙◌}
use Rattle.std.specs.Str.{chars}
use Rattle.strkw_regex_search.specs.machine.Along.{left_of}
use Rattle.strkw_ecma.specs.machine.Links.{begins_with}
use Rattle.strkw_ecma.proofs.Linked.{no_first, no_middle, by_last}
use Rattle.strkw_ecma.proofs.links.FixedSequence.is_found.Goals as goal

pub returns-then-not-read_each : goal.returns-then-not-read_each
returns-then-not-read_each c =
    let classes = c.args.classes.now in
    let chain = c.args.self.now in
    let begin = c.read_each.ensures.answer ∙ ap (λ (ns : List ℕ). begins_with classes ns (left_of c.new-left.result)) c.deref.ensures.value
    ∙ ap (begins_with classes chain.first.items) c.new-left.ensures in
    no_first classes chain c.in-Some.count (chars c.args.text.now) (c.in-Some.ensures.0 ∙ c.char_count.ensures) c.in-Some.ensures.1
    (sym begin ∙ c.if-not-read_each.true)

pub returns-then-not-read_some : goal.returns-then-not-read_some
returns-then-not-read_some c =
    let classes = c.args.classes.now in
    let chain = c.args.self.now in
    let begin = c.read_each.ensures.answer ∙ ap (λ (ns : List ℕ). begins_with classes ns (left_of c.new-left.result)) c.deref.ensures.value
    ∙ ap (begins_with classes chain.first.items) c.new-left.ensures in
    let behind = c.read_each.ensures.left c.if-not-read_each.false
    ∙ ap (λ (ns : List ℕ). drop (length ns) (left_of c.new-left.result)) c.deref.ensures.value ∙ ap (drop (length chain.first.items)) c.new-left.ensures in
    let middle = c.read_some.ensures.answer ∙ ap (begins_with classes (replicate c.in-Some.count chain.middle)) behind in
    no_middle classes chain c.in-Some.count (chars c.args.text.now) (c.in-Some.ensures.0 ∙ c.char_count.ensures) c.in-Some.ensures.1
    (sym begin ∙ c.if-not-read_each.false) (sym middle ∙ c.if-not-read_some.true)

pub returns : goal.returns
returns c =
    let classes = c.args.classes.now in
    let chain = c.args.self.now in
    let begin = c.read_each.ensures.answer ∙ ap (λ (ns : List ℕ). begins_with classes ns (left_of c.new-left.result)) c.deref.ensures.value
    ∙ ap (begins_with classes chain.first.items) c.new-left.ensures in
    let behind = c.read_each.ensures.left c.if-not-read_each.false
    ∙ ap (λ (ns : List ℕ). drop (length ns) (left_of c.new-left.result)) c.deref.ensures.value ∙ ap (drop (length chain.first.items)) c.new-left.ensures in
    let middle = c.read_some.ensures.answer ∙ ap (begins_with classes (replicate c.in-Some.count chain.middle)) behind in
    let rest = c.read_some.ensures.left c.if-not-read_some.false ∙ ap (drop c.in-Some.count) behind in
    c.read_each-2.ensures.answer ∙ ap (λ (ns : List ℕ). begins_with classes ns (left_of c.read_some.new.left)) c.deref-2.ensures.value
    ∙ ap (begins_with classes chain.last.items) rest
    ∙ by_last classes chain c.in-Some.count (chars c.args.text.now) (c.in-Some.ensures.0 ∙ c.char_count.ensures) c.in-Some.ensures.1
    (sym begin ∙ c.if-not-read_each.false) (sym middle ∙ c.if-not-read_some.false)
