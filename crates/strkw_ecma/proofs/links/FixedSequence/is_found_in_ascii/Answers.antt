use Rattle.std.proofs.Common.{◌≤◌, ℕ, List, length, drop, refl, sym, ap, ap₂, subst, ◌∙◌, length-drop, arith}
use Rattle.std.proofs.lemmas.Str.{chars-IsAscii}
use Rattle.strkw_ecma.specs.machine.Chains.{is_chained}
use Rattle.strkw_ecma.specs.machine.Links.{AreTables, begins_with}
use Rattle.strkw_ecma.proofs.Linked.{begins_slice, no_length, no_first, no_middle, by_last, from_place}
use Rattle.strkw_ecma.proofs.links.FixedSequence.is_found_in_ascii.Goals as goal

pub returns-in_default : goal.returns-in_default
returns-in_default c classes tables =
    no_length classes c.args.self.now c.args.text.now c.in_default.ensures
    ∙ ap (is_chained classes c.args.self.now) (sym (chars-IsAscii c.args.text.now c.requires))

pub returns-then-not-begin_with : goal.returns-then-not-begin_with
returns-then-not-begin_with c classes tables =
    let chain = c.args.self.now in
    let text = c.args.text.now in
    let begin = c.begin_with.ensures classes (subst (AreTables classes) (sym c.deref.ensures.value) tables)
    ∙ ap (λ (ns : List ℕ). begins_with classes ns c.as_bytes-bytes.result.now) c.deref-2.ensures.value
    ∙ ap (begins_with classes chain.first.items) c.as_bytes-bytes.ensures.value in
    no_first classes chain c.in-Some.count text c.in-Some.ensures.0 c.in-Some.ensures.1 (sym begin ∙ c.if-not-begin_with.true)
    ∙ ap (is_chained classes chain) (sym (chars-IsAscii text c.requires))

pub returns-then-not-are_of : goal.returns-then-not-are_of
returns-then-not-are_of c classes tables =
    let chain = c.args.self.now in
    let text = c.args.text.now in
    let first = chain.first.items in
    let begin = c.begin_with.ensures classes (subst (AreTables classes) (sym c.deref.ensures.value) tables)
    ∙ ap (λ (ns : List ℕ). begins_with classes ns c.as_bytes-bytes.result.now) c.deref-2.ensures.value
    ∙ ap (begins_with classes first) c.as_bytes-bytes.ensures.value in
    let behind = from_place c.as_bytes-bytes.result.now c.len.result (length first) (c.len.ensures ∙ chain.first.ok.0)
    ∙ ap (drop (length first)) c.as_bytes-bytes.ensures.value in
    let long : c.in-Some.count ≤ length (drop (length first) text) = omega (arith, length-drop (length first) text, c.in-Some.ensures.0) in
    let middle = c.are_of.ensures classes (subst (AreTables classes) (sym c.deref-3.ensures.value) tables)
    ∙ begins_slice classes chain.middle c.in-Some.count _ (drop (length first) text) behind long in
    no_middle classes chain c.in-Some.count text c.in-Some.ensures.0 c.in-Some.ensures.1 (sym begin ∙ c.if-not-begin_with.false)
    (sym middle ∙ c.if-not-are_of.true)
    ∙ ap (is_chained classes chain) (sym (chars-IsAscii text c.requires))

pub returns : goal.returns
returns c classes tables =
    let chain = c.args.self.now in
    let text = c.args.text.now in
    let first = chain.first.items in
    let begin = c.begin_with.ensures classes (subst (AreTables classes) (sym c.deref.ensures.value) tables)
    ∙ ap (λ (ns : List ℕ). begins_with classes ns c.as_bytes-bytes.result.now) c.deref-2.ensures.value
    ∙ ap (begins_with classes first) c.as_bytes-bytes.ensures.value in
    let behind = from_place c.as_bytes-bytes.result.now c.len.result (length first) (c.len.ensures ∙ chain.first.ok.0)
    ∙ ap (drop (length first)) c.as_bytes-bytes.ensures.value in
    let long : c.in-Some.count ≤ length (drop (length first) text) = omega (arith, length-drop (length first) text, c.in-Some.ensures.0) in
    let middle = c.are_of.ensures classes (subst (AreTables classes) (sym c.deref-3.ensures.value) tables)
    ∙ begins_slice classes chain.middle c.in-Some.count _ (drop (length first) text) behind long in
    let rest = from_place _ c.in-Some.count c.in-Some.count refl ∙ ap (drop c.in-Some.count) behind in
    c.begin_with-2.ensures classes (subst (AreTables classes) (sym c.deref-4.ensures.value) tables)
    ∙ ap₂ (begins_with classes) c.deref-5.ensures.value rest
    ∙ by_last classes chain c.in-Some.count text c.in-Some.ensures.0 c.in-Some.ensures.1 (sym begin ∙ c.if-not-begin_with.false)
    (sym middle ∙ c.if-not-are_of.false)
    ∙ ap (is_chained classes chain) (sym (chars-IsAscii text c.requires))
