use Rattle.std.proofs.Common.{◌≡◌, ◌∙◌, ◌==◌, ℕ, List, [], Bor, get_or, length, ap, eqb-true, sym, subst, lit<, Ok, IfOk, arith, false}
use Rattle.std.proofs.lemmas.Bool.Decides.{nat_tests}
use Rattle.std.proofs.lemmas.Iterator.Consumers.{map_from_collect}
use Rattle.std.proofs.lemmas.Iterator.Splits.{YieldsList-from_str_split}
use Rattle.std.specs.List.{slice_split}
use Rattle.std.specs.Prelude.{option_map}
use Rattle.serde_json.specs.View.{view}
use Rattle.neldrafi_schema.specs.machine.Places.{place_path}
use Rattle.neldrafi_schema.proofs.Pointers.{pointer_none, pointer_read, texts}
use Rattle.neldrafi_schema.proofs.places.place_of_pointer.Goals.{After-as_slice}
use Rattle.neldrafi_schema.proofs.places.place_of_pointer.Goals as goal

abbrev none : Bor (List ℕ)
none = record { ref_ptr = (0, 0); now = [] }

cut : (c : After-as_slice) → texts c.as_slice.result.now ≡ slice_split (λ b. b == 47) c.args.pointer.now
cut c = ap texts c.as_slice.ensures.value ∙ map_from_collect {E = Unit {0}} (Ok c.in_ok-tokens.tokens) c.in_ok-tokens.ensures.ran
    (YieldsList-from_str_split 47 c.args.pointer.now (lit< tt) c.split.ensures.text c.split.ensures.has_more c.split.ensures.pattern)

pub returns-then-not-is_empty-clause-path : goal.returns-then-not-is_empty-clause-path
returns-then-not-is_empty-clause-path c =
    let is_not : c.is_empty.result ≡ false = grind (arith, nat_tests) in
    pointer_none (view c.args.document.now) c.args.pointer.now c.as_slice.result.now none
    (cut (goal.at.returns-then-not-is_empty-clause-path c).After-as_slice) c.in-len1-up.len_at_least (grind (arith, nat_tests))

pub returns-clause-path : goal.returns-clause-path
returns-clause-path c =
    subst (λ p. IfOk c.place_along.result (λ o. option_map place_path o ≡ p))
    (pointer_read (view c.args.document.now) c.args.pointer.now c.as_slice.result.now none
    (cut (goal.at.returns-clause-path c).After-as_slice) c.in-len1-up.len_at_least (eqb-true (length (get_or c.as_slice.result.now 0 none).now) 0 (sym c.is_empty.ensures ∙ c.if-not-is_empty.false))) c.place_along.ensures.path
