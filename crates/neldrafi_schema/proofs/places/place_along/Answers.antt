use Rattle.std.proofs.Common.{rules, ◌≡◌, ◌∙◌, ◌++◌, ◌∷◌, [], ◌+◌, ℕ, List, Bor, ap, sym, drop, get_or, append-nil, refl, Some, None}
use Rattle.std.proofs.lemmas.List.{drop_all, map-append}
use Rattle.std.specs.Prelude.{option_map}
use Rattle.serde_json.specs.View.{view}
use Rattle.neldrafi_schema.specs.Paths.{Path, child}
use Rattle.neldrafi_schema.specs.References.{path_along, segment_at}
use Rattle.neldrafi_schema.specs.machine.Compiled.{path_of, segment_of}
use Rattle.neldrafi_schema.proofs.Finding.{value_inside}
use Rattle.neldrafi_schema.proofs.Pointers.{more_along, none_along, texts}
use Rattle.neldrafi_schema.proofs.places.place_along.Goals as goal

abbrev none : Bor (List ℕ)
none = record { ref_ptr = (0, 0); now = [] }

whole : (o : _) → option_map (λ (below : Path). [] ++ below) o ≡ o
whole None = refl
whole (Some path) = refl

pub loop-token-init : goal.loop-token-init
loop-token-init c = record {
  path = rw c.new-path.ensures.items (sym (whole (path_along (texts c.args.tokens.now) (view c.args.document.now))));
  there = rw c.new-path.ensures.items refl;
}

pub returns-in_default-clause-path : goal.returns-in_default-clause-path
returns-in_default-clause-path c =
    let value = view c.loop-token.value.now in
    let segment : segment_of c.in_ok-segment.segment ≡ segment_at value (get_or c.args.tokens.now c.loop-token.token-index none).now = search rules in
    let nothing : child (segment_of c.in_ok-segment.segment) value ≡ None =
    ap (λ s. child s value) (sym c.as_step.ensures) ∙ sym c.child.ensures ∙ ap (option_map (λ v. view v.now)) c.in_default.is in
    sym (c.loop-token.invariant.path ∙ ap (option_map (λ below. path_of c.loop-token.path.items ++ below))
    (none_along c.args.tokens.now c.loop-token.token-index none value c.loop-token-test.true (rw segment at nothing)))

pub loop-token-preserved : goal.loop-token-preserved
loop-token-preserved c =
    let value = view c.loop-token.value.now in
    let segment : segment_of c.in_ok-segment.segment ≡ segment_at value (get_or c.args.tokens.now c.loop-token.token-index none).now = search rules in
    let found : child (segment_of c.in_ok-segment.segment) value ≡ Some (view c.in-Some.below.now) =
    ap (λ s. child s value) (sym c.as_step.ensures) ∙ sym c.child.ensures ∙ ap (option_map (λ v. view v.now)) c.in-Some.is in
    let path : path_of c.push.new.self.items ≡ path_of c.loop-token.path.items ++ segment_of c.in_ok-segment.segment ∷ [] =
    ap path_of c.in_ok-push.ensures.items ∙ map-append segment_of c.loop-token.path.items (c.in_ok-segment.segment ∷ []) in
    record {
      path = c.loop-token.invariant.path
          ∙ more_along c.args.tokens.now c.loop-token.token-index none value c.loop-token-test.true (path_of c.loop-token.path.items)
          (view c.in-Some.below.now) (rw segment at found)
          ∙ ap (λ p. option_map (λ below. p ++ below) (path_along (texts (drop (c.loop-token.token-index + 1) c.args.tokens.now)) (view c.in-Some.below.now)))
          (sym (path ∙ ap (λ s. path_of c.loop-token.path.items ++ s ∷ []) segment));
      there = rw path (value_inside (path_of c.loop-token.path.items) (view c.args.document.now) (segment_of c.in_ok-segment.segment) value
          (view c.in-Some.below.now) c.loop-token.invariant.there found);
    }

pub returns-clause-path : goal.returns-clause-path
returns-clause-path c =
    let end : drop c.loop-token.token-index c.args.tokens.now ≡ [] = drop_all c.loop-token.token-index c.args.tokens.now c.loop-token-test.false in
    sym (c.loop-token.invariant.path ∙ ap (λ ts. option_map (λ below. path_of c.loop-token.path.items ++ below) (path_along (texts ts) (view c.loop-token.value.now))) end
    ∙ ap Some (append-nil (path_of c.loop-token.path.items)))

pub returns-clause-there : goal.returns-clause-there
returns-clause-there c = c.loop-token.invariant.there
