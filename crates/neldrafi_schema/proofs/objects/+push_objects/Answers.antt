use Rattle.std.proofs.Common.{◌≡◌, ◌∙◌, ◌++◌, ◌∷◌, [], ap, sym, subst, append-nil, string_bytes}
use Rattle.serde_json.specs.Data.{member}
use Rattle.serde_json.specs.View.{members_view, view}
use Rattle.neldrafi_schema.specs.Drafts.{known_named}
use Rattle.neldrafi_schema.specs.Paths.{key}
use Rattle.neldrafi_schema.specs.Resources.{holding, of_members}
use Rattle.neldrafi_schema.specs.machine.Compiled.{path_of}
use Rattle.neldrafi_schema.specs.machine.Objects.{objects_of}
use Rattle.neldrafi_schema.proofs.Listed.{item_listed, member_listed}
use Rattle.neldrafi_schema.proofs.objects.+push_objects.Goals.{push_of_members-in-Nothing, push_of_members-in-OneOrSeveral+in_ok-push_objects-in-OneOrSeveral}
use Rattle.neldrafi_schema.proofs.objects.+push_objects.Goals.{push_of_members-in-ByKey+in_ok-push_of_keyed-in-ByKey}
use Rattle.neldrafi_schema.proofs.objects.+push_objects.Goals as goal

pub push_of_items-loop-place-preserved : goal.push_of_items-loop-place-preserved
push_of_items-loop-place-preserved t c =
    item_listed c.args.draft (path_of c.args.path.now) (path_of c.deref.result.now) (objects_of c.loop-place.found.items)
    (objects_of c.push_objects.new.found.items) _ c.args.items.now c.loop-place.place c.index-items-place.result c.loop-place-test.true c.index-items-place.is
    (ap path_of c.deref.ensures.value ∙ c.in_ok-below.ensures) c.loop-place.invariant c.in_ok-push_objects.ensures

pub push_of_members-loop-name-preserved : goal.push_of_members-loop-name-preserved
push_of_members-loop-name-preserved t c =
    let draft = c.args.draft in
    let path = path_of c.args.path.now in
    let all = members_view c.args.object.now.entries in
    let name = string_bytes c.in-Some.name.now in
    let d = view c.in-Some.value.now in
    let rest = members_view c.next.new.self in
    let found = objects_of c.loop-name.found.items in
    let whole = objects_of c.args.found.now.items ++ of_members draft path all all in
    let so_far : found ++ of_members draft path all (member name d rest) ≡ whole =
    subst (λ es. found ++ of_members draft path all (members_view es) ≡ whole) c.in-Some.ensures.steps c.loop-name.invariant in
    let keyword : c.among.result ≡ known_named draft all name = c.among.ensures ∙ ap (known_named draft all) c.as_str-in-loop-name.ensures.value in
    let there : path_of c.in_ok-below.below.items ≡ path ++ key name ∷ [] = c.in_ok-below.ensures ∙ ap (λ n. path ++ key n ∷ []) c.as_str.ensures.value in
    let more = objects_of c.match-holding.found.items in
    elim c.match-holding.branch [
      | push_of_members-in-Nothing w ↦
          member_listed draft path (path_of c.in_ok-below.below.items) found more whole all name d rest _ (w.in-Nothing.ensures ∙ ap holding keyword) there so_far
          (ap (λ f. objects_of f.items) w.found-is ∙ sym (append-nil found))
      | push_of_members-in-OneOrSeveral+in_ok-push_objects-in-OneOrSeveral w ↦
          member_listed draft path (path_of w.deref.result.now) found more whole all name d rest _ (w.in-OneOrSeveral.ensures ∙ ap holding keyword)
          (ap path_of w.deref.ensures.value ∙ there) so_far
          (ap (λ f. objects_of f.items) w.found-is ∙ w.in_ok-push_objects-in-OneOrSeveral.ensures)
      | push_of_members-in-ByKey+in_ok-push_of_keyed-in-ByKey w ↦
          member_listed draft path (path_of w.deref-in-ByKey.result.now) found more whole all name d rest _ (w.in-ByKey.ensures ∙ ap holding keyword)
          (ap path_of w.deref-in-ByKey.ensures.value ∙ there) so_far
          (ap (λ f. objects_of f.items) w.found-is ∙ w.in_ok-push_of_keyed-in-ByKey.ensures)
    ]
