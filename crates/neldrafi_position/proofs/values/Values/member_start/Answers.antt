use Rattle.std.proofs.Common.{◌≡◌, ◌∙◌, ap, drop, subst, sym}
use Rattle.serde_json.specs.Find.{unescape}
use Rattle.neldrafi_position.specs.Parts.{parts}
use Rattle.neldrafi_position.specs.Places.{last_named}
use Rattle.neldrafi_position.specs.machine.Kept.{AreMembers, AreStarts, start_named}
use Rattle.neldrafi_position.proofs.KeptLemmas.{kept_at}
use Rattle.neldrafi_position.proofs.values.Values.member_start.Goals as goal

pub returns-in-Some-clause-start : goal.returns-in-Some-clause-start
returns-in-Some-clause-start c =
    let inside = c.args.inside in
    let starts = c.in-Some.starts in
    let kept = kept_at (AreMembers c.self.inside.text.now inside) c.get.result starts _ c.get.ensures.value c.in-Some.is (c.self.invariant.objects inside) in
    let wanted = last_named (unescape c.args.token.now) (parts (drop inside c.args.self.now)) in
    let found : c.copied.result ≡ start_named starts.now (unescape c.args.token.now) =
    c.copied.ensures ∙ c.get-in-Some.ensures.value ∙ ap (start_named starts.now) (c.as_slice.ensures.value ∙ c.in_ok-name.ensures) in
    subst (λ found. AreStarts c.args.self.now found wanted) (sym found)
    ((subst (λ text. AreMembers text inside starts.now) c.self.view_is kept).named (unescape c.args.token.now))

pub returns-clause-start : goal.returns-clause-start
returns-clause-start c =
    let inside = c.args.inside in
    let starts = c.in_ok-starts.starts in
    let wanted = last_named (unescape c.args.token.now) (parts (drop inside c.args.self.now)) in
    let found : c.copied-found.result ≡ start_named starts (unescape c.args.token.now) =
    c.copied-found.ensures ∙ c.get-2.ensures.value ∙ ap (start_named starts) (c.as_slice-2.ensures.value ∙ c.in_ok-name.ensures) in
    subst (λ found. AreStarts c.args.self.now found wanted) (sym found)
    ((subst (λ text. AreMembers text inside starts) c.self.view_is c.in_ok-starts.ensures).named (unescape c.args.token.now))
