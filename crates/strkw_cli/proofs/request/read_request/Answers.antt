use Rattle.std.proofs.Common.{IfSome, refl, subst, arith}
use Rattle.strkw_cli.proofs.Asked.{no_short_request}
use Rattle.strkw_cache.specs.Cached.{IsCached}
use Rattle.strkw_cache.specs.Fronts.{Asks}
use Rattle.serde_json.specs.Data.{Members}
use Rattle.strkw_object.specs.Values.{AreOwnedOf}
use Rattle.strkw_cli.proofs.Sharing.{line_asks, shared}
use Rattle.strkw_cli.proofs.request.read_request.Goals as goal

pub returns-then-text-lt-SHORTEST_OBJECT-clause-ok : goal.returns-then-text-lt-SHORTEST_OBJECT-clause-ok
returns-then-text-lt-SHORTEST_OBJECT-clause-ok c = no_short_request c.args.text.now (omega (arith, c.if-text-lt-SHORTEST_OBJECT.true))

pub returns-in-Some-text_asked-clause-ok : goal.returns-in-Some-text_asked-clause-ok
returns-in-Some-text_asked-clause-ok c =
    let object = c.in-Some.object.now in
    let text = c.args.text.now in
    let asked = c.in-Some-text_asked.asked.now in
    let (ms, keeps) = subst (λ o. IfSome o (λ held. IsCached held.now)) c.in-Some.is c.requires in
    let asks : Asks object.terms ms asked text = c.in-Some-text_asked.ensures ms keeps in (
      shared object.terms asked text ms asks,
      line_asks object.terms asked text ms asks,
      record {
        object = keeps;
        others = refl;
      },
    )

pub returns-in-Some-2-clause-ok : goal.returns-in-Some-2-clause-ok
returns-in-Some-2-clause-ok c =
    let text = c.args.text.now in
    let asked = c.in-Some-2.asked in
    let (ms, asks, are) = subst (λ o. IfSome o (λ a. (ms : Members) × Asks a.occurrence.terms ms a.text.now text × AreOwnedOf ms c.read_asked.new.values))
    c.in-Some-2.is c.in_ok-asked.ensures in (
      shared asked.occurrence.terms asked.text.now text ms asks,
      line_asks asked.occurrence.terms asked.text.now text ms asks,
      record {
        object = are;
        others = refl;
      },
    )
