use Rattle.std.proofs.Common.{subst, arith}
use Rattle.std.proofs.lemmas.Grind.{common_steps}
use Rattle.json.specs.Lex.{tokens}
use Rattle.strkw_cache.specs.Fronts.{AreFront}
use Rattle.strkw_cache.specs.Tokens.{tokens_owned}
use Rattle.strkw_cache.proofs.Asking.{front_read}
use Rattle.strkw_cache.proofs.fronts.front_in.Goals as goal

pub returns : goal.returns
returns c =
    let before = c.in-Some.before.now in
    let schema = tokens_owned c.args.object.now in
    let is : AreFront c.args.terms.draft schema (tokens before) = subst (AreFront c.args.terms.draft schema)
    (c.in_ok-tokens.ensures.ok) c.in-Some-take_front.ensures in
    record {
      draft = is.draft;
      options = record {
        validate_formats = grind arith;
        ignore_unknown_formats = grind arith;
      };
      before = before;
      text = grind (arith, common_steps);
      reads = front_read c.args.terms.draft schema before is;
    }
