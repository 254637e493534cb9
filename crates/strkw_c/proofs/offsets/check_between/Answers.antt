use Rattle.std.proofs.Common.{rules, ◌≡◌, ◌∷◌}
use Rattle.strkw_c.specs.Texts.{numbers}
use Rattle.strkw_c.proofs.offsets.check_between.Goals as goal

pub returns : goal.returns
returns c =
    let e : numbers c.args.offsets.now ≡ c.in-Some.start ∷ numbers c.in-Some.ends = search rules in
    let told = c.check_from.ensures in
    rw e (record {
      known = told.status;
      kept = told.kept;
      no_texts = told.no_texts;
      no_draft = told.no_draft;
      no_option = told.no_option;
      no_schema = told.no_schema;
      refused = told.refused;
      done = told.done;
    })
