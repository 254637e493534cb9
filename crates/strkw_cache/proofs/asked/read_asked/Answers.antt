use Rattle.std.proofs.Common.{◌≡◌, [], None, Some, true, refl, sym, subst, ap, ◌∙◌, arith}
use Rattle.std.specs.Bool.{MatchBool}
use Rattle.json.specs.Lex.{tokens}
use Rattle.serde_json.specs.Data.{Members, object}
use Rattle.serde_json.specs.Find.{as_object}
use Rattle.strkw_json.specs.Passing.{value_read}
use Rattle.strkw_object.specs.Values.{AreOwnedOf}
use Rattle.strkw_cache.specs.Fronts.{HasNoOption}
use Rattle.strkw_cache.specs.Depths.{member_depth}
use Rattle.strkw_cache.proofs.Asking.{asked_anew}
use Rattle.strkw_cache.proofs.asked.read_asked.Goals as goal

pub returns : goal.returns
returns c =
    let line = c.args.line.now in
    let before = c.in-Some.before.now in
    let text = c.in-Some.text.now in
    let schema = c.in-Some-split_front.object.now in
    let (plain, stands) = c.in-Some.ensures in
    let (named, reads) = c.in-Some-split_front.ensures in
    let (d, read, is) = c.in-Ok-true.ensures.ok in
    let (ms, is_object, are) = subst
    (λ b. MatchBool b ((ms : Members) × (d ≡ object ms) × AreOwnedOf ms c.read_values.new.values) (as_object d ≡ None)) c.in-Ok-true.field-0-test is in
    let over : c.read_values.new.tokens ≡ [] = grind arith in
    let whole : value_read member_depth (tokens schema) ≡ Some (object ms, []) =
    ap (value_read member_depth) (sym c.in_ok-tokens.ensures.ok) ∙ read ∙ ap (λ x. Some (x, c.read_values.new.tokens)) is_object
    ∙ ap (λ l. Some (object ms, l)) over in
    let options : HasNoOption (record { draft = c.in-Some-split_front.draft; validate_formats = None; ignore_unknown_formats = true }) = record {
      validate_formats = refl;
      ignore_unknown_formats = refl;
    } in
    (ms, asked_anew _ ms before schema text line options named stands plain reads whole, are)
