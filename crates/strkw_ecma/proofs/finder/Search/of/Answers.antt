use Rattle.std.proofs.Common.{◌≡◌, true, false, List, [], ◌∷◌, length, ap, arith}
use Rattle.strkw_regex_core.specs.machine.OneCharLookahead.{are_told}
use Rattle.strkw_regex_search.specs.machine.OraclePasses.{AreAsides}
use Rattle.strkw_regex_search.specs.machine.OracleRunners.{quests}
use Rattle.strkw_regex_core.specs.machine.Shape.{outline_pattern}
use Rattle.strkw_regex_search.specs.declared.oracle_passes.OraclePass.{OraclePass}
use Rattle.strkw_regex_search.proofs.OracleCode.{found_plain, found_told, are_fit, set_fit}
use Rattle.strkw_regex_core.proofs.Sizes.{told_steps, far_steps}
use Rattle.strkw_regex_core.proofs.Unmarked.{clean_unmarked}
use Rattle.strkw_ecma.proofs.finder.Search.of.Goals as goal

-- where there are no asides, there are no quests
no_asides : (xs : List OraclePass) → xs ≡ [] → AreAsides [] (quests xs) []
no_asides [] none = tt
no_asides (x ∷ xs) none = absurd (omega (arith, ap length none))

pub of-requires : goal.of-requires
of-requires c =
    let told : are_told (outline_pattern c.args.pattern) ≡ true = cc in
    record {
      small = omega (arith, told_steps (outline_pattern c.args.pattern) told, c.requires.small);
      clean = clean_unmarked (outline_pattern c.args.pattern) c.requires.bare;
      told = told;
    }

pub returns-then-is_told : goal.returns-then-is_told
returns-then-is_told c = λ text.
    let told : are_told (outline_pattern c.args.pattern) ≡ true = cc in
    found_plain (outline_pattern c.args.pattern) _ c.args.is_backward text told c.in_ok-finder.ensures

pub set_aside-requires : goal.set_aside-requires
set_aside-requires c =
    let far : are_told (outline_pattern c.args.pattern) ≡ false = cc in
    record {
      bare = c.requires.bare;
      small = omega (arith, far_steps (outline_pattern c.args.pattern) far, c.requires.small);
    }

pub seekers_of-requires : goal.seekers_of-requires
seekers_of-requires c =
    let set = c.in_ok-last.ensures [] (no_asides _ c.new-asides.ensures.items) in
    are_fit _ [] set.added set.asides set.small

pub of-requires-2 : goal.of-requires-2
of-requires-2 c =
    let set = c.in_ok-last.ensures [] (no_asides _ c.new-asides.ensures.items) in
    set_fit _ _ _ _ _ set

pub returns : goal.returns
returns c = λ text.
    let far : are_told (outline_pattern c.args.pattern) ≡ false = cc in
    let set = c.in_ok-last.ensures [] (no_asides _ c.new-asides.ensures.items) in
    found_told (outline_pattern c.args.pattern) c.args.is_backward text far c.requires.faced c.requires.bare _ _ _ _ set
    c.in_ok-seekers_of.ensures c.in_ok-of.ensures
