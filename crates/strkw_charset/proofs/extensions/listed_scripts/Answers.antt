use Rattle.std.proofs.Common.{◌≡◌, sym, ap, ◌∙◌, subst, arith}
use Rattle.strkw_charset.specs.machine.ScriptLists.{list_number, list_numbered as spec_list_numbered, HasList}
use Rattle.strkw_charset.proofs.ScriptLists.{found_list}
use Rattle.strkw_charset.proofs.extensions.listed_scripts.Goals as goal

module _ (c : goal.After-search) where
  -- the runs tell the number of the character's list
  pub number : c.search.result ≡ list_number c.args.c
  number = c.search.ensures ∙ c.list_runs.ensures.values c.from.result (omega (arith, c.from.ensures)) ∙ ap list_number c.from.ensures

pub list_numbered-requires : goal.list_numbered-requires
list_numbered-requires c = subst HasList (sym (number c)) (found_list c.args.c).0

pub returns : goal.returns
returns c = c.list_numbered.ensures ∙ ap spec_list_numbered (number c.before) ∙ (found_list c.args.c).1
