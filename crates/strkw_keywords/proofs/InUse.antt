-- On entries and the lists that they are compiled with.
use Rattle.std.proofs.Common.{List, [], ◌∷◌, ◌++◌}
use Rattle.std.specs.List.{AllByRecursion}
use Rattle.strkw_keywords.specs.Demands.{Demand, IsInUse}
use Rattle.strkw_keywords.specs.Object.{Settings, Entry, Keyed, keywords, demands_by, all_demands}
use Rattle.strkw_keywords.specs.Laws.{CompiledIsInUse}
use Rattle.strkw_keywords.proofs.Entries.{each_entry}
use Rattle.strkw_keywords.proofs.Shapes.{HoldsOfBoundless, HoldsOfShapes, entry_holds}

-- the rows that an entry rests on are the first of their names
abbrev pub EntryKeeps : Settings → Entry → Type 0
EntryKeeps s e = IsInUse (demands_by e) s.lists

-- the rows of an entry of a shape that bounds no length are the first of their names
boundless_keep : (s : Settings) → HoldsOfBoundless s (EntryKeeps s)
boundless_keep s = record {
  of_nothing = tt;
  of_refusal = λ key why prints. tt;
  of_note = λ d whole. tt;
  of_demand = λ d boundless keeps. (keeps, tt);
}

-- so are those of an entry of any shape
shapes_keep : (s : Settings) → HoldsOfShapes s (EntryKeeps s)
shapes_keep s = record {
  of_boundless = boundless_keep s;
  of_format = λ name f keeps. (keeps, tt);
  of_least = λ n. (tt, tt);
  of_greatest = λ n. (tt, tt);
}

-- ---- the object

-- where demands are in use, and others are, both are in use together
join_keeps : (s : Settings) (xs ys : List Demand) → IsInUse xs s.lists → IsInUse ys s.lists → IsInUse (xs ++ ys) s.lists
join_keeps s [] ys h k = k
join_keeps s (x ∷ xs) ys h k = (h.0, join_keeps s xs ys h.1 k)

-- where the rows of each entry come first by their names, what the entries demand is in use
all_keep : (s : Settings) (es : List Keyed) → AllByRecursion (λ e. EntryKeeps s e.entry) es → IsInUse (all_demands es) s.lists
all_keep s [] h = tt
all_keep s (e ∷ others) h =
    join_keeps s (demands_by e.entry) (all_demands others) h.0 (all_keep s others h.1)

-- what is compiled under some lists is in use with them
pub in_use : CompiledIsInUse
in_use s ms es h =
    all_keep s es (each_entry (EntryKeeps s) s ms (entry_holds s (EntryKeeps s) (shapes_keep s) ms) keywords es h.in_order)
