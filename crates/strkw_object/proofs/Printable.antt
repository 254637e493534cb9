-- The notes of a schema object hold no number but whole ones of 64 bits, and neither does what its refusal prints. So
-- each has a text.
use Rattle.std.proofs.Common.{◌≡◌, ◌⊎◌, inl, inr, ℕ, List, [], ◌∷◌, false, Option, Some, None, refl, sym, ap, subst}
use Rattle.std.specs.List.{AllByRecursion}
use Rattle.std.proofs.lemmas.List.Elements.{All-nil, All-cons, All-append}
use Rattle.serde_json.specs.Data.{Members}
use Rattle.serde_json.specs.Written.{has_float}
use Rattle.strkw_report.specs.Refusals.{Refusal, prints_float, reason_of, refusal_of}
use Rattle.strkw_report.specs.declared.refusal.CompileError.{CompileError}
use Rattle.strkw_keywords.specs.Compiled.{out_of_memory_refusal}
use Rattle.strkw_keywords.specs.Object.{FirstRefusal, remarks_on, Notes, Settings, Entry, nothing, malformed, gives, Keyed, keywords, AreEntries, remark_by}
use Rattle.strkw_keywords.specs.Object.{all_remarks, refusal_or, refusal}
use Rattle.strkw_keywords.specs.declared.keyword.Keyword.{Keyword}
use Rattle.strkw_keywords.specs.Places.{Place}
use Rattle.strkw_keywords.specs.Remarks.{Remark, remark_at}
use Rattle.strkw_keywords.proofs.Entries.{each_entry}
use Rattle.strkw_keywords.proofs.Shapes.{HoldsOfBoundless, HoldsOfShapes, entry_holds}
use Rattle.strkw_object.specs.Printable.{HasText, ArePrintable}

-- what an entry notes has a text, and so has its refusal
abbrev pub IsPrintable : Entry → Type 0
IsPrintable nothing = Unit {0}
IsPrintable (malformed key why) = prints_float why ≡ false
IsPrintable (gives ds None) = Unit {0}
IsPrintable (gives ds (Some d)) = has_float d ≡ false

-- what a printable entry notes, if anything, has a text
remark_printable : (place : Place) (key : Keyword) (e : Entry) → IsPrintable e → ArePrintable (remark_by place key e)
remark_printable place key nothing p = All-nil HasText
remark_printable place key (malformed k why) p = All-nil HasText
remark_printable place key (gives ds None) p = All-nil HasText
remark_printable place key (gives ds (Some d)) p = All-cons HasText (remark_at place.schema key d) [] p (All-nil HasText)

-- an entry of a shape that bounds no length is printable
boundless_print : (s : Settings) → HoldsOfBoundless s IsPrintable
boundless_print s = record {
  of_nothing = tt;
  of_refusal = λ key why prints. prints;
  of_note = λ d whole. whole;
  of_demand = λ d boundless keeps. tt;
}

-- an entry of any shape is printable
shapes_print : (s : Settings) → HoldsOfShapes s IsPrintable
shapes_print s = record {
  of_boundless = boundless_print s;
  of_format = λ name f keeps. refl;
  of_least = λ n. tt;
  of_greatest = λ n. tt;
}

-- ---- the object

-- each of these entries is printable
abbrev pub ArePrintableEntries : List Keyed → Type 0
ArePrintableEntries es = AllByRecursion (λ e. IsPrintable e.entry) es

-- the entries of a schema object are printable
entries_printable : (s : Settings) (ms : Members) (es : List Keyed) → AreEntries s ms es → ArePrintableEntries es
entries_printable s ms es are = each_entry IsPrintable s ms (entry_holds s IsPrintable (shapes_print s) ms) keywords es are.in_order

-- each note of printable entries has a text
listed_printable : (place : Place) (es : List Keyed) → ArePrintableEntries es → ArePrintable (all_remarks place es)
listed_printable place [] each = All-nil HasText
listed_printable place (e ∷ others) each = All-append HasText (remark_by place e.keyword e.entry) (all_remarks place others)
    (remark_printable place e.keyword e.entry each.0) (listed_printable place others each.1)

-- where each of some notes has a text, so has each that is made of a node
node_printable : (node : Option (List ℕ)) (rs : List Remark) → ArePrintable rs → ArePrintable (remarks_on node rs)
node_printable None rs p = All-nil HasText
node_printable (Some text) rs p = p

-- each note of the entries of a schema object has a text
remarks_printable : (s : Settings) (ms : Members) (es : List Keyed) → AreEntries s ms es → ArePrintable (all_remarks s.place es)
remarks_printable s ms es are = listed_printable s.place es (entries_printable s ms es are)

-- each note of a node by a schema object has a text
pub notes_printable : (s : Settings) (ms : Members) (node : Option (List ℕ)) (remarks : List Remark) → Notes s ms node remarks → ArePrintable remarks
notes_printable s ms node remarks (es, are, is) = subst ArePrintable (sym is) (node_printable node (all_remarks s.place es) (remarks_printable s ms es are))

-- a refusal, if there is one, prints no number but whole ones of 64 bits
abbrev pub PrintsNoFloat : Option Refusal → Type 0
PrintsNoFloat None = Unit {0}
PrintsNoFloat (Some why) = prints_float why.reason ≡ false

-- the refusal of a printable entry, or else a later one that prints no float, prints no float
refused_printable : (place : Place) (e : Entry) (later : Option Refusal) → IsPrintable e → PrintsNoFloat later → PrintsNoFloat (refusal_or place e later)
refused_printable place nothing later p more = more
refused_printable place (malformed key why) later p more = p
refused_printable place (gives ds remark) later p more = more

-- the first refusal of printable entries, if there is one, prints no float
first_printable : (place : Place) (es : List Keyed) → ArePrintableEntries es → PrintsNoFloat (refusal place es)
first_printable place [] each = tt
first_printable place (e ∷ others) each = refused_printable place e.entry (refusal place others) each.0 (first_printable place others each.1)

-- the first refusal of a schema object prints no number but whole ones of 64 bits
pub refusal_printable : (s : Settings) (ms : Members) (why : Refusal) → FirstRefusal s ms (Some why) → prints_float why.reason ≡ false
refusal_printable s ms why (es, are, first) = subst PrintsNoFloat first (first_printable s.place es (entries_printable s ms es are))

-- out of memory included
pub refused_prints : (s : Settings) (ms : Members) (e : CompileError) → (refusal_of e ≡ out_of_memory_refusal) ⊎ FirstRefusal s ms (Some (refusal_of e))
    → prints_float (reason_of e.kind) ≡ false
refused_prints s ms e (inl none) = ap (λ r. prints_float r.reason) none
refused_prints s ms e (inr first) = refusal_printable s ms (refusal_of e) first
