-- A text is found by the chain of a program exactly where it is found by the search of its pattern.
use Rattle.std.proofs.Common.{◌≡◌, ◌↔◌, ◌⊎◌, ℕ, ◌-◌, ◌≤◌, nat_le, nat_lt, Bool, true, false, ◌&&◌, ◌||◌, List, [], ◌∷◌, ◌++◌, length, drop, slice_get}
use Rattle.std.proofs.Common.{Option, None, refl, sym, ap, subst, ◌∙◌, inl, inr, ⊎_elim, IsTrue, true≢false, arith}
use Rattle.std.proofs.lemmas.Bool.Decides.{nat_tests}
use Rattle.std.proofs.lemmas.List.{append_assoc}
use Rattle.std.proofs.lemmas.Option.{none-some, same_Some, slice_get_past}
use Rattle.strkw_regex_core.specs.Tree.{start, end}
use Rattle.strkw_regex_core.specs.machine.OneCharLookahead.{are_told}
use Rattle.strkw_regex_core.specs.Meaning.{before, is_edge}
use Rattle.strkw_regex_core.specs.machine.Program.{Instruction, assert, program}
use Rattle.strkw_ecma.specs.machine.Chains.{is_often, numbers_of, ends_of, is_chained, once, repeated, AreChained, IsChainIn, HasOption}
use Rattle.strkw_ecma.specs.machine.Chains.{AreBranchesOf, AreTabled, are_chained, is_other_chained}
use Rattle.strkw_ecma.specs.machine.Links.{begins_with, AreTables}
use Rattle.strkw_regex_search.specs.machine.Machine.{pattern_of, program_of}
use Rattle.strkw_regex_core.specs.machine.Positions.{is_clean}
use Rattle.strkw_regex_search.specs.machine.Search.{search_from}
use Rattle.strkw_regex_search.specs.machine.Instructions.{instructions, are_within}
use Rattle.strkw_ecma.specs.declared.sequence_pair.SequencePair.{SequencePair}
use Rattle.strkw_ecma.specs.declared.links.FixedSequence.{FixedSequence}
use Rattle.strkw_regex_search.specs.declared.code.Class.{Class}
use Rattle.strkw_regex_search.specs.declared.code.Code.{Code}
use Rattle.strkw_regex_search.specs.declared.code.Instruction.{Instruction as CodeInstruction}
use Rattle.strkw_regex_search.specs.declared.code.Instruction.TheVariants.{Read, Peek, Turn}
use Rattle.strkw_regex_search.specs.declared.code.Turn.TheVariants as turn
use Rattle.strkw_regex_search.specs.declared.program.Program.{Program}
use Rattle.strkw_regex_search.proofs.Answers.{search_is_exact}
use Rattle.strkw_ecma.proofs.Linked.{begins_long}
use Rattle.strkw_ecma.proofs.Leads.{are_straight, Leads, leads_behind, straight_parts, read_by_program}
use Rattle.strkw_charset.proofs.Booleans.{and_true, and_left, and_right}
use Rattle.strkw_regex_search.proofs.Written.{more_instructions, within_more}
use Rattle.strkw_ecma.proofs.ChainLeads.{goes_once, goes_at_most_once, inner, inner_leads, straight_append, read_straight, inner_straight}
use Rattle.strkw_ecma.proofs.ChainLeads.{first_place, last_place, numbers_long, same_truth}

-- of instructions that are a chain
module _ (classes : List Class) (c : FixedSequence) (all : List CodeInstruction)
    (is : AreChained all c.first.items c.often c.middle c.last.items) (text : List ℕ) where
  -- what stands within the two ends
  within_ends : instructions classes all ≡ assert start ∷ (instructions classes (inner classes text c) ++ (assert end ∷ []))
  within_ends =
      let first = once c.first.items in
      let middle = repeated c.often c.middle in
      let last = once c.last.items in
      let grouped : first ++ (middle ++ (last ++ (Turn turn.End ∷ []))) ≡ (first ++ (middle ++ last)) ++ (Turn turn.End ∷ []) =
      ap (λ (is : List CodeInstruction). first ++ is) (sym (append_assoc middle last (Turn turn.End ∷ [])))
      ∙ sym (append_assoc first (middle ++ last) (Turn turn.End ∷ [])) in
      ap (instructions classes) (is ∙ ap (λ (is : List CodeInstruction). Turn turn.Start ∷ is) grouped)
      ∙ ap (λ (is : List Instruction). assert start ∷ is) (more_instructions classes (first ++ (middle ++ last)) (Turn turn.End ∷ []))

  -- there is no branch
  chain_straight : are_straight (instructions classes all) ≡ true
  chain_straight =
      ap are_straight within_ends
      ∙ straight_append (instructions classes (inner classes text c)) (assert end ∷ []) (inner_straight classes text c) refl

  -- where they lead from one place to another, the text is the chain
  chain_leads : (i j : ℕ) → i ≤ length text → Leads text (instructions classes all) i j → is_chained classes c text ≡ true
  chain_leads i j h leads =
      let whole_leads = subst (λ (is : List Instruction). Leads text is i j) within_ends leads in
      let from_start : i ≡ 0 = first_place text i h whole_leads.1.0 in
      let begin : whole_leads.0 ≡ 0 = sym whole_leads.1.1 ∙ from_start in
      let parts = (leads_behind text (instructions classes (inner classes text c)) (assert end ∷ []) whole_leads.0 j).0 whole_leads.2 in
      let read = (inner_leads classes text c whole_leads.0 parts.0).0 parts.1 in
      let to_end : length text ≤ parts.0 = last_place text parts.0 parts.2.1.0 in
      let whole : begins_with classes (numbers_of c read.0) text ≡ true =
      subst (λ (k : ℕ). begins_with classes (numbers_of c read.0) (drop k text) ≡ true) begin read.2 in
      let long = begins_long classes (numbers_of c read.0) text whole in
      let size = numbers_long c read.0 in
      let count : length text - ends_of c ≡ read.0 = omega (arith, long, size, to_end, begin, read.3) in
      let fits : nat_le (ends_of c) (length text) ≡ true = grind (arith, nat_tests, long, size) in
      and_true _ _ fits
      (subst (λ (n : ℕ). (is_often c.often n && begins_with classes (numbers_of c n) text) ≡ true) (sym count) (and_true _ _ read.1 whole))

  -- and where it is, they lead from its beginning to its end
  chain_led : is_chained classes c text ≡ true → Leads text (instructions classes all) 0 (length text)
  chain_led chained =
      let count = length text - ends_of c in
      let both = and_right (nat_le (ends_of c) (length text)) _ chained in
      let fits : ends_of c ≤ length text = grind (arith, nat_tests, and_left (nat_le (ends_of c) (length text)) _ chained) in
      let read = (inner_leads classes text c 0 (length text)).1
      (count, and_left _ _ both, and_right (is_often c.often count) _ both, omega (arith, fits)) in
      let stop : is_edge (slice_get text (length text)) ≡ true = ap is_edge (slice_get_past text (length text) (omega arith)) in
      let behind = (leads_behind text (instructions classes (inner classes text c)) (assert end ∷ []) 0 (length text)).1
      (length text, read, (length text, (stop, refl), refl)) in
      subst (λ (is : List Instruction). Leads text is 0 (length text)) (sym within_ends) (0, (refl, refl), behind)

-- of instructions of which one reads a class or nothing
module _ (classes : List Class) (before behind : List CodeInstruction) (n : ℕ) (text : List ℕ) where
  abbrev with_option : List CodeInstruction
  with_option = before ++ (Read n false true ∷ behind)

  abbrev with_once : List CodeInstruction
  with_once = before ++ (Read n false false ∷ behind)

  -- they have no branch where those without it have none
  option_straight : are_straight (instructions classes (before ++ behind)) ≡ true → are_straight (instructions classes with_option) ≡ true
  option_straight straight =
      let parts = straight_parts (instructions classes before) (instructions classes behind)
      (sym (ap are_straight (more_instructions classes before behind)) ∙ straight) in
      ap are_straight (more_instructions classes before (Read n false true ∷ behind))
      ∙ straight_append (instructions classes before) (instructions classes (Read n false true ∷ behind)) parts.0
      (and_true _ _ (read_straight false true (slice_get classes n)) parts.1)

  -- where they lead, those without it do, or those that read it
  option_leads : (i j : ℕ) → Leads text (instructions classes with_option) i j
      → Leads text (instructions classes (before ++ behind)) i j ⊎ Leads text (instructions classes with_once) i j
  option_leads i j leads =
      let parts = (leads_behind text (instructions classes before) (instructions classes (Read n false true ∷ behind)) i j).0
      (subst (λ (is : List Instruction). Leads text is i j) (more_instructions classes before (Read n false true ∷ behind)) leads) in
      ⊎_elim
      (λ e. inl (subst (λ (is : List Instruction). Leads text is i j) (sym (more_instructions classes before behind))
      ((leads_behind text (instructions classes before) (instructions classes behind) i j).1
      (parts.0, parts.1, subst (λ (k : ℕ). Leads text (instructions classes behind) k j) (sym e) parts.2.2))))
      (λ read. inr (subst (λ (is : List Instruction). Leads text is i j) (sym (more_instructions classes before (Read n false false ∷ behind)))
      ((leads_behind text (instructions classes before) (instructions classes (Read n false false ∷ behind)) i j).1
      (parts.0, parts.1, (parts.2.0, subst (λ (A : Type 0). A) (sym (goes_once classes text (slice_get classes n) parts.0 parts.2.0)) read, parts.2.2)))))
      (subst (λ (A : Type 0). A) (goes_at_most_once classes text (slice_get classes n) parts.0 parts.2.0) parts.2.1)

  -- and where one of the two leads, they do
  option_led : (i j : ℕ) → Leads text (instructions classes (before ++ behind)) i j ⊎ Leads text (instructions classes with_once) i j
      → Leads text (instructions classes with_option) i j
  option_led i j (inl leads) =
      let parts = (leads_behind text (instructions classes before) (instructions classes behind) i j).0
      (subst (λ (is : List Instruction). Leads text is i j) (more_instructions classes before behind) leads) in
      subst (λ (is : List Instruction). Leads text is i j) (sym (more_instructions classes before (Read n false true ∷ behind)))
      ((leads_behind text (instructions classes before) (instructions classes (Read n false true ∷ behind)) i j).1 (
        parts.0,
        parts.1,
        (parts.0, subst (λ (A : Type 0). A) (sym (goes_at_most_once classes text (slice_get classes n) parts.0 parts.0)) (inl refl), parts.2),
      ))
  option_led i j (inr leads) =
      let parts = (leads_behind text (instructions classes before) (instructions classes (Read n false false ∷ behind)) i j).0
      (subst (λ (is : List Instruction). Leads text is i j) (more_instructions classes before (Read n false false ∷ behind)) leads) in
      let read = subst (λ (A : Type 0). A) (goes_once classes text (slice_get classes n) parts.0 parts.2.0) parts.2.1 in
      subst (λ (is : List Instruction). Leads text is i j) (sym (more_instructions classes before (Read n false true ∷ behind)))
      ((leads_behind text (instructions classes before) (instructions classes (Read n false true ∷ behind)) i j).1 (
        parts.0,
        parts.1,
        (parts.2.0, subst (λ (A : Type 0). A) (sym (goes_at_most_once classes text (slice_get classes n) parts.0 parts.2.0)) (inr read), parts.2.2),
      ))

-- one of two answers is true where either is
either_true : (a b : Bool) → (a ≡ true) ⊎ (b ≡ true) → (a || b) ≡ true
either_true true b h = refl
either_true false b (inl e) = absurd (true≢false (sym e))
either_true false b (inr e) = e

-- and only there
true_either : (a b : Bool) → (a || b) ≡ true → (a ≡ true) ⊎ (b ≡ true)
true_either true b h = inl refl
true_either false b h = inr h

module _ (p : Program) (clean : is_clean (pattern_of p) ≡ true) (told : are_told (pattern_of p) ≡ true) (text : List ℕ) where
  -- a program without branches is found where it leads on from some place of the text
  straight_found : are_straight (program_of p) ≡ true
      → IsTrue (search_from (pattern_of p) None text) ↔ ((i j : ℕ) × (i ≤ length text) × Leads text (program_of p) i j)
  straight_found straight =
      let same : program_of p ≡ program (pattern_of p) = p.right in
      let read = read_by_program text (pattern_of p) (sym (ap are_straight same) ∙ straight) in
      let exact = search_is_exact (pattern_of p) text clean told in (
        λ found. let at = exact.0 found in
            (at.0, at.1, at.2, subst (λ (is : List Instruction). Leads text is at.0 at.1) (sym same) ((read at.0 at.1).0 at.3)),
        λ at. exact.1 (at.0, at.1, at.2, (read at.0 at.1).1 (subst (λ (is : List Instruction). Leads text is at.0 at.1) same at.3)),
      )

  -- one chain and the search come to the same
  one_is_exact : (c : FixedSequence) → IsChainIn c p.code.classes.items p.code.instructions.items
      → is_chained p.code.classes.items c text ≡ search_from (pattern_of p) None text
  one_is_exact c is =
      let classes = p.code.classes.items in
      let all = p.code.instructions.items in
      let found = straight_found (chain_straight classes c all is.written_is text) in
      same_truth _ _
      (λ chained. found.1 (0, length text, omega arith, chain_led classes c all is.written_is text chained))
      (λ searched. let at = found.0 searched in chain_leads classes c all is.written_is text at.0 at.1 at.2 at.3)

  -- so do two chains
  two_are_exact : (b : SequencePair) → HasOption b p.code → are_chained p.code.classes.items b text ≡ search_from (pattern_of p) None text
  two_are_exact b has =
      let classes = p.code.classes.items in
      let there = ap (λ (o : Option FixedSequence). is_other_chained classes o text) has.is_there in
      let leads_so = λ (i j : ℕ). (λ (l : Leads text (program_of p) i j).
      subst (λ (is : List CodeInstruction). Leads text (instructions classes is) i j) has.written_is l) in
      let straight = ap (λ (is : List CodeInstruction). are_straight (instructions classes is)) has.written_is
      ∙ option_straight classes has.before has.behind has.number text
      (chain_straight classes b.one (has.before ++ has.behind) has.without_it.written_is text) in
      let found = straight_found straight in
      let led = λ (e : Leads text (instructions classes (has.before ++ has.behind)) 0 (length text)
      ⊎ Leads text (instructions classes (has.before ++ (Read has.number false false ∷ has.behind))) 0 (length text)).
      found.1 (
        0,
        length text,
        omega arith,
        subst (λ (is : List CodeInstruction). Leads text (instructions classes is) 0 (length text)) (sym has.written_is)
            (option_led classes has.before has.behind has.number text 0 (length text) e),
      ) in
      same_truth _ _
      (λ chained. ⊎_elim
      (λ e. led (inl (chain_led classes b.one (has.before ++ has.behind) has.without_it.written_is text e)))
      (λ e. led (inr (chain_led classes has.other _ has.with_it.written_is text (sym there ∙ e))))
      (true_either _ _ chained))
      (λ searched. let at = found.0 searched in
      either_true _ _ (⊎_elim
      (λ l. inl (chain_leads classes b.one (has.before ++ has.behind) has.without_it.written_is text at.0 at.1 at.2 l))
      (λ l. inr (there ∙ chain_leads classes has.other _ has.with_it.written_is text at.0 at.1 at.2 l))
      (option_leads classes has.before has.behind has.number text at.0 at.1 (leads_so at.0 at.1 at.3))))

  -- the chains of a program and the search come to the same
  pub chains_are_exact : (b : SequencePair) → AreBranchesOf b p.code → are_chained p.code.classes.items b text ≡ search_from (pattern_of p) None text
  chains_are_exact b (inl is) =
      ap (λ (o : Option FixedSequence). is_chained p.code.classes.items b.one text || is_other_chained p.code.classes.items o text) is.0
      ∙ alone (is_chained p.code.classes.items b.one text) ∙ one_is_exact b.one is.1
    where
      -- beside no other
      alone : (a : Bool) → (a || false) ≡ a
      alone true = refl
      alone false = refl
  chains_are_exact b (inr has) = two_are_exact b has

-- the tables of both tell what the classes have
pub both_tabled : (b : SequencePair) (code : Code) → AreBranchesOf b code → AreTabled b code.classes.items
both_tabled b code (inl is) = (is.1.tables_are, λ c e. absurd (none-some c (sym is.0 ∙ e)))
both_tabled b code (inr has) = (
  has.without_it.tables_are,
  λ c e. subst (λ (d : FixedSequence). AreTables code.classes.items d.tables.items) (same_Some has.other c (sym has.is_there ∙ e)) has.with_it.tables_are,
)

-- classes that are read are among those of a program, in front of a place and behind it
within_parts : (n : ℕ) (xs ys : List CodeInstruction) → are_within n (xs ++ ys) ≡ true → (are_within n xs ≡ true) × (are_within n ys ≡ true)
within_parts n [] ys h = (refl, h)
within_parts n (Read k again optional ∷ xs) ys h =
    let both = within_parts n xs ys (and_right (nat_lt k n) _ h) in (and_true _ _ (and_left (nat_lt k n) _ h) both.0, both.1)
within_parts n (Peek k ∷ xs) ys h =
    let both = within_parts n xs ys (and_right (nat_lt k n) _ h) in (and_true _ _ (and_left (nat_lt k n) _ h) both.0, both.1)
within_parts n (Turn t ∷ xs) ys h = within_parts n xs ys h

-- so they are without an option, and where it is read
pub without_within : (n k : ℕ) (all before behind : List CodeInstruction) → all ≡ before ++ (Read k false true ∷ behind) → are_within n all ≡ true
    → are_within n (before ++ behind) ≡ true
without_within n k all before behind is h =
    let both = within_parts n before (Read k false true ∷ behind) (sym (ap (are_within n) is) ∙ h) in
    within_more n before behind both.0 (and_right (nat_lt k n) _ both.1)

pub with_within : (n k : ℕ) (all before behind : List CodeInstruction) → all ≡ before ++ (Read k false true ∷ behind) → are_within n all ≡ true
    → are_within n (before ++ (Read k false false ∷ behind)) ≡ true
with_within n k all before behind is h =
    let both = within_parts n before (Read k false true ∷ behind) (sym (ap (are_within n) is) ∙ h) in
    within_more n before (Read k false false ∷ behind) both.0 both.1
