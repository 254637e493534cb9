-- The code's searches whose marks are told: turn by turn they come to what is defined.
use Rattle.std.proofs.Common.{◌≡◌, ◌↔◌, ℕ, zero, suc, ◌<◌, ◌≤◌, get_or, arith, Bool, true, false, ◌||◌, List, [], ◌∷◌, ◌++◌, length, Option, Some}
use Rattle.std.proofs.Common.{None, IsTrue, not, if◌then◌else◌, refl, sym, ap, subst, ◌∙◌, true≢false}
use Rattle.std.proofs.lemmas.List.{append_assoc, get_or_past}
use Rattle.strkw_regex_core.specs.machine.MarkedPattern.{MarkedPattern}
use Rattle.strkw_regex_core.specs.machine.MarkedMeaning.{Found}
use Rattle.strkw_regex_core.specs.machine.OneCharLookahead.{are_told}
use Rattle.strkw_regex_core.specs.machine.Mirror.{mirror_if, along}
use Rattle.strkw_regex_search.specs.machine.OraclePasses.{OracleQuery, IsAside, AreAsides, IsSmall, AreSmall, SetsAside}
use Rattle.strkw_regex_search.specs.machine.Bits.{bits_of, rows_of}
use Rattle.strkw_regex_core.specs.machine.Positions.{leaves, step, is_unmarked}
use Rattle.strkw_regex_core.specs.machine.EquivalentPatterns.{EquivalentPatterns}
use Rattle.strkw_regex_search.specs.machine.Search.{search_from, found_in}
use Rattle.strkw_regex_core.specs.machine.Sight.{depth, ends_by, begins_at}
use Rattle.strkw_regex_search.specs.machine.OracleRunners.{seeking_of, seekings, quest, quests, IsFit, AreFit}
use Rattle.strkw_regex_search.specs.machine.Seeking.{Seeking, row_answer, ends_from, ends_within, is_sought}
use Rattle.strkw_regex_search.specs.machine.OracleMarks.{told_by}
use Rattle.strkw_regex_search.specs.declared.oracle_passes.OraclePass.{OraclePass}
use Rattle.strkw_regex_search.specs.declared.bits.Bits.{Bits}
use Rattle.strkw_regex_search.specs.declared.oracle_runner.OracleRunner.{OracleRunner}
use Rattle.strkw_regex_search.proofs.Answers.{same_answer}
use Rattle.strkw_regex_search.proofs.FoundIn.{found_in_right}
use Rattle.strkw_regex_search.proofs.OracleCorrect.{is_sought_right}
use Rattle.strkw_regex_search.proofs.Spread.{aside_fit}

-- a turn: the next character is c, `q` has the marks told, and `r` those behind the character
module _ (rows : List (List Bool)) (ts : List (Option ℕ)) (p : MarkedPattern) (last : Option ℕ) (c : ℕ) (left rest : List ℕ) (begins : left ≡ c ∷ rest)
    (ahead : ℕ) (ahead_is : ahead ≡ length left) (q : MarkedPattern) (q_is : q ≡ told_by (row_answer rows ahead) ts p)
    (e : Bool) (e_is : e ≡ leaves last (Some c) q true) (r : MarkedPattern) (r_is : r ≡ step last (Some c) q true) where
  -- the pattern with the marks that the rows tell here
  abbrev here : MarkedPattern
  here = told_by (row_answer rows (suc (length rest))) ts p

  -- the pattern that is asked is that one
  told_here : q ≡ here
  told_here = q_is ∙ ap (λ (n : ℕ). told_by (row_answer rows n) ts p) (ahead_is ∙ ap length begins)

  -- so it is that one of which the answer tells
  answer_here : e ≡ leaves last (Some c) here true
  answer_here = e_is ∙ ap (λ (z : MarkedPattern). leaves last (Some c) z true) told_here

  -- and that one which goes on
  step_here : r ≡ step last (Some c) here true
  step_here = r_is ∙ ap (λ (z : MarkedPattern). step last (Some c) z true) told_here

  -- one answer more, and those of the rest
  pub row_turn : (bits whole : List Bool) → bits ++ ends_from rows ts p last left ≡ whole
      → (bits ++ (e ∷ [])) ++ ends_from rows ts r (Some c) rest ≡ whole
  row_turn bits whole so_far =
      append_assoc bits (e ∷ []) (ends_from rows ts r (Some c) rest)
      ∙ ap (λ (b : Bool). bits ++ (b ∷ ends_from rows ts r (Some c) rest)) answer_here
      ∙ ap (λ (z : MarkedPattern). bits ++ (leaves last (Some c) here true ∷ ends_from rows ts z (Some c) rest)) step_here
      ∙ sym (ap (λ (l : List ℕ). bits ++ ends_from rows ts p last l) begins) ∙ so_far

  -- it ends here, or else the search of the rest comes to the answer
  turned : (answer : Bool) → ends_within rows ts p last left ≡ answer → (e || ends_within rows ts r (Some c) rest) ≡ answer
  turned answer so_far =
      ap (λ (b : Bool). b || ends_within rows ts r (Some c) rest) answer_here
      ∙ ap (λ (z : MarkedPattern). leaves last (Some c) here true || ends_within rows ts z (Some c) rest) step_here
      ∙ sym (ap (ends_within rows ts p last) begins) ∙ so_far

  -- where it does not end here, the search of the rest does
  pub within_turn : (answer : Bool) → ends_within rows ts p last left ≡ answer → e ≡ false → ends_within rows ts r (Some c) rest ≡ answer
  within_turn answer so_far not_here = sym (ap (λ (b : Bool). b || ends_within rows ts r (Some c) rest) not_here) ∙ turned answer so_far

  -- where it does, the answer is yes
  pub within_found : (answer : Bool) → ends_within rows ts p last left ≡ answer → e ≡ true → true ≡ answer
  within_found answer so_far is_here = sym (ap (λ (b : Bool). b || ends_within rows ts r (Some c) rest) is_here) ∙ turned answer so_far

-- at the end of the text
module _ (rows : List (List Bool)) (ts : List (Option ℕ)) (p : MarkedPattern) (last : Option ℕ) (left : List ℕ) (none : left ≡ [])
    (q : MarkedPattern) (q_is : q ≡ told_by (row_answer rows 0) ts p) (e : Bool) (e_is : e ≡ leaves last None q true) where
  -- the last answer is that of the marks that the rows tell there
  end_here : e ≡ leaves last None (told_by (row_answer rows 0) ts p) true
  end_here = e_is ∙ ap (λ (z : MarkedPattern). leaves last None z true) q_is

  -- it is the last of the answers
  pub row_ends : (bits whole : List Bool) → bits ++ ends_from rows ts p last left ≡ whole → bits ++ (e ∷ []) ≡ whole
  row_ends bits whole so_far =
      ap (λ (b : Bool). bits ++ (b ∷ [])) end_here ∙ sym (ap (λ (l : List ℕ). bits ++ ends_from rows ts p last l) none) ∙ so_far

  -- and the answer of the search
  pub within_ends : (answer : Bool) → ends_within rows ts p last left ≡ answer → e ≡ answer
  within_ends answer so_far = end_here ∙ sym (ap (ends_within rows ts p last) none) ∙ so_far

-- lists of the code
-- what more bits say
pub rows_append : (bs : List Bits) (b : Bits) → rows_of (bs ++ (b ∷ [])) ≡ rows_of bs ++ (bits_of b ∷ [])
rows_append [] b = refl
rows_append (x ∷ bs) b = ap (λ (l : List (List Bool)). bits_of x ∷ l) (rows_append bs b)

-- the row of a number
pub row_there : (bs : List Bits) (k : ℕ) (b d : Bits) → k < length bs → b ≡ get_or bs k d → get_or (rows_of bs) k [] ≡ bits_of b
row_there [] k b d h e = absurd (omega (arith, h))
row_there (x ∷ bs) zero b d h e = ap bits_of (sym e)
row_there (x ∷ bs) (suc k) b d h e = row_there bs k b d (omega (arith, h)) e

-- there is none behind the last
pub row_none : (bs : List Bits) (k : ℕ) → length bs ≤ k → get_or (rows_of bs) k [] ≡ []
row_none [] k h = get_or_past [] k [] (omega arith)
row_none (x ∷ bs) zero h = absurd (omega (arith, h))
row_none (x ∷ bs) (suc k) h = row_none bs k (omega (arith, h))

-- seekers one behind another
pub seekings_append : (xs ys : List OracleRunner) → seekings (xs ++ ys) ≡ seekings xs ++ seekings ys
seekings_append [] ys = refl
seekings_append (x ∷ xs) ys = ap (λ (l : List Seeking). seeking_of x ∷ l) (seekings_append xs ys)

-- the quests of one more are theirs and its own
pub quests_append : (xs : List OraclePass) (x : OraclePass) → quests (xs ++ (x ∷ [])) ≡ quests xs ++ (quest x ∷ [])
quests_append [] x = refl
quests_append (y ∷ xs) x = ap (λ (l : List Seeking). quest y ∷ l) (quests_append xs x)

-- there are as many quests as are put aside
pub quests_count : (xs : List OraclePass) → length (quests xs) ≡ length xs
quests_count [] = refl
quests_count (x ∷ xs) = ap suc (quests_count xs)

-- what is put aside of a small pattern is fit
one_fit : (fs : List OracleQuery) (x : Seeking) (f : OracleQuery) → IsAside fs x f → IsSmall f.pattern → IsFit x.pattern
one_fit fs x f u w = subst IsFit (sym u.slotted) (aside_fit f.pattern u.bare w)

-- all that is put aside of small patterns is
pub are_fit : (xs : List OraclePass) (fs gs : List OracleQuery) → AreAsides fs (quests xs) gs → AreSmall gs → AreFit xs
are_fit [] fs [] u w = tt
are_fit [] fs (g ∷ gs) u w = absurd u
are_fit (x ∷ xs) fs [] u w = absurd u
are_fit (x ∷ xs) fs (g ∷ gs) u w = (one_fit fs (quest x) g u.0 w.0, are_fit xs (fs ++ (g ∷ [])) gs u.1 w.1)

-- a pattern that is set aside is fit
pub set_fit : (b : Bool) (p : MarkedPattern) (x : Seeking) (fs : List OracleQuery) (xs : List Seeking) → SetsAside b p x fs xs → IsFit x.pattern
set_fit b p x fs xs set = one_fit (fs ++ set.added) x record { backward = b; pattern = set.made } set.is set.made_small

-- what has its lookaheads told is searched for in one pass
pub found_plain : (p q : MarkedPattern) (b : Bool) (text : List ℕ) → are_told p ≡ true → q ≡ p
    → search_from q None (along b text) ≡ found_in p (along b text)
found_plain p q b text told same =
    ap (λ (r : MarkedPattern). search_from r None (along b text)) same
    ∙ sym (ap (λ (x : Bool). if x then search_from p None (along b text) else ends_by (begins_at (depth p) (along b text)) (along b text) p
    (length (along b text))) told)

-- what has not is so along the text
along_it : (b t : Bool) → t ≡ false → (not b || t) ≡ true → b ≡ false
along_it false t far faced = refl
along_it true t far faced = absurd (true≢false (sym faced ∙ far))

-- and the seekers of what is put aside of it find it
pub found_told : (p : MarkedPattern) (b : Bool) (text : List ℕ) → are_told p ≡ false → (not b || are_told p) ≡ true → is_unmarked p ≡ true
    → (xs : List Seeking) (x : Seeking) (ys : List Seeking) (y : Seeking) → SetsAside b p x [] xs → ys ≡ xs → y ≡ x
    → is_sought ys y text ≡ found_in p (along b text)
found_told p b text far faced bare xs x ys y set same one =
    let way : b ≡ false = along_it b (are_told p) far faced in
    let like : EquivalentPatterns set.made p = subst (λ (c : Bool). EquivalentPatterns set.made (mirror_if c p)) way set.alike in
    let found : IsTrue (is_sought xs x text) ↔ Found set.made (along b text) =
    is_sought_right text xs set.added x record { backward = b; pattern = set.made } set.asides set.is in
    let right = found_in_right p (along b text) bare in
    ap (λ (l : List Seeking). is_sought l y text) same ∙ ap (λ (z : Seeking). is_sought xs z text) one
    ∙ same_answer (Found p (along b text)) _ _ (
      λ t. let f = found.0 t in (f.0, f.1, f.2, (like.meaning (along b text) f.0 f.1).0 f.3),
      λ f. found.1 (f.0, f.1, f.2, (like.meaning (along b text) f.0 f.1).1 f.3),
    ) right
