-- What a right table comes to is what the search of the pattern does.
use Rattle.std.proofs.Common.{◌≡◌, ℕ, ◌+◌, ◌*◌, ◌<◌, ◌==◌, Bool, true, false, List, Vec, Global, length, get_or, Option, Some, None, refl, sym, ap}
use Rattle.std.proofs.Common.{◌∙◌, arith}
use Rattle.strkw_regex_core.specs.machine.MarkedPattern.{MarkedPattern}
use Rattle.strkw_regex_core.specs.Meaning.{is_word, is_edge}
use Rattle.strkw_regex_core.specs.machine.Positions.{leaves, step, mark_classes, is_clean}
use Rattle.strkw_charset.specs.machine.CharClasses.{answers, column_of}
use Rattle.strkw_regex_core.specs.machine.Boundaries.{has_boundary}
use Rattle.strkw_ecma.specs.machine.Told.{Tells}
use Rattle.strkw_ecma.specs.machine.Dfa.{entry_at, row_after, found_row, marks_in, IsRowOf, IsEntry, IsRow, IsTable, Searches}
use Rattle.strkw_ecma.specs.declared.states.State.{State}
use Rattle.strkw_charset.specs.declared.tree.CharSet.{CharSet}
use Rattle.strkw_ecma.proofs.EquivalentChars.{SameWord, same_leaves, same_step, left, next_word, marked_tells, marked_word}
use Rattle.strkw_charset.proofs.ToldSets.{place_is}
use Rattle.strkw_regex_search.proofs.Marked.{unmarked}
use Rattle.strkw_ecma.proofs.DfaRun.{walks}

-- two places with no character are alike for each pattern
same_word_none : (r : MarkedPattern) → SameWord r None None
unfolding SameWord
same_word_none r h = refl

module _ (classes : List (Vec CharSet Global)) (keys samples entries : List ℕ) (states : List State) (p : MarkedPattern) (clean : is_clean p ≡ true)
    (table : IsTable classes keys samples entries states p) where
  -- the column of the end of the text
  abbrev end_column : ℕ
  end_column = length samples

  -- the row stands for the marks of p behind b
  pub record At (row : ℕ) (q : MarkedPattern) (b : Option ℕ) : Type 0 where
    pub state : State
    pub of_row : IsRowOf end_column states row state
    pub marks : marks_in p state ≡ q
    pub word : SameWord p state.last b
    pub edge : is_edge state.last ≡ is_edge b

  -- a row that stands for some marks is right for its state
  row_of : (row : ℕ) (q : MarkedPattern) (b : Option ℕ) → (at : At row q b) → IsRow p samples entries states at.state row
  row_of row q b at = table.rows row at.state at.of_row

  -- the last entry of such a row says that the pattern is found exactly where it is left at the end
  ends : (row : ℕ) (q : MarkedPattern) (b : Option ℕ) → At row q b → (entry_at entries row end_column == found_row) ≡ leaves b None q true
  ends row q b at =
      (row_of row q b at).ends
      ∙ same_leaves classes at.state.last b None None at.edge refl (λ n rs told. refl) (marks_in p at.state) true (marked_word _ p _ _ at.word)
      (same_word_none _) (marked_tells classes at.state.marks.items p table.told)
      ∙ ap (λ (r : MarkedPattern). leaves b None r true) at.marks

  module _ (row : ℕ) (q : MarkedPattern) (b : Option ℕ) (c k : ℕ) (has : column_of classes keys c ≡ Some k) (at : At row q b) where
    -- the character that stands for the column
    abbrev sample : ℕ
    sample = get_or samples k 0

    -- the column is that of one of the keys
    within : k < length keys
    within = (place_is keys (answers 0 classes c) k has).0

    -- the classes give the same answers about it and about the character
    alike : answers 0 classes sample ≡ answers 0 classes c
    alike = sym (table.sampled k within) ∙ (place_is keys (answers 0 classes c) k has).1

    -- the answers tell all that the pattern with the marks of the row asks
    tells : Tells classes (marks_in p at.state)
    tells = marked_tells classes at.state.marks.items p table.told

    -- for that pattern the last character of the state and the one before this are alike
    word : SameWord (marks_in p at.state) at.state.last b
    word = marked_word at.state.marks.items p at.state.last b at.word

    -- the entry of the column is right for the character that stands for it
    entry : IsEntry p end_column states at.state row sample (entry_at entries row k)
    entry = (row_of row q b at).reads k (rw table.lengths within)

    -- before that character and before this the pattern is left alike
    here : leaves at.state.last (Some sample) (marks_in p at.state) true ≡ leaves b (Some c) q true
    here =
        left classes sample c alike at.state.last b at.edge (marks_in p at.state) true word tells
        ∙ ap (λ (r : MarkedPattern). leaves b (Some c) r true) at.marks

    -- and a step over either leads to the same marks
    stepped : step at.state.last (Some sample) (marks_in p at.state) true ≡ step b (Some c) q true
    stepped =
        same_step classes sample c alike at.state.last b at.edge (marks_in p at.state) true word tells
        ∙ ap (λ (r : MarkedPattern). step b (Some c) r true) at.marks

    -- the entry says that the pattern is found exactly where it is left here
    pub finds : (entry_at entries row k == found_row) ≡ leaves b (Some c) q true
    finds = entry.finds ∙ here

    -- a last character alike to that of the column is alike to this
    behind_word : (t : State) → (has_boundary p ≡ true → is_word t.last ≡ is_word (Some sample)) → SameWord p t.last (Some c)
    unfolding SameWord
    behind_word t same h = same h ∙ next_word classes sample c alike p table.told h

    -- where the pattern is not left, the entry leads to a row for the marks behind the character
    pub goes : leaves b (Some c) q true ≡ false → At (row_after end_column row (entry_at entries row k)) (step b (Some c) q true) (Some c)
    goes none =
        let next = entry.goes (here ∙ none) in
        let behind = next.2 in
        record {
          state = behind.0;
          of_row = behind.1;
          marks = ap (λ (l : List Bool). mark_classes l p) behind.2 ∙ next.1 ∙ stepped;
          word = behind_word behind.0 behind.3;
          edge = behind.4;
        }

  -- a state with no last character is as at the beginning of a text
  first_word : (s : State) → s.last ≡ None → SameWord p s.last None
  unfolding SameWord
  first_word s e h = ap is_word e

  -- the first row stands for the pattern at the beginning of a text
  begins : At 0 p None
  begins =
      let first = table.begins in
      let row : 0 ≡ 0 * (end_column + 1) = omega arith in
      record {
        state = first.0;
        of_row = (0, row, first.1);
        marks = unmarked first.0.marks.items p clean first.2;
        word = first_word first.0 first.3;
        edge = ap is_edge first.3;
      }

  -- what the search by the table comes to is what the search of the pattern does
  pub searches : Searches (column_of classes keys) (length keys) entries p
  searches text answer h =
      walks (column_of classes keys) end_column entries At ends finds goes text 0 p None answer begins (rw table.lengths h)
