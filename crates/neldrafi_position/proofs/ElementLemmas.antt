-- The elements of an array, one after another.
use Rattle.std.proofs.Common.{◌≡◌, ◌∙◌, ℕ, zero, suc, false, List, [], ◌∷◌, ◌++◌, append_assoc, append-nil, arith, drop, map, refl, sym}
use Rattle.std.proofs.lemmas.List.{map-append}
use Rattle.std.proofs.lemmas.List.Elements.{All-append}
use Rattle.std.specs.List.{All}
use Rattle.std.specs.Str.{IsCharBoundary}
use Rattle.neldrafi_position.specs.Parts.{begins_with_closing, behind_space, parts}
use Rattle.neldrafi_position.specs.machine.Kept.{AreElements, IsStart}

-- the starts that are made, with those of the parts that are left, are those of all parts
pub record AreElementsMade (text : List ℕ) (left all : List (List ℕ)) (starts : List ℕ) : Type 0 where
  pub cut : All (IsCharBoundary text) starts
  pub same : map (λ start. drop start text) starts ++ map behind_space left ≡ map behind_space all

module _ (text : List ℕ) (all : List (List ℕ)) where
  pub none_element_made : AreElementsMade text all all []
  none_element_made = record { cut = λ k d h. absurd (omega arith); same = refl }

  all_one : (start : ℕ) → IsCharBoundary text start → All (IsCharBoundary text) (start ∷ [])
  all_one start cut zero d h = cut
  all_one start cut (suc k) d h = absurd (omega arith)

  pub one_element_made : (rest : List ℕ) (left : List (List ℕ)) (starts : List ℕ) (start : ℕ) → IsStart text rest start → AreElementsMade text (rest ∷ left) all starts
      → AreElementsMade text left all (starts ++ start ∷ [])
  one_element_made rest left starts start begins made = record {
    cut = All-append (IsCharBoundary text) starts (start ∷ []) made.cut (all_one start begins.cut);
    same = rw (map-append (λ n. drop n text) starts (start ∷ []), begins.same) (append_assoc (map (λ n. drop n text) starts) (behind_space rest ∷ []) (map behind_space left) ∙ made.same);
  }

pub all_elements_made : (text : List ℕ) (inside : ℕ) (starts : List ℕ) → begins_with_closing (behind_space (drop inside text)) ≡ false
    → AreElementsMade text [] (parts (drop inside text)) starts → AreElements text inside starts
all_elements_made text inside starts unclosed made = record {
  cut = made.cut;
  same = rw unclosed (sym (append-nil (map (λ n. drop n text) starts)) ∙ made.same);
}
