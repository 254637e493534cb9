-- Where tokens lead, by offsets.
use Rattle.std.proofs.Common.{◌≡◌, ◌∙◌, ℕ, ◌+◌, ◌<◌, ◌≤◌, ◌^◌, List, [], ◌∷◌, Bool, Bor, true, false, Option, Some, None, ap, arith, drop, get_or, length, length-drop, refl, subst, sym, eq-eqb}
use Rattle.std.proofs.lemmas.List.{at_drop_more}
use Rattle.std.proofs.lemmas.Option.{same_Some}
use Rattle.std.specs.Slice.{IsItemAt}
use Rattle.std.specs.Prelude.{IfSome, if◌then◌else◌, option_and_then, option_map, slice_get, unwrap_or}
use Rattle.std.specs.Str.{IsCharBoundary}
use Rattle.neldrafi_position.specs.Parts.{behind_space, elements, is_space}
use Rattle.neldrafi_position.specs.Places.{child, element, value_along, value_at}
use Rattle.neldrafi_position.specs.Positions.{offset_of}
use Rattle.neldrafi_position.specs.machine.Kept.{AreStarts, IsStart}
use Rattle.neldrafi_position.specs.machine.Tokens.{index_in_word}
use Rattle.neldrafi_position.proofs.Elements.{element_is}

-- ---- a child

pub first_at : (bytes text : List ℕ) (start : ℕ) (first : Bor ℕ) → bytes ≡ text → IsItemAt bytes start (Some first) → (start < length text) × (get_or text start 0 ≡ first.now)
first_at bytes text start first is item =
    subst (λ t. (start < length t) × (get_or t start 0 ≡ first.now)) is (item.3.0, sym (item.4 (omega arith) 0))

module _ (text token : List ℕ) (start : ℕ) (within : start < length text) where
  array_child : get_or text start 0 ≡ 91 → child token (drop start text) ≡ element token (drop (start + 1) text)
  array_child e = at_drop_more (child token) text start 0 within ∙ rw (eq-eqb (get_or text start 0) 91 e) refl

  module _ (bracket : get_or text start 0 ≡ 91) (small : length text < 2 ^ 63) where
    abbrev rest : List ℕ
    rest = drop (start + 1) text

    named : (o : Option ℕ) → o ≡ index_in_word token → option_and_then (slice_get (elements rest)) o ≡ child token (drop start text)
    named o e =
        let short : length rest < 2 ^ 63 = omega (arith, length-drop (start + 1) text) in
        ap (option_and_then (slice_get (elements rest))) e ∙ element_is token rest short ∙ sym (array_child bracket)

    pub no_index : None ≡ index_in_word token → AreStarts text None (child token (drop start text))
    no_index e = record { cut = tt; same = ap (option_map behind_space) (named None e) }

    pub at_index : (index : ℕ) (found : Option ℕ) → Some index ≡ index_in_word token → AreStarts text found (slice_get (elements rest) index)
        → AreStarts text found (child token (drop start text))
    at_index index found e starts = subst (AreStarts text found) (named (Some index) e) starts

-- ---- behind white space

spaced_again : (b : Bool) (c : ℕ) (text : List ℕ) → is_space c ≡ b → behind_space (behind_space text) ≡ behind_space text
    → behind_space (if b then behind_space text else c ∷ text) ≡ (if b then behind_space text else c ∷ text)
spaced_again true c text e again = again
spaced_again false c text e again = rw e refl

pub space_again : (text : List ℕ) → behind_space (behind_space text) ≡ behind_space text
space_again [] = refl
space_again (c ∷ text) = spaced_again (is_space c) c text refl (space_again text)

pub along_again : (tokens : List (List ℕ)) (text : List ℕ) → value_along tokens (behind_space text) ≡ value_along tokens text
along_again [] text = ap Some (space_again text)
along_again (token ∷ tokens) text = ap (λ t. option_and_then (value_along tokens) (child token t)) (space_again text)

-- ---- a step

none_from : {A B C : Type 0} (f : A → B) (g : A → Option C) (o : Option A) → None ≡ option_map f o → None ≡ option_and_then g o
none_from f g None e = refl
none_from f g (Some x) e = cc

found_from : (tokens : List (List ℕ)) (x : List ℕ) (o : Option (List ℕ)) → Some x ≡ option_map behind_space o
    → (value_along tokens x ≡ option_and_then (value_along tokens) o) × (behind_space x ≡ x)
found_from tokens x None e = cc
found_from tokens x (Some v) e =
    let is : x ≡ behind_space v = same_Some x (behind_space v) e in
    (ap (value_along tokens) is ∙ along_again tokens v, ap behind_space is ∙ space_again v ∙ sym is)

-- the tokens that are left lead from the value at an offset to where all lead
pub record LeadOn (text : List ℕ) (tokens : List (List ℕ)) (start : ℕ) (all : Option (List ℕ)) : Type 0 where
  pub cut : IsCharBoundary text start
  pub unspaced : behind_space (drop start text) ≡ drop start text
  pub same : value_along tokens (drop start text) ≡ all

pub lead_from_root : (text : List ℕ) (tokens : List (List ℕ)) (root : ℕ) → IsStart text text root → LeadOn text tokens root (value_along tokens text)
lead_from_root text tokens root whole = record {
  cut = whole.cut;
  unspaced = ap behind_space whole.same ∙ space_again text ∙ sym whole.same;
  same = ap (value_along tokens) whole.same ∙ along_again tokens text;
}

pub led : (text : List ℕ) (start : ℕ) (all : Option (List ℕ)) → LeadOn text [] start all → Some (drop start text) ≡ all
led text start all lead = ap Some (sym lead.unspaced) ∙ lead.same

module _ (text token : List ℕ) (tokens : List (List ℕ)) (start : ℕ) (all : Option (List ℕ)) (lead : LeadOn text (token ∷ tokens) start all) where
  first_token : option_and_then (value_along tokens) (child token (drop start text)) ≡ all
  first_token = ap (λ t. option_and_then (value_along tokens) (child token t)) (sym lead.unspaced) ∙ lead.same

  pub lead_from_child : (found : ℕ) → AreStarts text (Some found) (child token (drop start text)) → LeadOn text tokens found all
  lead_from_child found starts =
      let (along, unspaced) = found_from tokens (drop found text) (child token (drop start text)) starts.same in
      record { cut = starts.cut; unspaced = unspaced; same = along ∙ first_token }

  pub not_led : AreStarts text None (child token (drop start text)) → None ≡ all
  not_led starts = none_from behind_space (value_along tokens) (child token (drop start text)) starts.same ∙ first_token

-- ---- offsets

pub offset_is : (pointer text : List ℕ) (root : ℕ) (found : Option ℕ) → IsStart text text root → IfSome found (λ start. start ≤ length text)
    → option_map (λ start. drop start text) found ≡ value_at pointer text → unwrap_or found root ≡ offset_of pointer text
offset_is pointer text root None whole within e = rw (← e) (let long = length-drop root text in let same = ap length whole.same in let cut = whole.cut.0 in omega arith)
offset_is pointer text root (Some start) whole within e = rw (← e) (let long = length-drop start text in omega arith)
