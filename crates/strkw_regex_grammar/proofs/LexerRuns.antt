-- Who reads the lexemes of a text, and where that leads.
use Rattle.std.proofs.Common.{◌≡◌, ℕ, Bool, false, List, [], ◌∷◌, Option, Some, None, refl, suc, ◌<◌, length, get_or, drop, drop_of_length-le, sym, ap, ◌∙◌, arith}
use Rattle.std.specs.Prelude.{option_and_then, option_map}
use Rattle.strkw_regex_grammar.specs.Regex.{Part, leaf, numbered, begins_with_digit}
use Rattle.strkw_regex_grammar.specs.machine.Lexemes.{Lexeme, Lexemes, single, double, lexemes}
use Rattle.strkw_regex_grammar.specs.machine.Lexing.{Mode, Lexed, refused, under_way, lexed, lexed_both, lexed_behind, Read, at, take_lexed, read_from, read_next, read_end}
use Rattle.strkw_charset.proofs.Lists.{at_place}

-- the steps of a reader by the lexemes of a part
abbrev pub take_lexemes : {S : Type 0} → (S → Lexeme → Option S) → S → Lexemes → Option S
take_lexemes step s (single l) = step s l
take_lexemes step s (double l k) = option_and_then (λ t. step t k) (step s l)

-- and by those of parts, one behind the other
abbrev pub part_steps : {S : Type 0} → Bool → (S → Lexeme → Option S) → S → List Part → Option S
part_steps b step s [] = Some s
part_steps b step s (p ∷ ps) = option_and_then (λ t. part_steps b step t ps) (take_lexemes step s (lexemes b p))

-- no digit stands behind a back reference by a number
abbrev pub Stops : Part → List ℕ → Type 0
Stops (leaf (numbered ds)) cs = begins_with_digit cs ≡ false
Stops p cs = Unit {0}

-- the character ends no two lexemes
abbrev pub IsOne : Lexed → Type 0
IsOne (lexed_both l k m) = ⊥
IsOne x = Unit {0}

module _ {S : Type 0} (b : Bool) (step : S → Lexeme → Option S) where
  -- where the rest of a text leads, in a mode
  abbrev pub run : S → Mode → List ℕ → Option S
  run s m cs = read_from b step (at m s) cs

  -- behind a state that may be missing
  abbrev pub after : Option (Read S) → List ℕ → Option S
  after o cs = option_and_then (λ (q : Read S). read_from b step q cs) o

  -- and behind what the lexer makes of a character
  abbrev pub past : S → Lexed → List ℕ → Option S
  past s x cs = after (take_lexed step s x) cs

  -- and behind a step
  abbrev pub stepped : Option S → Mode → List ℕ → Option S
  stepped o m cs = option_and_then (λ s. run s m cs) o

  -- the rest behind a lexeme is that behind its step
  pub past_lexed : (s : S) (l : Lexeme) (m : Mode) (cs : List ℕ) → past s (lexed l m) cs ≡ stepped (step s l) m cs
  past_lexed s l m cs = by_step (step s l)
    where
      -- by whether it may stand there
      by_step : (o : Option S) → after (option_map (at m) o) cs ≡ stepped o m cs
      by_step None = refl
      by_step (Some t) = refl

  -- a lexeme that a character ended goes before what comes of the character
  pub past_behind : (s : S) (l : Lexeme) (x : Lexed) (cs : List ℕ) → IsOne x
      → past s (lexed_behind l x) cs ≡ option_and_then (λ t. past t x cs) (step s l)
  past_behind s l refused cs h = by_step (step s l)
    where
      -- by whether it may stand there
      by_step : (o : Option S) → None ≡ option_and_then (λ t. past t refused cs) o
      by_step None = refl
      by_step (Some t) = refl
  past_behind s l (under_way m) cs h = past_lexed s l m cs
  past_behind s l (lexed k m) cs h = by_step (step s l)
    where
      -- by whether it may stand there
      by_step : (o : Option S) → after (option_and_then (λ t. option_map (at m) (step t k)) o) cs ≡ option_and_then (λ t. past t (lexed k m) cs) o
      by_step None = refl
      by_step (Some t) = refl
  past_behind s l (lexed_both j k m) cs h = absurd h

-- ---- the walk of a reader of lexemes over a text

module _ {S : Type 0} (b : Bool) (step : S → Lexeme → Option S) (text : List ℕ) (whole : Option S) (r : Read S) (k : ℕ)
    (so_far : read_from b step r (drop k text) ≡ whole) where
  module _ (next c : ℕ) (within : k < length text) (is : c ≡ get_or text k c) (follows : next ≡ suc k) where
    -- the rest behind the character at the place leads where the whole text does
    here : option_and_then (λ (q : Read S). read_from b step q (drop next text)) (read_next b step r c) ≡ whole
    here = sym (ap (read_from b step r) (at_place text k next c within is follows)) ∙ so_far

    -- where the character may not stand there, the text leads nowhere
    pub turn_stops : None ≡ read_next b step r c → None ≡ whole
    turn_stops e = ap (option_and_then (λ (q : Read S). read_from b step q (drop next text))) e ∙ here

    -- where it may, the rest behind it leads where the text does
    pub turn_goes : (q : Read S) → Some q ≡ read_next b step r c → read_from b step q (drop next text) ≡ whole
    turn_goes q e = ap (option_and_then (λ (q : Read S). read_from b step q (drop next text))) e ∙ here

  -- and at the end of the text its last step does
  pub turn_ends : k ≡ length text → read_end step r.state r.mode ≡ whole
  turn_ends ends = sym (ap (read_from b step r) (drop_of_length-le text {i = k} (omega (arith, ends)))) ∙ so_far
