-- Parts that may stand so are read from their spelling, by any reader of lexemes.
use Rattle.std.proofs.Common.{◌≡◌, ℕ, ◌==◌, Bool, true, false, List, [], ◌∷◌, ◌++◌, Option, Some, None, refl, sym, ap, ◌∙◌, true≢false}
use Rattle.std.specs.Prelude.{option_and_then, is_some}
use Rattle.std.specs.Str.{byte}
use Rattle.strkw_charset.specs.Sets.{control_char}
use Rattle.strkw_regex_grammar.specs.Escapes.{Escape}
use Rattle.strkw_regex_grammar.specs.Names.{name_value}
use Rattle.strkw_regex_grammar.specs.Syntax.{Token, capturing, plain_group, named, of_group as group_of, of_lookbehind, of_lookahead}
use Rattle.strkw_regex_grammar.specs.Regex.{at_start, at_end, at_boundary, at_no_boundary, Leaf, plain, dot, escaped, control_escape, set_escape}
use Rattle.strkw_regex_grammar.specs.Regex.{coded, property_escape, numbered, called as calls_for, bracketed, Part, bar, edge, leaf, opens, closes}
use Rattle.strkw_regex_grammar.specs.Regex.{repeats, leaf_spelling, part_spelling, spelling, IsLeaf, IsPart, MayPrecede, AreParts}
use Rattle.strkw_regex_grammar.specs.machine.Lexemes as lexeme
use Rattle.strkw_regex_grammar.specs.machine.Lexemes.{Lexeme, leaf_lexemes, lexemes, quantifier_lexeme}
use Rattle.strkw_regex_grammar.specs.machine.Lexing.{between, opening, of_group, of_reference, on_token, on_escape, on_group}
use Rattle.strkw_regex_grammar.specs.machine.Recognising.{Last, none}
use Rattle.strkw_regex_grammar.proofs.Letters.{no_question}
use Rattle.strkw_regex_grammar.proofs.RegexTrees.{Shape, shape_step, shapes, is_closed_shape}
use Rattle.strkw_regex_grammar.proofs.LexerRuns.{Stops, take_lexemes, part_steps, run, past, stepped}
use Rattle.strkw_regex_grammar.proofs.LexerReads.{goes_whole, goes_before, reads_escape, reads_property_escape, reads_name, reads_quantifier, reads_numbered}
use Rattle.strkw_regex_grammar.proofs.LexerReadsClass.{reads_class}

-- the text begins, and not with a question mark
abbrev pub Begins : List ℕ → Type 0
Begins [] = ⊥
Begins (c ∷ cs) = (c == byte "?") ≡ false

-- a leaf does not
leaf_begins : (l : Leaf) → IsLeaf l → (cs : List ℕ) → Begins (leaf_spelling l ++ cs)
leaf_begins (plain c) h cs = no_question c (c == byte "?") refl h
leaf_begins dot h cs = refl
leaf_begins (escaped c) h cs = refl
leaf_begins (control_escape c) h cs = refl
leaf_begins (set_escape c) h cs = refl
leaf_begins (coded k) h cs = refl
leaf_begins (property_escape n e) h cs = refl
leaf_begins (numbered ds) h cs = refl
leaf_begins (calls_for n) h cs = refl
leaf_begins (bracketed false r e) h cs = refl
leaf_begins (bracketed true r e) h cs = refl

-- nor does any part behind the beginning of a group
part_begins : (gs : List Bool) (p : Part) → IsPart p → is_some (shape_step gs none p) ≡ true → (cs : List ℕ) → Begins (part_spelling p ++ cs)
part_begins gs bar h w cs = refl
part_begins gs (edge at_start) h w cs = refl
part_begins gs (edge at_end) h w cs = refl
part_begins gs (edge at_boundary) h w cs = refl
part_begins gs (edge at_no_boundary) h w cs = refl
part_begins gs (leaf l) h w cs = leaf_begins l h cs
part_begins gs (opens (group_of capturing)) h w cs = refl
part_begins gs (opens (group_of plain_group)) h w cs = refl
part_begins gs (opens (group_of (named k))) h w cs = refl
part_begins gs (opens (of_lookbehind false)) h w cs = refl
part_begins gs (opens (of_lookbehind true)) h w cs = refl
part_begins gs (opens (of_lookahead false)) h w cs = refl
part_begins gs (opens (of_lookahead true)) h w cs = refl
part_begins gs closes h w cs = refl
part_begins gs (repeats q) h w cs = absurd (true≢false (sym w))

-- where parts go on, the first may stand there
pub first_goes : (o : Option Shape) (ps : List Part) → is_closed_shape (option_and_then (λ (t : Shape). shapes t.0 t.1 ps) o) ≡ true → is_some o ≡ true
first_goes None ps h = h
first_goes (Some u) ps h = refl

-- so parts behind the beginning of a group that they close do not begin with a question mark
pub parts_begin : (q : Bool) (gs : List Bool) (ps : List Part) → AreParts ps → is_closed_shape (shapes (q ∷ gs) none ps) ≡ true → Begins (spelling ps)
parts_begin q gs [] h w = absurd (true≢false (sym w))
parts_begin q gs (p ∷ ps) h w = part_begins (q ∷ gs) p h.0 (first_goes (shape_step (q ∷ gs) none p) ps w) (spelling ps)

-- what parts may stand behind may stand behind it as it is written
stops_of : (p : Part) (ps : List Part) → MayPrecede p ps → Stops p (spelling ps)
stops_of bar ps h = tt
stops_of (edge e) ps h = tt
stops_of (leaf (plain c)) ps h = tt
stops_of (leaf dot) ps h = tt
stops_of (leaf (escaped c)) ps h = tt
stops_of (leaf (control_escape c)) ps h = tt
stops_of (leaf (set_escape c)) ps h = tt
stops_of (leaf (coded k)) ps h = tt
stops_of (leaf (property_escape n e)) ps h = tt
stops_of (leaf (numbered ds)) ps h = h
stops_of (leaf (calls_for n)) ps h = tt
stops_of (leaf (bracketed n r e)) ps h = tt
stops_of (opens e) ps h = tt
stops_of closes ps h = tt
stops_of (repeats q) ps h = tt

-- the part does not begin a group that captures
abbrev IsNoCapture : Part → Type 0
IsNoCapture (opens (group_of capturing)) = ⊥
IsNoCapture p = Unit {0}

module _ {S : Type 0} (b : Bool) (step : S → Lexeme → Option S) where
  -- where the rest leads behind the lexemes of a part
  abbrev behind : S → Part → List ℕ → Option S
  behind s p cs = stepped b step (take_lexemes step s (lexemes b p)) between cs

  -- a leaf is read from its spelling, where what follows it may stand there
  reads_leaf : (s : S) (l : Leaf) → IsLeaf l → (cs : List ℕ) → Stops (leaf l) cs → run b step s between (leaf_spelling l ++ cs) ≡ behind s (leaf l) cs
  reads_leaf s (plain c) h cs w = ap (λ (k : Token). past b step s (on_token c k) cs) h ∙ goes_whole b step s (lexeme.char c) cs
  reads_leaf s dot h cs w = goes_whole b step s lexeme.dot cs
  reads_leaf s (escaped c) h cs w = ap (λ (k : Escape). past b step s (on_escape c k) cs) h ∙ goes_whole b step s (lexeme.char c) cs
  reads_leaf s (control_escape c) h cs w =
      ap (λ (k : Escape). past b step s (on_escape c k) cs) h ∙ goes_whole b step s (lexeme.char (control_char c)) cs
  reads_leaf s (set_escape c) h cs w = ap (λ (k : Escape). past b step s (on_escape c k) cs) h ∙ goes_whole b step s (lexeme.set c) cs
  reads_leaf s (coded k) h cs w = reads_escape b step s k h cs
  reads_leaf s (property_escape n e) h cs w = reads_property_escape b step s n e h cs
  reads_leaf s (numbered ds) h cs w = reads_numbered b step s ds h.0 h.1 cs w
  reads_leaf s (calls_for []) h cs w = absurd h
  reads_leaf s (calls_for (y ∷ m)) h cs w =
      reads_name b step s of_reference (y ∷ m) h cs ∙ goes_whole b step s (lexeme.call (name_value (y ∷ m))) cs
  reads_leaf s (bracketed n r e) h cs w = reads_class b step s n r e h cs

  -- a part is read from its spelling, where what follows it may stand there
  reads_part : (s : S) (p : Part) → IsNoCapture p → IsPart p → (cs : List ℕ) → Stops p cs
      → run b step s between (part_spelling p ++ cs) ≡ behind s p cs
  reads_part s bar n h cs m = goes_whole b step s lexeme.bar cs
  reads_part s (edge at_start) n h cs m = goes_whole b step s (lexeme.edge at_start) cs
  reads_part s (edge at_end) n h cs m = goes_whole b step s (lexeme.edge at_end) cs
  reads_part s (edge at_boundary) n h cs m = goes_whole b step s (lexeme.edge at_boundary) cs
  reads_part s (edge at_no_boundary) n h cs m = goes_whole b step s (lexeme.edge at_no_boundary) cs
  reads_part s (leaf l) n h cs m = reads_leaf s l h cs m
  reads_part s (opens (group_of capturing)) n h cs m = absurd n
  reads_part s (opens (group_of plain_group)) n h cs m = goes_whole b step s (lexeme.begins lexeme.plain_group) cs
  reads_part s (opens (group_of (named []))) n h cs m = absurd h
  reads_part s (opens (group_of (named (y ∷ k)))) n h cs m =
      reads_name b step s of_group (y ∷ k) h cs ∙ goes_whole b step s (lexeme.begins (lexeme.named (name_value (y ∷ k)))) cs
  reads_part s (opens (of_lookbehind false)) n h cs m = goes_whole b step s (lexeme.begins (lexeme.behind false)) cs
  reads_part s (opens (of_lookbehind true)) n h cs m = goes_whole b step s (lexeme.begins (lexeme.behind true)) cs
  reads_part s (opens (of_lookahead false)) n h cs m = goes_whole b step s (lexeme.begins (lexeme.ahead false)) cs
  reads_part s (opens (of_lookahead true)) n h cs m = goes_whole b step s (lexeme.begins (lexeme.ahead true)) cs
  reads_part s closes n h cs m = goes_whole b step s lexeme.ends cs
  reads_part s (repeats q) n h cs m = reads_quantifier b step s q h cs

  -- behind `(` a group that captures is entered, where the text goes on with no question mark
  enters : (s : S) (cs : List ℕ) → Begins cs → run b step s opening cs ≡ behind s (opens (group_of capturing)) cs
  enters s [] h = absurd h
  enters s (c ∷ cs) h =
      ap (λ (z : Bool). past b step s (on_group c z) cs) h ∙ goes_before b step s (lexeme.begins lexeme.capture) c cs

  -- the rest leads where its parts do, from where a part has led
  abbrev Leads : List Part → Type 0
  Leads ps = (gs : List Bool) (x : Last) → is_closed_shape (shapes gs x ps) ≡ true → (u : S) → run b step u between (spelling ps) ≡ part_steps b step u ps

  -- so it is behind the steps of the part
  rest_leads : (ps : List Part) → Leads ps → (o : Option Shape) → is_closed_shape (option_and_then (λ (t : Shape). shapes t.0 t.1 ps) o) ≡ true → (i : Option S)
      → stepped b step i between (spelling ps) ≡ option_and_then (λ t. part_steps b step t ps) i
  rest_leads ps f None h i = absurd (true≢false (sym h))
  rest_leads ps f (Some z) h None = refl
  rest_leads ps f (Some z) h (Some u) = f z.0 z.1 h u

  -- a part and the rest lead where they do, where the part does not begin a group that captures
  part_leads : (p : Part) (ps : List Part) → IsNoCapture p → Leads ps → AreParts (p ∷ ps) → Leads (p ∷ ps)
  part_leads p ps n f h gs x w s =
      reads_part s p n h.0 (spelling ps) (stops_of p ps h.1) ∙ rest_leads ps f (shape_step gs x p) w (take_lexemes step s (lexemes b p))

  -- so parts that close what they open are read from their spelling
  pub reads_parts : (ps : List Part) → AreParts ps → Leads ps
  reads_parts [] h gs x w s = refl
  reads_parts (bar ∷ ps) h gs x w s = part_leads bar ps tt (reads_parts ps h.2) h gs x w s
  reads_parts (edge e ∷ ps) h gs x w s = part_leads (edge e) ps tt (reads_parts ps h.2) h gs x w s
  reads_parts (leaf l ∷ ps) h gs x w s = part_leads (leaf l) ps tt (reads_parts ps h.2) h gs x w s
  reads_parts (opens (group_of capturing) ∷ ps) h gs x w s =
      enters s (spelling ps) (parts_begin true gs ps h.2 w)
      ∙ rest_leads ps (reads_parts ps h.2) (Some (true ∷ gs, none)) w (step s (lexeme.begins lexeme.capture))
  reads_parts (opens (group_of plain_group) ∷ ps) h gs x w s = part_leads (opens (group_of plain_group)) ps tt (reads_parts ps h.2) h gs x w s
  reads_parts (opens (group_of (named k)) ∷ ps) h gs x w s = part_leads (opens (group_of (named k))) ps tt (reads_parts ps h.2) h gs x w s
  reads_parts (opens (of_lookbehind z) ∷ ps) h gs x w s = part_leads (opens (of_lookbehind z)) ps tt (reads_parts ps h.2) h gs x w s
  reads_parts (opens (of_lookahead z) ∷ ps) h gs x w s = part_leads (opens (of_lookahead z)) ps tt (reads_parts ps h.2) h gs x w s
  reads_parts (closes ∷ ps) h gs x w s = part_leads closes ps tt (reads_parts ps h.2) h gs x w s
  reads_parts (repeats q ∷ ps) h gs x w s = part_leads (repeats q) ps tt (reads_parts ps h.2) h gs x w s
