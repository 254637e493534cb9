-- Parts that have been built so far are those of a beginning of a pattern, within the groups that are open.
use Rattle.std.proofs.Common.{◌≡◌, ℕ, suc, nat_lt, Bool, true, false, not, ◌&&◌, List, [], ◌∷◌, ◌++◌, Option, Some, length, refl, sym, ap, subst}
use Rattle.std.proofs.Common.{◌∙◌, append_assoc, true≢false}
use Rattle.std.specs.Prelude.{is_some}
use Rattle.std.proofs.lemmas.List.{append-nil}
use Rattle.strkw_regex_grammar.specs.Names.{name_value}
use Rattle.strkw_regex_grammar.specs.Codes.{null_code, letter_code, byte_code, unit_code, pair_code, point_code}
use Rattle.strkw_regex_grammar.specs.Regex.{plain, dot, escaped, control_escape, set_escape, coded, property_escape, numbered, called, bracketed, Part}
use Rattle.strkw_regex_grammar.specs.Regex.{bar, edge, leaf, opens, closes, repeats, Disjunction, Alternative, parts, part_spelling, spelling}
use Rattle.strkw_regex_grammar.specs.Regex.{begins_with_digit, begins_with_trail, is_lead_code, MayPrecede, AreParts}
use Rattle.strkw_regex_grammar.specs.Syntax.{capturing, plain_group, named, Enclosing, of_group, of_lookbehind, of_lookahead, enclosing_spelling}
use Rattle.strkw_regex_grammar.specs.machine.Lexemes as lexeme
use Rattle.strkw_regex_grammar.proofs.RegexTrees.{Around, joined, joined_parts, level_parts, before}
use Rattle.strkw_regex_reader.specs.Limits.{max_nesting, takes as takes_tree}
use Rattle.strkw_regex_reader.specs.Refusals.{IsTaken, IsBeginning}
use Rattle.strkw_regex_reader.specs.machine.Building.{Open, Builder, Enclosing as CodeEnclosing, opened, open_if, is_lead_last, when, nothing_built}
use Rattle.strkw_regex_reader.specs.declared.builder.Enclosing.TheVariants as enclosings
use Rattle.strkw_regex_reader.proofs.Builds.{End, state, so_far, disjunction_end, fresh, IsWhole, whole_disjunction, names_behind, Rejects, built, built_behind, first}
use Rattle.strkw_regex_reader.proofs.TreeBuilds.{disjunction_builds}

-- texts of parts, one behind the other
pub spelled_joined : (ps qs : List Part) → spelling (ps ++ qs) ≡ spelling ps ++ spelling qs
spelled_joined [] qs = refl
spelled_joined (p ∷ ps) qs = ap (λ z. part_spelling p ++ z) (spelled_joined ps qs) ∙ sym (append_assoc (part_spelling p) (spelling ps) (spelling qs))

-- a text that is longer begins with no digit only where it does not
digit_before : (u v : List ℕ) → begins_with_digit (u ++ v) ≡ false → begins_with_digit u ≡ false
digit_before [] v h = refl
digit_before (c ∷ u) v h = h

-- two tests do not hold together where the second does not
and_false : (a : Bool) → (a && false) ≡ false
and_false true = refl
and_false false = refl

-- behind a code, fewer parts may stand too
code_before : (z : Bool) (ps qs : List Part) → (z && begins_with_trail (ps ++ qs)) ≡ false → (z && begins_with_trail ps) ≡ false
code_before z [] qs h = and_false z
code_before z (bar ∷ ps) qs h = h
code_before z (edge e ∷ ps) qs h = h
code_before z (leaf (plain c) ∷ ps) qs h = h
code_before z (leaf dot ∷ ps) qs h = h
code_before z (leaf (escaped c) ∷ ps) qs h = h
code_before z (leaf (control_escape c) ∷ ps) qs h = h
code_before z (leaf (set_escape c) ∷ ps) qs h = h
code_before z (leaf (coded null_code) ∷ ps) qs h = h
code_before z (leaf (coded (letter_code c)) ∷ ps) qs h = h
code_before z (leaf (coded (byte_code ds)) ∷ ps) qs h = h
code_before z (leaf (coded (unit_code ds)) ∷ ps) qs h = h
code_before z (leaf (coded (pair_code ds es)) ∷ ps) qs h = h
code_before z (leaf (coded (point_code ds)) ∷ ps) qs h = h
code_before z (leaf (property_escape n e) ∷ ps) qs h = h
code_before z (leaf (numbered ds) ∷ ps) qs h = h
code_before z (leaf (called n) ∷ ps) qs h = h
code_before z (leaf (bracketed n r e) ∷ ps) qs h = h
code_before z (opens e ∷ ps) qs h = h
code_before z (closes ∷ ps) qs h = h
code_before z (repeats q ∷ ps) qs h = h

-- a part before more parts may stand before fewer
part_before : (p : Part) (ps qs : List Part) → MayPrecede p (ps ++ qs) → MayPrecede p ps
part_before bar ps qs h = tt
part_before (edge e) ps qs h = tt
part_before (leaf (plain c)) ps qs h = tt
part_before (leaf dot) ps qs h = tt
part_before (leaf (escaped c)) ps qs h = tt
part_before (leaf (control_escape c)) ps qs h = tt
part_before (leaf (set_escape c)) ps qs h = tt
part_before (leaf (coded k)) ps qs h = code_before (is_lead_code k) ps qs h
part_before (leaf (property_escape n e)) ps qs h = tt
part_before (leaf (numbered ds)) ps qs h = digit_before (spelling ps) (spelling qs) (ap begins_with_digit (sym (spelled_joined ps qs)) ∙ h)
part_before (leaf (called n)) ps qs h = tt
part_before (leaf (bracketed n r e)) ps qs h = tt
part_before (opens e) ps qs h = tt
part_before closes ps qs h = tt
part_before (repeats q) ps qs h = tt

-- so parts may stand so before others only where they do
pub parts_before : (ps qs : List Part) → AreParts (ps ++ qs) → AreParts ps
parts_before [] qs h = tt
parts_before (p ∷ ps) qs h = (h.0, part_before p ps qs h.1, parts_before ps qs h.2)

-- what has been built, unless a leading surrogate stands last
abbrev pub settled : Builder → Option Builder
settled s = when (not (is_lead_last s.last)) (Some s)

-- so nothing is told behind one
pub settled_rejects : Rejects settled
settled_rejects gs ns l n = refl

module _ (t : Builder) where
  -- the rest leads there from a level that has been built, within so many groups
  pub record Within (n : ℕ) (qs : List Part) : Type 0 where
    pub groups : List Open
    pub names : List (List ℕ)
    pub end : End
    pub deep : length groups ≡ n
    pub whole : IsWhole end
    pub way : built settled (state groups names end) qs ≡ Some t

  -- where something comes of a test, it holds
  pub when_holds : (z : Bool) (o : Option Builder) → when z o ≡ Some t → (z ≡ true) × (o ≡ Some t)
  when_holds false o h = absurd (true≢false (sym (ap is_some h)))
  when_holds true o h = (refl, h)

  -- a level, within so many groups, before the rest
  level_within : (n : ℕ) (e : Option Disjunction) (a : Alternative) (qs : List Part) (gs : List Open) (ns : List (List ℕ)) → length gs ≡ n
      → AreParts (level_parts e a ++ qs) → built settled (state gs ns fresh) (level_parts e a ++ qs) ≡ Some t
      → IsTaken n (joined e a) × Within n qs
  level_within n e a qs gs ns l f h =
      let d = joined e a in
      let same = joined_parts e a in
      let formed = subst (λ ps. AreParts (ps ++ qs)) (sym same) f in
      let holds = when_holds (takes_tree (length gs) d) _
      (sym (disjunction_builds settled settled_rejects d gs ns fresh qs refl formed) ∙ ap (λ ps. built settled (state gs ns fresh) (ps ++ qs)) same ∙ h) in (
        (parts_before (parts d) qs formed, subst (λ m. takes_tree m d ≡ true) l holds.0),
        record {
          groups = gs;
          names = names_behind ns (parts d);
          end = disjunction_end fresh d;
          deep = l;
          whole = whole_disjunction fresh d refl;
          way = holds.1;
        },
      )

  -- where a group or a lookaround opens, its level is built within one more
  abbrev Opens : ℕ → List Part → Type 0
  Opens n qs = (gs : List Open) × (ns : List (List ℕ)) × (length gs ≡ suc n) × (built settled (state gs ns fresh) qs ≡ Some t)

  -- so it is under the test of how deep it is
  opens_if : (n : ℕ) (gs : List Open) (ns : List (List ℕ)) (k : End) (c : CodeEnclosing) (qs : List Part) → length gs ≡ n → (z : Bool)
      → built_behind settled (open_if z (opened (state gs ns k) c)) qs ≡ Some t → Opens n qs
  opens_if n gs ns k c qs l false h = absurd (true≢false (sym (ap is_some h)))
  opens_if n gs ns k c qs l true h = (record { enclosing = c; level = so_far k } ∷ gs, ns, ap suc l, h)

  -- and with each that opens
  opens_within : (n : ℕ) (g : Enclosing) (qs : List Part) → Within n (opens g ∷ qs) → Opens n qs
  opens_within n (of_group capturing) qs w =
      opens_if n w.groups w.names w.end enclosings.Group qs w.deep (nat_lt (length w.groups) max_nesting)
      (sym (first settled settled_rejects w.groups w.names w.end (lexeme.begins lexeme.capture) qs w.whole) ∙ w.way)
  opens_within n (of_group plain_group) qs w =
      opens_if n w.groups w.names w.end enclosings.Group qs w.deep (nat_lt (length w.groups) max_nesting)
      (sym (first settled settled_rejects w.groups w.names w.end (lexeme.begins lexeme.plain_group) qs w.whole) ∙ w.way)
  opens_within n (of_group (named m)) qs w =
      opens_if n w.groups (w.names ++ name_value m ∷ []) w.end enclosings.Group qs w.deep (nat_lt (length w.groups) max_nesting)
      (sym (first settled settled_rejects w.groups w.names w.end (lexeme.begins (lexeme.named (name_value m))) qs w.whole) ∙ w.way)
  opens_within n (of_lookbehind b) qs w =
      opens_if n w.groups w.names w.end (enclosings.Behind b) qs w.deep (nat_lt (length w.groups) max_nesting)
      (sym (first settled settled_rejects w.groups w.names w.end (lexeme.begins (lexeme.behind b)) qs w.whole) ∙ w.way)
  opens_within n (of_lookahead b) qs w =
      opens_if n w.groups w.names w.end (enclosings.Ahead b) qs w.deep (nat_lt (length w.groups) max_nesting)
      (sym (first settled settled_rejects w.groups w.names w.end (lexeme.begins (lexeme.ahead b)) qs w.whole) ∙ w.way)

  -- of the levels of all that is open and of what is within
  pub levels_begin : (os : List Around) (e : Option Disjunction) (a : Alternative) (qs : List Part) → AreParts (before os e a ++ qs)
      → built settled nothing_built (before os e a ++ qs) ≡ Some t
      → IsBeginning (length os) (spelling (before os e a)) × Within (length os) qs
  levels_begin [] e a qs f h =
      let level = level_within 0 e a qs [] [] refl f h in
      ((joined e a, level.0, ap spelling (joined_parts e a)), level.1)
  levels_begin (o ∷ os) e a qs f h =
      let outer = before os o.earlier o.current in
      let inner = level_parts e a in
      let shift = append_assoc (outer ++ opens o.enclosing ∷ []) inner qs ∙ append_assoc outer (opens o.enclosing ∷ []) (inner ++ qs) in
      let formed = subst AreParts shift f in
      let rest = levels_begin os o.earlier o.current (opens o.enclosing ∷ (inner ++ qs)) formed (ap (built settled nothing_built) (sym shift) ∙ h) in
      let behind = parts_after outer (opens o.enclosing ∷ (inner ++ qs)) formed in
      let opened_at = opens_within (length os) o.enclosing (inner ++ qs) rest.1 in
      let level = level_within (suc (length os)) e a qs opened_at.0 opened_at.1 opened_at.2 behind.2 opened_at.3 in (
        (
          spelling outer,
          o.enclosing,
          joined e a,
          rest.0,
          behind.0,
          level.0,
          ap (λ ps. (spelling outer ++ enclosing_spelling o.enclosing) ++ spelling ps) (joined_parts e a)
              ∙ ap (λ z. z ++ spelling inner) (ap (λ z. spelling outer ++ z) (sym (append-nil (enclosing_spelling o.enclosing)))
              ∙ sym (spelled_joined outer (opens o.enclosing ∷ [])))
              ∙ sym (spelled_joined (outer ++ opens o.enclosing ∷ []) inner),
        ),
        level.1,
      )
    where
      -- parts may stand so behind others
      parts_after : (ps us : List Part) → AreParts (ps ++ us) → AreParts us
      parts_after [] us k = k
      parts_after (p ∷ ps) us k = parts_after ps us k.2
