-- Patterns that are compiled, one after the other.
use Rattle.std.proofs.Common.{◌≡◌, ℕ, List, [], ◌∷◌, ◌++◌, map, refl, sym, ap, subst, append-nil, None, Option, Some, Result, Ok, Err}
use Rattle.std.specs.List.{AllByRecursion}
use Rattle.serde_json.specs.Data.{Data, Members, no_members, member, string}
use Rattle.strkw_report.specs.Refusals.{reason_of as text_reason_of}
use Rattle.strkw_report.specs.declared.refusal.CompileError.{CompileError}
use Rattle.strkw_pattern.specs.declared.engine.Outcome.{Outcome}
use Rattle.strkw_keywords.specs.declared.keyword.Keyword.TheVariants as text
use Rattle.strkw_keywords.specs.declared.validator.Validator.{Validator}
use Rattle.strkw_keywords.specs.Object.{Settings}
use Rattle.strkw_keywords.specs.Validators.{assertions_of}
use Rattle.neldrafi_schema.specs.Paths.{Path, key}
use Rattle.neldrafi_schema.specs.Reading.{Numbered, PatternPropertiesSay, Patterns, PatternsAre, PatternsSay, SenseSays, TextSays, malformed_at, patterns, with_pattern}
use Rattle.strkw_keywords.specs.Errors.{Assertion}
use Rattle.neldrafi_schema.specs.Schemas.{Keyword, Reason, by_string_keyword, malformed, matching, string_keyword}
use Rattle.neldrafi_schema.specs.Values.{Lead, member_leads, says as stated}
use Rattle.neldrafi_schema.specs.Settings.{keyword_settings}
use Rattle.neldrafi_schema.specs.machine.Ready.{IsPatternReady, RestsOn}
use Rattle.strkw_keywords.specs.Keywords.{keyword_name}
use Rattle.neldrafi_schema.specs.machine.Said.{IsReadReady, read_keywords}
use Rattle.neldrafi_schema.proofs.Keeping.{all_more}
use Rattle.neldrafi_schema.proofs.Lists.{mapped_more}

module _ {E : Type 0} (outcome : E → List ℕ → Outcome) (s : Settings) (path : Path) (name : List ℕ) (all : Members) where
  abbrev pub joined : List (Validator E) → Patterns → Patterns
  joined vs (patterns others) = patterns (map (assertions_of outcome) vs ++ others)
  joined vs (malformed_at at why) = malformed_at at why

  -- what is compiled, with members that are left
  abbrev pub CompiledSoFar : Members → List (Validator E) → Type 0
  CompiledSoFar rest vs = (later : Patterns) → PatternsAre s path name rest later → PatternsAre s path name all (joined vs later)

  abbrev Says : List ℕ → List Keyword → Type 0
  Says pattern first = TextSays (keyword_settings s path text.Pattern) (key name ∷ key pattern ∷ []) text.Pattern (string pattern) first

  pub one_pattern : (pattern : List ℕ) (d : Data) (rest : Members) (vs more : List (Validator E)) (v : Validator E) → CompiledSoFar (member pattern d rest) vs
      → Says pattern (string_keyword (keyword_name text.Pattern) (assertions_of outcome v) ∷ []) → more ≡ vs ++ v ∷ [] → CompiledSoFar rest more
  one_pattern pattern d rest vs more v before says e = λ later are.
      let first = string_keyword (keyword_name text.Pattern) (assertions_of outcome v) ∷ [] in
      subst (PatternsAre s path name all) (same later) (before (with_pattern first later) (first, says, (later, are, refl))) where
        same : (later : Patterns) → joined vs (with_pattern (string_keyword (keyword_name text.Pattern) (assertions_of outcome v) ∷ []) later) ≡ joined more later
        same (patterns others) = ap patterns (sym (mapped_more (assertions_of outcome) vs more v (assertions_of outcome v) others _ refl refl e))
        same (malformed_at at why) = refl

  pub no_pattern : (pattern : List ℕ) (d : Data) (rest : Members) (vs : List (Validator E)) → CompiledSoFar (member pattern d rest) vs → Says pattern []
      → CompiledSoFar rest vs
  no_pattern pattern d rest vs before says = λ later are. before later ([], says, (later, are, refl))

  pub pattern_refused : (pattern : List ℕ) (d : Data) (rest : Members) (vs : List (Validator E)) (at : Path) (why : Reason) → CompiledSoFar (member pattern d rest) vs
      → Says pattern (malformed at why ∷ []) → PatternsAre s path name all (malformed_at at why)
  pattern_refused pattern d rest vs at why before says = before (malformed_at at why) (malformed at why ∷ [], says, refl)

  pub all_patterns : (vs : List (Validator E)) → CompiledSoFar no_members vs → PatternsAre s path name all (patterns (map (assertions_of outcome) vs))
  all_patterns vs before = subst (λ l. PatternsAre s path name all (patterns l)) (append-nil (map (assertions_of outcome) vs)) (before (patterns []) refl)

-- ---- what the keyword says

module _ (numbered : Numbered) (s : Settings) (path at : Path) (name : List ℕ) (o : Option Members) (ms : Members) (is : o ≡ Some ms) where
  pub patterns_say : (asserted : List (List Assertion)) (leads : List Lead) (ks : List Keyword) → PatternsAre s path name ms (patterns asserted) → at ≡ path ++ key name ∷ []
      → leads ≡ member_leads at ms → SenseSays numbered name (stated (matching asserted) leads) ks → PatternPropertiesSay numbered s path name o ks
  patterns_say asserted leads ks are same led says =
      let one = subst (λ l. SenseSays numbered name (stated (matching asserted) l) ks) led says in
      let two : PatternsSay numbered (path ++ key name ∷ []) name ms (patterns asserted) ks =
      subst (λ a. SenseSays numbered name (stated (matching asserted) (member_leads a ms)) ks) same one in
      subst (λ p. PatternPropertiesSay numbered s path name p ks) (sym is) (patterns asserted, are, two)

  pub refused_say : (below : Path) (why : Reason) (ks : List Keyword) → PatternsAre s path name ms (malformed_at below why) → ks ≡ malformed below why ∷ []
      → PatternPropertiesSay numbered s path name o ks
  refused_say below why ks are e = subst (λ p. PatternPropertiesSay numbered s path name p ks) (sym is) (malformed_at below why, are, e)

-- ---- the loop over members

module _ {E : Type 0} (outcome : E → List ℕ → Outcome) (s : Settings) (path : Path) (all : Members) where
  -- with members that are left
  pub record PatternsSoFar (rest : Members) (vs : List (Validator E)) : Type 0 where
    pub are : (name : List ℕ) → CompiledSoFar outcome s path name all rest vs
    pub ready : (count : ℕ) → AllByRecursion (IsPatternReady outcome (RestsOn outcome s.lists) count) vs

  pub none_so_far : PatternsSoFar all []
  none_so_far = record { are = λ name later are. subst (PatternsAre s path name all) (same later) are; ready = λ count. tt } where
    same : (later : Patterns) → later ≡ joined outcome s path [] all [] later
    same (patterns others) = refl
    same (malformed_at at why) = refl

  module _ (pattern : List ℕ) (d : Data) (rest : Members) (vs : List (Validator E)) (so_far : PatternsSoFar (member pattern d rest) vs)
      (found : Option (Result (Validator E) CompileError))
      (says : (at : Path) → TextSays (keyword_settings s path text.Pattern) at text.Pattern (string pattern) (read_keywords outcome at text.Pattern found))
      (ready : IsReadReady outcome s.lists text.Pattern found) where
    abbrev At : List ℕ → Path
    At name = key name ∷ key pattern ∷ []

    abbrev SaysOf : Path → Option (Result (Validator E) CompileError) → Type 0
    SaysOf at o = TextSays (keyword_settings s path text.Pattern) at text.Pattern (string pattern) (read_keywords outcome at text.Pattern o)

    pub found_none : (more : List (Validator E)) → found ≡ None → more ≡ vs → PatternsSoFar rest more
    found_none more is same = rw same (record {
      are = λ name. no_pattern outcome s path name all pattern d rest vs (so_far.are name) (subst (SaysOf (At name)) is (says (At name)));
      ready = so_far.ready;
    })

    pub found_one : (more pushed : List (Validator E)) (v : Validator E) → found ≡ Some (Ok v) → more ≡ pushed → pushed ≡ vs ++ v ∷ [] → PatternsSoFar rest more
    found_one more pushed v is same e =
        let both = subst (IsReadReady outcome s.lists text.Pattern) is ready in
        rw same (record {
          are = λ name. one_pattern outcome s path name all pattern d rest vs pushed v (so_far.are name) (subst (SaysOf (At name)) is (says (At name))) e;
          ready = λ count.
              rw e (all_more (IsPatternReady outcome (RestsOn outcome s.lists) count) vs v (so_far.ready count) (both.0, both.1 refl));
        })

    pub found_refused : (name copy : List ℕ) (e : CompileError) → found ≡ Some (Err e) → copy ≡ pattern
        → PatternsAre s path name all (malformed_at (key name ∷ key copy ∷ []) (by_string_keyword (text_reason_of e.kind)))
    found_refused name copy e is same =
        rw same (pattern_refused outcome s path name all pattern d rest vs (At name) (by_string_keyword (text_reason_of e.kind)) (so_far.are name)
        (subst (SaysOf (At name)) is (says (At name))))
