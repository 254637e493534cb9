-- What was read of a schema, by its value.
use Rattle.std.proofs.Common.{◌≡◌, ℕ, List, [], ◌∷◌, Bool, true, false, Option, Some, None, refl, ap}
use Rattle.serde_json.specs.Data.{Data, Members, null, boolean, number, string, array, object}
use Rattle.serde_json.specs.Find.{as_bool, as_object}
use Rattle.strkw_pattern.specs.declared.engine.Outcome.{Outcome}
use Rattle.strkw_keywords.specs.Meanings.{Lists}
use Rattle.strkw_keywords.specs.Object.{Settings}
use Rattle.neldrafi_schema.specs.declared.node.Body.{Body as CompiledBody}
use Rattle.neldrafi_schema.specs.declared.node.Body.TheVariants as body
use Rattle.neldrafi_schema.specs.declared.problem.Problem.{Problem}
use Rattle.std.specs.Prelude.{if◌then◌else◌}
use Rattle.strkw_report.specs.declared.draft.Draft.{Draft}
use Rattle.neldrafi_schema.specs.Drafts.{is_draft_4}
use Rattle.neldrafi_schema.specs.Paths.{Path}
use Rattle.neldrafi_schema.specs.Reading.{BodySays, Numbered}
use Rattle.neldrafi_schema.specs.Schemas.{always, never, neither, wrong_type}
use Rattle.neldrafi_schema.specs.machine.Problems.{Notes}
use Rattle.neldrafi_schema.specs.machine.Leads.{boolean_of}
use Rattle.neldrafi_schema.specs.machine.Said.{Reads}
use Rattle.neldrafi_schema.specs.Documents.{Documents}
use Rattle.neldrafi_schema.specs.Scopes.{Scope, ScopedPath}
use Rattle.neldrafi_schema.proofs.Keeping.{nothing_noted}

pub is_boolean : (d : Data) (b : Bool) → as_bool d ≡ Some b → d ≡ boolean b
is_boolean null b e = cc
is_boolean (boolean a) b e = let same : a ≡ b = cc in ap boolean same
is_boolean (number x) b e = cc
is_boolean (string t) b e = cc
is_boolean (array ds) b e = cc
is_boolean (object ms) b e = cc

pub is_object : (d : Data) (ms : Members) → as_object d ≡ Some ms → d ≡ object ms
is_object null ms e = cc
is_object (boolean a) ms e = cc
is_object (number x) ms e = cc
is_object (string t) ms e = cc
is_object (array ds) ms e = cc
is_object (object others) ms e = let same : others ≡ ms = cc in ap object same

neither_says : (numbered : Numbered) (s : Settings) (documents : Documents) (scope : Scope) (path : Path) (d : Data) → ((b : Bool) → as_bool d ≡ Some b → is_draft_4 s.draft ≡ true) → as_object d ≡ None
    → BodySays numbered s documents scope path d neither
neither_says numbered s documents scope path null e f = refl
neither_says numbered s documents scope path (boolean a) e f = rw (e a refl) refl
neither_says numbered s documents scope path (number x) e f = refl
neither_says numbered s documents scope path (string t) e f = refl
neither_says numbered s documents scope path (array ds) e f = refl
neither_says numbered s documents scope path (object ms) e f = cc

module _ {E : Type 0} (outcome : E → List ℕ → Outcome) (lists : Lists) (s : Settings) (documents : Documents) (scope : Scope) (path : Path) (d : Data) (paths : List ScopedPath) (old : Option Problem) where
  abbrev pub ReadsBody : Option Problem → CompiledBody E → Type 0
  ReadsBody = Reads outcome lists (λ numbered said. BodySays numbered s documents scope path d said) scope path paths old

  pub true_reads : is_draft_4 s.draft ≡ false → as_bool d ≡ Some true → ReadsBody old body.Always
  true_reads later e = record { said = always; means = λ all extends. rw (is_boolean d true e, later) refl; notes = nothing_noted old; same = refl; ready = λ all extends. tt }

  pub false_reads : is_draft_4 s.draft ≡ false → as_bool d ≡ Some false → ReadsBody old body.Never
  false_reads later e = record { said = never; means = λ all extends. rw (is_boolean d false e, later) refl; notes = nothing_noted old; same = refl; ready = λ all extends. tt }

  pub other_reads : (new : Option Problem) → ((b : Bool) → as_bool d ≡ Some b → is_draft_4 s.draft ≡ true) → as_object d ≡ None → Notes ((path, wrong_type) ∷ []) old new → ReadsBody new body.Always
  other_reads new no_bool no_object notes = record {
    said = neither;
    means = λ all extends. neither_says _ s documents scope path d no_bool no_object;
    notes = notes;
    same = refl;
    ready = λ all extends. tt;
  }

-- ---- by the test of the code

module _ (draft : Draft) (d : Data) where
  pub is_later : (b : Bool) → boolean_of draft d ≡ Some b → (is_draft_4 draft ≡ false) × (as_bool d ≡ Some b)
  is_later b e = by (is_draft_4 draft) refl e where
    by : (four : Bool) → is_draft_4 draft ≡ four → (if four then None else as_bool d) ≡ Some b → (is_draft_4 draft ≡ false) × (as_bool d ≡ Some b)
    by true is e = cc
    by false is e = (is, e)

  pub is_neither : boolean_of draft d ≡ None → (b : Bool) → as_bool d ≡ Some b → is_draft_4 draft ≡ true
  is_neither e b has = by (is_draft_4 draft) refl e where
    by : (four : Bool) → is_draft_4 draft ≡ four → (if four then None else as_bool d) ≡ None → is_draft_4 draft ≡ true
    by true is e = is
    by false is e = cc
