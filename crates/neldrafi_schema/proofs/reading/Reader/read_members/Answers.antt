use Rattle.std.proofs.Common.{rules, ℕ, List, ◌≡◌, ◌∙◌, ◌++◌, ◌∷◌, [], ap, inl, inr, refl, sym, subst, string_bytes}
use Rattle.serde_json.specs.Data.{member, object}
use Rattle.serde_json.specs.View.{members_view, view}
use Rattle.strkw_keywords.specs.Object.{Settings}
use Rattle.neldrafi_schema.specs.Drafts.{known_named}
use Rattle.neldrafi_schema.specs.Paths.{key}
use Rattle.neldrafi_schema.specs.Reading.{KnownSays}
use Rattle.neldrafi_schema.specs.machine.Said.{Always, said_keywords}
use Rattle.neldrafi_schema.specs.Settings.{config_settings}
use Rattle.neldrafi_schema.specs.machine.Compiled.{path_of}
use Rattle.neldrafi_schema.specs.machine.Places.{documents_of, scope_of, scoped_paths}
use Rattle.neldrafi_schema.specs.Documents.{Documents}
use Rattle.neldrafi_schema.proofs.Finding.{IsAmong, all_found, value_below}
use Rattle.neldrafi_schema.proofs.Members.{ReadSoFar, nothing_read, read_all, said_keyword, said_malformed, said_malformed_at, said_nothing}
use Rattle.neldrafi_schema.proofs.reading.Reader.read_members.Given.{Over}
use Rattle.neldrafi_schema.proofs.reading.Reader.read_members.Goals.{After-new-keywords, in-Keyword+in_ok-push-in-Keyword, in-Malformed+in_ok-note-in-Malformed, in-MalformedAt+in_ok-below-in-MalformedAt+in_ok-note-in-MalformedAt, in-Nothing}
use Rattle.neldrafi_schema.proofs.reading.Reader.read_members.Goals as goal

-- what the document is compiled under
abbrev settings : (g : Over) → After-new-keywords g → Settings
settings g c =
    record (config_settings g.B.EngineBuilder.takes g.B.EngineBuilder.outcome (λ b. (goal.Format-dyn g b).admits b.1) (λ b. (goal.MediaTypeCheck-dyn g b).accepts b.1)
    (λ b. (goal.ContentCodec-dyn g b).is_encoding b.1) (λ b. (goal.ContentCodec-dyn g b).decoding b.1) c.args.self.now.config.now) { draft = c.args.self.now.library.now.draft }

pub loop-name-init : goal.loop-name-init
loop-name-init g c =
    let all = c.args.object.now.entries in
    let same : c.into_iter-name-iterator.result ≡ all = search rules in record {
      read =
          rw (same, c.new-keywords.ensures.items) (nothing_read g.B.Engine.RegexEngine.outcome _ (documents_of c.args.places.now.documents)
          (scope_of c.args.scope.now) (path_of c.args.path.now) (members_view all) c.args.places.now c.args.first.now
          c.requires.table);
      found = λ name d is. all_found all all c.iter-name-items.ensures.found name d (subst (λ es. IsAmong name d (members_view es)) same is);
    }

pub read_member-requires-clause-library : goal.read_member-requires-clause-library
read_member-requires-clause-library g c = record {
  identifiers = c.requires.library.identifiers;
  documents = c.loop-name.invariant.read.grown.documents ∙ c.requires.library.documents;
}

pub read_member-requires-clause-there : goal.read_member-requires-clause-there
read_member-requires-clause-there g c =
    let name = string_bytes c.in-Some.name.now in
    let first : IsAmong name (view c.in-Some.value.now) (members_view c.loop-name.name-iterator) =
    subst (λ es. IsAmong name (view c.in-Some.value.now) (members_view es)) (sym c.in-Some.ensures.steps) (inl (refl, refl)) in
    let path : path_of c.deref.result.now ≡ path_of c.args.path.now ++ key name ∷ [] = search rules in record {
      object = rw c.loop-name.invariant.read.grown.documents c.requires.there;
      value = rw (path, c.loop-name.invariant.read.grown.documents) (value_below (path_of c.args.path.now) (documents_of c.args.places.now.documents) (key name)
          (object (members_view c.args.object.now.entries))
          (view c.in-Some.value.now) c.requires.there (c.loop-name.invariant.found name (view c.in-Some.value.now) first));
    }

pub loop-name-preserved : goal.loop-name-preserved
loop-name-preserved g c =
    let outcome = g.B.Engine.RegexEngine.outcome in
    let s = settings g (goal.at.loop-name-preserved g c).After-new-keywords in
    let documents = documents_of c.args.places.now.documents in
    let scope = scope_of c.args.scope.now in
    let path = path_of c.args.path.now in
    let all = members_view c.args.object.now.entries in
    let name = string_bytes c.in-Some.name.now in
    let d = view c.in-Some.value.now in
    let steps = c.in-Some.ensures.steps in
    let before : ReadSoFar outcome s documents scope path all c.args.places.now c.args.first.now
    (member name d (members_view c.next.new.self)) c.loop-name.places c.loop-name.first c.loop-name.keywords.items =
    subst (λ es. ReadSoFar outcome s documents scope path all c.args.places.now c.args.first.now
    (members_view es) c.loop-name.places c.loop-name.first c.loop-name.keywords.items)
    steps c.loop-name.invariant.read in
    let Says =
    λ (documents : Documents) (n : List ℕ). Always (scoped_paths c.read_member.new.places.places.items) scope
    (λ numbered. KnownSays numbered s documents scope path all n (known_named s.draft all n) d
    (said_keywords outcome n c.in_ok-read_member.field-0)) in
    let says = subst (λ documents. Says documents name) c.loop-name.invariant.read.grown.documents
    (subst (Says (documents_of c.loop-name.places.documents)) c.as_str-name.ensures.value c.in_ok-read_member.ensures.says) in
    record {
      read = elim c.match-branch-3.branch [
        | in-Nothing w ↦ said_nothing outcome s documents scope path all c.args.places.now c.args.first.now name d
            (members_view c.next.new.self) c.loop-name.places c.read_member.new.places
            c.loop-name.first c.match-branch-3.first c.loop-name.keywords.items c.match-branch-3.keywords.items c.in_ok-read_member.field-0 before c.in_ok-read_member.ensures.grown
            says c.in_ok-read_member.ensures.ready w.in-Nothing.is w.first-is (ap (λ v. v.items) w.keywords-is)
        | in-Keyword+in_ok-push-in-Keyword w ↦ said_keyword outcome s documents scope path all c.args.places.now c.args.first.now name d
            (members_view c.next.new.self) c.loop-name.places
            c.read_member.new.places c.loop-name.first c.match-branch-3.first c.loop-name.keywords.items c.match-branch-3.keywords.items c.in_ok-read_member.field-0 before
            c.in_ok-read_member.ensures.grown says c.in_ok-read_member.ensures.ready w.in-Keyword.keyword w.push.new.self.items w.in-Keyword.is w.first-is
            (ap (λ v. v.items) w.keywords-is) w.in_ok-push-in-Keyword.ensures.items
        | in-Malformed+in_ok-note-in-Malformed w ↦
            let there : path_of w.deref-in-Malformed.result.now ≡ path ++ key name ∷ [] =
            ap path_of w.deref-in-Malformed.ensures.value ∙ (c.in_ok-at.ensures ∙ ap (λ n. path ++ key n ∷ []) c.as_str-name.ensures.value) in
            said_malformed outcome s documents scope path all c.args.places.now c.args.first.now name d
            (members_view c.next.new.self) c.loop-name.places c.read_member.new.places
            c.loop-name.first c.match-branch-3.first c.loop-name.keywords.items c.match-branch-3.keywords.items c.in_ok-read_member.field-0 before c.in_ok-read_member.ensures.grown
            says c.in_ok-read_member.ensures.ready w.in-Malformed.kind w.note.new.first
            (path_of w.deref-in-Malformed.result.now) w.in-Malformed.is w.first-is (ap (λ v. v.items) w.keywords-is) there
            w.in_ok-note-in-Malformed.ensures
        | in-MalformedAt+in_ok-below-in-MalformedAt+in_ok-note-in-MalformedAt w ↦
            let there : path_of w.deref-in-MalformedAt-2.result.now ≡ (path ++ key name ∷ []) ++ key (string_bytes w.in-MalformedAt.name) ∷ [] = search rules in
            said_malformed_at outcome s documents scope path all c.args.places.now c.args.first.now name d
            (members_view c.next.new.self) c.loop-name.places c.read_member.new.places
            c.loop-name.first c.match-branch-3.first c.loop-name.keywords.items c.match-branch-3.keywords.items c.in_ok-read_member.field-0 before c.in_ok-read_member.ensures.grown
            says c.in_ok-read_member.ensures.ready w.in-MalformedAt.name w.in-MalformedAt.kind w.note-in-MalformedAt.new.first
            (path_of w.deref-in-MalformedAt-2.result.now) w.in-MalformedAt.is w.first-is (ap (λ v. v.items) w.keywords-is) there
            w.in_ok-note-in-MalformedAt.ensures
      ];
      found = λ other d is. c.loop-name.invariant.found other d (subst (λ es. IsAmong other d (members_view es)) (sym steps) (inr is));
    }

pub returns-clause-read : goal.returns-clause-read
returns-clause-read g c =
    let s = settings g (goal.at.returns-clause-read g c).After-new-keywords in
    read_all g.B.Engine.RegexEngine.outcome s (documents_of c.args.places.now.documents) (scope_of c.args.scope.now) (path_of c.args.path.now)
    (members_view c.args.object.now.entries) c.args.places.now c.args.first.now c.loop-name.places c.loop-name.first c.loop-name.keywords
    (subst (λ es. ReadSoFar g.B.Engine.RegexEngine.outcome s (documents_of c.args.places.now.documents) (scope_of c.args.scope.now) (path_of c.args.path.now)
    (members_view c.args.object.now.entries) c.args.places.now c.args.first.now
    (members_view es) c.loop-name.places c.loop-name.first c.loop-name.keywords.items) c.in-None.ensures.steps.0 c.loop-name.invariant.read)
