use Rattle.std.proofs.Common.{◌≡◌, ◌∙◌, ◌++◌, ◌∷◌, [], ap, arith, inl, inr, length-append, subst, sym}
use Rattle.std.proofs.lemmas.Result.{IfOk-weaker}
use Rattle.serde_json.specs.View.{members_view, view}
use Rattle.strkw_keywords.specs.Object.{Settings}
use Rattle.neldrafi_schema.specs.declared.known.Known.TheVariants as known
use Rattle.neldrafi_schema.specs.Drafts.{known_named}
use Rattle.neldrafi_schema.specs.Paths.{key}
use Rattle.neldrafi_schema.specs.Reading.{KnownSays, SenseSays, numbered_by}
use Rattle.neldrafi_schema.specs.Settings.{config_settings}
use Rattle.neldrafi_schema.specs.Values.{sense}
use Rattle.neldrafi_schema.specs.machine.Compiled.{path_of}
use Rattle.neldrafi_schema.specs.machine.Said.{said_keywords, sense_of}
use Rattle.neldrafi_schema.specs.machine.Places.{documents_of, scope_of}
use Rattle.neldrafi_schema.proofs.Cases.{known_else}
use Rattle.neldrafi_schema.proofs.Deeper.{IsSenseDown, sense_down, sense_ready}
use Rattle.neldrafi_schema.proofs.reading.Reader.read_member.Goals as goal

pub returns-in-Text-clause-ready : goal.returns-in-Text-clause-ready
returns-in-Text-clause-ready g c = c.read_text.ensures.ready _

pub returns-in-PatternProperties-clause-says : goal.returns-in-PatternProperties-clause-says
returns-in-PatternProperties-clause-says g c =
    let ms = members_view c.args.member.now.object.now.entries in
    let is : known_named c.args.self.now.library.now.draft ms c.args.member.now.name.now ≡ known.PatternProperties = sym c.among.ensures ∙ c.in-PatternProperties.is in
    rw is c.read_patterns.ensures.says

pub returns-in-Reference-clause-says : goal.returns-in-Reference-clause-says
returns-in-Reference-clause-says g c =
    let is : known_named c.args.self.now.library.now.draft (members_view c.args.member.now.object.now.entries) c.args.member.now.name.now ≡ known.Reference =
    sym c.among.ensures ∙ c.in-Reference.is in
    rw is c.read_reference.ensures.says

pub returns-in-Reference-clause-ready : goal.returns-in-Reference-clause-ready
returns-in-Reference-clause-ready g c = c.read_reference.ensures.ready _

pub returns-in-DynamicReference-clause-says : goal.returns-in-DynamicReference-clause-says
returns-in-DynamicReference-clause-says g c =
    let of = known_named c.args.self.now.library.now.draft (members_view c.args.member.now.object.now.entries) c.args.member.now.name.now in
    elim c.in-DynamicReference.is [
      | inl e ↦ (let is : of ≡ known.DynamicReference = sym c.among.ensures ∙ e in rw is c.read_reference-in-DynamicReference.ensures.says)
      | inr e ↦ (let is : of ≡ known.RecursiveReference = sym c.among.ensures ∙ e in rw is c.read_reference-in-DynamicReference.ensures.says)
    ]

pub returns-in-DynamicReference-clause-ready : goal.returns-in-DynamicReference-clause-ready
returns-in-DynamicReference-clause-ready g c = c.read_reference-in-DynamicReference.ensures.ready _

pub returns-in_ok-sense-in_default : goal.returns-in_ok-sense-in_default
returns-in_ok-sense-in_default g c =
    let s : Settings =
    record (config_settings g.B.EngineBuilder.takes g.B.EngineBuilder.outcome (λ b. (goal.Format-dyn g b).admits b.1) (λ b. (goal.MediaTypeCheck-dyn g b).accepts b.1)
    (λ b. (goal.ContentCodec-dyn g b).is_encoding b.1) (λ b. (goal.ContentCodec-dyn g b).decoding b.1) c.args.self.now.config.now) { draft = c.args.self.now.library.now.draft } in
    let outcome = g.B.Engine.RegexEngine.outcome in
    let documents = documents_of c.args.places.now.documents in
    let scope = scope_of c.args.member.now.scope.now in
    let path = path_of c.args.member.now.path.now in
    let ms = members_view c.args.member.now.object.now.entries in
    let name = c.args.member.now.name.now in
    let d = view c.args.member.now.value.now in
    let meaning : sense_of outcome c.in_ok-sense-in_default.sense ≡ sense s.draft ms path (path ++ key name ∷ []) c.among.result d =
    c.in_ok-sense-in_default.ensures.sense outcome ∙ ap (λ at. sense s.draft ms path at c.among.result d) c.requires.at in
    let down : IsSenseDown path (sense_of outcome c.in_ok-sense-in_default.sense) =
    subst (IsSenseDown path) (sym meaning) (sense_down path s.draft ms (path ++ key name ∷ []) c.among.result d (omega (arith, length-append path (key name ∷ [])))) in
    record {
      says = IfOk-weaker c.numbered.result _ _ (λ said says all extends.
          subst (λ k. KnownSays (numbered_by all scope) s documents scope path ms name k d (said_keywords outcome name said)) c.among.ensures
          (known_else (numbered_by all scope) s documents scope path ms name d (said_keywords outcome name said) c.among.result c.in_default.not-PatternProperties c.in_default.not-Reference c.in_default.not-DynamicReference
          c.in_default.not-RecursiveReference c.in_default.not-Text
          (subst (λ x. SenseSays (numbered_by all scope) name x (said_keywords outcome name said)) meaning (says all extends)))) c.numbered.ensures.says;
      ready = c.numbered.ensures.ready s.lists (sense_ready outcome s.lists path c.in_ok-sense-in_default.sense down);
      grown = c.numbered.ensures.grown;
    }
