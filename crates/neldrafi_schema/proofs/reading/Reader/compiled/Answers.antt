use Rattle.std.proofs.Common.{◌≡◌, ◌∙◌, false, sym, subst}
use Rattle.serde_json.specs.Data.{member, no_members}
use Rattle.serde_json.specs.View.{view}
use Rattle.strkw_keywords.specs.Compiled.{IsCompiledAt}
use Rattle.strkw_keywords.specs.Keywords.{keyword_name}
use Rattle.strkw_keywords.specs.Object.{Settings}
use Rattle.neldrafi_schema.specs.Settings.{config_settings, keyword_settings}
use Rattle.neldrafi_schema.specs.machine.Compiled.{path_of}
use Rattle.neldrafi_schema.specs.machine.Said.{is_out_of_memory}
use Rattle.neldrafi_schema.proofs.Alone.{alone_ready, alone_says, not_for_memory}
use Rattle.neldrafi_schema.proofs.reading.Reader.compiled.Given.{Over}
use Rattle.neldrafi_schema.proofs.reading.Reader.compiled.Goals.{After-compile_among-found}
use Rattle.neldrafi_schema.proofs.reading.Reader.compiled.Goals as goal

-- what the document is compiled under
abbrev settings : (g : Over) → After-compile_among-found g → Settings
settings g c =
    record (config_settings g.B.EngineBuilder.takes g.B.EngineBuilder.outcome (λ b. (goal.Format-dyn g b).admits b.1) (λ b. (goal.MediaTypeCheck-dyn g b).accepts b.1)
    (λ b. (goal.ContentCodec-dyn g b).is_encoding b.1) (λ b. (goal.ContentCodec-dyn g b).decoding b.1) c.args.self.now.config.now) { draft = c.args.self.now.library.now.draft }

compiled : (g : Over) (c : After-compile_among-found g)
    → IsCompiledAt g.B.Engine.RegexEngine.outcome (keyword_settings (settings g c) (path_of c.args.path.now) c.args.keyword)
    (member (keyword_name c.args.keyword) (view c.args.value.now) no_members) c.args.keyword c.compile_among-found.result
compiled g c =
    let ms = member (keyword_name c.args.keyword) (view c.args.value.now) no_members in
    subst (λ s. IsCompiledAt g.B.Engine.RegexEngine.outcome s ms c.args.keyword c.compile_among-found.result)
    (c.in_ok-ctx.ensures.settings (path_of c.args.path.now) c.in_ok-location.ensures) (c.compile_among-found.ensures ms c.values_of.ensures)

pub returns-clause-says : goal.returns-clause-says
returns-clause-says g c = λ at d e.
    let after = (goal.at.returns-clause-says g c).After-compile_among-found in
    let no : is_out_of_memory c.compile_among-found.result ≡ false = sym c.is_out_of_memory.ensures ∙ c.if-is_out_of_memory.false in
    alone_says g.B.Engine.RegexEngine.outcome (settings g after) (path_of c.args.path.now) c.args.keyword (view c.args.value.now) c.compile_among-found.result (compiled g after)
    at d e (not_for_memory c.compile_among-found.result no)

pub returns-clause-ready : goal.returns-clause-ready
returns-clause-ready g c =
    let after = (goal.at.returns-clause-ready g c).After-compile_among-found in
    alone_ready g.B.Engine.RegexEngine.outcome (settings g after) (path_of c.args.path.now) c.args.keyword (view c.args.value.now) c.compile_among-found.result (compiled g after)
    c.compiled_is_in_use.ensures
