-- What a schema object is compiled to under the terms of a request, and what a cached one stands
-- for.
use Rattle.std.specs.Prelude.{◌≡◌, ◌⊎◌, [], IfSome, Some, None, Result, Ok, Err, false}
use Rattle.std.specs.Prelude.{string_bytes}
use Rattle.serde_json.specs.Data.{Members, object}
use Rattle.strkw_json.specs.Passing.{value_read}
use Rattle.strkw_report.specs.Refusals.{refusal_of}
use Rattle.strkw_report.specs.declared.refusal.CompileError.{CompileError}
use Rattle.strkw_pattern.specs.Matcher.{literal_outcome}
use Rattle.strkw_pattern.specs.declared.engine.Outcome.TheVariants.{NoMatch}
use Rattle.strkw_pattern.specs.declared.matcher.LiteralMatcher.{LiteralMatcher}
use Rattle.strkw_keywords.specs.Compiled.{out_of_memory_refusal}
use Rattle.strkw_keywords.specs.Meanings.{no_lists}
use Rattle.strkw_keywords.specs.Object.{Settings, default_options, FirstRefusal}
use Rattle.strkw_object.specs.declared.strings.StringKeywords.{StringKeywords}
use Rattle.strkw_object.specs.Compiled.{IsCompiledFrom}
use Rattle.strkw_cache.specs.Depths.{member_depth}
use Rattle.strkw_cache.specs.Fronts.{IsFront}
use Rattle.strkw_cache.specs.Told.{CanAnswer, IsTold}
use Rattle.strkw_cache.specs.Tokens.{tokens_owned}
use Rattle.strkw_cache.specs.declared.cache.CachedObject.{CachedObject}
use Rattle.strkw_cache.specs.declared.terms.Terms.{Terms}

-- What the schema object of a request is compiled under. It stands at the root, there is no
-- absolute prefix, no check is registered, and the builder takes no pattern.
abbrev pub settings_under : Terms → Settings
settings_under t = record {
  draft = t.draft;
  place = record { schema = []; prefix = None };
  options = record {
    validate_formats = t.validate_formats;
    ignore_unknown_formats = t.ignore_unknown_formats;
    formats_by_dialect = default_options.formats_by_dialect;
    json_media_type = default_options.json_media_type;
    codecs = default_options.codecs;
    overridden = default_options.overridden;
  };
  lists = no_lists;
  takes = λ pattern. false;
  outcome = λ pattern text. NoMatch;
}

-- what a schema object is compiled to under some settings: keywords, or its first refusal
abbrev pub IsCompiledTo : Settings → Members → Result (StringKeywords LiteralMatcher) CompileError
    → Type 0
IsCompiledTo s ms (Ok k) = IsCompiledFrom literal_outcome s ms k
IsCompiledTo s ms (Err e) = (refusal_of e ≡ out_of_memory_refusal)
    ⊎ FirstRefusal s ms (Some (refusal_of e))

-- The tokens of the object are those of these members, and nothing more, these are compiled to what
-- it has, what it keeps of answers is what that tells, and its front is that of a line.
pub record Keeps (o : CachedObject) (ms : Members) : Type 0 where
  pub read : value_read member_depth (tokens_owned o.tokens.items) ≡ Some (object ms, [])
  pub is_compiled : IsCompiledTo (settings_under o.terms) ms o.compiled
  pub can_answer : CanAnswer o.compiled
  pub is_told : IsTold o.compiled o.told.items
  pub is_front : IfSome o.front (λ text. IsFront o.terms (tokens_owned o.tokens.items)
      (string_bytes text))

-- it keeps some members
abbrev pub IsCached : CachedObject → Type 0
IsCached o = (ms : Members) × Keeps o ms
