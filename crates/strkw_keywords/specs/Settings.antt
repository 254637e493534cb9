-- What a context says.
use Rattle.std.specs.Prelude.{ℕ, List, Bool, option_map, string_bytes}
use Rattle.std.specs.declared.dyn_box.DynBox.{DynBox}
use Rattle.std.specs.declared.alloc.Global.{Global}
use Rattle.strkw_pattern.specs.declared.engine.Outcome.{Outcome}
use Rattle.strkw_keywords.specs.declared.options.Context.{Context}
use Rattle.strkw_keywords.specs.Meanings.{Decoded}
use Rattle.strkw_keywords.specs.Lists.{lists_of}
use Rattle.strkw_keywords.specs.Places.{Place}
use Rattle.strkw_keywords.specs.Object.{Settings}

-- where the schema object of a context stands
abbrev pub place_in : {B X : Type 0} {F : X → Type 0} {Y : Type 0} {M : Y
    → Type 0} {Z : Type 0} {C : Z → Type 0} → Context B X Y Z F M C → Place
place_in ctx = record { schema = ctx.location; prefix = option_map string_bytes ctx.absolute }

-- what a context says, by the meanings of its builder and of the boxes that its lists hold
abbrev pub settings_of : {B X : Type 0} {F : X → Type 0} {Y : Type 0} {M : Y
    → Type 0} {Z : Type 0} {C : Z → Type 0}
    → (B → List ℕ → Bool) → (B → List ℕ → List ℕ → Outcome) → (DynBox X Global F → List ℕ → Bool)
    → (DynBox Y Global M → List ℕ → Bool)
    → (DynBox Z Global C → List ℕ → Bool) → (DynBox Z Global C → List ℕ → Decoded)
    → Context B X Y Z F M C → Settings
settings_of takes outcome admits accepts is_encoding decoding ctx = record {
  draft = ctx.draft;
  place = place_in ctx;
  options = ctx.options;
  lists = lists_of admits accepts is_encoding decoding ctx.checks;
  takes = takes ctx.builder.now;
  outcome = outcome ctx.builder.now;
}
