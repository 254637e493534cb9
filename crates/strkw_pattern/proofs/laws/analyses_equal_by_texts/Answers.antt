use Rattle.std.proofs.Common.{map, refl, sym}
use Rattle.std.specs.Prelude.{◌↔◌, IsTrue, false}
use Rattle.std.specs.Cmp.Derive.Mapped.{pointwise-map}
use Rattle.std.specs.Str.{bytes_eq}
use Rattle.std.specs.String.{string_bytes}
use Rattle.std.proofs.lemmas.Slice.Eq.{bytes_eq-Decides, slice_eq-Decides}
use Rattle.strkw_pattern.specs.declared.literal.PatternOptimization.TheVariants.{Prefix, Exact, Alternation, NoWhitespace}
use Rattle.strkw_pattern.proofs.laws.analyses_equal_by_texts.Goals as goal

-- of two kinds
apart : IsTrue false ↔ ⊥
apart = (λ e. cc e, λ never. absurd never)

pub returns : goal.returns
returns c (Prefix s) (Prefix t) = bytes_eq-Decides (string_bytes s) (string_bytes t)
returns c (Exact s) (Exact t) = bytes_eq-Decides (string_bytes s) (string_bytes t)
returns c (Alternation v) (Alternation w) =
    slice_eq-Decides bytes_eq-Decides (map string_bytes v.items) (map string_bytes w.items) _ (sym (pointwise-map string_bytes bytes_eq v.items w.items))
returns c NoWhitespace NoWhitespace = (λ _. tt, λ _. refl)
returns c (Prefix s) (Exact t) = apart
returns c (Prefix s) (Alternation w) = apart
returns c (Prefix s) NoWhitespace = apart
returns c (Exact s) (Prefix t) = apart
returns c (Exact s) (Alternation w) = apart
returns c (Exact s) NoWhitespace = apart
returns c (Alternation v) (Prefix t) = apart
returns c (Alternation v) (Exact t) = apart
returns c (Alternation v) NoWhitespace = apart
returns c NoWhitespace (Prefix t) = apart
returns c NoWhitespace (Exact t) = apart
returns c NoWhitespace (Alternation w) = apart
