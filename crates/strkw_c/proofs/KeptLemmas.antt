-- What was taken out of a place answers as what the place kept.
use Rattle.std.proofs.Common.{◌≡◌, Option, Some, IfSome, IsSomeAnd, sym, subst}
use Rattle.serde_json.specs.Data.{Members}
use Rattle.strkw_keywords.specs.Object.{Settings}
use Rattle.strkw_c.specs.declared.kept.Kept.{Kept}
use Rattle.strkw_c.specs.Kept.{IsKept, IsKeptOf, Keeps, MayBeAsked}

module _ (place : Option Kept) (kept : Kept) (taken : Some kept ≡ place) where
  -- it is that of a schema object, as the place said
  pub is_asked : MayBeAsked place → IsKept kept
  is_asked may = subst (λ (p : Option Kept). IfSome p IsKept) (sym taken) may

  -- and of each that the place kept
  pub is_kept : (s : Settings) (object : Members) → Keeps place s object → IsKeptOf kept s object
  is_kept s object keeps = subst (λ (p : Option Kept). IsSomeAnd p (λ k. IsKeptOf k s object)) (sym taken) keeps
