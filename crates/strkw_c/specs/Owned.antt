-- What a place owns beside its pointer.
use base.Fml.{Fml, ftrue, fex}
use denote.RattleType.{RattleType}
use denote.RawPtr.{Ptr}
use Rattle.std.specs.declared.alloc.Global.{Global}
use Rattle.std.specs.declared.option.Option.{Option}
use Rattle.std.specs.declared.option.Option.TheVariants.{None, Some}
use Rattle.std.specs.contracts.impls.GlobalAllocator.TheImpl.{ghosts}
use Rattle.std.specs.Box.Ownership.{box_owns}

-- at a pointer lies a value of a type, in a block of `Global`; where there is no value, nothing is
-- owned there
abbrev pub kept_at : (R : RattleType) → Ptr → Option R.Denot → Fml
kept_at R at None = ftrue
kept_at R at (Some value) = fex Global (λ heap. box_owns (ghosts.dealloc_token heap) R at value)
