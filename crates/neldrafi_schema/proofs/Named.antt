-- The names that are suggested are names of keywords.
use Rattle.std.proofs.Common.{◌≡◌, refl, true}
use Rattle.std.specs.Prelude.{not}
use Rattle.std.specs.List.{list_all}
use Rattle.neldrafi_schema.specs.Drafts.{applicator_named, core_named, is_unknown, named}
use Rattle.neldrafi_schema.specs.Unknown.{keyword_names}

pub names_are_known : list_all (λ name. not (is_unknown (named name))) keyword_names ≡ true
unfolding keyword_names core_named applicator_named
names_are_known = refl
