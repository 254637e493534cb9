use Rattle.strkw_text.proofs.Equivalences.{carry, nope}
use Rattle.strkw_text.specs.Abnf.{Repeat, OneOf}
use Rattle.strkw_text.proofs.Laws.{no_start_then}
use Rattle.strkw_uri.specs.Characters.{uri, is_userinfo_char}
use Rattle.strkw_uri.proofs.Literals.{repeat1_whole}
use Rattle.strkw_uri.proofs.literal.is_future_address.Goals as goal

pub returns-in-Some : goal.returns-in-Some
returns-in-Some c = carry c.is_end.ensures (repeat1_whole (is_userinfo_char uri) _ _ _ c.in-Some.ensures.cases c.skip_class.ensures)

pub returns-in-None : goal.returns-in-None
returns-in-None c = let A = OneOf (is_userinfo_char uri) in nope (no_start_then A (Repeat A) _ c.in-None.ensures.cases)
