use Rattle.std.proofs.Common.{◌∷◌, [], codes}
use Rattle.strkw_text.proofs.Equivalences.{carry, nope}
use Rattle.strkw_text.specs.Abnf.{◌⨾◌, Literal, Repeat1, OneOf}
use Rattle.strkw_text.specs.Characters.{is_one_of, HexDigit}
use Rattle.strkw_text.proofs.Laws.{no_start_then}
use Rattle.strkw_text.proofs.Runs.{free_then, OneOf-free}
use Rattle.strkw_uri.specs.Characters.{uri, is_userinfo_char}
use Rattle.strkw_uri.proofs.literal.is_ipv_future.Goals as goal

pub returns-in-Some : goal.returns-in-Some
returns-in-Some c =
    let class = is_one_of (codes "vV") in
    carry c.is_version_and_address.ensures (free_then (OneOf class) (Repeat1 HexDigit ⨾ Literal (46 ∷ []) ⨾ Repeat1 (OneOf (is_userinfo_char uri))) _ _
    (OneOf-free class) c.in-Some.ensures.cases)

pub returns-in-None : goal.returns-in-None
returns-in-None c = nope (no_start_then (OneOf (is_one_of (codes "vV"))) (Repeat1 HexDigit ⨾ Literal (46 ∷ []) ⨾ Repeat1 (OneOf (is_userinfo_char uri))) _
    c.in-None.ensures.cases)
