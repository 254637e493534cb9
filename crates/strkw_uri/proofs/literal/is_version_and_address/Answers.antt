use Rattle.std.proofs.Common.{◌∷◌, [], refl}
use Rattle.strkw_text.proofs.Equivalences.{carry, nope, iff_trans}
use Rattle.std.specs.Char.{is_ascii_hexdigit}
use Rattle.strkw_text.specs.Abnf.{◌⨾◌, Literal, Repeat, Repeat1, OneOf}
use Rattle.strkw_text.specs.Characters.{HexDigit}
use Rattle.strkw_text.proofs.Laws.{no_start_then, literal_at, literal_not}
use Rattle.strkw_text.proofs.Runs.{no_start_first}
use Rattle.strkw_uri.specs.Characters.{uri, is_userinfo_char}
use Rattle.strkw_uri.proofs.Literals.{repeat1_dot}
use Rattle.strkw_uri.proofs.literal.is_version_and_address.Goals as goal

pub returns-in-Some-strip : goal.returns-in-Some-strip
returns-in-Some-strip c =
    let B = Repeat1 (OneOf (is_userinfo_char uri)) in
    carry c.is_future_address.ensures (iff_trans (repeat1_dot is_ascii_hexdigit B refl _ _ _ c.in-Some.ensures.cases c.skip_class.ensures)
    (literal_at B 46 _ _ c.in-Some-strip.ensures.cases))

pub returns-in-None-strip : goal.returns-in-None-strip
returns-in-None-strip c =
    let B = Repeat1 (OneOf (is_userinfo_char uri)) in
    nope (λ h. literal_not B 46 _ c.in-None-strip.ensures.cases ((repeat1_dot is_ascii_hexdigit B refl _ _ _ c.in-Some.ensures.cases c.skip_class.ensures).0 h))

pub returns-in-None : goal.returns-in-None
returns-in-None c =
    nope (no_start_then (Repeat1 HexDigit) (Literal (46 ∷ []) ⨾ Repeat1 (OneOf (is_userinfo_char uri))) _
    (no_start_first HexDigit (Repeat HexDigit) _ c.in-None.ensures.cases))
