use Rattle.strkw_text.proofs.Equivalences.{MatchOption-map}
use Rattle.std.specs.Char.{is_ascii_hexdigit}
use Rattle.strkw_text.specs.Characters.{HexDigit}
use Rattle.strkw_text.proofs.Runs.{then_start, no_start_first, no_start_second, OneOf-free}
use Rattle.strkw_uri.proofs.scan.after_two_hexdigits.Goals as goal

pub returns-in-Some-clause-cases : goal.returns-in-Some-clause-cases
returns-in-Some-clause-cases c =
    MatchOption-map _ _ _ _ c.after_one-in-Some.result
    (no_start_second HexDigit HexDigit _ _ (OneOf-free is_ascii_hexdigit) c.in-Some.ensures.cases)
    (λ rest at. then_start HexDigit HexDigit _ _ _ c.in-Some.ensures.cases at)
    c.after_one-in-Some.ensures.cases

pub returns-in-None-clause-cases : goal.returns-in-None-clause-cases
returns-in-None-clause-cases c = no_start_first HexDigit HexDigit _ c.in-None.ensures.cases
