use Rattle.std.proofs.Common.{refl}
use Rattle.strkw_text.proofs.Runs.{run_start}
use Rattle.strkw_uri.specs.Characters.{is_reg_name_char, is_userinfo_char}
use Rattle.strkw_uri.specs.Scan.{alphabet}
use Rattle.strkw_uri.specs.Uri.{Encoded}
use Rattle.strkw_uri.proofs.AsciiRuns.{run_behind}
use Rattle.strkw_uri.proofs.Authorities.{userinfo_stops}
use Rattle.strkw_uri.proofs.Encodings.{encoded_char}
use Rattle.std.proofs.lemmas.Bool.{or_right}
use Rattle.strkw_uri.proofs.authority.after_userinfo.Goals as goal

pub returns-in-Some : goal.returns-in-Some
returns-in-Some c =
    let K = alphabet c.args.syntax in
    let class = is_userinfo_char K in
    run_behind (Encoded class) _ _ _ (encoded_char class 58 _ _ c.in-Some.ensures.cases (or_right (is_reg_name_char K 58) _ refl)) c.skip.ensures

pub returns-in-None : goal.returns-in-None
returns-in-None c =
    let K = alphabet c.args.syntax in
    record { run = run_start (Encoded (is_userinfo_char K)) _; stops = userinfo_stops K _ c.requires c.in-None.ensures.cases }
