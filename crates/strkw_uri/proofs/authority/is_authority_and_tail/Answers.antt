use Rattle.strkw_text.proofs.Equivalences.{carry}
use Rattle.strkw_uri.specs.Characters.{is_reg_name_char, is_userinfo_char}
use Rattle.strkw_uri.specs.Scan.{alphabet, HostAndTail}
use Rattle.strkw_uri.specs.Uri.{Encoded}
use Rattle.strkw_uri.specs.declared.part.Part.TheVariants.{UserinfoChar}
use Rattle.strkw_uri.proofs.AsciiRuns.{run_wider}
use Rattle.strkw_uri.proofs.Authorities.{userinfo_at, userinfo_off}
use Rattle.strkw_uri.proofs.Hosts.{host_run, name_in_userinfo}
use Rattle.strkw_uri.proofs.Parts.{no_percent, no_at_in_userinfo}
use Rattle.strkw_uri.proofs.authority.is_authority_and_tail.Goals as goal

pub returns-in-Some : goal.returns-in-Some
returns-in-Some c =
    let s = c.args.syntax in
    let K = alphabet s in
    let run = run_wider (Encoded (is_reg_name_char K)) (Encoded (is_userinfo_char K)) _ _ _ (name_in_userinfo K) c.skip-after_name.ensures.run
    c.after_userinfo.ensures in
    carry c.is_host_and_tail.ensures (userinfo_at (is_userinfo_char K) (no_percent s UserinfoChar) (no_at_in_userinfo s) (HostAndTail K) (host_run s) _ _ _ run
    c.in-Some.ensures.cases)

pub returns-in-None : goal.returns-in-None
returns-in-None c =
    let s = c.args.syntax in
    let K = alphabet s in
    let run = run_wider (Encoded (is_reg_name_char K)) (Encoded (is_userinfo_char K)) _ _ _ (name_in_userinfo K) c.skip-after_name.ensures.run
    c.after_userinfo.ensures in
    carry c.is_host_and_tail-in-None.ensures (userinfo_off (is_userinfo_char K) (no_percent s UserinfoChar) (no_at_in_userinfo s) (HostAndTail K) (host_run s) _
    _ run c.in-None.ensures.cases)
