use Rattle.std.proofs.Common.{◌≡◌, ◌∙◌, Some, None, ℕ, Global, Vec, ap, sym}
use Rattle.std.specs.Prelude.{if◌then◌else◌, option_and_then, option_map}
use Rattle.serde_json.specs.Find.{as_str}
use Rattle.serde_json.specs.Read.{read}
use Rattle.neldrafi_position.specs.machine.Kept.{start_named}
use Rattle.neldrafi_position.proofs.KeyTexts.{names_as}
use Rattle.neldrafi_position.proofs.MemberLemmas.{put_named}
use Rattle.neldrafi_position.proofs.starts.put_start.Goals as goal

pub returns-in_ok-insert : goal.returns-in_ok-insert
returns-in_ok-insert c name =
    let key = c.in-Some.name in
    let read_as : Some key.items ≡ option_and_then as_str (read c.args.key.now) =
    sym (ap (option_map (λ (n : Vec ℕ Global). n.items)) c.in-Some.is) ∙ c.in_ok-name.ensures in
    let old = start_named c.args.starts.now name in
    put_named key c.args.start name c.args.starts.now c.insert.new.self c.in_ok-insert.ensures.entries
    ∙ ap (λ b. if b then Some c.args.start else old) (sym (names_as c.args.key.now name (Some key.items) read_as))

pub returns-in_default : goal.returns-in_default
returns-in_default c name =
    let read_as : None ≡ option_and_then as_str (read c.args.key.now) =
    sym (ap (option_map (λ (n : Vec ℕ Global). n.items)) c.in_default.is) ∙ c.in_ok-name.ensures in
    let old = start_named c.args.starts.now name in
    sym (ap (λ b. if b then Some c.args.start else old) (names_as c.args.key.now name None read_as))
