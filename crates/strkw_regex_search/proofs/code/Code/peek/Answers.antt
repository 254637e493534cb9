use Rattle.std.proofs.Common.{◌≡◌, ℕ, List, [], ◌∷◌, ◌++◌, length, ap, subst, ◌∙◌}
use Rattle.strkw_charset.specs.declared.tree.CharSet.{CharSet}
use Rattle.strkw_regex_search.specs.declared.code.Instruction.TheVariants.{Peek}
use Rattle.strkw_regex_core.specs.machine.Program.{peek}
use Rattle.strkw_regex_search.specs.machine.Machine.{Writes}
use Rattle.strkw_regex_search.proofs.Written.{peek_written}
use Rattle.strkw_regex_search.proofs.code.Code.peek.Goals as goal

pub returns : goal.returns
returns c =
    let before = c.args.self.now in
    let count : c.len-class.result ≡ length before.classes.items = c.len-class.ensures ∙ before.classes.ok.0 in
    let numbered = ap (λ (k : ℕ). before.instructions.items ++ Peek k ∷ []) count in
    subst (λ (sets : List CharSet). Writes before record { classes = c.push.new.self; instructions = c.push-2.new.self }
    (peek c.args.negated sets ∷ []))
    c.in_ok-from_slice.ensures.items
    (peek_written before (record { classes = c.push.new.self; instructions = c.push-2.new.self }) _ c.in_ok-push.ensures.items
    (c.in_ok-push-2.ensures.items ∙ numbered))
