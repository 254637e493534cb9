use Rattle.std.proofs.Common.{◌≡◌, ◌++◌, length, length-append, ap, arith}
use Rattle.serde_json.specs.Data.{object}
use Rattle.strkw_cache.specs.Tokens.{tokens_owned}
use Rattle.strkw_cache.specs.Depths.{member_depth}
use Rattle.strkw_cache.proofs.Reading.{read_before, some_tokens}
use Rattle.strkw_cache.proofs.cache.CachedObject.takes.Goals as goal

pub returns-clause-taken : goal.returns-clause-taken
returns-clause-taken c = λ ms keeps is.
    let kept = c.args.self.now in
    let taken : c.args.tokens.now ≡ tokens_owned kept.tokens.items ++ c.take_same.new.tokens = grind arith in
    read_before member_depth (tokens_owned kept.tokens.items) c.take_same.new.tokens c.args.tokens.now (object ms) keeps.read
    taken

pub returns-clause-shorter : goal.returns-clause-shorter
returns-clause-shorter c is =
    let kept = tokens_owned c.args.self.now.tokens.items in
    let taken : c.args.tokens.now ≡ kept ++ c.take_same.new.tokens = grind arith in
    omega (arith, ap length taken, length-append kept c.take_same.new.tokens, some_tokens member_depth kept _ c.requires.1.read)
