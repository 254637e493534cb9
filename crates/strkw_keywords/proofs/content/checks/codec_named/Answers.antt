use Rattle.strkw_keywords.proofs.Codecs.{named_codec}
use Rattle.strkw_keywords.proofs.content.checks.codec_named.Goals as goal

pub returns : goal.returns
returns c = named_codec c.by_name.result c.args.name.now c.by_name.ensures
