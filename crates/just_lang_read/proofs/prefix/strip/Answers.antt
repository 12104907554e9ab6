-- What `strip_prefix` answers, by the text.
use Rattle.just_lang_read.proofs.Prefixes.{strip_sign}
use Rattle.just_lang_read.proofs.prefix.strip.Goals as goal

pub returns : goal.returns
returns c = strip_sign c.args.sign c.args.text.now c.strip_prefix.result c.strip_prefix.ensures.cases c.requires
