-- What is judged is what the words mean.
use Rattle.std.proofs.Common.{arith, refl, take}
use Rattle.just_config_words.proofs.Meanings.{shown_meaning}
use Rattle.just_config_words.proofs.words.meaning.Goals as goal

pub returns : goal.returns
returns c =
    shown_meaning c.args.environ.now.pairs c.args.given.items c.fill.new.given.items c.as_slice-all.result.now (take c.len-count.result c.as_slice-all.result.now) c.args.positional.now
    c.in_ok-ill.ill c.in_ok-meaning.meaning c.len-count.result c.in_ok-ill.ensures c.in_ok-meaning.ensures c.as_slice-all.ensures.value refl (omega arith)
