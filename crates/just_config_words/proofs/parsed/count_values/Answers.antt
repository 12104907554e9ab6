-- The words that are counted are those of the run.
use Rattle.std.proofs.Common.{◌∙◌, sym, ap, take, arith}
use Rattle.just_config_words.proofs.Runs.{run_within, run_front}
use Rattle.just_config_words.proofs.parsed.count_values.Goals as goal

pub returns : goal.returns
returns c = record {
  within = omega (arith, c.run_length.ensures, run_within c.args.any c.args.words.now);
  front = run_front c.args.any c.args.words.now c.args.limit ∙ ap (λ n. take n c.args.words.now) (sym c.run_length.ensures);
}
