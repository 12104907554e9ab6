-- What passes the test is counted.
use Rattle.std.proofs.Common.{rules, tests}
use Rattle.std.proofs.lemmas.Iterator.{YieldsList-from_slice}
use Rattle.std.proofs.lemmas.Iterator.Consumers.{YieldsList-from_filter, count_from_yields_List}
use Rattle.just_eval_words.specs.Parameters.{needs_word}
use Rattle.just_eval_words.proofs.parameter.least_words.Goals as goal

pub returns : goal.returns
returns c = count_from_yields_List c.filter.result c.count.result c.count.ensures.ran
    (YieldsList-from_filter _ needs_word (YieldsList-from_slice c.args.parameters.now cc) c.filter.ensures.closure (λ x r q k. search (rules, tests)))
