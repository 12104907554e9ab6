-- One more path.
use Rattle.std.proofs.Common.{◌∙◌}
use Rattle.just_lang_layout.proofs.PathNumbers.{numbers_more}
use Rattle.just_lang_layout.proofs.numbers.numbers_of.Goals as goal

pub paths-preserved : goal.paths-preserved
paths-preserved c =
    numbers_more c.args.paths.now c.paths.at c.paths.numbers c.put_first.new.numbers c.index-paths-at.result c.in_ok-path.path c.paths-test.true c.index-paths-at.is (c.in_ok-path.ensures ∙ c.as_str.ensures)
    c.paths.invariant c.in_ok-put_first.ensures
