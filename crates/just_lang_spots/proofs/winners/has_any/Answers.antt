-- One more file gives the name or doesn't.
use Rattle.just_lang_spots.specs.Winners.{has_pair}
use Rattle.just_lang_spots.proofs.ListLaws.{any_found, any_passed}
use Rattle.just_lang_spots.proofs.winners.has_any.Goals as goal

pub returns-then-has : goal.returns-then-has
returns-then-has c =
    any_found (λ f. has_pair c.args.pairs.now f c.args.name.now) c.args.files.now c.files.file-index 0 c.has.result c.files-test.true c.has.ensures c.if-has.true c.files.invariant

pub files-preserved : goal.files-preserved
files-preserved c =
    any_passed (λ f. has_pair c.args.pairs.now f c.args.name.now) c.args.files.now c.files.file-index 0 c.has.result c.files-test.true c.has.ensures c.if-has.false c.files.invariant
