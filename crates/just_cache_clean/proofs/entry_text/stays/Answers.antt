-- The text is in the first form, in the second, or in neither.
use Rattle.just_cache_clean.proofs.Cuts.{stays_first, stays_second, stays_neither}
use Rattle.just_cache_clean.proofs.entry_text.stays.Goals as goal

pub returns-in-Some : goal.returns-in-Some
returns-in-Some c = stays_first c.args.prefix.now c.args.digest.now c.args.text.now c.in-Some.inner.now c.is_other.result c.in-Some.ensures c.is_other.ensures

pub returns-in-Some-second_inside : goal.returns-in-Some-second_inside
returns-in-Some-second_inside c =
    stays_second c.args.prefix.now c.args.digest.now c.args.text.now c.in-Some-second_inside.inner.now c.is_other-in-Some-second_inside.result c.in-None.ensures c.in-Some-second_inside.ensures
    c.is_other-in-Some-second_inside.ensures

pub returns-in-None-second_inside : goal.returns-in-None-second_inside
returns-in-None-second_inside c = stays_neither c.args.prefix.now c.args.digest.now c.args.text.now c.in-None.ensures c.in-None-second_inside.ensures
