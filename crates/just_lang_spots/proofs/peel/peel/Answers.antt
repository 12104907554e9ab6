-- What was taken out stands behind its targets, and the last look found no node that is free.
use Rattle.just_lang_spots.proofs.peel.peel.Goals as goal

pub returns-clause-peeled : goal.returns-clause-peeled
returns-clause-peeled c = c.loop-node-2.invariant

pub returns-clause-whole : goal.returns-clause-whole
returns-clause-whole c = rw c.as_slice.ensures.value at c.in_default.ensures
