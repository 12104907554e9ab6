-- The targets so far are those of the items so far.
use Rattle.std.proofs.Common.{take}
use Rattle.just_lang_layout.specs.Targets.{AreItemTargets}
use Rattle.just_lang_layout.proofs.target.item_targets.Given as goal

abbrev pub invariant-loop-item : goal.invariant-loop-item
invariant-loop-item l = AreItemTargets l.environ.pairs l.paths.all.items l.root (take l.item-index l.items) l.targets.items
