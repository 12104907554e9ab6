-- The names so far are those of the declarations so far.
use Rattle.std.proofs.Common.{take}
use Rattle.just_lang_layout.specs.Pending.{HasNames}
use Rattle.just_lang_layout.proofs.pending.names_of.Given as goal

abbrev pub invariant-loop-declaration : goal.invariant-loop-declaration
invariant-loop-declaration l = HasNames (take l.declaration-index l.declarations) l.names
