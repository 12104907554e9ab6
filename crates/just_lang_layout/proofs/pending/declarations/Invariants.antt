-- The modules so far and those that the items left declare are all.
use Rattle.std.proofs.Common.{◌≡◌, ◌++◌, drop}
use Rattle.just_lang_layout.specs.Modules.{declarations}
use Rattle.just_lang_layout.proofs.pending.declarations.Given as goal

abbrev pub invariant-loop-visit : goal.invariant-loop-visit
invariant-loop-visit l = l.found.items ++ declarations l.files (drop l.visit-index l.visits) ≡ declarations l.files l.visits
