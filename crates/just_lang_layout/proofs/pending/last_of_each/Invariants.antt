-- The names behind, and the declarations that stand behind, the last first.
use Rattle.std.proofs.Common.{◌≡◌, ◌≤◌, drop, length, reverse}
use Rattle.just_lang_layout.specs.Modules.{last_of_each}
use Rattle.just_lang_layout.specs.Pending.{HasNames}
use Rattle.just_lang_layout.proofs.pending.last_of_each.Given as goal

abbrev pub invariant-declarations : goal.invariant-declarations
invariant-declarations l = record {
  fits : l.left ≤ length l.declarations;
  names : HasNames (drop l.left l.declarations) l.seen;
  last : reverse l.last.items ≡ last_of_each (drop l.left l.declarations);
}

abbrev pub decreases-declarations : goal.decreases-declarations
decreases-declarations l = l.left
