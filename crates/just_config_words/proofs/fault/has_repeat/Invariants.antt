-- None so far stands twice.
use Rattle.std.proofs.Common.{◌≡◌, ◌≤◌, [], ◌-◌, take, drop, length}
use Rattle.just_config_words.specs.Faults.{has_repeat}
use Rattle.just_config_words.proofs.fault.has_repeat.Given as goal

abbrev pub invariant-parsed : goal.invariant-parsed
invariant-parsed l = record {
  within : l.index ≤ length l.parsed;
  rest : has_repeat l.before (take l.index l.parsed) (drop l.index l.parsed) ≡ has_repeat l.before [] l.parsed;
}

abbrev pub decreases-parsed : goal.decreases-parsed
decreases-parsed l = length l.parsed - l.index
