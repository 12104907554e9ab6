-- The value is that of the levels that are left, else what was found.
use Rattle.std.proofs.Common.{◌≡◌, drop}
use Rattle.std.specs.Option.{option_copied}
use Rattle.just_path_text.specs.Environ.{or_else}
use Rattle.just_eval_closure.specs.Scopes.{value_among}
use Rattle.just_eval_closure.proofs.scope.level_value.Given as goal

abbrev pub invariant-levels : goal.invariant-levels
invariant-levels l = or_else (value_among (drop l.level-index l.levels) l.name) (option_copied l.found) ≡ value_among l.levels l.name
