-- All texts so far are names.
use Rattle.std.proofs.Common.{◌≡◌, drop}
use Rattle.just_config.specs.ModulePaths.{all_names}
use Rattle.just_config.proofs.module_path.all_names.Given as goal

abbrev pub invariant-texts : goal.invariant-texts
invariant-texts l = all_names (drop l.text-index l.texts) ≡ all_names l.texts
