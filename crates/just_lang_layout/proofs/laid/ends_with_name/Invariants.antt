-- Those found are those of the paths so far.
use Rattle.std.proofs.Common.{◌≡◌, take}
use Rattle.just_lang_layout.specs.Laid.{ends_with_name}
use Rattle.just_lang_layout.proofs.laid.ends_with_name.Given as goal

abbrev pub invariant-loop-path : goal.invariant-loop-path
invariant-loop-path l = l.found.items ≡ ends_with_name (take l.path-index l.paths) l.base l.name
