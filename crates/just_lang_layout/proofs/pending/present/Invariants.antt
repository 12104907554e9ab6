-- Those found are those among the declarations so far.
use Rattle.std.proofs.Common.{◌≡◌, take}
use Rattle.std.specs.List.{filter}
use Rattle.just_lang_layout.specs.Modules.{is_there}
use Rattle.just_lang_layout.proofs.pending.present.Given as goal

abbrev pub invariant-loop-declaration : goal.invariant-loop-declaration
invariant-loop-declaration l = l.found.items ≡ filter is_there (take l.declaration-index l.declarations)
