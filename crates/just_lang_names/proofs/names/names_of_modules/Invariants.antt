-- The names of the modules so far.
use Rattle.std.proofs.Common.{take}
use Rattle.just_lang_spots.specs.Winners.{wins_in}
use Rattle.just_lang_names.specs.Names.{AreModuleNames}
use Rattle.just_lang_names.proofs.names.names_of_modules.Given as goal

abbrev pub invariant-modules : goal.invariant-modules
invariant-modules l =
    AreModuleNames (wins_in l.winners) l.files (take l.some_module-index l.modules) l.names.items
