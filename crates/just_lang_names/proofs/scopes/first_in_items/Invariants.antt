-- What was found, and what is still to come.
use Rattle.std.proofs.Common.{◌≡◌, drop}
use Rattle.std.specs.List.{flat_map}
use Rattle.just_lang_spots.specs.Entries.{entries}
use Rattle.just_lang_spots.specs.Spots.{earlier, first_spot}
use Rattle.just_lang_names.specs.Scopes.{module_scope_of}
use Rattle.just_lang_names.specs.ScopeSpots.{unknown_in_item}
use Rattle.just_lang_names.proofs.scopes.first_in_items.Given as goal

abbrev pub invariant-items : goal.invariant-items
invariant-items l =
    earlier l.found (first_spot (flat_map (unknown_in_item (module_scope_of l.names)) (entries (drop l.one-index l.items))))
    ≡ first_spot (flat_map (unknown_in_item (module_scope_of l.names)) (entries l.items))
