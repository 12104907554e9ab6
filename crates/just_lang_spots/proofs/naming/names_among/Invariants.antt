-- The names so far, and those that are still to come.
use Rattle.std.proofs.Common.{◌≡◌, ◌++◌, map, drop}
use Rattle.std.specs.Prelude.{filter_map}
use Rattle.just_lang_spots.specs.Repeated.{named}
use Rattle.just_lang_spots.proofs.naming.names_among.Given as goal

abbrev pub invariant-things : goal.invariant-things
invariant-things g l =
    map named l.names.items ++ filter_map (g.N.Naming.name_of l.naming l.file) (drop l.thing-index l.things) ≡ filter_map (g.N.Naming.name_of l.naming l.file) l.things
