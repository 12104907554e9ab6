-- The names so far, and those that are still to come.
use Rattle.std.proofs.Common.{◌≡◌, ◌++◌, map, drop}
use Rattle.std.specs.Prelude.{filter_map}
use Rattle.just_lang_spots.specs.Entries.{entries}
use Rattle.just_lang_spots.specs.Repeated.{named}
use Rattle.just_lang_spots.proofs.naming.names_in.Given as goal

abbrev pub invariant-items : goal.invariant-items
invariant-items g l =
    map named l.names.items ++ filter_map (λ x. g.N.Naming.name_of l.naming x.0 x.1) (entries (drop l.one-index l.items))
    ≡ filter_map (λ x. g.N.Naming.name_of l.naming x.0 x.1) (entries l.items)
