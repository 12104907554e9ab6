-- The paths of the names so far.
use Rattle.std.proofs.Common.{◌≡◌, ◌++◌, ◌∷◌, map, filter, take}
use Rattle.just_search_load.specs.Named.{is_justfile_name}
use Rattle.just_search_load.proofs.present.add_justfiles.Given as goal

abbrev pub invariant-names : goal.invariant-names
invariant-names l = l.paths.items ≡ l.fn.paths.items ++ map (λ name. l.base ++ 47 ∷ name) (filter is_justfile_name (take l.name-index l.names))
