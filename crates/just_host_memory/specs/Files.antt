-- The map of places to things that a list of them is.
use Rattle.std.specs.Prelude.{ℕ, List, map}
use Rattle.std.specs.FinMap.{from_entries}
use Rattle.just_host_record.specs.Sights.{Tree}
use Rattle.just_host_record.specs.declared.tree.Thing.{Thing}
use Rattle.just_host_memory.specs.declared.place.Place.{Place}

-- a thing by the text of its place
abbrev pub by_text : Place × Thing → List ℕ × Thing
by_text e = (e.0.path, e.1)

abbrev pub files_in : List (Place × Thing) → Tree
files_in things = from_entries (map by_text things)
