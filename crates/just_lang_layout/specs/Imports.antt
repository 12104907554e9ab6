-- The files that imports name.
use Rattle.std.specs.Prelude.{ℕ, false, List, map, filter_map}
use Rattle.just_lang_layout.specs.declared.target.Target.{Target}
use Rattle.just_lang_layout.specs.Walk.{leads}

-- the numbers of the files that a file's imports name, by the targets of its items
abbrev pub imports_in : List Target → List ℕ
imports_in ts = filter_map (leads false) ts

-- those of the imports of each file
abbrev pub imports_of : List (List Target) → List (List ℕ)
imports_of table = map imports_in table
