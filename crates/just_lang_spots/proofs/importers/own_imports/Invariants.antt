-- The rows so far, and those that are still to come.
use Rattle.std.proofs.Common.{◌≡◌, ◌++◌, drop, map, length}
use Rattle.std.specs.Prelude.{nat_lt, filter}
use Rattle.just_lang_spots.specs.Importers.{own_imports}
use Rattle.just_lang_spots.proofs.importers.own_imports.Given as goal

abbrev pub invariant-files : goal.invariant-files
invariant-files l = l.rows.items ++ map (filter (λ n. nat_lt n (length l.imports))) (drop l.row-index l.imports) ≡ own_imports l.imports
