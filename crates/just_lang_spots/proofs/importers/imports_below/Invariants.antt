-- What was kept, and what is still to come.
use Rattle.std.proofs.Common.{◌≡◌, ◌++◌, drop}
use Rattle.std.specs.Prelude.{nat_lt, filter}
use Rattle.just_lang_spots.proofs.importers.imports_below.Given as goal

abbrev pub invariant-imports : goal.invariant-imports
invariant-imports l = l.kept.items ++ filter (λ n. nat_lt n l.count) (drop l.number-index l.imports) ≡ filter (λ n. nat_lt n l.count) l.imports
