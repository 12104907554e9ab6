-- The paths so far.
use Rattle.std.proofs.Common.{◌≡◌, map, take}
use Rattle.just_path.specs.Path.{text_of, pushed}
use Rattle.just_path.specs.View.{place_under}
use Rattle.just_search.proofs.program.paths_in.Given as goal

abbrev pub invariant-parts : goal.invariant-parts
invariant-parts l = l.paths.items ≡ map (λ part. place_under (text_of l.folder) (pushed part l.name)) (take l.part-index l.parts)
