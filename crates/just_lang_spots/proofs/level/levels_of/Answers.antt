-- Where all nodes have one level, no edge leads to a lower one.
use Rattle.std.proofs.Common.{ℕ, List, sym, subst}
use Rattle.just_lang_spots.specs.Levels.{AreLevels}
use Rattle.just_lang_spots.proofs.Levels.{one_level}
use Rattle.just_lang_spots.proofs.level.levels_of.Goals as goal

pub returns : goal.returns
returns c = subst (λ (levels : List ℕ). AreLevels c.args.edges.now levels) (sym (c.in_ok-vec.ensures.items_if_clones_equal (λ y h. h))) (one_level c.args.edges.now)
