-- The modules from a number on are made.
use Rattle.std.proofs.Common.{◌≤◌, drop, length, map, reverse}
use Rattle.just_lang_spots.specs.Winners.{wins_in}
use Rattle.just_print_tree.specs.Kept.{branches, tolds, AreGrown}
use Rattle.just_print_tree.proofs.tree.grown.Given as goal

abbrev pub invariant-modules : goal.invariant-modules
invariant-modules g l =
    record {
      made :
          AreGrown (g.T.Texts.text_of l.source.texts.now) (wins_in l.winners) l.source.files.now (map tolds l.source.recipes.now) (drop l.left l.modules) (drop l.left (map (λ j. j.now) l.justfiles))
          (reverse (branches l.outer.items));
      within : l.left ≤ length l.modules;
    }

abbrev pub decreases-modules : goal.decreases-modules
decreases-modules g l = l.left
