-- The modules from a number on are made.
use Rattle.std.proofs.Common.{◌≤◌, length}
use Rattle.just_lang_spots.specs.Winners.{wins_in}
use Rattle.just_lang_justfile.proofs.Nested.{Made}
use Rattle.just_lang_justfile.proofs.tree.justfile_of.Given as goal

abbrev pub invariant-modules : goal.invariant-modules
invariant-modules g l =
    record {
      made : Made (g.T.Texts.text_of l.project.texts.now) (g.L.Linker.links l.project.links.now) (wins_in l.project.winners.now) l.project.layout.now l.left l.outer.items;
      within : l.left ≤ length l.project.layout.now.modules;
    }

abbrev pub decreases-modules : goal.decreases-modules
decreases-modules g l = l.left
