-- The justfile that sources make.
use Rattle.std.specs.Prelude.{ℕ, List, Option}
use Rattle.just_lang_types.specs.declared.project.Justfile.{Justfile}
use Rattle.just_lang_types.specs.declared.source.Source.{Source}
use Rattle.just_lang_layout.specs.declared.layout.Layout.{Layout}
use Rattle.just_lang_layout.specs.Laid.{IsLayoutOf}
use Rattle.just_lang_layout.specs.Paths.{Pairs}
use Rattle.just_lang_spots.specs.Standing.{Wins}
use Rattle.just_lang_spots.specs.Winners.{wins_in}
use Rattle.just_lang_rulebook.specs.Meant.{meant}
use Rattle.just_lang.specs.Disabling.{AreCauses}
use Rattle.just_lang.specs.Errors.{BreaksNone}
use Rattle.just_lang.specs.Projects.{AreWins}
use Rattle.just_lang_justfile.specs.Trees.{IsJustfileOf}
use Rattle.just_lang.specs.Linked.{links_of}
use Rattle.just_lang.specs.declared.laid.LaidJustfile.{LaidJustfile}

-- the justfile of a layout, by what its names come to, and by why its recipes can't be run that can't
pub record IsMadeOf (environ : Pairs) (wins : Wins) (layout : Layout) (j : Justfile) : Type 0 where
  pub causes : List (Option ℕ)
  pub causes_are : AreCauses wins layout causes
  pub justfile : IsJustfileOf (meant environ) (links_of wins layout causes) wins layout j

-- the justfile of a layout that breaks no rule
pub record IsSoundlyMadeOf (environ : Pairs) (layout : Layout) (j : Justfile) : Type 0 where
  pub wins : Wins
  pub wins_are : AreWins layout wins
  pub none_broken : BreaksNone environ wins layout
  pub made : IsMadeOf environ wins layout j

-- the justfile of sources that break no rule
pub record IsJustfileOfSources (sources : List Source) (environ : Pairs) (j : Justfile) : Type 0 where
  pub layout : Layout
  pub layout_is : IsLayoutOf sources environ layout
  pub made : IsSoundlyMadeOf environ layout j

-- the same with the layout of the sources, and which of its files win over which
pub record IsLaidJustfile (sources : List Source) (environ : Pairs) (p : LaidJustfile) : Type 0 where
  pub layout_is : IsLayoutOf sources environ p.layout
  pub wins_are : AreWins p.layout (wins_in p.winners)
  pub made : IsSoundlyMadeOf environ p.layout p.justfile
