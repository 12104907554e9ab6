-- A project as commands print of it: its justfile with the layout of its sources, and what listings show of it.
use Rattle.std.specs.Prelude.{◌≡◌, List, [], ◌∷◌, Result, Ok, Err}
use Rattle.just_path_text.specs.declared.environ.Environ.{Environ}
use Rattle.just_lang_types.specs.declared.project.Justfile.{Justfile}
use Rattle.just_lang_types.specs.Modules.{AreModules}
use Rattle.just_lang_types.specs.declared.source.Source.{Source}
use Rattle.just_lang_layout.specs.declared.layout.Layout.{Layout}
use Rattle.just_lang_layout.specs.Laid.{IsLayoutOf}
use Rattle.just_lang_layout.specs.Paths.{Pairs}
use Rattle.just_lang_spots.specs.Standing.{Wins}
use Rattle.just_lang_spots.specs.Winners.{wins_in}
use Rattle.just_lang_rulebook.specs.Meant.{meant}
use Rattle.just_lang.specs.declared.laid.LaidJustfile.{LaidJustfile}
use Rattle.just_lang.specs.Assembled.{IsSoundlyMadeOf}
use Rattle.just_lang.specs.Projects.{AreWins}
use Rattle.just_print_tree.specs.Branches.{IsTreeOf}
use Rattle.just_print_tree.specs.Told.{told_each}
use Rattle.just_print_commands.specs.Projects.{Parts}
use Rattle.just_exec.specs.declared.error.Error.{Error}
use Rattle.just_cli_plan.specs.declared.wanted.Wanted.{Wanted}
use Rattle.just_cli_plan.specs.Request.{SourcesRequest, ProjectRequest, FindsProject}

-- a justfile, the layout of its sources, and which file of these wins over which
pub record LaidSources : Type 0 where
  pub layout : Layout
  pub wins : Wins
  pub justfile : Justfile

abbrev pub laid_by : LaidJustfile → LaidSources
laid_by l = record { layout = l.layout; wins = wins_in l.winners; justfile = l.justfile }

-- it is the justfile of sources that break no rule
pub record IsLaidOf (sources : List Source) (environ : Pairs) (l : LaidSources) : Type 0 where
  pub layout_is : IsLayoutOf sources environ l.layout
  pub wins_are : AreWins l.layout l.wins
  pub made : IsSoundlyMadeOf environ l.layout l.justfile

-- its parts: the layout and the justfile, the modules of that in their order, what listings show of it, and its recipes, each beside what is written of it
pub record ArePartsOf (environ : Pairs) (l : LaidSources) (p : Parts) : Type 0 where
  pub layout : p.layout ≡ l.layout
  pub root : p.root ≡ l.justfile
  pub modules : AreModules (l.justfile ∷ []) p.modules
  pub tree : IsTreeOf (meant environ) l.wins l.layout l.justfile p.tree
  pub recipes : p.recipes ≡ told_each l.wins l.layout.files l.layout.modules p.modules

-- ---- the step from the sources

-- the justfile of a project with its layout, and what is asked of it
pub record LaidRequest : Type 0 where
  pub wanted : Wanted
  pub environ : Environ
  pub laid : LaidSources

-- the same with the modules of the justfile
abbrev pub project_with : LaidRequest → List Justfile → ProjectRequest
project_with q modules = record { wanted = q.wanted; environ = q.environ; justfile = q.laid.justfile; modules = modules }

-- the sources make a project, with this layout; or there is none
abbrev pub FindsLaid : SourcesRequest → Result LaidRequest Error → Type 0
FindsLaid s (Ok q) =
    (q.wanted ≡ s.wanted) × (q.environ ≡ s.environ) × IsLaidOf s.sources s.environ.pairs q.laid × ((modules : List Justfile) × FindsProject s (Ok (project_with q modules)))
FindsLaid s (Err e) = FindsProject s (Err e)
