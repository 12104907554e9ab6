-- A project of sources is found with their layout.
use Rattle.std.proofs.Common.{◌≡◌, List, [], ◌∷◌, None, Ok, refl}
use Rattle.just_path_text.specs.declared.environ.Environ.{Environ}
use Rattle.just_lang_types.specs.declared.project.Justfile.{Justfile}
use Rattle.just_lang_types.specs.declared.source.Source.{Source}
use Rattle.just_lang_types.specs.Modules.{AreModules}
use Rattle.just_lang.specs.declared.laid.LaidJustfile.{LaidJustfile}
use Rattle.just_lang.specs.Assembled.{IsSoundlyMadeOf, IsJustfileOfSources, IsLaidJustfile}
use Rattle.just_cli_plan.specs.declared.wanted.Wanted.{Wanted}
use Rattle.just_cli_plan.specs.Features.{unstable_feature}
use Rattle.just_cli_plan.specs.Request.{SourcesRequest, ProjectRequest}
use Rattle.just_cli_plan.specs.Steps.{goes_on}
use Rattle.just_cli_plan.proofs.Listed.{modules_listed}
use Rattle.just_cli_texts.specs.Laid.{laid_by, FindsLaid}

module _ (wanted : Wanted) (environ : Environ) (sources : List Source) (l : LaidJustfile) (is : IsLaidJustfile sources environ.pairs l) where
  abbrev it : SourcesRequest
  it = record { wanted = wanted; environ = environ; sources = sources }

  abbrev project : List Justfile → ProjectRequest
  project modules = record { wanted = wanted; environ = environ; justfile = l.justfile; modules = modules }

  pub justfile_of : IsJustfileOfSources sources environ.pairs l.justfile
  justfile_of = record { layout = l.layout; layout_is = is.layout_is; made = is.made }

  pub sound_of : IsSoundlyMadeOf environ.pairs l.layout l.justfile
  sound_of = is.made

  pub laid_found : ((modules : List Justfile) → AreModules (l.justfile ∷ []) modules → unstable_feature wanted.unstable modules ≡ None) → FindsLaid it (Ok (record { wanted = wanted; environ = environ; laid = laid_by l }))
  laid_found stable =
      let ms = modules_listed l.justfile in
      (refl, refl, record { layout_is = is.layout_is; wins_are = is.wins_are; made = is.made }, (ms.0, goes_on (project ms.0) (refl, refl, justfile_of, ms.1) (stable ms.0 ms.1, refl)))
