-- The faults of the files of a project.
use Rattle.std.specs.Prelude.{ℕ, suc, List, [], ◌∷◌, ◌++◌}
use Rattle.just_lang_syntax.specs.declared.error.FaultKind.{FaultKind}
use Rattle.just_lang_layout.specs.declared.layout.File.{File}
use Rattle.just_lang_layout.specs.declared.layout.Layout.{Layout}
use Rattle.just_lang_spots.specs.declared.spot.Spot.{Spot}
use Rattle.just_lang_rules.specs.FaultSpots.{fault_spot}

abbrev pub fault_spots_from : FaultKind → ℕ → List File → List Spot
fault_spots_from kind number [] = []
fault_spots_from kind number (file ∷ files) = fault_spot kind number file.fault ++ fault_spots_from kind (suc number) files

-- the places of the faults of that kind
unfoldable pub fault_spots : FaultKind → Layout → List Spot
fault_spots kind layout = fault_spots_from kind 0 layout.files
