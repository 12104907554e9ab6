-- A project has its parts.
use Rattle.std.proofs.Common.{◌≡◌, ℕ, List, [], ◌∷◌, map, length, refl, sym, ap, ◌∙◌}
use Rattle.std.specs.List.{enumerate_from}
use Rattle.std.proofs.lemmas.List.FromFn.{length-enumerate_from}
use Rattle.std.proofs.lemmas.Slice.Zip.{AllZip-long}
use Rattle.just_lang_types.specs.declared.project.Justfile.{Justfile}
use Rattle.just_lang_types.specs.Modules.{AreModules}
use Rattle.just_lang_types.proofs.Nesting.{same_modules}
use Rattle.just_lang_layout.specs.declared.layout.Layout.{Layout}
use Rattle.just_lang_layout.specs.declared.layout.Module.{Module}
use Rattle.just_lang_layout.specs.Paths.{Pairs}
use Rattle.just_lang_spots.specs.Winners.{wins_in}
use Rattle.just_lang_justfile.specs.Modules.{IsModuleOf}
use Rattle.just_lang_justfile.specs.Trees.{IsAround}
use Rattle.just_lang_rulebook.specs.Meant.{meant}
use Rattle.just_lang.specs.Assembled.{IsSoundlyMadeOf}
use Rattle.just_lang.specs.Linked.{links_of}
use Rattle.just_lang.specs.declared.laid.LaidJustfile.{LaidJustfile}
use Rattle.just_print_lists.specs.declared.listed.ListedModule.{ListedModule}
use Rattle.just_print_tree.specs.declared.told.Told.{Told}
use Rattle.just_print_tree.specs.Branches.{HasModulesOf, IsTreeOf}
use Rattle.just_print_tree.specs.Kept.{tolds}
use Rattle.just_print_tree.specs.Told.{told_each}
use Rattle.just_cli_texts.specs.Laid.{laid_by, ArePartsOf}

module _ (environ : Pairs) (layout : Layout) (j : Justfile) (sound : IsSoundlyMadeOf environ layout j) where
  -- the layout has as many modules as the justfile
  as_many : length sound.made.justfile.all ≡ length layout.modules
  as_many =
      AllZip-long (λ (x : ℕ × Module) (m : Justfile). IsModuleOf (meant environ) (links_of sound.wins layout sound.made.causes) sound.wins layout.files x.0 x.1 m × IsAround m) (enumerate_from 0 layout.modules) sound.made.justfile.all sound.made.justfile.each
      ∙ length-enumerate_from 0 layout.modules

  pub has_modules : HasModulesOf layout.modules j
  has_modules = (sound.made.justfile.all, sound.made.justfile.in_order, as_many)

  pub as_many_modules : (all : List Justfile) → AreModules (j ∷ []) all → length layout.modules ≡ length all
  as_many_modules all are = sym as_many ∙ ap (λ (js : List Justfile). length js) (same_modules (j ∷ []) sound.made.justfile.all all sound.made.justfile.in_order are)

pub parts_are : (environ : Pairs) (l : LaidJustfile) (all : List Justfile) (tree : ListedModule) (recipes : List (List Told)) → AreModules (l.justfile ∷ []) all → IsTreeOf (meant environ) (wins_in l.winners) l.layout l.justfile tree
    → map tolds recipes ≡ told_each (wins_in l.winners) l.layout.files l.layout.modules all
    → ArePartsOf environ (laid_by l) (record { layout = l.layout; modules = all; root = l.justfile; tree = tree; recipes = map tolds recipes })
parts_are environ l all tree recipes are is told = record { layout = refl; root = refl; modules = are; tree = is; recipes = told }
