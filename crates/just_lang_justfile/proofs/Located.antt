-- The modules and the recipes of the justfile of a layout.
use Rattle.std.proofs.Common.{◌≡◌, ℕ, List, [], ◌∷◌, ◌++◌, map, refl, ap, ◌∙◌, subst, Option}
use Rattle.std.specs.List.{enumerate_from, flat_map}
use Rattle.std.proofs.lemmas.List.{map-append}
use Rattle.just_lang_syntax.specs.declared.ast.StringLiteral.{StringLiteral}
use Rattle.just_lang_types.specs.declared.project.Justfile.{Justfile}
use Rattle.just_lang_types.specs.declared.recipe.Recipe.{Recipe}
use Rattle.just_lang_layout.specs.declared.layout.Layout.{Layout}
use Rattle.just_lang_layout.specs.declared.layout.Module.{Module}
use Rattle.just_lang_layout.specs.Items.{items_of_module}
use Rattle.just_lang_spots.specs.Standing.{Wins}
use Rattle.just_lang_types.specs.Modules.{Located, AreModules, located, recipes_of}
use Rattle.just_lang_types.proofs.Nesting.{same_modules}
use Rattle.just_lang_justfile.specs.Links.{Links}
use Rattle.just_lang_justfile.specs.Recipes as made
use Rattle.just_lang_justfile.specs.Standing.{standing_recipes}
use Rattle.just_lang_justfile.specs.Trees.{AreModulesOf, IsJustfileOf}

-- a recipe without its module
abbrev pub without_module : Located → Recipe
without_module l = l.recipe

recipes_in : (j : Justfile) (rs : List Recipe) → map without_module (map (λ (r : Recipe). record { parent = j; recipe = r }) rs) ≡ rs
recipes_in j [] = refl
recipes_in j (r ∷ rs) = ap (λ (k : List Recipe). r ∷ k) (recipes_in j rs)

module _ (text_of : StringLiteral → Option (List ℕ)) (links : Links) (wins : Wins) (layout : Layout) where
  -- the modules of the justfile of a layout are those of the layout, one for one
  pub modules_are : (j : Justfile) (all : List Justfile) → IsJustfileOf text_of links wins layout j → AreModules (j ∷ []) all → AreModulesOf text_of links wins layout (enumerate_from 0 layout.modules) all
  modules_are j all h a = subst (λ (ks : List Justfile). AreModulesOf text_of links wins layout (enumerate_from 0 layout.modules) ks) (same_modules (j ∷ []) h.all all h.in_order a) h.each

  -- the recipes that stand in the module of that number
  abbrev pub recipes_at : ℕ × Module → List Recipe
  recipes_at x = made.recipes_of links x.0 text_of layout.files x.1.path (standing_recipes wins (items_of_module layout.files x.1))

  recipes_of_modules : (xs : List (ℕ × Module)) (js : List Justfile) → AreModulesOf text_of links wins layout xs js → map without_module (located js) ≡ flat_map recipes_at xs
  recipes_of_modules [] [] h = refl
  recipes_of_modules [] (j ∷ js) h = absurd h
  recipes_of_modules (x ∷ xs) [] h = absurd h
  recipes_of_modules (x ∷ xs) (j ∷ js) h =
      map-append without_module (map (λ (r : Recipe). record { parent = j; recipe = r }) (recipes_of j)) (located js)
      ∙ ap (λ (rs : List Recipe). rs ++ map without_module (located js)) (recipes_in j (recipes_of j) ∙ h.0.0.recipes)
      ∙ ap (λ (rs : List Recipe). recipes_at x ++ rs) (recipes_of_modules xs js h.1)

  -- the recipes of the justfile, those of earlier modules first, are those that stand in the modules of its layout
  pub recipes_are : (j : Justfile) (all : List Justfile) → IsJustfileOf text_of links wins layout j → AreModules (j ∷ []) all → map without_module (located all) ≡ flat_map recipes_at (enumerate_from 0 layout.modules)
  recipes_are j all h a = recipes_of_modules (enumerate_from 0 layout.modules) all (modules_are j all h a)
