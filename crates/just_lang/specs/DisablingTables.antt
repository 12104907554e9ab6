-- What the code keeps of recipes and aliases that can't be run.
use Rattle.std.specs.Prelude.{◌≡◌, ℕ, if◌then◌else◌, Bool, List, map, filter_map, Option, Some, None}
use Rattle.just_lang_syntax.specs.declared.ast.AstDependency.{AstDependency}
use Rattle.just_lang_syntax.specs.declared.ast.Name.{Name}
use Rattle.just_lang_layout.specs.declared.layout.Layout.{Layout}
use Rattle.just_lang_spots.specs.Standing.{Wins}
use Rattle.just_lang_names.specs.declared.target.PathKind.{PathKind}
use Rattle.just_lang_names.specs.declared.target.PathKind.TheVariants.{Dependency, Alias}
use Rattle.just_lang_names.specs.Names.{layout_of, wins_of}
use Rattle.just_lang.specs.declared.disabled.Disabling.{Disabling}
use Rattle.just_lang.specs.Cycles.{all_recipes}
use Rattle.just_lang.specs.CycleTables.{AreRecipes}
use Rattle.just_lang.specs.Disabling.{absent_with, absent_end, absent_of_dependency, own_absent, AreCauses}
use denote.Ref.{Bor}

-- ---- texts

abbrev pub text : Bor (List ℕ) → List ℕ
text x = x.now

abbrev pub texts : List (Bor (List ℕ)) → List (List ℕ)
texts xs = map text xs

-- the text, where a test holds
abbrev pub text_where : Bool → List ℕ → Option (List ℕ)
text_where test x = if test then Some x else None

-- ---- names of modules that aren't there

abbrev pub end_for : PathKind → Wins → Layout → ℕ → Name → Option (List ℕ)
end_for Dependency wins layout = λ m n. None
end_for Alias wins layout = absent_end wins layout

-- the name of the module that a dependency's path, or an alias's, goes through and that isn't there
abbrev pub absent_for : PathKind → Wins → Layout → ℕ → List Name → Option (List ℕ)
absent_for kind wins layout m names = absent_with (end_for kind wins layout) layout names m

-- those that some dependencies of a module go through
abbrev pub absent_in : Layout → ℕ → List AstDependency → List (List ℕ)
absent_in layout m ds = filter_map (λ (d : AstDependency). absent_of_dependency layout m d.path) ds

-- ---- causes

pub record IsDisabling (disabling : Disabling) : Type 0 where
  pub recipes_are : AreRecipes disabling.recipes.now
  pub causes_are : AreCauses (wins_of disabling.recipes.now.names.now) (layout_of disabling.recipes.now.names.now) disabling.causes.items
  pub absent_are : map (λ v. texts v.items) disabling.absent.items ≡ map (own_absent (layout_of disabling.recipes.now.names.now)) (all_recipes (wins_of disabling.recipes.now.names.now) (layout_of disabling.recipes.now.names.now))
