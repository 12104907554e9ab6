-- What the code keeps of recipes and of modules.
use Rattle.std.specs.Prelude.{◌≡◌, ℕ, List, ◌∷◌, ◌++◌, map, length, Option}
use Rattle.just_lang_syntax.specs.declared.ast.StringLiteral.{StringLiteral}
use Rattle.just_lang_types.specs.declared.project.Justfile.{Justfile}
use Rattle.just_lang_types.specs.Modules.{modules_of, AreModules}
use Rattle.just_lang_layout.specs.declared.layout.File.{File}
use Rattle.just_lang_layout.specs.declared.layout.Module.{Module}
use Rattle.just_lang_spots.specs.declared.spot.Spot.{Spot}
use Rattle.just_lang_spots.specs.Standing.{Wins}
use Rattle.just_print_lists.specs.declared.listed.ListedModule.{ListedModule}
use Rattle.just_print_lists.specs.Listed.{modules_of as inner_of}
use Rattle.just_print_tree.specs.declared.told.Told.{Told}
use Rattle.just_print_tree.specs.declared.branch.Built.{Built}
use Rattle.just_print_tree.specs.Told.{ToldRecipe}
use Rattle.just_print_tree.specs.Branches.{Branch, module_spots, IsListed, AreListed}

abbrev pub told : Told → ToldRecipe
told x = record { recipe = x.recipe.now; file = x.file; written = x.written.now }

abbrev pub tolds : List Told → List ToldRecipe
tolds xs = map told xs

abbrev pub branch : Built → Branch
branch b = record { laid = b.laid.now; justfile = b.justfile.now; listed = b.listed }

abbrev pub branches : List Built → List Branch
branches bs = map branch bs

-- so many of some branches are taken from the front; of these are left what listings show and the places of the public ones
pub record AreTaken (files : List File) (count : ℕ) (before after : List Branch) (trees : List ListedModule) (spots : List Spot) : Type 0 where
  pub taken : List Branch
  pub parts : before ≡ taken ++ after
  pub count_is : length taken ≡ count
  pub trees_are : trees ≡ map (λ (b : Branch). b.listed) taken
  pub spots_are : spots ≡ module_spots files taken

-- in front of some branches one more was put, with those within it, which were the first of them
pub record IsGrown (text_of : StringLiteral → Option (List ℕ)) (files : List File) (all : List (List ToldRecipe)) (own : List ToldRecipe) (m : Module) (j : Justfile) (before after : List Branch) : Type 0 where
  pub inner : List Branch
  pub rest : List Branch
  pub listed : ListedModule
  pub parts : before ≡ inner ++ rest
  pub count : length inner ≡ length (modules_of j)
  pub grown : after ≡ record { laid = m; justfile = j; listed = listed } ∷ rest
  pub modules : inner_of listed ≡ map (λ (b : Branch). b.listed) inner
  pub said : IsListed text_of files all own (module_spots files inner) m j listed

-- these branches have these modules of a layout and these of a justfile
abbrev pub AreGrown : (StringLiteral → Option (List ℕ)) → Wins → List File → List (List ToldRecipe) → List Module → List Justfile → List Branch → Type 0
AreGrown text_of wins files all ms js bs = AreListed text_of wins files all ms bs × AreModules (map (λ (b : Branch). b.justfile) bs) js
