-- The shape of a recipe.
use Rattle.std.specs.Prelude.{ℕ, List, [], ◌∷◌, ◌++◌, Option}
use Rattle.just_lang_syntax.specs.declared.ast.AstRecipe.{AstRecipe}
use Rattle.just_lang_syntax.specs.declared.ast.StringLiteral.{StringLiteral}
use Rattle.just_lang_types.specs.declared.recipe.Dependency.{Dependency}
use Rattle.just_lang_types.specs.declared.recipe.Modulepath.{Modulepath}
use Rattle.just_lang_types.specs.declared.recipe.Recipe.{Recipe}
use Rattle.just_lang_types.specs.Attributes.{is_script}
use Rattle.just_lang_shapes.specs.Attributes.{doc_of, is_private}
use Rattle.just_lang_shapes.specs.Expansions.{expanded_attributes, expanded_lines}
use Rattle.just_lang_shapes.specs.Parameters.{parameters_of}

-- the path of a name in the module of a path
abbrev pub path_within : Modulepath → List ℕ → Modulepath
path_within m name = record { components = m.components ++ name ∷ [] }

module _ (text_of : StringLiteral → Option (List ℕ)) where
  -- a recipe of the module of that path, below what a comment says, with what it depends on
  unfoldable pub recipe_of : Modulepath → Option (List ℕ) → List Dependency → List Dependency → AstRecipe → Recipe
  recipe_of m above priors subsequents r = record {
    name = r.name.text;
    path = path_within m r.name.text;
    doc = doc_of text_of r.attributes above;
    attributes = expanded_attributes text_of r.attributes;
    parameters = parameters_of text_of r.attributes r.parameters;
    priors = priors;
    subsequents = subsequents;
    body = expanded_lines text_of r.body;
    quiet = r.quiet;
    private = is_private r.attributes r.name.text;
    script = is_script r;
    line = r.name.line;
  }
