-- How a recipe is used, as messages tell it.
use Rattle.std.specs.Prelude.{ℕ, Bool, true, false, ◌||◌, if◌then◌else◌, List, [], ◌∷◌, ◌++◌, is_some, codes}
use Rattle.std.specs.List.{list_any, flat_map}
use Rattle.just_lang_syntax.specs.declared.ast.ParameterKind.{ParameterKind}
use Rattle.just_lang_syntax.specs.declared.ast.ParameterKind.TheVariants.{Singular, Plus, Star}
use Rattle.just_lang_types.specs.declared.recipe.Modulepath.{Modulepath}
use Rattle.just_lang_types.specs.declared.recipe.Parameter.{Parameter}
pub use Rattle.just_lang_types.specs.ParameterKinds.{is_variadic}

-- a parameter with a long or a short name is an option
abbrev pub is_option : Parameter → Bool
is_option p = is_some p.long || is_some p.short

abbrev pub is_star : ParameterKind → Bool
is_star Singular = false
is_star Plus = false
is_star Star = true

-- a parameter may be left out where it has a default or is a `*`
abbrev pub is_optional : Parameter → Bool
is_optional p = is_some p.default || is_star p.kind

abbrev pub has_options : List Parameter → Bool
has_options ps = list_any is_option ps

-- a parameter's name, with `...` behind it where it takes several values
abbrev pub name_text : Parameter → List ℕ
name_text p = p.name ++ (if is_variadic p.kind then codes "..." else [])

-- the same, in brackets where it may be left out
abbrev pub parameter_text : Parameter → List ℕ
parameter_text p = if is_optional p then codes "[" ++ (name_text p ++ codes "]") else name_text p

-- a parameter behind a blank; an option isn't told by itself
abbrev pub argument_text : Parameter → List ℕ
argument_text p = if is_option p then [] else codes " " ++ parameter_text p

-- names, each behind `::`
abbrev pub behind : List ℕ → List ℕ
behind name = codes "::" ++ name

abbrev pub led : List (List ℕ) → List ℕ
led names = flat_map behind names

-- a path
abbrev pub path_text : List (List ℕ) → List ℕ
path_text [] = []
path_text (n ∷ ns) = n ++ led ns

-- The short usage of a recipe.
abbrev pub usage_text : Modulepath → List Parameter → List ℕ
usage_text path ps =
    codes "usage:" ++ (10 ∷ codes "    just " ++ (path_text path.components ++ ((if has_options ps then codes " [OPTIONS]" else []) ++ flat_map argument_text ps)))
