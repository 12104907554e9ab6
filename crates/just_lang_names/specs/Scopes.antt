-- The names that the code's scopes know.
use Rattle.std.specs.Prelude.{◌≡◌, ℕ, ◌||◌, ◌++◌, Bool, List, is_some}
use Rattle.std.specs.List.{flat_map}
use Rattle.std.specs.Ordering.{nat_cmp}
use Rattle.std.specs.Cmp.Lexicographic.{slice_cmp}
use Rattle.std.specs.BTreeSet.{contains_by}
use Rattle.just_lang_syntax.specs.declared.ast.AstParameter.{AstParameter}
use Rattle.just_lang_types.specs.Constants.{constant_of}
use Rattle.just_lang_spots.specs.declared.spot.Spot.{Spot}
use Rattle.just_lang_spots.specs.Entries.{entries, place_in}
use Rattle.just_lang_names.specs.declared.names.ModuleNames.{ModuleNames}
use Rattle.just_lang_names.specs.declared.parameters.Parameters.{Parameters}
use Rattle.just_lang_names.specs.declared.scopes.Scope as code
use Rattle.just_lang_names.specs.ScopeSpots.{Scope, has_parameter, unknown_in_item}

-- whether a set of parameters has that name
abbrev pub has_name_of : Parameters → List ℕ → Bool
has_name_of set q = contains_by (λ k. slice_cmp nat_cmp q k.now) set.names

-- it has the names of these parameters, and no other
abbrev pub AreParameters : List AstParameter → Parameters → Type 0
AreParameters ps set = (q : List ℕ) → has_name_of set q ≡ has_parameter ps q

-- the variables in a module's table, and the constants
abbrev pub module_scope_of : ModuleNames → Scope
module_scope_of names q = is_some (place_in names.variable_places q) || is_some (constant_of q)

-- and the parameters
abbrev pub scope_with : ModuleNames → Parameters → Scope
scope_with names set q = has_name_of set q || module_scope_of names q

abbrev pub scope_of : code.Scope → Scope
scope_of scope = scope_with scope.names.now scope.parameters.now

-- the places of names that aren't known, in the variables and the recipes of the tables of a module
abbrev pub unknown_in_names : ModuleNames → List Spot
unknown_in_names n = flat_map (unknown_in_item (module_scope_of n)) (entries n.variables.items) ++ flat_map (unknown_in_item (module_scope_of n)) (entries n.recipes.items)
