-- The names of expressions by those of their parts, and the scopes of modules and of parameters.
use Rattle.std.proofs.Common.{◌≡◌, ℕ, suc, ◌+◌, ◌<◌, Bool, List, [], ◌∷◌, ◌++◌, take, drop, length, get_or, Option, Some, None, refl, sym, ap, ◌∙◌}
use Rattle.std.specs.Prelude.{◌||◌, is_some}
use Rattle.std.specs.List.{flat_map}
use Rattle.just_lang_syntax.specs.declared.ast.AstParameter.{AstParameter}
use Rattle.just_lang_syntax.specs.declared.ast.AstRecipe.{AstRecipe}
use Rattle.just_lang_syntax.specs.declared.ast.Comparison.{Comparison}
use Rattle.just_lang_syntax.specs.declared.ast.Name.{Name}
use Rattle.just_lang_syntax.specs.declared.ast.StringLiteral.{StringLiteral}
use Rattle.just_lang_syntax.specs.declared.ast.Expr.{Expr}
use Rattle.just_lang_syntax.specs.declared.ast.Expr.TheOpen.{Expr-F}
use Rattle.just_lang_syntax.specs.declared.ast.Expr.TheFolds.{fold-roll-Expr}
use Rattle.just_lang_syntax.specs.declared.ast.Expr.TheVariants as e
use Rattle.just_lang_types.specs.Constants.{constant_of}
use Rattle.just_lang_layout.specs.declared.layout.File.{File}
use Rattle.just_lang_layout.specs.declared.layout.Module.{Module}
use Rattle.just_lang_spots.specs.declared.spot.Spot.{Spot}
use Rattle.just_lang_spots.specs.Entries.{entries}
use Rattle.just_lang_spots.specs.Spots.{earlier, first_spot}
use Rattle.just_lang_spots.specs.Standing.{Wins}
use Rattle.just_lang_spots.proofs.ListLaws.{drop_here, take_here}
use Rattle.just_lang_spots.proofs.Spots.{first_behind}
use Rattle.just_lang_names.specs.declared.names.ModuleNames.{ModuleNames}
use Rattle.just_lang_names.specs.declared.parameters.Parameters.{Parameters}
use Rattle.just_lang_names.specs.Names.{IsModuleNames, AreModuleNames}
use Rattle.just_lang_names.specs.NamesUsed.{names_of_parts, names_of_expr}
use Rattle.just_lang_names.specs.Scopes.{AreParameters, module_scope_of, scope_with, unknown_in_names}
use Rattle.just_lang_names.specs.ScopeSpots.{Scope, module_scope, with_parameters, unknown_names, unknown_in_default, unknown_in_defaults, unknown_behind, unknown_in_item, undefined_in_module}
use Rattle.just_lang_names.specs.Standing.{standing_recipe_items, standing_variable_items}
use Rattle.just_lang_names.proofs.TableLaws.{variable_is}

-- ---- the names of each variant

pub names_if : (a : Expr) (c : Comparison) (b d : Expr) (chained : Bool) (x : Expr) → names_of_expr (e.If a c b d chained x) ≡ names_of_expr a ++ (names_of_expr b ++ (names_of_expr d ++ names_of_expr x))
names_if a c b d chained x = ap names_of_expr (sym (e.rolls-If a c b d chained x)) ∙ fold-roll-Expr (List Name) names_of_parts (Expr-F.If a c b d chained x)

pub names_join : (a b : Expr) → names_of_expr (e.Join a b) ≡ names_of_expr a ++ names_of_expr b
names_join a b = ap names_of_expr (sym (e.rolls-Join a b)) ∙ fold-roll-Expr (List Name) names_of_parts (Expr-F.Join a b)

pub names_concat : (a b : Expr) → names_of_expr (e.Concat a b) ≡ names_of_expr a ++ names_of_expr b
names_concat a b = ap names_of_expr (sym (e.rolls-Concat a b)) ∙ fold-roll-Expr (List Name) names_of_parts (Expr-F.Concat a b)

pub names_env : (l c : ℕ) (a d : Expr) → names_of_expr (e.Env l c a (Some d)) ≡ names_of_expr a ++ names_of_expr d
names_env l c a d = ap names_of_expr (sym (e.rolls-Env l c a (Some d))) ∙ fold-roll-Expr (List Name) names_of_parts (Expr-F.Env l c a (Some d))

-- ---- scopes

-- a set of parameters makes the scope that they make
pub scope_is_with : (ps : List AstParameter) (names : ModuleNames) (set : Parameters) → AreParameters ps set → scope_with names set ≡ with_parameters ps (module_scope_of names)
scope_is_with ps names set h = λ i q. h q i || module_scope_of names q

-- one more parameter: what was found behind it, and what is still to come
pub defaults_step : (names : ModuleNames) (file : ℕ) (ps : List AstParameter) (i : ℕ) (p : AstParameter) (set : Parameters) (found here next : Option Spot) → i < length ps → p ≡ get_or ps i p
    → AreParameters (take i ps) set → here ≡ first_spot (unknown_in_default (scope_with names set) file p.default) → next ≡ earlier found here
    → earlier next (first_spot (unknown_in_defaults (module_scope_of names) file (take (i + 1) ps) (drop (i + 1) ps)))
    ≡ earlier found (first_spot (unknown_in_defaults (module_scope_of names) file (take i ps) (drop i ps)))
defaults_step names file ps i p set found here next less is are h k =
    ap (λ xs. earlier next (first_spot (unknown_in_defaults (module_scope_of names) file xs (drop (i + 1) ps)))) (take_here ps i p less is)
    ∙ ap (λ o. earlier o (first_spot (unknown_in_defaults (module_scope_of names) file (take i ps ++ p ∷ []) (drop (i + 1) ps))))
    (k ∙ ap (earlier found) (h ∙ ap (λ s. first_spot (unknown_in_default s file p.default)) (scope_is_with (take i ps) names set are)))
    ∙ sym (first_behind found (unknown_in_default (with_parameters (take i ps) (module_scope_of names)) file p.default) (unknown_in_defaults (module_scope_of names) file (take i ps ++ p ∷ []) (drop (i + 1) ps)))
    ∙ ap (λ xs. earlier found (first_spot (unknown_in_defaults (module_scope_of names) file (take i ps) xs))) (sym (drop_here ps i p less is))

-- what stands behind the parameters, which the set has
pub behind_is : (names : ModuleNames) (set : Parameters) (file : ℕ) (r : AstRecipe) (here : Option Spot) → AreParameters r.parameters set
    → here ≡ first_spot (unknown_behind (scope_with names set) file r) → here ≡ first_spot (unknown_behind (with_parameters r.parameters (module_scope_of names)) file r)
behind_is names set file r here are h = h ∙ ap (λ s. first_spot (unknown_behind s file r)) (scope_is_with r.parameters names set are)

-- an expression outside recipes
pub outside_is : (names : ModuleNames) (set : Parameters) (file : ℕ) (x : Expr) (here : Option Spot) → AreParameters [] set
    → here ≡ first_spot (unknown_names (scope_with names set) file x) → here ≡ first_spot (unknown_names (module_scope_of names) file x)
outside_is names set file x here are h = h ∙ ap (λ s. first_spot (unknown_names s file x)) (scope_is_with [] names set are)

-- ---- modules

-- the table's scope is the module's
pub scope_is : (wins : Wins) (files : List File) (m : Module) (n : ModuleNames) → IsModuleNames wins files m n → module_scope_of n ≡ module_scope wins files m
scope_is wins files m n h = λ i q. (variable_is (standing_variable_items wins files m) q _ (h.variable_places_are q)) i || is_some (constant_of q)

-- what stands in the tables of a module stands in the module
module_is : (wins : Wins) (files : List File) (m : Module) (n : ModuleNames) → IsModuleNames wins files m n → unknown_in_names n ≡ undefined_in_module wins files m
module_is wins files m n h =
    ap (λ s. flat_map (unknown_in_item s) (entries n.variables.items) ++ flat_map (unknown_in_item s) (entries n.recipes.items)) (scope_is wins files m n h)
    ∙ ap (λ xs. flat_map (unknown_in_item (module_scope wins files m)) xs ++ flat_map (unknown_in_item (module_scope wins files m)) (entries n.recipes.items)) h.variables_are
    ∙ ap (λ xs. flat_map (unknown_in_item (module_scope wins files m)) (standing_variable_items wins files m) ++ flat_map (unknown_in_item (module_scope wins files m)) xs) h.recipes_are

-- and so for all modules
pub undefined_is : (wins : Wins) (files : List File) (ms : List Module) (ns : List ModuleNames) → AreModuleNames wins files ms ns → flat_map unknown_in_names ns ≡ flat_map (undefined_in_module wins files) ms
undefined_is wins files [] [] h = refl
undefined_is wins files [] (n ∷ ns) h = absurd h
undefined_is wins files (m ∷ ms) [] h = absurd h
undefined_is wins files (m ∷ ms) (n ∷ ns) h =
    ap (λ ys. ys ++ flat_map unknown_in_names ns) (module_is wins files m n h.0) ∙ ap (λ ys. undefined_in_module wins files m ++ ys) (undefined_is wins files ms ns h.1)
