-- What is said of a recipe that was found, or wasn't.
use Rattle.std.proofs.Common.{◌≡◌, ◌∙◌, List, Option, Some, None, option_map, refl, ap}
use Rattle.just_lang_types.specs.declared.key.Value.{Value}
use Rattle.just_lang_types.specs.declared.project.Justfile.{out-Justfile}
use Rattle.just_lang_types.specs.declared.scope.Scopes.{Scopes}
use Rattle.just_lang_types.specs.Modules.{path_of, settings_of, Located}
use Rattle.just_eval_closure.specs.Scopes.{levels_within, pairs_for}
use Rattle.just_eval_closure.specs.Entries.{located_of, Sees, IsFound}
use Rattle.just_eval_closure.specs.declared.entry.Entry.{Entry}
use Rattle.just_env.specs.Changes.{changes}
use Rattle.just_cli_plan.specs.Planned.{changes_in, entry_changes}

-- the recipe that was found is the one of the path
pub found_is : (scopes : Scopes) (found : Option Entry) (l : Option Located) → IsFound scopes found l → option_map located_of found ≡ l
found_is scopes None None is = refl
found_is scopes None (Some l) is = absurd is
found_is scopes (Some f) None is = absurd is
found_is scopes (Some f) (Some l) is = ap (λ x. Some x) is.0

-- and it sees what its module has
pub found_sees : (scopes : Scopes) (f : Entry) (l : Option Located) → IsFound scopes (Some f) l → Sees scopes f
found_sees scopes f None is = absurd is
found_sees scopes f (Some l) is = is.1

-- so by what it sees the same changes as by the scopes
pub entry_change : (scopes : Scopes) (values : List Value) (f : Entry) → Sees scopes f → entry_changes f values ≡ changes_in scopes values (located_of f)
entry_change scopes values f sees =
    ap (λ pairs. changes pairs (settings_of f.parent.now).export (out-Justfile f.parent.now).unexports (levels_within f.levels.now f.recipe.now.parameters values)) sees.pairs
    ∙ ap (λ levels. changes (pairs_for scopes.dotenv (path_of f.parent.now)) (settings_of f.parent.now).export (out-Justfile f.parent.now).unexports (levels_within levels f.recipe.now.parameters values)) sees.levels
