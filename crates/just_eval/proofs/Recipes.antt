-- The lines of a recipe that was found.
use Rattle.std.proofs.Common.{◌≡◌, true, false, List, [], Option, Some, None, Ok, refl, sym, ap}
use Rattle.std.specs.Prelude.{if◌then◌else◌}
use Rattle.std.specs.List.{filter}
use Rattle.just_lang_types.specs.declared.key.Key.{Key}
use Rattle.just_lang_types.specs.declared.key.Value.{Value}
use Rattle.just_lang_types.specs.declared.scope.Scopes.{Scopes}
use Rattle.just_lang_types.specs.declared.project.Justfile.{Justfile}
use Rattle.just_eval_closure.specs.Answers.{each}
use Rattle.just_lang_types.specs.Modules.{Located, recipe_at}
use Rattle.just_eval_closure.specs.declared.entry.Entry.{Entry}
use Rattle.just_eval_closure.specs.Entries.{located_of, IsFound}
use Rattle.just_eval.specs.Bodies.{joined, script_line, command_line, is_run, lines_of_recipe, lines_in, body_lines}

module _ (scopes : Scopes) (from : Located) (values : List Value) where
  pub script_lines_are : from.recipe.script ≡ true → lines_of_recipe scopes from values ≡ each (script_line scopes from values) from.recipe.body
  script_lines_are h =
      ap (λ b. if b then each (script_line scopes from values) from.recipe.body else each (command_line scopes from values) (filter (is_run from) (joined from.recipe.body))) h

  pub command_lines_are : from.recipe.script ≡ false → lines_of_recipe scopes from values ≡ each (command_line scopes from values) (filter (is_run from) (joined from.recipe.body))
  command_lines_are h =
      ap (λ b. if b then each (script_line scopes from values) from.recipe.body else each (command_line scopes from values) (filter (is_run from) (joined from.recipe.body))) h

nothing_there : (scopes : Scopes) (o : Option Located) → IsFound scopes None o → o ≡ None
nothing_there scopes None h = refl
nothing_there scopes (Some l) h = absurd h

something_there : (scopes : Scopes) (e : Entry) (o : Option Located) → IsFound scopes (Some e) o → o ≡ Some (located_of e)
something_there scopes e None h = absurd h
something_there scopes e (Some l) h = ap (λ k. Some k) (sym h.0)

module _ (ms : List Justfile) (scopes : Scopes) (k : Key) where
  pub no_recipe : IsFound scopes None (recipe_at ms k.recipe) → body_lines ms scopes k ≡ Ok []
  no_recipe found = ap (lines_in scopes k.arguments) (nothing_there scopes (recipe_at ms k.recipe) found)

  pub recipe_there : (e : Entry) → IsFound scopes (Some e) (recipe_at ms k.recipe) → body_lines ms scopes k ≡ lines_of_recipe scopes (located_of e) k.arguments
  recipe_there e found = ap (lines_in scopes k.arguments) (something_there scopes e (recipe_at ms k.recipe) found)
