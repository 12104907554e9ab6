-- The plan of a key, step by step.
use Rattle.std.proofs.Common.{◌≡◌, ◌≢◌, ℕ, List, Option, Some, None, Ok, Err, sym, ap, ◌∙◌, subst}
use Rattle.just_lang_types.specs.declared.key.Key.{Key}
use Rattle.just_lang_types.specs.declared.key.Value.{Value}
use Rattle.just_lang_types.specs.declared.node.BodyLine.{BodyLine}
use Rattle.just_lang_types.specs.declared.project.Justfile.{Justfile}
use Rattle.just_lang_types.specs.declared.project.LangError.{LangError}
use Rattle.just_lang_types.specs.declared.project.LangError.TheVariants as lang
use Rattle.just_lang_types.specs.declared.scope.Scopes.{Scopes}
use Rattle.just_lang_types.specs.Modules.{Located, recipe_at}
use Rattle.just_eval_closure.specs.Answers.{Answer}
use Rattle.just_eval_closure.specs.declared.entry.Entry.{Entry}
use Rattle.just_eval_closure.specs.Entries.{located_of, Sees, IsFound}
use Rattle.just_env.specs.Changes.{Change}
use Rattle.just_exec_work.specs.declared.run_flags.RunFlags.{RunFlags}
use Rattle.just_exec_work.specs.Works.{Run}
use Rattle.just_eval.specs.Bodies.{lines_of_recipe}
use Rattle.just_exec.specs.declared.node_plan.NodePlan.{NodePlan}
use Rattle.just_exec.specs.declared.plan_error.PlanError.{PlanError}
use Rattle.just_exec.specs.declared.plan_error.PlanError.TheVariants as error
use Rattle.just_exec.specs.Plans.{PlanAnswer, GivesPlan, then_plan, running, run_plan, no_plan}
use Rattle.just_cli_plan.specs.Planned.{changes_in, entry_changes, recipe_plan, key_plan}
use Rattle.just_cli_plan.proofs.Found.{found_is, entry_change}

-- ---- of a recipe that was found

module _ (flags : RunFlags) (folder : List ℕ) (scopes : Scopes) (values : List Value) (from : Located) where
  -- what is planned by the lines of its body
  abbrev by_body : List BodyLine → PlanAnswer NodePlan
  by_body lines = run_plan scopes from (running flags from values (changes_in scopes values from)) folder lines

  by_lines : (a : Answer (List BodyLine)) → lines_of_recipe scopes from values ≡ a → recipe_plan flags folder scopes values (Some from) ≡ then_plan (λ e. error.Lang e) a by_body
  by_lines a is = ap (λ b. then_plan (λ e. error.Lang e) b by_body) is

  pub lines_refused : (e : LangError) (p : PlanError) → (e ≢ lang.NoMemory → lines_of_recipe scopes from values ≡ Err e) → p ≡ error.Lang e → GivesPlan (recipe_plan flags folder scopes values (Some from)) (Err p)
  lines_refused e p refused told not _ = by_lines (Err e) (refused (λ is. not (told ∙ ap (λ x. error.Lang x) is))) ∙ ap (λ q. Err q) (sym told)

-- what is given of the run is given of the recipe
pub recipe_given : (flags : RunFlags) (folder : List ℕ) (scopes : Scopes) (values : List Value) (from : Entry) → Sees scopes from
    → (lines body : List BodyLine) (given told : List Change) (run : Run) (r : PlanAnswer NodePlan)
    → lines_of_recipe scopes (located_of from) values ≡ Ok lines → body ≡ lines → given ≡ entry_changes from values → told ≡ given → run ≡ running flags (located_of from) values told
    → GivesPlan (run_plan scopes (located_of from) run folder body) r → GivesPlan (recipe_plan flags folder scopes values (Some (located_of from))) r
recipe_given flags folder scopes values from sees lines body given told run r are body_is given_is told_is run_is gives =
    let changes_are : told ≡ changes_in scopes values (located_of from) = told_is ∙ given_is ∙ entry_change scopes values from sees in
    subst (λ a. GivesPlan a r)
    (ap (λ (b : List BodyLine). run_plan scopes (located_of from) run folder b) body_is ∙ ap (λ (x : Run). run_plan scopes (located_of from) x folder lines) run_is
    ∙ ap (λ (cs : List Change). run_plan scopes (located_of from) (running flags (located_of from) values cs) folder lines) changes_are
    ∙ sym (by_lines flags folder scopes values (located_of from) (Ok lines) are)) gives

-- ---- of a key

module _ (flags : RunFlags) (folder : List ℕ) (modules : List Justfile) (scopes : Scopes) (k : Key) where
  -- nothing is run where no recipe is
  pub no_recipe : IsFound scopes None (recipe_at modules k.recipe) → key_plan flags folder modules scopes k ≡ Ok no_plan
  no_recipe found = ap (λ o. recipe_plan flags folder scopes k.arguments o) (sym (found_is scopes None (recipe_at modules k.recipe) found))

  -- what is given of the recipe that was found is given of the key
  pub key_given : (from : Entry) (values : List Value) (r : PlanAnswer NodePlan) → IsFound scopes (Some from) (recipe_at modules k.recipe) → values ≡ k.arguments
      → GivesPlan (recipe_plan flags folder scopes values (Some (located_of from))) r → GivesPlan (key_plan flags folder modules scopes k) r
  key_given from values r found same gives =
      subst (λ a. GivesPlan a r)
      (ap (λ (vs : List Value). recipe_plan flags folder scopes vs (Some (located_of from))) same
      ∙ ap (λ (o : Option Located). recipe_plan flags folder scopes k.arguments o) (found_is scopes (Some from) (recipe_at modules k.recipe) found)) gives
