-- The key of a dependency, and the keys around a key, step by step.
use Rattle.std.proofs.Common.{◌≡◌, ℕ, List, [], Option, Some, None, Ok, Err, refl, sym, ap, ◌∙◌}
use Rattle.just_lang_types.specs.declared.key.Key.{Key}
use Rattle.just_lang_types.specs.declared.key.Value.{Value}
use Rattle.just_lang_types.specs.declared.recipe.Dependency.{Dependency}
use Rattle.just_lang_types.specs.declared.scope.Scopes.{Scopes}
use Rattle.just_lang_types.specs.declared.project.Justfile.{Justfile}
use Rattle.just_lang_types.specs.declared.project.LangError.{LangError}
use Rattle.just_eval_closure.specs.Answers.{Answer, and_then, each}
use Rattle.just_lang_types.specs.Modules.{Located, recipe_at}
use Rattle.just_eval_closure.specs.declared.entry.Entry.{Entry}
use Rattle.just_eval_closure.specs.Dependencies.{argument, shares, values_given, key_to, key_of, keys_of, deps}
use Rattle.just_eval_closure.specs.Entries.{located_of, IsFound}

-- nothing was found where there is nothing, and what was found is there
nothing_there : (scopes : Scopes) (o : Option Located) → IsFound scopes None o → o ≡ None
nothing_there scopes None h = refl
nothing_there scopes (Some l) h = absurd h

something_there : (scopes : Scopes) (e : Entry) (o : Option Located) → IsFound scopes (Some e) o → o ≡ Some (located_of e)
something_there scopes e None h = absurd h
something_there scopes e (Some l) h = ap (λ k. Some k) (sym h.0)

module _ (ms : List Justfile) (scopes : Scopes) (from : Located) (values : List Value) (d : Dependency) where
  key_by : (a : Answer (List Value)) → each (argument scopes from values) d.arguments ≡ a → key_of ms scopes from values d ≡ and_then a (λ arguments. key_to ms scopes d.path arguments (recipe_at ms d.path))
  key_by a is = ap (λ b. and_then b (λ arguments. key_to ms scopes d.path arguments (recipe_at ms d.path))) is

  pub key_refused : (e : LangError) → each (argument scopes from values) d.arguments ≡ Err e → key_of ms scopes from values d ≡ Err e
  key_refused e is = key_by (Err e) is

  pub key_none : (given : List Value) → each (argument scopes from values) d.arguments ≡ Ok given → IsFound scopes None (recipe_at ms d.path) → key_of ms scopes from values d ≡ Ok (record { recipe = d.path; arguments = given })
  key_none given is found = key_by (Ok given) is ∙ ap (λ o. key_to ms scopes d.path given o) (nothing_there scopes (recipe_at ms d.path) found)

  key_some_by : (to : Entry) (given : List Value) → each (argument scopes from values) d.arguments ≡ Ok given → IsFound scopes (Some to) (recipe_at ms d.path)
      → key_of ms scopes from values d ≡ and_then (values_given scopes (located_of to) (shares to.recipe.now.parameters given)) (λ vs. Ok (record { recipe = d.path; arguments = vs }))
  key_some_by to given is found = key_by (Ok given) is ∙ ap (λ o. key_to ms scopes d.path given o) (something_there scopes to (recipe_at ms d.path) found)

  pub key_some : (to : Entry) (given vs : List Value) (taken : List (Option (List (List ℕ)))) → each (argument scopes from values) d.arguments ≡ Ok given → IsFound scopes (Some to) (recipe_at ms d.path) → taken ≡ shares to.recipe.now.parameters given
      → values_given scopes (located_of to) taken ≡ Ok vs → key_of ms scopes from values d ≡ Ok (record { recipe = d.path; arguments = vs })
  key_some to given vs taken is found are all = key_some_by to given is found ∙ ap (λ a. and_then a (λ us. Ok (record { recipe = d.path; arguments = us }))) (ap (λ ts. values_given scopes (located_of to) ts) (sym are) ∙ all)

  pub key_values_refused : (to : Entry) (given : List Value) (taken : List (Option (List (List ℕ)))) (e : LangError) → each (argument scopes from values) d.arguments ≡ Ok given → IsFound scopes (Some to) (recipe_at ms d.path) → taken ≡ shares to.recipe.now.parameters given
      → values_given scopes (located_of to) taken ≡ Err e → key_of ms scopes from values d ≡ Err e
  key_values_refused to given taken e is found are refused = key_some_by to given is found ∙ ap (λ a. and_then a (λ us. Ok (record { recipe = d.path; arguments = us }))) (ap (λ ts. values_given scopes (located_of to) ts) (sym are) ∙ refused)

module _ (ms : List Justfile) (scopes : Scopes) (k : Key) where
  pub deps_none : IsFound scopes None (recipe_at ms k.recipe) → deps ms scopes k ≡ Ok ([], [])
  deps_none found = ap (λ o. keys_of ms scopes o k.arguments) (nothing_there scopes (recipe_at ms k.recipe) found)

  module _ (from : Entry) (found : IsFound scopes (Some from) (recipe_at ms k.recipe)) where
    deps_by : deps ms scopes k
        ≡ and_then (each (key_of ms scopes (located_of from) k.arguments) from.recipe.now.priors) (λ priors. and_then (each (key_of ms scopes (located_of from) k.arguments) from.recipe.now.subsequents) (λ subsequents. Ok (priors, subsequents)))
    deps_by = ap (λ o. keys_of ms scopes o k.arguments) (something_there scopes from (recipe_at ms k.recipe) found)

    pub deps_priors_refused : (e : LangError) → each (key_of ms scopes (located_of from) k.arguments) from.recipe.now.priors ≡ Err e → deps ms scopes k ≡ Err e
    deps_priors_refused e is = deps_by ∙ ap (λ a. and_then a (λ priors. and_then (each (key_of ms scopes (located_of from) k.arguments) from.recipe.now.subsequents) (λ subsequents. Ok (priors, subsequents)))) is

    pub deps_subsequents_refused : (ps : List Key) (e : LangError) → each (key_of ms scopes (located_of from) k.arguments) from.recipe.now.priors ≡ Ok ps → each (key_of ms scopes (located_of from) k.arguments) from.recipe.now.subsequents ≡ Err e → deps ms scopes k ≡ Err e
    deps_subsequents_refused ps e is are =
        deps_by ∙ ap (λ a. and_then a (λ priors. and_then (each (key_of ms scopes (located_of from) k.arguments) from.recipe.now.subsequents) (λ subsequents. Ok (priors, subsequents)))) is ∙ ap (λ a. and_then a (λ subsequents. Ok (ps, subsequents))) are

    pub deps_some : (ps ss : List Key) → each (key_of ms scopes (located_of from) k.arguments) from.recipe.now.priors ≡ Ok ps → each (key_of ms scopes (located_of from) k.arguments) from.recipe.now.subsequents ≡ Ok ss → deps ms scopes k ≡ Ok (ps, ss)
    deps_some ps ss is are =
        deps_by ∙ ap (λ a. and_then a (λ priors. and_then (each (key_of ms scopes (located_of from) k.arguments) from.recipe.now.subsequents) (λ subsequents. Ok (priors, subsequents)))) is ∙ ap (λ a. and_then a (λ subsequents. Ok (ps, subsequents))) are
