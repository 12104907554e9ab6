-- The key of one invocation, step by step.
use Rattle.std.proofs.Common.{◌≡◌, ℕ, ◌+◌, List, map, drop, drop-drop, Option, Ok, Err, sym, ap, ◌∙◌}
use Rattle.just_lang_types.specs.declared.key.Key.{Key}
use Rattle.just_lang_types.specs.declared.key.Value.{Value}
use Rattle.just_lang_types.specs.declared.scope.Scopes.{Scopes}
use Rattle.just_lang_types.specs.declared.project.Justfile.{Justfile}
use Rattle.just_lang_types.specs.declared.project.LangError.{LangError}
use Rattle.just_eval_closure.specs.Answers.{Answer, and_then}
use Rattle.just_lang_types.specs.Modules.{Located}
use Rattle.just_eval_closure.specs.Dependencies.{values_given}
use Rattle.just_eval_words.specs.Given.{words_given}
use Rattle.just_eval_words.specs.Paths.{Word}
use Rattle.just_eval_words.specs.Targets.{chosen}
use Rattle.just_eval_words.specs.Invocations.{as_given, key_of, key_behind, first_key}

module _ (scopes : Scopes) (l : Located) (ws : List Word) where
  abbrev by_values : List (List Word) → List Word → Answer (List Value) → Answer (Key × List Word)
  by_values given left a = and_then (and_then a (λ vs. Ok (record { recipe = l.recipe.path; arguments = vs }))) (λ k. Ok (k, left))

  abbrev by_words : Answer (List (List Word) × List Word) → Answer (Key × List Word)
  by_words a = and_then a (λ g. and_then (key_of scopes l g.0) (λ k. Ok (k, g.1)))

  pub words_refused : (e : LangError) → words_given l.recipe ws ≡ Err e → key_behind scopes l ws ≡ Err e
  words_refused e h = ap by_words h

  module _ (given : List (List Word)) (left : List Word) (h : words_given l.recipe ws ≡ Ok (given, left)) where
    -- the values of what is given, at the recipe with what its expressions see
    module _ (to : Located) (shares : List (Option (List Word))) (is : to ≡ l) (are : shares ≡ map as_given given) where
      values_here : values_given scopes l (map as_given given) ≡ values_given scopes to shares
      values_here = ap (λ t. values_given scopes t (map as_given given)) (sym is) ∙ ap (values_given scopes to) (sym are)

      pub values_refused : (e : LangError) → values_given scopes to shares ≡ Err e → key_behind scopes l ws ≡ Err e
      values_refused e k = ap by_words h ∙ ap (by_values given left) (values_here ∙ k)

      pub key_is : (vs : List Value) → values_given scopes to shares ≡ Ok vs → key_behind scopes l ws ≡ Ok (record { recipe = l.recipe.path; arguments = vs }, left)
      key_is vs k = ap by_words h ∙ ap (by_values given left) (values_here ∙ k)

pub drop_further : (p c : ℕ) (ws : List Word) → drop c (drop p ws) ≡ drop (p + c) ws
drop_further p c ws = drop-drop c p ws

module _ (ms : List Justfile) (scopes : Scopes) (root : Justfile) (ws : List Word) where
  abbrev by_path : Answer (Located × List Word) → Answer (Key × List Word)
  by_path a = and_then a (λ c. key_behind scopes c.0 c.1)

  pub path_refused : (e : LangError) → chosen ms ws root ≡ Err e → first_key ms scopes root ws ≡ Err e
  path_refused e h = ap by_path h

  module _ (l : Located) (p : ℕ) (h : chosen ms ws root ≡ Ok (l, drop p ws)) where
    pub key_refused : (e : LangError) → key_behind scopes l (drop p ws) ≡ Err e → first_key ms scopes root ws ≡ Err e
    key_refused e k = ap by_path h ∙ k

    pub first_is : (k : Key) (c : ℕ) → key_behind scopes l (drop p ws) ≡ Ok (k, drop c (drop p ws)) → first_key ms scopes root ws ≡ Ok (k, drop (p + c) ws)
    first_is k c is = ap by_path h ∙ is ∙ ap (λ vs. Ok (k, vs)) (drop_further p c ws)
