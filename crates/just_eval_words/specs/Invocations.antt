-- The keys that words ask for.
use Rattle.std.specs.Prelude.{◌≡◌, Bool, true, false, List, [], ◌∷◌, length, map, Option, Some, None, Ok, Err, Contains}
use Rattle.just_lang_types.specs.declared.key.Key.{Key}
use Rattle.just_lang_types.specs.declared.scope.Scopes.{Scopes}
use Rattle.just_lang_types.specs.declared.project.Justfile.{Justfile}
use Rattle.just_lang_types.specs.declared.project.LangError.{LangError}
use Rattle.just_lang_types.specs.declared.project.LangError.TheVariants as error
use Rattle.just_eval_closure.specs.Answers.{Answer, and_then}
use Rattle.just_lang_types.specs.Modules.{Located, located}
use Rattle.just_eval_closure.specs.Dependencies.{values_given}
use Rattle.just_eval_words.specs.Given.{words_given}
use Rattle.just_eval_words.specs.Paths.{Word}
use Rattle.just_eval_words.specs.Targets.{chosen}

-- a parameter that is given no word is given nothing
abbrev pub as_given : List Word → Option (List Word)
as_given [] = None
as_given (v ∷ vs) = Some (v ∷ vs)

module _ (scopes : Scopes) where
  -- the key of a recipe, with the values of what its parameters are given
  abbrev pub key_of : Located → List (List Word) → Answer Key
  key_of l given = and_then (values_given scopes l (map as_given given)) (λ values. Ok (record { recipe = l.recipe.path; arguments = values }))

  -- the key of a recipe with the words behind its path, and the words that are left
  abbrev pub key_behind : Located → List Word → Answer (Key × List Word)
  key_behind l ws = and_then (words_given l.recipe ws) (λ g. and_then (key_of l g.0) (λ k. Ok (k, g.1)))

module _ (modules : List Justfile) (scopes : Scopes) where
  -- the key that the first of some words ask for, and the words that are left
  abbrev pub first_key : Justfile → List Word → Answer (Key × List Word)
  first_key root ws = and_then (chosen modules ws root) (λ c. key_behind scopes c.0 c.1)

  -- The keys that words ask for: one, and where it leaves words those that these ask for; the first refusal counts.
  pub data Invokes (root : Justfile) : List Word → Answer (List Key) → Type 0 where
    refused : (ws : List Word) (e : LangError) → first_key root ws ≡ Err e → Invokes root ws (Err e)
    last : (ws : List Word) (k : Key) → first_key root ws ≡ Ok (k, []) → Invokes root ws (Ok (k ∷ []))
    more : (ws vs : List Word) (w : Word) (k : Key) (others : Answer (List Key)) → first_key root ws ≡ Ok (k, w ∷ vs) → Invokes root (w ∷ vs) others
        → Invokes root ws (and_then others (λ ks. Ok (k ∷ ks)))

-- a key names a recipe of these modules, with one value for each of its parameters
pub record NamesRecipe (modules : List Justfile) (k : Key) : Type 0 where
  pub found : Located
  pub among : Contains (located modules) found
  pub path : k.recipe ≡ found.recipe.path
  pub values : length k.arguments ≡ length found.recipe.parameters

-- where one invocation alone is wanted, more are refused
abbrev pub within_one : Bool → List Key → Answer (List Key)
within_one false ks = Ok ks
within_one true [] = Ok []
within_one true (k ∷ []) = Ok (k ∷ [])
within_one true (k ∷ l ∷ ks) = Err (error.ExcessInvocations (length (k ∷ l ∷ ks)))

-- words ask for one thing
abbrev pub InvocationsAgree : Type 0
InvocationsAgree = (modules : List Justfile) (scopes : Scopes) (root : Justfile) (ws : List Word) (a b : Answer (List Key)) → Invokes modules scopes root ws a → Invokes modules scopes root ws b → a ≡ b
