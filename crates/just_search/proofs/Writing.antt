-- Where a justfile is to be written, as what is answered.
use Rattle.std.proofs.Common.{◌≡◌, ◌⊎◌, inl, inr, ℕ, List, Option, refl, ap, subst}
use Rattle.std.specs.Prelude.{Result, Ok, Err}
use Rattle.just_path.specs.Path.{pushed}
use Rattle.just_host_record.specs.World.{World}
use Rattle.just_config.specs.declared.config.Config.{Config}
use Rattle.just_env.specs.declared.search_error.SearchError.{SearchError}
use Rattle.just_env.specs.declared.search_error.SearchError.TheVariants as error
use Rattle.just_env.specs.Answers.{Answers}
use Rattle.just_search.specs.Root.{FindsRoot}
use Rattle.just_search.specs.declared.search_result.Search.{Search}
use Rattle.just_search.specs.Inits.{first_name, search_at, InitsIn}

pub init_rooted : (told : Option World) (config : Config) (start root : List ℕ) (search : Search) → FindsRoot told config.ceiling start (Ok root) → search ≡ search_at (pushed root (first_name config.justfile_name)) root → InitsIn told config start (Ok search)
init_rooted told config start root search found is = (Ok root, found, ap (λ x. Ok x) is)

pub init_unrooted : (told : Option World) (config : Config) (start : List ℕ) (e : SearchError) → (e ≡ error.NoMemory) ⊎ FindsRoot told config.ceiling start (Err e) → (e ≡ error.NoMemory) ⊎ InitsIn told config start (Err e)
init_unrooted told config start e (inl memory) = inl memory
init_unrooted told config start e (inr found) = inr (Err e, found, refl)

-- a given root of the search
pub inits_at : (told : Option World) (config : Config) (start given : List ℕ) (r : Result Search SearchError) → start ≡ given → Answers (InitsIn told config start) r → Answers (InitsIn told config given) r
inits_at told config start given r at_start found = subst (λ x. Answers (InitsIn told config x) r) at_start found
