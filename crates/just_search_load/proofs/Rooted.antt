-- Loading from a root.
use Rattle.std.proofs.Common.{◌≡◌, ◌⊎◌, inl, inr, ℕ, List, [], ◌∷◌, Option, refl, ap, ◌∙◌, subst}
use Rattle.std.specs.Prelude.{Result, Ok, Err}
use Rattle.just_path_text.specs.declared.environ.Environ.{Environ}
use Rattle.just_lang_types.specs.declared.source.Source.{Source}
use Rattle.just_lang_layout.specs.Paths.{Pairs}
use Rattle.just_host_record.specs.World.{World}
use Rattle.just_env.specs.declared.search_error.SearchError.{SearchError}
use Rattle.just_env.specs.declared.search_error.SearchError.TheVariants as error
use Rattle.just_env.specs.Answers.{GivesEnviron}
use Rattle.just_search_load.specs.Loads.{Loads, LoadsAll, Ends, to_load}
use Rattle.just_search_load.proofs.Skipped.{top_first}

-- all that a stack of the root alone comes to
pub root_loads : (told : Option World) (before new : List Source) (root : List ℕ) (pending : List (List ℕ)) (environ : Pairs) (r : Result (Unit {0}) SearchError) → pending ≡ root ∷ [] → Ends (Loads told environ before (to_load pending)) new r → Ends (Loads told environ before (root ∷ [])) new r
root_loads told before new root pending environ (Ok x) is so = subst (λ ps. Loads told environ before ps (Ok new)) (ap to_load is ∙ top_first [] root) so
root_loads told before new root pending environ (Err e) is (inl memory) = inl memory
root_loads told before new root pending environ (Err e) is (inr so) = inr (subst (λ ps. Loads told environ before ps (Err e)) (ap to_load is ∙ top_first [] root) so)

-- a host that gives that environment
pub root_given : (told : Option World) (before new : List Source) (root : List ℕ) (environ : Environ) (r : Result (Unit {0}) SearchError) → GivesEnviron told (Ok environ) → Ends (Loads told environ.pairs before (root ∷ [])) new r → Ends (LoadsAll told before root) new r
root_given told before new root environ (Ok x) given so = LoadsAll.over_environ environ given so
root_given told before new root environ (Err e) given (inl memory) = inl memory
root_given told before new root environ (Err e) given (inr so) = inr (LoadsAll.over_environ environ given so)

-- a host that has no environment
pub root_unread : (told : Option World) (before : List Source) (root : List ℕ) (e : SearchError) → (e ≡ error.NoMemory) ⊎ GivesEnviron told (Err e) → (e ≡ error.NoMemory) ⊎ LoadsAll told before root (Err e)
root_unread told before root e (inl memory) = inl memory
root_unread told before root e (inr given) = inr (LoadsAll.no_environ e given refl)
