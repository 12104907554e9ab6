-- The closure of a request's keys.
use Rattle.std.specs.Prelude.{Bool, true, false, List, [], Ok}
use Rattle.just_lang_types.specs.declared.key.Key.{Key}
use Rattle.just_lang_types.specs.declared.scope.Scopes.{Scopes}
use Rattle.just_lang_types.specs.declared.project.Justfile.{Justfile}
use Rattle.just_eval_closure.specs.Visits.{Around}
use Rattle.just_eval_closure.specs.Dependencies.{deps}

-- the keys before and behind a key, which has none where dependencies are left out
abbrev pub around_of : Bool → List Justfile → Scopes → Key → Around
around_of true modules scopes key = Ok ([], [])
around_of false modules scopes key = deps modules scopes key
