-- What is found, as what is answered: by a climb, and as the user's own justfile.
use Rattle.std.proofs.Common.{◌≡◌, ◌⊎◌, inl, inr, ℕ, List, [], ◌++◌, Option, refl, ap, sym, ◌∙◌, subst, append_assoc}
use Rattle.std.specs.Prelude.{Result, Ok, Err}
use Rattle.std.proofs.lemmas.List.{append-nil}
use Rattle.just_path_text.specs.declared.environ.Environ.{Environ}
use Rattle.just_host_record.specs.declared.entry.Entry.{Entry}
use Rattle.just_host_record.specs.World.{World}
use Rattle.just_config.specs.declared.config.Config.{Config}
use Rattle.just_env.specs.declared.search_error.SearchError.{SearchError}
use Rattle.just_env.specs.declared.search_error.SearchError.TheVariants as error
use Rattle.just_env.specs.Answers.{Answers, GivesEnviron, entries_of, told_entries}
use Rattle.just_search.specs.declared.location.Location.{Location}
use Rattle.just_search.specs.Climb.{folders_from, folders_above, FindsIn}
use Rattle.just_search.specs.Finding.{wanted_names, as_file, as_origin, own_file, FindsFrom, FindsOwnOver, FindsOwn, FindsAbove}
use Rattle.just_search.specs.Global.{FindsGlobal}
use Rattle.just_search.specs.Listing.{GainsListings}
use Rattle.just_search.specs.Record.{Leaves, GainsLast}
use Rattle.just_search.specs.Root.{FindsRoot}
use Rattle.just_search.proofs.Listings.{listings_none, listings_then}

-- ---- by a climb

pub invocation_found : (told : Option World) (config : Config) (start given file : List ℕ) (location : Location) → start ≡ given → FindsIn told (wanted_names config) (folders_from config.ceiling start) (Ok file) → location ≡ as_origin file → FindsFrom told config given as_origin (Ok location)
invocation_found told config start given file location at_start found is = (Ok file, subst (λ x. FindsIn told (wanted_names config) (folders_from config.ceiling x) (Ok file)) at_start found, ap (λ x. Ok x) is)

pub folder_found : (told : Option World) (config : Config) (start given file : List ℕ) (location : Location) → start ≡ given → FindsIn told (wanted_names config) (folders_from config.ceiling start) (Ok file) → location ≡ as_file file → FindsFrom told config given as_file (Ok location)
folder_found told config start given file location at_start found is = (Ok file, subst (λ x. FindsIn told (wanted_names config) (folders_from config.ceiling x) (Ok file)) at_start found, ap (λ x. Ok x) is)

pub from_refused : (told : Option World) (config : Config) (start given : List ℕ) (f : List ℕ → Location) (e : SearchError) → start ≡ given → (e ≡ error.NoMemory) ⊎ FindsIn told (wanted_names config) (folders_from config.ceiling start) (Err e) → (e ≡ error.NoMemory) ⊎ FindsFrom told config given f (Err e)
from_refused told config start given f e at_start (inl memory) = inl memory
from_refused told config start given f e at_start (inr found) = inr (Err e, subst (λ x. FindsIn told (wanted_names config) (folders_from config.ceiling x) (Err e)) at_start found, refl)

pub from_given : (told : Option World) (config : Config) (start given : List ℕ) (f : List ℕ → Location) (r : Result Location SearchError) → start ≡ given → Answers (FindsFrom told config start f) r → Answers (FindsFrom told config given f) r
from_given told config start given f r at_start found = subst (λ x. Answers (FindsFrom told config x f) r) at_start found

pub above_found : (told : Option World) (config : Config) (folder file : List ℕ) (location : Location) → FindsIn told (wanted_names config) (folders_above config.ceiling folder) (Ok file) → location ≡ as_origin file → FindsAbove told config folder (Ok location)
above_found told config folder file location found is = (Ok file, found, ap (λ x. Ok x) is)

pub above_refused : (told : Option World) (config : Config) (folder : List ℕ) (e : SearchError) → (e ≡ error.NoMemory) ⊎ FindsIn told (wanted_names config) (folders_above config.ceiling folder) (Err e) → (e ≡ error.NoMemory) ⊎ FindsAbove told config folder (Err e)
above_refused told config folder e (inl memory) = inl memory
above_refused told config folder e (inr found) = inr (Err e, found, refl)

-- ---- the user's own

pub own_nowhere : (told : Option World) (config : Config) (environ : List (List ℕ × List ℕ)) (old new : List Entry) (e : SearchError) → (e ≡ error.NoMemory) ⊎ Leaves (λ gained. FindsGlobal told environ gained (Err e)) old new
    → (e ≡ error.NoMemory) ⊎ Leaves (λ gained. FindsOwnOver told config environ gained (Err e)) old new
own_nowhere told config environ old new e (inl memory) = inl memory
own_nowhere told config environ old new e (inr found) = inr (found.0, found.1, FindsOwnOver.nowhere e found.2 refl)

rooted : (told now : Option World) (config : Config) (start : List ℕ) (root : Result (List ℕ) SearchError) → now ≡ told → start ≡ config.invocation_directory → FindsRoot now config.ceiling start root → FindsRoot told config.ceiling config.invocation_directory root
rooted told now config start root same at_start found = subst (λ t. FindsRoot t config.ceiling config.invocation_directory root) same (subst (λ x. FindsRoot now config.ceiling x root) at_start found)

behind : (old middle new more last : List Entry) → middle ≡ old ++ more → new ≡ middle ++ last → new ≡ old ++ (more ++ last)
behind old middle new more last before after = after ∙ ap (λ es. es ++ last) before ∙ append_assoc old more last

pub own_at_place : (told now : Option World) (config : Config) (environ : List (List ℕ × List ℕ)) (old middle new : List Entry) (file folder start : List ℕ) → now ≡ told → start ≡ config.invocation_directory
    → Leaves (λ gained. FindsGlobal told environ gained (Ok file)) old middle → FindsRoot now config.ceiling start (Ok folder) → new ≡ middle ++ [] → Leaves (λ gained. FindsOwnOver told config environ gained (Ok (own_file file folder))) old new
own_at_place told now config environ old middle new file folder start same at_start found root is = (
  found.0 ++ [],
  behind old middle new found.0 [] found.1 is,
  FindsOwnOver.at_place found.0 file (Ok folder) found.2 (rooted told now config start (Ok folder) same at_start root) refl refl,
)

pub own_without_root : (told now : Option World) (config : Config) (environ : List (List ℕ × List ℕ)) (old middle new : List Entry) (file start : List ℕ) (e : SearchError) → now ≡ told → start ≡ config.invocation_directory
    → Leaves (λ gained. FindsGlobal told environ gained (Ok file)) old middle → (e ≡ error.NoMemory) ⊎ FindsRoot now config.ceiling start (Err e) → new ≡ middle ++ entries_of e
    → (e ≡ error.NoMemory) ⊎ Leaves (λ gained. FindsOwnOver told config environ gained (Err e)) old new
own_without_root told now config environ old middle new file start e same at_start found (inl memory) is = inl memory
own_without_root told now config environ old middle new file start e same at_start found (inr root) is =
    inr (
      found.0 ++ entries_of e,
      behind old middle new found.0 (entries_of e) found.1 is,
      FindsOwnOver.at_place found.0 file (Err e) found.2 (rooted told now config start (Err e) same at_start root) refl refl,
    )

pub own_no_environ : (told : Option World) (config : Config) (old new : List Entry) (e : SearchError) → (e ≡ error.NoMemory) ⊎ GivesEnviron told (Err e) → new ≡ old ++ entries_of e → (e ≡ error.NoMemory) ⊎ Leaves (λ gained. FindsOwn told config gained (Err e)) old new
own_no_environ told config old new e (inl memory) is = inl memory
own_no_environ told config old new e (inr environ) is = inr (entries_of e, is, FindsOwn.no_environ e environ refl refl)

own_over : (told now : Option World) (config : Config) (environ : Environ) (old middle new : List Entry) (r : Result Location SearchError) → now ≡ told → GivesEnviron told (Ok environ) → middle ≡ old ++ []
    → Leaves (λ gained. FindsOwnOver now config environ.pairs gained r) middle new → Leaves (λ gained. FindsOwn told config gained r) old new
own_over told now config environ old middle new r same gives is found =
    (found.0, found.1 ∙ ap (λ es. es ++ found.0) (is ∙ append-nil old), FindsOwn.over_environ environ gives (subst (λ t. FindsOwnOver t config environ.pairs found.0 r) same found.2))

pub own_over_environ : (told now : Option World) (config : Config) (environ : Environ) (old middle new : List Entry) (r : Result Location SearchError) → now ≡ told → GivesEnviron told (Ok environ) → middle ≡ old ++ []
    → Answers (λ x. Leaves (λ gained. FindsOwnOver now config environ.pairs gained x) middle new) r → Answers (λ x. Leaves (λ gained. FindsOwn told config gained x) old new) r
own_over_environ told now config environ old middle new (Ok location) same gives is found = own_over told now config environ old middle new (Ok location) same gives is found
own_over_environ told now config environ old middle new (Err e) same gives is (inl memory) = inl memory
own_over_environ told now config environ old middle new (Err e) same gives is (inr found) = inr (own_over told now config environ old middle new (Err e) same gives is found)

-- ---- the record

-- one call alone
pub last_alone : (old new : List Entry) (e : SearchError) → new ≡ old ++ entries_of e → GainsLast {A = Location} old new (Err e)
last_alone old new e is = (old, listings_none old, is)

-- a refusal that leaves no entry of its own
pub last_unheard : (old new : List Entry) (e : SearchError) → GainsListings old new → entries_of e ≡ [] → GainsLast {A = Location} old new (Err e)
last_unheard old new e gained none = (new, gained, sym (append-nil new) ∙ ap (λ es. new ++ es) (sym none))

-- a call behind listings that were refused
pub last_told : (old middle new : List Entry) (r : Result Location SearchError) → GainsListings old middle → new ≡ middle ++ told_entries r → GainsLast old new r
last_told old middle new r gained is = (middle, gained, is)

-- behind a call that leaves nothing
pub last_behind : (old middle new : List Entry) (r : Result Location SearchError) → middle ≡ old ++ [] → GainsLast middle new r → GainsLast old new r
last_behind old middle new r is last = (last.0, listings_then old middle last.0 ([], is, tt) last.1, last.2)
