-- What one call of the host answers, as the cache tells it.
use Rattle.std.proofs.Common.{◌≡◌, ℕ, List, Option, Some, None, refl, ap, sym, ◌∙◌, subst, append-nil}
use Rattle.std.specs.Prelude.{Result, Ok, Err, IsErrAnd}
use Rattle.just_lang_types.specs.declared.recipe.Modulepath.{Modulepath}
use Rattle.just_host_record.specs.declared.entry.HostFault.{HostFault}
use Rattle.just_host_record.specs.declared.entry.HostFault.TheVariants as fault
use Rattle.just_host_record.specs.declared.entry.Look.{Look}
use Rattle.just_host_record.specs.Changes.{Changes, IsOfEntry, with_cache_entry, place_written, written}
use Rattle.just_host_record.specs.Looks.{LookTells}
use Rattle.just_host_record.specs.World.{Moment, World}
use Rattle.just_cache.specs.declared.cache_error.CacheError.{CacheError}
use Rattle.just_cache.specs.declared.cache_error.CacheError.TheVariants as error
use Rattle.just_cache.specs.declared.status.CacheStatus.{CacheStatus}
use Rattle.just_cache.specs.Errors.{entry_error}
use Rattle.just_cache.specs.Looks.{IsProbed, status_of, status_told, GivesStatus, ShowsStatus, IsSaved, Saves}

-- ---- the status

unprobed_world : (told : Option World) (path : List ℕ) → Changes {A = Look} (λ w. with_cache_entry w path) (λ w place. IsOfEntry w path place) told told (Err fault.NoMemory)
unprobed_world None path = refl
unprobed_world (Some w) path = refl

unprobed_shown : (told : Option World) (path : List ℕ) (outputs : List (List ℕ)) → LookTells told path outputs (Err fault.NoMemory)
unprobed_shown None path outputs = tt
unprobed_shown (Some w) path outputs = tt

-- want of memory leaves all as it was
pub status_unasked : (now : Moment) (path : List ℕ) (outputs : List (List ℕ)) (recipe : Modulepath) (r : Result CacheStatus CacheError) → IsErrAnd r (λ e. e ≡ error.NoMemory) → GivesStatus now now path outputs recipe r
status_unasked now path outputs recipe (Ok s) memory = absurd memory
status_unasked now path outputs recipe (Err e) memory = record {
  answer = Err fault.NoMemory;
  probed = record { entries = sym (append-nil now.entries); own = tt; shown = unprobed_shown now.world path outputs; world = unprobed_world now.world path };
  status = ap Err memory;
}

-- one look, or its refusal
pub status_looked : (before after : Moment) (path : List ℕ) (outputs : List (List ℕ)) (recipe : Modulepath) (l : Look) (named : List ℕ) (s : CacheStatus)
    → named ≡ path → s ≡ status_of named recipe l → IsProbed before after path outputs (Ok l) → GivesStatus before after path outputs recipe (Ok s)
status_looked before after path outputs recipe l named s at is probed = record {
  answer = Ok l;
  probed = probed;
  status = ap Ok (is ∙ ap (λ p. status_of p recipe l) at);
}

pub status_refused : (before after : Moment) (path : List ℕ) (outputs : List (List ℕ)) (recipe : Modulepath) (f : HostFault) (named : List ℕ) (e : CacheError)
    → named ≡ path → e ≡ entry_error named f → IsProbed before after path outputs (Err f) → GivesStatus before after path outputs recipe (Err e)
status_refused before after path outputs recipe f named e at is probed = record {
  answer = Err f;
  probed = probed;
  status = ap Err (is ∙ ap (λ p. entry_error p f) at);
}

-- the same at the entry's place
pub status_moved : (before after : Moment) (place path : List ℕ) (outputs : List (List ℕ)) (copy recipe : Modulepath) (r : Result CacheStatus CacheError)
    → GivesStatus before after place outputs copy r → place ≡ path → copy ≡ recipe → GivesStatus before after path outputs recipe r
status_moved before after place path outputs copy recipe r h at same =
    subst (λ p. GivesStatus before after p outputs recipe r) at (subst (λ m. GivesStatus before after place outputs m r) same h)

-- so over a told world the status is by the entry's bytes and the outputs
shown_by : (told : Option World) (path : List ℕ) (outputs : List (List ℕ)) (recipe : Modulepath) (answer : Result Look HostFault) (s : CacheStatus)
    → LookTells told path outputs answer → Ok s ≡ status_told path recipe answer → ShowsStatus told path outputs recipe (Ok s)
shown_by None path outputs recipe answer s shown is = tt
shown_by (Some w) path outputs recipe (Ok l) s shown is =
    let same : s ≡ status_of path recipe l = cc in same ∙ ap (λ k. status_of path recipe k) shown
shown_by (Some w) path outputs recipe (Err f) s shown is = absurd (let no : ⊥ = cc in no)

pub status_shows : (before after : Moment) (path : List ℕ) (outputs : List (List ℕ)) (recipe : Modulepath) (r : Result CacheStatus CacheError)
    → GivesStatus before after path outputs recipe r → ShowsStatus before.world path outputs recipe r
status_shows before after path outputs recipe (Ok s) h = shown_by before.world path outputs recipe h.answer s h.probed.shown h.status
status_shows before after path outputs recipe (Err e) h = tt

pub status_unshown : (told : Option World) (path : List ℕ) (outputs : List (List ℕ)) (recipe : Modulepath) (r : Result CacheStatus CacheError) → IsErrAnd r (λ e. e ≡ error.NoMemory) → ShowsStatus told path outputs recipe r
status_unshown told path outputs recipe (Ok s) memory = absurd memory
status_unshown told path outputs recipe (Err e) memory = tt

-- ---- what is saved

unsaved_world : (told : Option World) (path bytes : List ℕ) → Changes {A = Unit {0}} (λ w. written w path bytes) (λ w place. place_written w path ≡ Ok place) told told (Err fault.NoMemory)
unsaved_world None path bytes = refl
unsaved_world (Some w) path bytes = refl

pub save_unasked : (now : Moment) (path bytes : List ℕ) (r : Result (Unit {0}) CacheError) → IsErrAnd r (λ e. e ≡ error.NoMemory) → Saves now now path bytes r
save_unasked now path bytes (Ok done) memory = absurd memory
save_unasked now path bytes (Err e) memory = record {
  answer = Err fault.NoMemory;
  saved = record { entries = sym (append-nil now.entries); own = tt; world = unsaved_world now.world path bytes };
  result_is = ap Err memory;
}

-- one save of a text's bytes, or its refusal
pub save_done : (before after : Moment) (path text bytes : List ℕ) → text ≡ bytes → IsSaved before after path text (Ok tt) → Saves before after path bytes (Ok tt)
save_done before after path text bytes same saved = record {
  answer = Ok tt;
  saved = subst (λ b. IsSaved before after path b (Ok tt)) same saved;
  result_is = refl;
}

pub save_refused : (before after : Moment) (path text bytes : List ℕ) (f : HostFault) (named : List ℕ) (e : CacheError)
    → text ≡ bytes → named ≡ path → e ≡ entry_error named f → IsSaved before after path text (Err f) → Saves before after path bytes (Err e)
save_refused before after path text bytes f named e same at is saved = record {
  answer = Err f;
  saved = subst (λ b. IsSaved before after path b (Err f)) same saved;
  result_is = ap Err (is ∙ ap (λ p. entry_error p f) at);
}

-- the same at the lock's place, of its recipe's text
pub save_moved : (before after : Moment) (place path text bytes : List ℕ) (r : Result (Unit {0}) CacheError)
    → Saves before after place text r → place ≡ path → text ≡ bytes → Saves before after path bytes r
save_moved before after place path text bytes r h at same =
    subst (λ p. Saves before after p bytes r) at (subst (λ b. Saves before after place b r) same h)
