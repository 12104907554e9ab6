-- What is listed, or why it isn't.
use Rattle.std.proofs.Common.{◌≡◌, ◌⊎◌, inl, inr, ℕ, List, ◌++◌, Option, Some, None, option_map, ap, sym, ◌∙◌, subst, refl}
use Rattle.std.specs.Prelude.{Ok, Err, MatchOption}
use Rattle.just_path.specs.Host.{note_of_fault}
use Rattle.just_path.specs.View.{View, TellsNames, AreNamesOf, AreNamesInOrder, folder_told}
use Rattle.just_path.specs.declared.host.Miss.{Miss}
use Rattle.just_path.specs.declared.host.PathCall.TheVariants as path_call
use Rattle.just_path.specs.declared.host.PathFault.{PathFault}
use Rattle.just_path.specs.declared.host.PathFault.TheVariants as path_fault
use Rattle.just_host_record.specs.declared.entry.Call.TheVariants as call
use Rattle.just_host_record.specs.declared.entry.Entry.{Entry}
use Rattle.just_host_record.specs.declared.entry.HostFault.TheVariants as fault
use Rattle.just_host_record.specs.Record.{noted}
use Rattle.just_host_record.specs.World.{World, view_of}
use Rattle.just_env.specs.declared.search_error.SearchError.{SearchError}
use Rattle.just_env.specs.declared.search_error.SearchError.TheVariants as error
use Rattle.just_env.specs.Answers.{entries_of}
use Rattle.just_search.specs.Listing.{ListsFolder, listing_error}

pub lists_names : (told : Option World) (v : Option View) (path : List ℕ) (names : List (List ℕ)) → v ≡ option_map view_of told → TellsNames v path (Ok names) → AreNamesInOrder names → ListsFolder told path (Ok names)
lists_names None v path names is tells order = (order.0, order.1, order.2, tt)
lists_names (Some w) v path names is tells order =
    let so : TellsNames (Some (view_of w)) path (Ok names) = subst (λ o. TellsNames o path (Ok names)) is tells in
    let named : AreNamesOf so.0 (view_of w).tree names = so.2 in
    (named.0, named.1, named.2, (so.0, so.1, named.3))

-- ---- a refusal

miss_told : (told : Option World) (v : Option View) (path : List ℕ) (m : Miss) → v ≡ option_map view_of told → TellsNames v path (Err (path_fault.Missed m)) → MatchOption told (Unit {0}) (λ w. folder_told path (view_of w) ≡ Err m)
miss_told None v path m is tells = tt
miss_told (Some w) v path m is tells = subst (λ o. TellsNames o path (Err (path_fault.Missed m))) is tells

pub lists_refused : (told : Option World) (v : Option View) (path named : List ℕ) (f : PathFault) (e : SearchError) → v ≡ option_map view_of told → TellsNames v path (Err f) → named ≡ path → e ≡ listing_error named f
    → (e ≡ error.NoMemory) ⊎ ListsFolder told path (Err e)
lists_refused told v path named (path_fault.Missed m) e is tells at error_is =
    inr (fault.Missed m, error_is ∙ ap (λ p. error.FilesystemIo p (fault.Missed m)) at, miss_told told v path m is tells)
lists_refused told v path named path_fault.Failed e is tells at error_is =
    inr (fault.Failed call.List, error_is ∙ ap (λ p. error.FilesystemIo p (fault.Failed call.List)) at, refl)
lists_refused told v path named path_fault.NoMemory e is tells at error_is = inl error_is

pub refused_entries : (old new : List Entry) (path named : List ℕ) (f : PathFault) (e : SearchError) → new ≡ old ++ noted (note_of_fault path_call.List path f) → named ≡ path → e ≡ listing_error named f → new ≡ old ++ entries_of e
refused_entries old new path named (path_fault.Missed m) e grew at error_is = grew ∙ ap (λ x. old ++ entries_of x) (sym (error_is ∙ ap (λ p. error.FilesystemIo p (fault.Missed m)) at))
refused_entries old new path named path_fault.Failed e grew at error_is = grew ∙ ap (λ x. old ++ entries_of x) (sym error_is)
refused_entries old new path named path_fault.NoMemory e grew at error_is = grew ∙ ap (λ x. old ++ entries_of x) (sym error_is)
