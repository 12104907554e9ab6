-- What a host's answers say of files.
use Rattle.std.proofs.Common.{◌≡◌, ℕ, Bool, true, false, List, [], ◌∷◌, ◌++◌, Option, Some, None, option_map, refl, ap, sym, subst}
use Rattle.std.specs.Prelude.{Ok, Err}
use Rattle.std.proofs.lemmas.List.{append-nil}
use Rattle.just_path.specs.View.{View, Tells, TellsNames, is_file, meta_told}
use Rattle.just_path.specs.declared.host.Miss.{Miss}
use Rattle.just_path.specs.declared.host.PathFault.TheVariants as path_fault
use Rattle.just_path.specs.declared.meta.Meta.{Meta}
use Rattle.just_host_record.specs.World.{World, view_of}
use Rattle.just_host_record.specs.declared.entry.Entry.{Entry}
use Rattle.just_host_record.specs.declared.entry.Entry.TheVariants as entry
use Rattle.just_env.specs.Answers.{GainsMisses}
use Rattle.just_search_load.specs.Gathers.{Adds}
use Rattle.just_search_load.specs.Named.{IfPresent}
use Rattle.just_search_load.specs.Shown.{SeesFile, ListsNames, AreNamesIn, shows_file}

-- what stands at a path
pub sees_told : (told : Option World) (v : Option View) (path : List ℕ) (m : Meta) → v ≡ option_map view_of told → Tells v (meta_told path true) (Ok m) → SeesFile told path (Ok (is_file m.kind))
sees_told None v path m is tells = tt
sees_told (Some w) v path m is tells =
    let so : meta_told path true (view_of w) ≡ Ok m = subst (λ o. Tells o (meta_told path true) (Ok m)) is tells in
    sym (ap shows_file so)

-- a miss
pub sees_missed : (told : Option World) (v : Option View) (path : List ℕ) (m : Miss) → v ≡ option_map view_of told → Tells {A = Meta} v (meta_told path true) (Err (path_fault.Missed m)) → SeesFile told path (Ok false)
sees_missed None v path m is tells = tt
sees_missed (Some w) v path m is tells =
    let so : meta_told path true (view_of w) ≡ Err m = subst (λ o. Tells {A = Meta} o (meta_told path true) (Err (path_fault.Missed m))) is tells in
    sym (ap shows_file so)

-- no folder has no names
pub lists_missed : (told : Option World) (v : Option View) (path : List ℕ) (m : Miss) → v ≡ option_map view_of told → TellsNames v path (Err (path_fault.Missed m)) → ListsNames told path (Ok [])
lists_missed None v path m is tells = tt
lists_missed (Some w) v path m is tells = AreNamesIn.no_folder m (subst (λ o. TellsNames o path (Err (path_fault.Missed m))) is tells)

-- a record that gains one miss, or nothing
pub gains_miss : (old new : List Entry) (path : List ℕ) (m : Miss) → new ≡ old ++ entry.Missed path m ∷ [] → GainsMisses old new
gains_miss old new path m is = (entry.Missed path m ∷ [], is, (refl, tt))

pub gains_same : (old new : List Entry) → new ≡ old ++ [] → GainsMisses old new
gains_same old new is = ([], is, tt)

-- a path at which a file stands is added
pub adds_present : (told : Option World) (path : List ℕ) (b : Bool) (old new : List (List ℕ)) → SeesFile told path (Ok b) → b ≡ true → new ≡ old ++ path ∷ [] → Adds (IfPresent told path) old new (Ok tt)
adds_present told path true old new seen is more = (path ∷ [], (true, seen, refl), more)
adds_present told path false old new seen is more = absurd (let no : ⊥ = cc in no)

pub adds_absent : (told : Option World) (path : List ℕ) (b : Bool) (old : List (List ℕ)) → SeesFile told path (Ok b) → b ≡ false → Adds (IfPresent told path) old old (Ok tt)
adds_absent told path true old seen is = absurd (let no : ⊥ = cc in no)
adds_absent told path false old seen is = ([], (false, seen, refl), sym (append-nil old))
