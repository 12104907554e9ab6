-- Looks for a program, and what they leave in a record.
use Rattle.std.proofs.Common.{◌≡◌, ◌⊎◌, inl, inr, ℕ, ◌+◌, ◌<◌, ◌≤◌, Bool, true, false, List, [], ◌∷◌, ◌++◌, length, drop, get_or, Option, Some, None, option_map, refl, ap, sym, ◌∙◌, subst}
use Rattle.std.specs.Prelude.{Result, Ok, Err, IsErrAnd}
use Rattle.std.proofs.lemmas.List.{append-nil}
use Rattle.just_path.specs.View.{View, Tells, meta_told}
use Rattle.just_path.specs.declared.host.Miss.{Miss}
use Rattle.just_path.specs.declared.host.PathFault.TheVariants as fault
use Rattle.just_path.specs.declared.meta.Meta.{Meta}
use Rattle.just_host_record.specs.declared.entry.Entry.{Entry}
use Rattle.just_host_record.specs.declared.entry.Entry.TheVariants as entry
use Rattle.just_host_record.specs.declared.entry.Call.TheVariants as call
use Rattle.just_host_record.specs.World.{World, view_of}
use Rattle.just_env.specs.Answers.{GainsMisses}
use Rattle.just_env.proofs.Laws.{gains_none, misses_then}
use Rattle.just_search.specs.declared.which_error.WhichError.{WhichError}
use Rattle.just_search.specs.declared.which_error.WhichError.TheVariants as error
use Rattle.just_search.specs.First.{First}
use Rattle.just_search.specs.Programs.{SeesProgram, LooksAtProgram, LocatesAmong, GainsLooks, failed_entries, shows_program}
use Rattle.just_search.proofs.Along.{Along, along_item, along_item_decided, along_all}

-- looks behind misses
pub looks_then : {A : Type 0} (a b c : List Entry) (r : Result A WhichError) → GainsMisses a b → GainsLooks b c r → GainsLooks a c r
looks_then a b c (Ok x) g h = misses_then a b c g h
looks_then a b c (Err e) g h = (h.0, misses_then a b h.0 g h.1, h.2)

-- a refusal that leaves no entry
pub looks_nothing : (old : List Entry) (e : WhichError) → failed_entries e ≡ [] → GainsLooks {A = ℕ} old old (Err e)
looks_nothing old e none = (old, gains_none old, sym (append-nil old) ∙ ap (λ x. old ++ x) (sym none))

-- a look that failed
pub looks_failed : (old new : List Entry) → new ≡ old ++ entry.Failed call.Meta ∷ [] → GainsLooks {A = ℕ} old new (Err (error.Fault fault.Failed))
looks_failed old new is = (old, gains_none old, is)

-- a miss
pub looks_missed : (old new : List Entry) (path : List ℕ) (m : Miss) → new ≡ old ++ entry.Missed path m ∷ [] → GainsMisses old new
looks_missed old new path m is = (entry.Missed path m ∷ [], is, (refl, tt))

-- a look that leaves nothing
pub looks_same : (old new : List Entry) → new ≡ old ++ [] → GainsMisses old new
looks_same old new is = ([], is, tt)

pub looks_without_memory : (old new : List Entry) → new ≡ old ++ [] → GainsLooks {A = ℕ} old new (Err error.NoMemory)
looks_without_memory old new is = (old, gains_none old, is)

-- want of memory behind two looks
pub looks_wanting : {A : Type 0} (a b c : List Entry) (r : Result A WhichError) → GainsMisses a b → GainsMisses b c → IsErrAnd r (λ e. e ≡ error.NoMemory) → GainsLooks a c r
looks_wanting a b c (Ok x) g h memory = absurd memory
looks_wanting a b c (Err e) g h memory = (c, misses_then a b c g h, sym (append-nil c) ∙ ap (λ x. c ++ failed_entries x) (sym memory))

-- ---- what is seen

pub program_told : (told : Option World) (v : Option View) (path : List ℕ) (m : Meta) (b : Bool) → v ≡ option_map view_of told → Tells v (meta_told path true) (Ok m) → b ≡ shows_program (Ok m) → SeesProgram told path b
program_told None v path m b is tells so = tt
program_told (Some w) v path m b is tells so =
    let shown : meta_told path true (view_of w) ≡ Ok m = subst (λ o. Tells o (meta_told path true) (Ok m)) is tells in
    so ∙ sym (ap shows_program shown)

pub program_missed : (told : Option World) (v : Option View) (path : List ℕ) (m : Miss) → v ≡ option_map view_of told → Tells {A = Meta} v (meta_told path true) (Err (fault.Missed m)) → SeesProgram told path false
program_missed None v path m is tells = tt
program_missed (Some w) v path m is tells =
    let shown : meta_told path true (view_of w) ≡ Err m = subst (λ o. Tells {A = Meta} o (meta_told path true) (Err (fault.Missed m))) is tells in
    sym (ap shows_program shown)

-- ---- along some paths, over a host whose world stays

pub program_passed : (told now : Option World) (paths : List (List ℕ)) (i : ℕ) (path : List ℕ) → now ≡ told → i < length paths → path ≡ get_or paths i path → Along (LooksAtProgram told) paths (drop i paths) → SeesProgram now path false → Along (LooksAtProgram told) paths (drop (i + 1) paths)
program_passed told now paths i path same less is so seen =
    along_item (LooksAtProgram told) paths i path None less is so (LooksAtProgram.seen false (subst (λ t. SeesProgram t path false) same seen) refl) refl

pub program_found : (told now : Option World) (paths : List (List ℕ)) (i : ℕ) (path copy : List ℕ) → now ≡ told → i < length paths → path ≡ get_or paths i path → Along (LooksAtProgram told) paths (drop i paths) → SeesProgram now path true → copy ≡ path
    → First (LooksAtProgram told) paths (Ok None) (Ok (Some copy))
program_found told now paths i path copy same less is so seen copied =
    subst (λ x. First (LooksAtProgram told) paths (Ok None) (Ok (Some x))) (sym copied)
    (along_item_decided (LooksAtProgram told) paths i path (Some (Ok (Some path))) (Ok None) (Ok (Some path)) less is so (LooksAtProgram.seen true (subst (λ t. SeesProgram t path true) same seen) refl) refl)

failed_as : (told : Option World) (path : List ℕ) (e : WhichError) → e ≡ error.Fault fault.Failed → LooksAtProgram told path (Some (Err e))
failed_as told path e is = LooksAtProgram.failed (ap (λ x. Some (Err x)) is)

pub program_refused : (told : Option World) (paths : List (List ℕ)) (i : ℕ) (path : List ℕ) (e : WhichError) → i < length paths → path ≡ get_or paths i path → Along (LooksAtProgram told) paths (drop i paths) → (e ≡ error.NoMemory) ⊎ (e ≡ error.Fault fault.Failed)
    → (e ≡ error.NoMemory) ⊎ First (LooksAtProgram told) paths (Ok None) (Err e)
program_refused told paths i path e less is so (inl memory) = inl memory
program_refused told paths i path e less is so (inr failed) =
    inr (along_item_decided (LooksAtProgram told) paths i path (Some (Err e)) (Ok None) (Err e) less is so (failed_as told path e failed) refl)

pub program_nowhere : (told : Option World) (paths : List (List ℕ)) (i : ℕ) → length paths ≤ i → Along (LooksAtProgram told) paths (drop i paths) → First (LooksAtProgram told) paths (Ok None) (Ok None)
program_nowhere told paths i over so = along_all (LooksAtProgram told) paths i (Ok None) over so

-- ---- by a name

pub which_some : (told : Option World) (among : Result (List (List ℕ)) WhichError) (paths : List (List ℕ)) (path text : List ℕ) → among ≡ Ok paths → First (LooksAtProgram told) paths (Ok None) (Ok (Some path)) → text ≡ path → LocatesAmong told among (Ok (Some text))
which_some told among paths path text is found same =
    subst (λ a. LocatesAmong told a (Ok (Some text))) (sym is) (subst (λ x. First (LooksAtProgram told) paths (Ok None) (Ok (Some x))) (sym same) found)

pub which_none : (told : Option World) (among : Result (List (List ℕ)) WhichError) (paths : List (List ℕ)) → among ≡ Ok paths → First (LooksAtProgram told) paths (Ok None) (Ok None) → LocatesAmong told among (Ok None)
which_none told among paths is found = subst (λ a. LocatesAmong told a (Ok None)) (sym is) found

pub which_refused : (told : Option World) (among : Result (List (List ℕ)) WhichError) (paths : List (List ℕ)) (e : WhichError) → among ≡ Ok paths → (e ≡ error.NoMemory) ⊎ First (LooksAtProgram told) paths (Ok None) (Err e) → (e ≡ error.NoMemory) ⊎ LocatesAmong told among (Err e)
which_refused told among paths e is (inl memory) = inl memory
which_refused told among paths e is (inr found) = inr (subst (λ a. LocatesAmong told a (Err e)) (sym is) found)

pub which_without : (told : Option World) (among : Result (List (List ℕ)) WhichError) (e : WhichError) → (e ≡ error.NoMemory) ⊎ (among ≡ Err e) → (e ≡ error.NoMemory) ⊎ LocatesAmong told among (Err e)
which_without told among e (inl memory) = inl memory
which_without told among e (inr is) = inr (subst (λ a. LocatesAmong told a (Err e)) (sym is) refl)
