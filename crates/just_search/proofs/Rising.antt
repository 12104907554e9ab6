-- A justfile that is found above a folder of a world stands higher.
use Rattle.std.proofs.Common.{◌≡◌, ◌⊎◌, inl, inr, ℕ, zero, suc, ◌<◌, ◌≤◌, Bool, true, false, cond, nat_lt, List, [], ◌∷◌, ◌++◌, length, Option, Some, None, option_map, refl, sym, ap, ◌∙◌, subst, arith}
use Rattle.std.specs.Prelude.{Result, Ok, Err, MatchOption, if◌then◌else◌}
use Rattle.std.specs.List.{AllByRecursion}
use Rattle.std.proofs.lemmas.Bool.Decides.{nat_tests}
use Rattle.just_path.specs.Ancestors.{first_ancestors, ancestors_of, ancestors_from, bound_of}
use Rattle.just_path.specs.Parts.{parent_of}
use Rattle.just_path.specs.Path.{pushed}
use Rattle.just_path.specs.View.{View, IsCleanView, IsCleanlyTold, HasCleanPlaces}
use Rattle.just_path.specs.declared.meta.Item.{Item}
use Rattle.just_path.proofs.AncestorLists.{parent_shorter, ancestors_step}
use Rattle.just_host_record.specs.declared.entry.Entry.{Entry}
use Rattle.just_host_record.specs.World.{World, view_of}
use Rattle.just_config.specs.declared.config.Config.{Config}
use Rattle.just_env.specs.declared.search_error.SearchError.{SearchError}
use Rattle.just_env.specs.declared.search_error.SearchError.TheVariants as error
use Rattle.just_env.specs.Answers.{entries_of}
use Rattle.just_search.specs.declared.location.Location.{Location}
use Rattle.just_search.specs.Climb.{is_ceiling, up_to, behind_first, folders_above, candidates, chosen, LooksIn, FindsIn}
use Rattle.just_search.specs.Finding.{wanted_names, folder_of, as_origin, located_as, FindsAbove}
use Rattle.just_search.specs.First.{First}
use Rattle.just_search.specs.Fallback.{is_search, is_not_found, FallsBack}
use Rattle.just_search.proofs.Folders.{folder_under}
use Rattle.just_search.proofs.Names.{IsPlainName, candidate_found, listed_plain}

-- ---- the folders above one are shorter

shorter_first : (n m : ℕ) (o : Option (List ℕ)) → bound_of o ≤ n → AllByRecursion (λ a. length a < n) (first_ancestors m o)
shorter_first n zero o h = tt
shorter_first n (suc m) None h = tt
shorter_first n (suc m) (Some t) h = (omega arith, shorter_first n m (parent_of t) (omega (arith, parent_shorter t)))

shorter_from : (n : ℕ) (o : Option (List ℕ)) → bound_of o ≤ n → AllByRecursion (λ a. length a < n) (ancestors_from o)
unfolding ancestors_of
shorter_from n None h = tt
shorter_from n (Some t) h = shorter_first n (suc (length t)) (Some t) h

shorter_upto : (n : ℕ) (ceiling : Option (List ℕ)) (folders : List (List ℕ)) → AllByRecursion (λ a. length a < n) folders → AllByRecursion (λ a. length a < n) (up_to ceiling folders)
shorter_upto n ceiling [] h = tt
shorter_upto n ceiling (f ∷ fs) h =
    (h.0, elim (is_ceiling ceiling f) as (λ v. AllByRecursion (λ a. length a < n) (cond v [] (up_to ceiling fs))) [ true ↦ tt | false ↦ shorter_upto n ceiling fs h.1 ])

shorter_above : (ceiling : Option (List ℕ)) (folder : List ℕ) → AllByRecursion (λ a. length a < length folder) (folders_above ceiling folder)
shorter_above ceiling folder =
    subst (λ fs. AllByRecursion (λ a. length a < length folder) (behind_first (up_to ceiling fs))) (sym (ancestors_step folder))
    (elim (is_ceiling ceiling folder) as (λ v. AllByRecursion (λ a. length a < length folder) (cond v [] (up_to ceiling (ancestors_from (parent_of folder))))) [
      | true ↦ tt
      | false ↦ shorter_upto (length folder) ceiling (ancestors_from (parent_of folder)) (shorter_from (length folder) (parent_of folder) (parent_shorter folder))
    ])

-- what holds of each holds of one among them
one_of : {A : Type 0} (P : A → Type 0) (before : List A) (x : A) (behind : List A) → AllByRecursion P (before ++ x ∷ behind) → P x
one_of P [] x behind h = h.0
one_of P (y ∷ ys) x behind h = one_of P ys x behind h.1

-- ---- the justfile in a folder

chosen_stands : (x file : List ℕ) (found : List (List ℕ)) → ((name : List ℕ) (more : List (List ℕ)) → found ≡ name ∷ more → IsPlainName name) → Some (Ok file) ≡ chosen x found → length (folder_of file) ≤ length x
chosen_stands x file [] plain is = cc
chosen_stands x file (name ∷ []) plain is =
    let named : IsPlainName name = plain name [] refl in
    let e : file ≡ pushed x name = cc in
    subst (λ f. length (folder_of f) ≤ length x) (sym e) (folder_under x name named.some named.other named.plain)
chosen_stands x file (name ∷ (other ∷ others)) plain is = cc

looked_stands : (w : World) (wanted : List (List ℕ)) (x file : List ℕ) → HasCleanPlaces (view_of w).tree → LooksIn (Some w) wanted x (Some (Ok file)) → length (folder_of file) ≤ length x
looked_stands w wanted x file clean (LooksIn.listed names lists is) =
    let items : List Item = lists.0 in
    let plain : (name : List ℕ) (more : List (List ℕ)) → candidates wanted names ≡ name ∷ more → IsPlainName name = λ name more so.
    listed_plain (view_of w) x lists.3.0 items name clean lists.3.1 lists.3.2 (candidate_found wanted items name more (sym (ap (λ ns. candidates wanted ns) lists.2) ∙ so)) in
    chosen_stands x file (candidates wanted names) plain is
looked_stands w wanted x file clean (LooksIn.unlisted e lists is) = cc

found_stands : (w : World) (wanted : List (List ℕ)) (ceiling : Option (List ℕ)) (folder file : List ℕ) → HasCleanPlaces (view_of w).tree → FindsIn (Some w) wanted (folders_above ceiling folder) (Ok file) → length (folder_of file) < length folder
found_stands w wanted ceiling folder file clean (First.decided before x behind is passed looked) =
    let low : length x < length folder = one_of (λ a. length a < length folder) before x behind (subst (λ fs. AllByRecursion (λ a. length a < length folder) fs) is (shorter_above ceiling folder)) in
    let stands : length (folder_of file) ≤ length x = looked_stands w wanted x file clean looked in
    omega arith
found_stands w wanted ceiling folder file clean (First.undecided passed is) = cc

rises_by : (w : World) (config : Config) (folder : List ℕ) (location : Location) (file : Result (List ℕ) SearchError) → HasCleanPlaces (view_of w).tree → FindsIn (Some w) (wanted_names config) (folders_above config.ceiling folder) file → Ok location ≡ located_as as_origin file
    → length location.working_directory < length folder
rises_by w config folder location (Ok file) clean found is =
    let e : location ≡ as_origin file = cc in
    subst (λ (l : Location). length l.working_directory < length folder) (sym e) (found_stands w (wanted_names config) config.ceiling folder file clean found)
rises_by w config folder location (Err x) clean found is = cc

-- over a host that tells a world
pub rises : (w : World) (config : Config) (folder : List ℕ) (location : Location) → HasCleanPlaces (view_of w).tree → FindsAbove (Some w) config folder (Ok location) → length location.working_directory < length folder
rises w config folder location clean found = rises_by w config folder location found.0 clean found.1 found.2

-- ---- what is tried next

pub falls_higher : (told : Option World) (config : Config) (folder : List ℕ) (location : Location) → is_search config.search_config ≡ true → FindsAbove told config folder (Ok location) → FallsBack told config folder (Ok (Some location))
falls_higher told config folder location searches found = FallsBack.above searches (Ok location) found refl

-- one that doesn't stand higher is found over no world
pub falls_astray : (told : Option World) (v : Option View) (config : Config) (folder : List ℕ) (location : Location) → v ≡ option_map view_of told → IsCleanlyTold v → is_search config.search_config ≡ true → FindsAbove told config folder (Ok location)
    → length folder ≤ length location.working_directory → FallsBack told config folder (Ok None)
falls_astray None v config folder location is clean searches found low = FallsBack.astray searches refl location found low refl
falls_astray (Some w) v config folder location is clean searches found low =
    absurd (
    let tidy : IsCleanView (view_of w) = subst (λ o. IsCleanlyTold o) is clean in
    let high : length location.working_directory < length folder = rises w config folder location tidy.places found in
    omega arith
    )

-- a justfile that is found, if it stands higher
falls_by : (told : Option World) (v : Option View) (config : Config) (folder : List ℕ) (location : Location) (o : Option Location) (b : Bool) → v ≡ option_map view_of told → IsCleanlyTold v → is_search config.search_config ≡ true → FindsAbove told config folder (Ok location)
    → nat_lt (length location.working_directory) (length folder) ≡ b → o ≡ (if b then Some location else None) → FallsBack told config folder (Ok o)
falls_by told v config folder location o true is clean searches found less so = subst (λ x. FallsBack told config folder (Ok x)) (sym so) (falls_higher told config folder location searches found)
falls_by told v config folder location o false is clean searches found less so =
    let low : length folder ≤ length location.working_directory = grind (arith, nat_tests) in
    subst (λ x. FallsBack told config folder (Ok x)) (sym so) (falls_astray told v config folder location is clean searches found low)

pub falls_found : (told : Option World) (v : Option View) (config : Config) (folder : List ℕ) (location : Location) (o : Option Location) → v ≡ option_map view_of told → IsCleanlyTold v → is_search config.search_config ≡ true → FindsAbove told config folder (Ok location)
    → o ≡ (if nat_lt (length location.working_directory) (length folder) then Some location else None) → FallsBack told config folder (Ok o)
falls_found told v config folder location o is clean searches found so = falls_by told v config folder location o (nat_lt (length location.working_directory) (length folder)) is clean searches found refl so

higher_by : (folder : List ℕ) (location : Location) (o : Option Location) (b : Bool) → nat_lt (length location.working_directory) (length folder) ≡ b → o ≡ (if b then Some location else None) → MatchOption o (Unit {0}) (λ (l : Location). length l.working_directory < length folder)
higher_by folder location o true less so =
    let high : length location.working_directory < length folder = grind (arith, nat_tests) in
    subst (λ x. MatchOption x (Unit {0}) (λ (l : Location). length l.working_directory < length folder)) (sym so) high
higher_by folder location o false less so = subst (λ x. MatchOption x (Unit {0}) (λ (l : Location). length l.working_directory < length folder)) (sym so) tt

-- it stands higher indeed
pub higher_found : (folder : List ℕ) (location : Location) (o : Option Location) → o ≡ (if nat_lt (length location.working_directory) (length folder) then Some location else None) → MatchOption o (Unit {0}) (λ (l : Location). length l.working_directory < length folder)
higher_found folder location o so = higher_by folder location o (nat_lt (length location.working_directory) (length folder)) refl so

-- ---- a search that is refused

-- nothing is found
pub falls_nowhere : (told : Option World) (config : Config) (folder : List ℕ) (e : SearchError) → is_search config.search_config ≡ true → is_not_found e ≡ true → (e ≡ error.NoMemory) ⊎ FindsAbove told config folder (Err e) → FallsBack told config folder (Ok None)
falls_nowhere told config folder e searches none (inl memory) = absurd (let no : false ≡ true = ap is_not_found (sym memory) ∙ none in cc)
falls_nowhere told config folder e searches none (inr found) = FallsBack.above searches (Err e) found (sym (ap (λ v. if v then Ok None else Err e) none))

pub falls_refused : (told : Option World) (config : Config) (folder : List ℕ) (e : SearchError) → is_search config.search_config ≡ true → is_not_found e ≡ false → (e ≡ error.NoMemory) ⊎ FindsAbove told config folder (Err e) → (e ≡ error.NoMemory) ⊎ FallsBack told config folder (Err e)
falls_refused told config folder e searches other (inl memory) = inl memory
falls_refused told config folder e searches other (inr found) = inr (FallsBack.above searches (Err e) found (sym (ap (λ v. if v then Ok None else Err e) other)))

-- and leaves no entry
unheard : (e : SearchError) → is_not_found e ≡ true → entries_of e ≡ []
unheard (error.FilesystemIo path io) h = cc
unheard error.GlobalJustfileInit h = cc
unheard error.GlobalJustfileNotFound h = cc
unheard error.InitWithJustfileFromStandardInput h = cc
unheard (error.JustfileHadNoParent path) h = cc
unheard (error.MultipleCandidates folder candidates) h = cc
unheard error.NotFound h = refl
unheard (error.StdinIo io) h = cc
unheard (error.TempdirIo io) h = cc
unheard (error.Load path io) h = cc
unheard (error.Lang e) h = cc
unheard error.NoMemory h = cc

pub nowhere_unheard : (old new : List Entry) (e : SearchError) → is_not_found e ≡ true → new ≡ old ++ entries_of e → new ≡ old ++ []
nowhere_unheard old new e none is = is ∙ ap (λ es. old ++ es) (unheard e none)

pub falls_given : (told : Option World) (config : Config) (folder : List ℕ) → is_search config.search_config ≡ false → FallsBack told config folder (Ok None)
falls_given told config folder given = FallsBack.given given refl
