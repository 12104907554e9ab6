-- A search for the user's own justfile as a loop comes to it: place by place, with the entries that the looks leave.
use Rattle.std.proofs.Common.{◌≡◌, ◌≢◌, ◌⊎◌, inl, inr, ℕ, ◌+◌, ◌<◌, ◌≤◌, List, [], ◌∷◌, ◌++◌, drop, length, get_or, Option, Some, None, option_map, refl, ap, sym, ◌∙◌, subst, append_assoc}
use Rattle.std.proofs.Math.ListN.{drop_of_length-le}
use Rattle.std.specs.Prelude.{Result, Ok, Err, IfOk, codes}
use Rattle.std.proofs.lemmas.List.{append-nil}
use Rattle.just_path.specs.Path.{pushed}
use Rattle.just_host_record.specs.declared.entry.Entry.{Entry}
use Rattle.just_host_record.specs.World.{World}
use Rattle.just_env.specs.declared.search_error.SearchError.{SearchError}
use Rattle.just_env.specs.declared.search_error.SearchError.TheVariants as error
use Rattle.just_env.specs.Answers.{Answers, entries_of, told_entries}
use Rattle.just_search.specs.declared.place.Place.{Place}
use Rattle.just_search.specs.Global.{LooksAtPlace, FindsAmong, FindsGlobal, global_places, place_of, places_at_home, same_name}
use Rattle.just_search.specs.Listing.{ListsFolder}
use Rattle.just_search.specs.Record.{Leaves}
use Rattle.just_search.proofs.Along.{here}

-- ---- the places in the home folder

pub places_added : (old xs ys zs : List Place) (home : List ℕ) (a b c : Place) → a ≡ place_of (pushed home (codes ".config/just")) (codes "justfile") → b ≡ place_of home (codes "justfile") → c ≡ place_of home (codes ".justfile")
    → xs ≡ old ++ a ∷ [] → ys ≡ xs ++ b ∷ [] → zs ≡ ys ++ c ∷ [] → zs ≡ old ++ places_at_home (Some home)
places_added old xs ys zs home a b c first second third one two three =
    three
    ∙ ap (λ ps. ps ++ c ∷ []) (two ∙ ap (λ ps. ps ++ b ∷ []) one ∙ append_assoc old (a ∷ []) (b ∷ []))
    ∙ append_assoc old (a ∷ b ∷ []) (c ∷ [])
    ∙ ap (λ p. old ++ p ∷ b ∷ c ∷ []) first
    ∙ ap (λ p. old ++ place_of (pushed home (codes ".config/just")) (codes "justfile") ∷ p ∷ c ∷ []) second
    ∙ ap (λ p. old ++ place_of (pushed home (codes ".config/just")) (codes "justfile") ∷ place_of home (codes "justfile") ∷ p ∷ []) third

-- ---- one place

-- its folder is listed
pub place_listed : (told : Option World) (place : Place) (old new : List Entry) (names : List (List ℕ)) (o : Option (List ℕ)) → ListsFolder told place.folder (Ok names) → new ≡ old ++ told_entries (Ok names)
    → o ≡ option_map (λ name. pushed place.folder name) (same_name place.name names) → Leaves (λ gained. LooksAtPlace told place gained o) old new
place_listed told place old new names o lists is so = ([], is, LooksAtPlace.listed names lists refl so)

-- its folder can't be listed
pub place_unlisted : (told : Option World) (place : Place) (old new : List Entry) (e : SearchError) → (e ≡ error.NoMemory) ⊎ ListsFolder told place.folder (Err e) → e ≢ error.NoMemory → new ≡ old ++ told_entries {A = List (List ℕ)} (Err e)
    → Leaves (λ gained. LooksAtPlace told place gained None) old new
place_unlisted told place old new e (inl memory) other is = absurd (other memory)
place_unlisted told place old new e (inr lists) other is = (entries_of e, is, LooksAtPlace.unlisted e lists refl refl)

-- the same of an answer that may want memory
pub place_found : {E : Type 0} (told : Option World) (place : Place) (old new : List Entry) (names : List (List ℕ)) (r : Result (Option (List ℕ)) E) → ListsFolder told place.folder (Ok names) → new ≡ old ++ []
    → IfOk r (λ o. o ≡ option_map (λ name. pushed place.folder name) (same_name place.name names)) → IfOk r (λ o. Leaves (λ gained. LooksAtPlace told place gained o) old new)
place_found told place old new names (Ok o) lists is so = place_listed told place old new names o lists is so
place_found told place old new names (Err e) lists is so = tt

pub place_passed : {E : Type 0} (told : Option World) (place : Place) (old new : List Entry) (e : SearchError) (r : Result (Option (List ℕ)) E) → (e ≡ error.NoMemory) ⊎ ListsFolder told place.folder (Err e) → new ≡ old ++ entries_of e
    → IfOk r (λ o. (o ≡ None) × (e ≢ error.NoMemory)) → IfOk r (λ o. Leaves (λ gained. LooksAtPlace told place gained o) old new)
place_passed told place old new e (Ok o) lists is so = subst (λ p. Leaves (λ gained. LooksAtPlace told place gained p) old new) (sym so.0) (place_unlisted told place old new e lists so.1 is)
place_passed told place old new e (Err x) lists is so = tt

-- ---- some places

-- what is found among those that are left is found among all, behind the entries so far
pub record Passed (told : Option World) (places left : List Place) (old new : List Entry) : Type 0 where
  pub so_far : List Entry
  pub gained : new ≡ old ++ so_far
  pub onward : (more : List Entry) (r : Result (List ℕ) SearchError) → FindsAmong told left more r → FindsAmong told places (so_far ++ more) r

pub passed_start : (told : Option World) (places : List Place) (old : List Entry) → Passed told places places old old
passed_start told places old = record { so_far = []; gained = sym (append-nil old); onward = λ more r found. found }

behind_so_far : (old middle new so_far more : List Entry) → middle ≡ old ++ so_far → new ≡ middle ++ more → new ≡ old ++ (so_far ++ more)
behind_so_far old middle new so_far more before after = after ∙ ap (λ es. es ++ more) before ∙ append_assoc old so_far more

pub passed_next : (told now : Option World) (places : List Place) (i : ℕ) (place : Place) (old middle new : List Entry) → now ≡ told → i < length places → place ≡ get_or places i place → Passed told places (drop i places) old middle
    → Leaves (λ gained. LooksAtPlace now place gained None) middle new → Passed told places (drop (i + 1) places) old new
passed_next told now places i place old middle new same less is so looked =
    record {
      so_far = so.so_far ++ looked.0;
      gained = behind_so_far old middle new so.so_far looked.0 so.gained looked.1;
      onward = λ more r found. subst (λ es. FindsAmong told places es r) (sym (append_assoc so.so_far looked.0 more))
          (so.onward (looked.0 ++ more) r (subst (λ ps. FindsAmong told ps (looked.0 ++ more) r) (sym (here places i place less is)) (FindsAmong.behind place (drop (i + 1) places) looked.0 more r (subst (λ t. LooksAtPlace t place looked.0 None) same looked.2) found)));
    }

pub passed_found : (told now : Option World) (places : List Place) (i : ℕ) (place : Place) (old middle new : List Entry) (file : List ℕ) → now ≡ told → i < length places → place ≡ get_or places i place → Passed told places (drop i places) old middle
    → Leaves (λ gained. LooksAtPlace now place gained (Some file)) middle new → Leaves (λ gained. FindsAmong told places gained (Ok file)) old new
passed_found told now places i place old middle new file same less is so looked = (
  so.so_far ++ looked.0,
  behind_so_far old middle new so.so_far looked.0 so.gained looked.1,
  so.onward looked.0 (Ok file) (subst (λ ps. FindsAmong told ps looked.0 (Ok file)) (sym (here places i place less is)) (FindsAmong.at_first place (drop (i + 1) places) looked.0 file (subst (λ t. LooksAtPlace t place looked.0 (Some file)) same looked.2))),
)

pub passed_all : (told : Option World) (places : List Place) (i : ℕ) (old new : List Entry) → length places ≤ i → Passed told places (drop i places) old new → Leaves (λ gained. FindsAmong told places gained (Err error.GlobalJustfileNotFound)) old new
passed_all told places i old new over so = (
  so.so_far ++ [],
  so.gained ∙ ap (λ es. old ++ es) (sym (append-nil so.so_far)),
  so.onward [] (Err error.GlobalJustfileNotFound) (subst (λ ps. FindsAmong told ps [] (Err error.GlobalJustfileNotFound)) (sym (drop_of_length-le places over)) FindsAmong.nowhere),
)

-- ---- all of them

pub found_globally : (told : Option World) (environ : List (List ℕ × List ℕ)) (places : List Place) (old new : List Entry) (r : Result (List ℕ) SearchError) → places ≡ global_places environ → Answers (λ x. Leaves (λ gained. FindsAmong told places gained x) old new) r
    → Answers (λ x. Leaves (λ gained. FindsGlobal told environ gained x) old new) r
found_globally told environ places old new r is found = subst (λ ps. Answers (λ x. Leaves (λ gained. FindsAmong told ps gained x) old new) r) is found
