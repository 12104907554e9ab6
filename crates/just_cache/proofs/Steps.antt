-- Files are summed one after the other.
use Rattle.std.proofs.Common.{◌≡◌, inl, inr, ℕ, suc, ◌+◌, ◌<◌, ◌≤◌, List, [], ◌∷◌, ◌++◌, take, drop, map, length, get_or, Option, Some, None, refl, ap, ap₂, sym, ◌∙◌, subst, append_assoc, append-nil, add-one}
use Rattle.std.proofs.Math.Seq.{take-suc, drop-cons}
use Rattle.std.proofs.lemmas.List.{map-append, take-append-drop, take_all}
use Rattle.std.specs.Prelude.{Result, Ok, Err, IsErrAnd, MatchOption}
use Rattle.just_path.specs.Path.{pushed}
use Rattle.just_host_record.specs.declared.entry.Entry.TheVariants as entry
use Rattle.just_host_record.specs.declared.entry.HostFault.{HostFault}
use Rattle.just_host_record.specs.declared.entry.HostFault.TheVariants as fault
use Rattle.just_host_record.specs.Looks.{told_sum, TellsAnswer}
use Rattle.just_host_record.specs.World.{Moment, World}
use Rattle.just_cache.specs.declared.cache_error.CacheError.{CacheError}
use Rattle.just_cache.specs.declared.cache_error.CacheError.TheVariants as error
use Rattle.just_cache.specs.Errors.{input_error}
use Rattle.just_cache.specs.Maps.{AreLast, GivesInputs, with_digits}
use Rattle.just_cache.specs.Sums.{IsSummed, GivesSum, AddsSum, AreSummed, IsRefused}

-- ---- one file

-- want of memory shows nothing
nothing_shown : (told : Option World) (path : List ℕ) → TellsAnswer (λ (sum : List ℕ). sum) (λ w. told_sum w path) told (Err fault.NoMemory)
nothing_shown None path = tt
nothing_shown (Some w) path = tt

-- want of memory before the sum
unasked : (now : Moment) (path : List ℕ) → IsSummed now now path (Err fault.NoMemory)
unasked now path = record { entries = sym (append-nil now.entries); own = tt; shown = nothing_shown now.world path; world = refl }

pub sum_unasked : (now : Moment) (path : List ℕ) (r : Result (List ℕ) CacheError) → IsErrAnd r (λ e. e ≡ error.NoMemory) → GivesSum now now path r
sum_unasked now path (Ok sum) memory = absurd memory
sum_unasked now path (Err e) memory = (fault.NoMemory, unasked now path, memory)

pub add_unasked : (now : Moment) (folder name : List ℕ) (given gives : List (List ℕ × List ℕ)) (r : Result (Unit {0}) CacheError) → IsErrAnd r (λ e. e ≡ error.NoMemory) → AddsSum now now folder name given gives r
add_unasked now folder name given gives (Ok done) memory = absurd memory
add_unasked now folder name given gives (Err e) memory = (fault.NoMemory, unasked now (pushed folder name), memory)

-- a refused sum is told as an input's error
pub sum_refused : (before after : Moment) (path : List ℕ) (f : HostFault) (named : List ℕ) (e : CacheError) → named ≡ path → e ≡ input_error named f → IsSummed before after path (Err f) → GivesSum before after path (Err e)
sum_refused before after path f named e at is h = (f, h, is ∙ ap (λ p. input_error p f) at)

pub sum_added : (before after : Moment) (folder name path : List ℕ) (given gives : List (List ℕ × List ℕ)) (sum : List ℕ) → path ≡ pushed folder name → GivesSum before after path (Ok sum) → gives ≡ given ++ (name, sum) ∷ []
    → AddsSum before after folder name given gives (Ok tt)
sum_added before after folder name path given gives sum is h more = (sum, subst (λ p. IsSummed before after p (Ok sum)) is h, more)

pub none_added : (before after : Moment) (folder name path : List ℕ) (given gives : List (List ℕ × List ℕ)) (e : CacheError) → path ≡ pushed folder name → GivesSum before after path (Err e) → AddsSum before after folder name given gives (Err e)
none_added before after folder name path given gives e is h =
    (h.0, subst (λ p. IsSummed before after p (Err h.0)) is h.1, h.2 ∙ ap (λ p. input_error p h.0) is)

-- ---- all files

none_shown : (told : Option World) (folder : List ℕ) → MatchOption told (Unit {0}) (λ w. map (λ (g : List ℕ × List ℕ). told_sum w (pushed folder g.0)) [] ≡ map (λ (g : List ℕ × List ℕ). Ok g.1) [])
none_shown None folder = tt
none_shown (Some w) folder = refl

take_none : (names : List (List ℕ)) → [] ≡ take 0 names
take_none [] = refl
take_none (n ∷ ns) = refl

pub sums_none : (now : Moment) (folder : List ℕ) (names : List (List ℕ)) (given : List (List ℕ × List ℕ)) → given ≡ [] → AreSummed now now folder (take 0 names) given
sums_none now folder names given is =
    subst (λ g. AreSummed now now folder (take 0 names) g) (sym is)
    (record { named = take_none names; entries = sym (append-nil now.entries); shown = none_shown now.world folder; world = refl })

one_shown : (told : Option World) (folder name sum : List ℕ) (given : List (List ℕ × List ℕ))
    → MatchOption told (Unit {0}) (λ w. map (λ g. told_sum w (pushed folder g.0)) given ≡ map (λ g. Ok g.1) given)
    → TellsAnswer (λ (sum : List ℕ). sum) (λ w. told_sum w (pushed folder name)) told (Ok sum)
    → MatchOption told (Unit {0}) (λ w. map (λ g. told_sum w (pushed folder g.0)) (given ++ (name, sum) ∷ []) ≡ map (λ g. Ok g.1) (given ++ (name, sum) ∷ []))
one_shown None folder name sum given first here = tt
one_shown (Some w) folder name sum given first here =
    map-append (λ (g : List ℕ × List ℕ). told_sum w (pushed folder g.0)) given ((name, sum) ∷ [])
    ∙ ap₂ (λ xs x. xs ++ x ∷ []) first here
    ∙ sym (map-append (λ (g : List ℕ × List ℕ). Ok g.1) given ((name, sum) ∷ []))

-- one name more
sums_with : (before between after : Moment) (folder name sum : List ℕ) (names : List (List ℕ)) (given : List (List ℕ × List ℕ))
    → AreSummed before between folder names given → IsSummed between after (pushed folder name) (Ok sum) → AreSummed before after folder (names ++ name ∷ []) (given ++ (name, sum) ∷ [])
sums_with before between after folder name sum names given h here = record {
  named = map-append (λ (g : List ℕ × List ℕ). g.0) given ((name, sum) ∷ []) ∙ ap (λ ns. ns ++ name ∷ []) h.named;
  entries = here.entries ∙ ap (λ es. es ++ entry.Summed (pushed folder name) sum ∷ []) h.entries
      ∙ append_assoc before.entries (map (λ (g : List ℕ × List ℕ). entry.Summed (pushed folder g.0) g.1) given) (entry.Summed (pushed folder name) sum ∷ [])
      ∙ ap (λ es. before.entries ++ es) (sym (map-append (λ (g : List ℕ × List ℕ). entry.Summed (pushed folder g.0) g.1) given ((name, sum) ∷ [])));
  shown = one_shown before.world folder name sum given h.shown (subst (λ t. TellsAnswer (λ (d : List ℕ). d) (λ w. told_sum w (pushed folder name)) t (Ok sum)) h.world here.shown);
  world = here.world ∙ h.world;
}

pub sums_more : (before between after : Moment) (folder : List ℕ) (names : List (List ℕ)) (i : ℕ) (name : List ℕ) (given gives : List (List ℕ × List ℕ))
    → i < length names → name ≡ get_or names i name → AreSummed before between folder (take i names) given → AddsSum between after folder name given gives (Ok tt) → AreSummed before after folder (take (i + 1) names) gives
sums_more before between after folder names i name given gives less is h here =
    let one : take i names ++ name ∷ [] ≡ take (i + 1) names = rw add-one (ap (λ n. take i names ++ n ∷ []) is ∙ sym (take-suc names i name less)) in
    subst (λ g. AreSummed before after folder (take (i + 1) names) g) (sym here.2)
    (subst (λ ns. AreSummed before after folder ns (given ++ (name, here.0) ∷ [])) one (sums_with before between after folder name here.0 (take i names) given h here.1))

-- the first refusal
pub sums_stop : (before between after : Moment) (folder : List ℕ) (names : List (List ℕ)) (i : ℕ) (name : List ℕ) (given gives : List (List ℕ × List ℕ)) (e : CacheError)
    → i < length names → name ≡ get_or names i name → AreSummed before between folder (take i names) given → AddsSum between after folder name given gives (Err e) → IsRefused before after folder names e
sums_stop before between after folder names i name given gives e less is h here = record {
  front = take i names;
  name = name;
  others = drop (suc i) names;
  given = given;
  between = between;
  fault = here.0;
  parts = sym (take-append-drop i names) ∙ ap (λ ns. take i names ++ ns) (drop-cons names i name less ∙ ap (λ n. n ∷ drop (suc i) names) (sym is));
  summed = h;
  refused = here.1;
  error = here.2;
}

-- all names
pub sums_all : (before after : Moment) (folder : List ℕ) (names : List (List ℕ)) (i : ℕ) (given : List (List ℕ × List ℕ))
    → length names ≤ i → AreSummed before after folder (take i names) given → AreSummed before after folder names given
sums_all before after folder names i given over h = subst (λ ns. AreSummed before after folder ns given) (take_all i names over) h

-- ---- the inputs

pub inputs_given : (before after : Moment) (folder : List ℕ) (names : List (List ℕ)) (given slice pairs : List (List ℕ × List ℕ))
    → AreSummed before after folder names given → slice ≡ given → AreLast (map with_digits slice) pairs → GivesInputs before after folder names (Ok pairs)
inputs_given before after folder names given slice pairs h is last = (given, h, subst (λ g. AreLast (map with_digits g) pairs) is last)

pub inputs_refused : (before after : Moment) (folder : List ℕ) (names : List (List ℕ)) (e : CacheError) → IsRefused before after folder names e → GivesInputs before after folder names (Err e)
inputs_refused before after folder names e h = inl h

pub inputs_wanted : (before after : Moment) (folder : List ℕ) (names : List (List ℕ)) (given : List (List ℕ × List ℕ)) (r : Result (List (List ℕ × List ℕ)) CacheError)
    → AreSummed before after folder names given → IsErrAnd r (λ e. e ≡ error.NoMemory) → GivesInputs before after folder names r
inputs_wanted before after folder names given (Ok pairs) h memory = absurd memory
inputs_wanted before after folder names given (Err e) h memory = inr (given, h, memory)
