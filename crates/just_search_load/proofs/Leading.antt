-- Loading as a loop comes to it.
use Rattle.std.proofs.Common.{◌≡◌, ◌⊎◌, inl, inr, ℕ, true, List, [], ◌∷◌, ◌++◌, Option, Some, None, is_some, refl, sym, subst}
use Rattle.std.specs.Prelude.{Result, Ok, Err}
use Rattle.std.specs.List.{AllByRecursion}
use Rattle.just_path.specs.Clean.{cleaned}
use Rattle.just_lang_types.specs.declared.source.Source.{Source}
use Rattle.just_lang_layout.specs.Paths.{Pairs}
use Rattle.just_host_record.specs.World.{World}
use Rattle.just_env.specs.declared.search_error.SearchError.{SearchError}
use Rattle.just_env.specs.declared.search_error.SearchError.TheVariants as error
use Rattle.just_search_load.specs.Named.{SourceNames}
use Rattle.just_search_load.specs.Numbers.{number_at, number_of}
use Rattle.just_search_load.specs.Shown.{ReadsText}
use Rattle.just_search_load.specs.Loads.{source_at, Loads, is_loaded, to_load}
use Rattle.just_search_load.specs.Turns.{Skips, AddsNames, Continues}

some_number : (o : Option ℕ) → is_some o ≡ true → (n : ℕ) × (o ≡ Some n)
some_number None h = absurd (let no : ⊥ = cc in no)
some_number (Some n) h = (n, refl)

-- a path without a number at its clean form has none
unnumbered : (s : List Source) (path place : List ℕ) → place ≡ cleaned path → number_at s place ≡ None → number_of s path ≡ None
unnumbered s path place is none = subst (λ t. number_at s t ≡ None) is none

module _ (told : Option World) (environ : Pairs) where
  -- loaded paths in front change nothing
  loads_behind : (s : List Source) (skipped paths : List (List ℕ)) (r : Result (List Source) SearchError) → AllByRecursion (λ path. is_loaded s path ≡ true) skipped → Loads told environ s paths r → Loads told environ s (skipped ++ paths) r
  loads_behind s [] paths r h g = g
  loads_behind s (x ∷ xs) paths r h g =
      let found = some_number (number_of s x) h.0 in Loads.loaded_before s x (xs ++ paths) found.0 r found.1 (loads_behind s xs paths r h.1 g)

  loads_skipped : (s : List Source) (old left : List (List ℕ)) (r : Result (List Source) SearchError) → Skips s old left → Loads told environ s left r → Loads told environ s (to_load old) r
  loads_skipped s old left r so g = subst (λ xs. Loads told environ s xs r) (sym so.front) (loads_behind s so.skipped left r so.loaded g)

  pub continues_start : (s : List Source) (paths : List (List ℕ)) → Continues told environ s paths s paths
  continues_start s paths = record { so = λ r g. g }

  loads_now : (s now : List Source) (path text : List ℕ) (x : Source) (paths left named : List (List ℕ)) → number_of s path ≡ None → x ≡ source_at path text → ReadsText told path (Ok text) → SourceNames told environ x (Ok named) → left ≡ named ++ paths → now ≡ s ++ x ∷ []
      → (r : Result (List Source) SearchError) → Loads told environ now left r → Loads told environ s (path ∷ paths) r
  loads_now s now path text x paths left named none made read names front behind r g =
      let here = subst (λ xs. Loads told environ xs left r) behind g in
      let turned = subst (λ ps. Loads told environ (s ++ x ∷ []) ps r) front here in
      Loads.loaded_now s path paths text named r none read (subst (λ y. SourceNames told environ y (Ok named)) made names) (subst (λ y. Loads told environ (s ++ y ∷ []) (named ++ paths) r) made turned)

  -- a path is loaded, over a host that still tells the same
  pub turns_loaded : (later : Option World) (s now : List Source) (path place : List ℕ) (x : Source) (paths left : List (List ℕ)) → later ≡ told → place ≡ cleaned path → number_at s place ≡ None → x ≡ source_at path x.text → ReadsText told path (Ok x.text)
      → AddsNames (SourceNames later environ x) paths left (Ok tt) → now ≡ s ++ x ∷ [] → Continues told environ s (path ∷ paths) now left
  turns_loaded later s now path place x paths left same is none made read names behind = record {
    so = loads_now s now path x.text x paths left names.0 (unnumbered s path place is none) made read (subst (λ t. SourceNames t environ x (Ok names.0)) same names.1) names.2 behind;
  }

  -- it can't be read
  pub turns_unread : (s : List Source) (path place : List ℕ) (paths : List (List ℕ)) (e : SearchError) → place ≡ cleaned path → number_at s place ≡ None → (e ≡ error.NoMemory) ⊎ ReadsText told path (Err e)
      → (e ≡ error.NoMemory) ⊎ Loads told environ s (path ∷ paths) (Err e)
  turns_unread s path place paths e is none (inl memory) = inl memory
  turns_unread s path place paths e is none (inr read) = inr (Loads.unread s path paths e (unnumbered s path place is none) read)

  -- what it names can't be told
  pub turns_unseen : (later : Option World) (s : List Source) (path place : List ℕ) (x : Source) (paths : List (List ℕ)) (e : SearchError) → later ≡ told → place ≡ cleaned path → number_at s place ≡ None → x ≡ source_at path x.text → ReadsText told path (Ok x.text)
      → (e ≡ error.NoMemory) ⊎ SourceNames later environ x (Err e) → (e ≡ error.NoMemory) ⊎ Loads told environ s (path ∷ paths) (Err e)
  turns_unseen later s path place x paths e same is none made read (inl memory) = inl memory
  turns_unseen later s path place x paths e same is none made read (inr names) =
      inr (Loads.unseen s path paths x.text e (unnumbered s path place is none) read (subst (λ y. SourceNames told environ y (Err e)) made (subst (λ t. SourceNames t environ x (Err e)) same names)))

  -- one turn more
  pub continues_next : (later : Option World) (start now new : List Source) (first old left : List (List ℕ)) (path : List ℕ) (middle : List (List ℕ)) → later ≡ told → Continues told environ start first now (to_load old) → Skips now old (path ∷ middle)
      → Continues later environ now (path ∷ middle) new left → Continues told environ start first new left
  continues_next later start now new first old left path middle same before skips turn =
      let turn_here = subst (λ t. Continues t environ now (path ∷ middle) new left) same turn in
      record { so = λ r g. before.so r (loads_skipped now old (path ∷ middle) r skips (turn_here.so r g)) }

  -- the last one
  pub continues_end : (start now : List Source) (first old : List (List ℕ)) → Continues told environ start first now (to_load old) → Skips now old [] → Loads told environ start first (Ok now)
  continues_end start now first old before skips = before.so (Ok now) (loads_skipped now old [] (Ok now) skips (Loads.nothing_left now))

  -- one that is refused
  pub continues_refused : (later : Option World) (start now : List Source) (first old : List (List ℕ)) (path : List ℕ) (middle : List (List ℕ)) (e : SearchError) → later ≡ told → Continues told environ start first now (to_load old) → Skips now old (path ∷ middle)
      → (e ≡ error.NoMemory) ⊎ Loads later environ now (path ∷ middle) (Err e) → (e ≡ error.NoMemory) ⊎ Loads told environ start first (Err e)
  continues_refused later start now first old path middle e same before skips (inl memory) = inl memory
  continues_refused later start now first old path middle e same before skips (inr so) =
      inr (before.so (Err e) (loads_skipped now old (path ∷ middle) (Err e) skips (subst (λ t. Loads t environ now (path ∷ middle) (Err e)) same so)))
