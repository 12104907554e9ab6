-- The stack of paths that are still to be loaded.
use Rattle.std.proofs.Common.{◌≡◌, ℕ, true, List, [], ◌∷◌, ◌++◌, Some, is_some, refl, ap, sym, ◌∙◌, subst, append_assoc}
use Rattle.std.specs.Prelude.{Result, Ok}
use Rattle.std.specs.List.{AllByRecursion}
use Rattle.std.proofs.lemmas.List.{reverse-append}
use Rattle.just_lang_types.specs.declared.source.Source.{Source}
use Rattle.just_path.specs.Clean.{cleaned}
use Rattle.just_search_load.specs.Numbers.{number_at}
use Rattle.just_env.specs.declared.search_error.SearchError.{SearchError}
use Rattle.just_search_load.specs.Gathers.{Adds}
use Rattle.just_search_load.specs.Loads.{is_loaded, to_load}
use Rattle.just_search_load.specs.Turns.{Skips, AddsNames}

-- the last path of a stack comes first
pub top_first : (left : List (List ℕ)) (x : List ℕ) → to_load (left ++ x ∷ []) ≡ x ∷ to_load left
top_first left x = reverse-append left (x ∷ [])

pub skips_none : (s : List Source) (old : List (List ℕ)) → Skips s old (to_load old)
skips_none s old = record { skipped = []; front = refl; loaded = tt }

all_loaded : (s : List Source) (xs : List (List ℕ)) (x : List ℕ) → AllByRecursion (λ path. is_loaded s path ≡ true) xs → is_loaded s x ≡ true → AllByRecursion (λ path. is_loaded s path ≡ true) (xs ++ x ∷ [])
all_loaded s [] x h g = (g, tt)
all_loaded s (y ∷ ys) x h g = (h.0, all_loaded s ys x h.1 g)

-- a loaded path on top is skipped
pub skips_more : (s : List Source) (old now left : List (List ℕ)) (x : List ℕ) (n : ℕ) → Skips s old (to_load now) → now ≡ left ++ x ∷ [] → number_at s (cleaned x) ≡ Some n → Skips s old (to_load left)
skips_more s old now left x n so is number = record {
  skipped = so.skipped ++ x ∷ [];
  front = so.front ∙ ap (λ xs. so.skipped ++ to_load xs) is ∙ ap (λ xs. so.skipped ++ xs) (top_first left x) ∙ sym (append_assoc so.skipped (x ∷ []) (to_load left));
  loaded = all_loaded s so.skipped x so.loaded (ap is_some number);
}

-- any other one is next
pub skips_next : (s : List Source) (old now left : List (List ℕ)) (x : List ℕ) → Skips s old (to_load now) → now ≡ left ++ x ∷ [] → Skips s old (x ∷ to_load left)
skips_next s old now left x so is = record {
  skipped = so.skipped;
  front = so.front ∙ ap (λ xs. so.skipped ++ to_load xs) is ∙ ap (λ xs. so.skipped ++ xs) (top_first left x);
  loaded = so.loaded;
}

-- an empty stack
pub skips_all : (s : List Source) (old now : List (List ℕ)) → Skips s old (to_load now) → now ≡ [] → Skips s old []
skips_all s old now so is = subst (λ xs. Skips s old (to_load xs)) is so

-- a name more on the stack
pub turns_one : (names left now : List (List ℕ)) (x : List ℕ) (all : List (List ℕ)) → names ++ to_load now ≡ all → names ≡ left ++ x ∷ [] → left ++ to_load (now ++ x ∷ []) ≡ all
turns_one names left now x all so is =
    ap (λ xs. left ++ xs) (top_first now x) ∙ sym (append_assoc left (x ∷ []) (to_load now)) ∙ ap (λ xs. xs ++ to_load now) (sym is) ∙ so

-- what was found, on the stack
pub names_pushed : (P : Result (List (List ℕ)) SearchError → Type 0) (none found old new : List (List ℕ)) → none ≡ [] → Adds P none found (Ok tt) → to_load new ≡ found ++ to_load old → AddsNames P (to_load old) (to_load new) (Ok tt)
names_pushed P none found old new empty so is = (so.0, so.1, is ∙ ap (λ xs. xs ++ to_load old) (so.2 ∙ ap (λ xs. xs ++ so.0) empty))
