-- What a look in a folder decides, by what is listed.
use Rattle.std.proofs.Common.{◌≡◌, ◌⊎◌, inl, inr, ℕ, List, [], ◌++◌, Option, Some, refl, ap, sym, ◌∙◌, subst}
use Rattle.std.specs.Prelude.{Result, Ok, Err, IfErr}
use Rattle.std.proofs.lemmas.List.{append-nil}
use Rattle.just_host_record.specs.declared.entry.Entry.{Entry}
use Rattle.just_host_record.specs.World.{World}
use Rattle.just_env.specs.declared.search_error.SearchError.{SearchError}
use Rattle.just_env.specs.declared.search_error.SearchError.TheVariants as error
use Rattle.just_env.specs.Answers.{Answers, entries_of, told_entries}
use Rattle.just_search.specs.Climb.{LooksIn, candidates, chosen}
use Rattle.just_search.specs.First.{answer_of}
use Rattle.just_search.specs.Listing.{ListsFolder}
use Rattle.just_search.specs.Root.{LooksForMark, if_marked}

-- for a justfile
pub looks_unlisted : (told : Option World) (wanted : List (List ℕ)) (folder : List ℕ) (e : SearchError) → (e ≡ error.NoMemory) ⊎ ListsFolder told folder (Err e) → (e ≡ error.NoMemory) ⊎ LooksIn told wanted folder (Some (Err e))
looks_unlisted told wanted folder e (inl memory) = inl memory
looks_unlisted told wanted folder e (inr so) = inr (LooksIn.unlisted e so refl)

pub looks_listed : (told : Option World) (wanted : List (List ℕ)) (folder : List ℕ) (names found : List (List ℕ)) (r : Result (Option (List ℕ)) SearchError) → ListsFolder told folder (Ok names) → found ≡ candidates wanted names
    → Answers (λ x. answer_of x ≡ chosen folder found) r → Answers (λ x. LooksIn told wanted folder (answer_of x)) r
looks_listed told wanted folder names found (Ok x) lists is so = LooksIn.listed names lists (so ∙ ap (λ c. chosen folder c) is)
looks_listed told wanted folder names found (Err e) lists is (inl memory) = inl memory
looks_listed told wanted folder names found (Err e) lists is (inr so) = inr (LooksIn.listed names lists (so ∙ ap (λ c. chosen folder c) is))

-- for a mark
pub mark_unlisted : (told : Option World) (folder : List ℕ) (e : SearchError) → (e ≡ error.NoMemory) ⊎ ListsFolder told folder (Err e) → (e ≡ error.NoMemory) ⊎ LooksForMark told folder (Some (Err e))
mark_unlisted told folder e (inl memory) = inl memory
mark_unlisted told folder e (inr so) = inr (LooksForMark.unlisted e so refl)

pub mark_listed : (told : Option World) (folder : List ℕ) (names : List (List ℕ)) (r : Result (Option (List ℕ)) SearchError) → ListsFolder told folder (Ok names) → Answers (λ x. answer_of x ≡ if_marked folder names) r
    → Answers (λ x. LooksForMark told folder (answer_of x)) r
mark_listed told folder names (Ok x) lists so = LooksForMark.listed names lists so
mark_listed told folder names (Err e) lists (inl memory) = inl memory
mark_listed told folder names (Err e) lists (inr so) = inr (LooksForMark.listed names lists so)

-- ---- the record

-- a call that leaves nothing, behind one that left nothing
pub told_nothing : {A : Type 0} (old new : List Entry) (r : Result A SearchError) → IfErr r (λ e. entries_of e ≡ []) → new ≡ old ++ [] → new ≡ old ++ told_entries r
told_nothing old new (Ok x) none is = is
told_nothing old new (Err e) none is = is ∙ ap (λ es. old ++ es) (sym none)

-- a call that asks the host nothing
pub told_none : {A : Type 0} (old : List Entry) (r : Result A SearchError) → IfErr r (λ e. entries_of e ≡ []) → old ≡ old ++ told_entries r
told_none old r none = told_nothing old old r none (sym (append-nil old))

-- an answer that is given
pub answers_same : {A : Type 0} (r x : Result A SearchError) → r ≡ x → Answers (λ y. y ≡ x) r
answers_same (Ok y) x is = is
answers_same (Err e) x is = inr is

-- one that is answered as another, for which something holds
pub answers_at : {A : Type 0} (P : Result A SearchError → Type 0) (x r : Result A SearchError) → P x → Answers (λ y. y ≡ x) r → Answers P r
answers_at P x (Ok y) so is = subst P (sym is) so
answers_at P x (Err e) so (inl memory) = inl memory
answers_at P x (Err e) so (inr is) = inr (subst P (sym is) so)
