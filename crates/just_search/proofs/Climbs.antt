-- The climbs for a justfile and for a project's root, over a host whose world stays.
use Rattle.std.proofs.Common.{◌≡◌, ◌⊎◌, inl, inr, ℕ, Bool, true, false, List, [], ◌∷◌, Option, Some, None, refl, sym, ap, ◌∙◌, subst}
use Rattle.std.specs.Prelude.{if◌then◌else◌, Result, Ok, Err}
use Rattle.just_path.specs.Ancestors.{ancestors_of}
use Rattle.just_host_record.specs.World.{World}
use Rattle.just_env.specs.declared.search_error.SearchError.{SearchError}
use Rattle.just_env.specs.declared.search_error.SearchError.TheVariants as error
use Rattle.just_env.specs.Answers.{Answers}
use Rattle.just_search.specs.Climb.{is_ceiling, up_to, behind_first, folders_from, folders_above, LooksIn, FindsIn}
use Rattle.just_search.specs.First.{First}
use Rattle.just_search.specs.Root.{LooksForMark}
use Rattle.just_search.proofs.Along.{Along, along_start}
use Rattle.just_search.proofs.Climbing.{left_behind, climb_next, climb_decided, climb_top, climb_over}

-- ---- for a justfile

pub climbs_next : (told now : Option World) (wanted : List (List ℕ)) (ceiling : Option (List ℕ)) (items old new : List (List ℕ)) (folder : List ℕ) → now ≡ told → Along (LooksIn told wanted) items (up_to ceiling old) → old ≡ folder ∷ new
    → LooksIn now wanted folder None → is_ceiling ceiling folder ≡ false → Along (LooksIn told wanted) items (up_to ceiling new)
climbs_next told now wanted ceiling items old new folder same so is looked below =
    climb_next (LooksIn told wanted) ceiling items old new folder so is (subst (λ t. LooksIn t wanted folder None) same looked) below

pub climbs_found : (told now : Option World) (wanted : List (List ℕ)) (ceiling : Option (List ℕ)) (items old new : List (List ℕ)) (folder file : List ℕ) → now ≡ told → Along (LooksIn told wanted) items (up_to ceiling old) → old ≡ folder ∷ new
    → LooksIn now wanted folder (Some (Ok file)) → FindsIn told wanted items (Ok file)
climbs_found told now wanted ceiling items old new folder file same so is looked =
    climb_decided (LooksIn told wanted) ceiling items old new folder (Err error.NotFound) (Ok file) so is (subst (λ t. LooksIn t wanted folder (Some (Ok file))) same looked)

pub climbs_refused : (told now : Option World) (wanted : List (List ℕ)) (ceiling : Option (List ℕ)) (items old new : List (List ℕ)) (folder : List ℕ) (e : SearchError) → now ≡ told → Along (LooksIn told wanted) items (up_to ceiling old) → old ≡ folder ∷ new
    → (e ≡ error.NoMemory) ⊎ LooksIn now wanted folder (Some (Err e)) → (e ≡ error.NoMemory) ⊎ FindsIn told wanted items (Err e)
climbs_refused told now wanted ceiling items old new folder e same so is (inl memory) = inl memory
climbs_refused told now wanted ceiling items old new folder e same so is (inr looked) =
    inr (climb_decided (LooksIn told wanted) ceiling items old new folder (Err error.NotFound) (Err e) so is (subst (λ t. LooksIn t wanted folder (Some (Err e))) same looked))

pub climbs_top : (told now : Option World) (wanted : List (List ℕ)) (ceiling : Option (List ℕ)) (items old new : List (List ℕ)) (folder : List ℕ) → now ≡ told → Along (LooksIn told wanted) items (up_to ceiling old) → old ≡ folder ∷ new
    → LooksIn now wanted folder None → is_ceiling ceiling folder ≡ true → FindsIn told wanted items (Err error.NotFound)
climbs_top told now wanted ceiling items old new folder same so is looked top =
    climb_top (LooksIn told wanted) ceiling items old new folder (Err error.NotFound) so is (subst (λ t. LooksIn t wanted folder None) same looked) top

pub climbs_over : (told : Option World) (wanted : List (List ℕ)) (ceiling : Option (List ℕ)) (items old : List (List ℕ)) → Along (LooksIn told wanted) items (up_to ceiling old) → old ≡ [] → FindsIn told wanted items (Err error.NotFound)
climbs_over told wanted ceiling items old so is = climb_over (LooksIn told wanted) ceiling items old (Err error.NotFound) so is

-- from a folder
pub from_all : (told : Option World) (wanted : List (List ℕ)) (ceiling : Option (List ℕ)) (start : List ℕ) (all : List (List ℕ)) (r : Result (List ℕ) SearchError) → all ≡ ancestors_of start → Answers (FindsIn told wanted (up_to ceiling all)) r → Answers (FindsIn told wanted (folders_from ceiling start)) r
from_all told wanted ceiling start all r whole found = subst (λ fs. Answers (FindsIn told wanted (up_to ceiling fs)) r) whole found

-- ---- for a root

pub marks_start : (told : Option World) (ceiling : Option (List ℕ)) (start : List ℕ) (all : List (List ℕ)) → all ≡ ancestors_of start → Along (LooksForMark told) (folders_from ceiling start) (up_to ceiling all)
marks_start told ceiling start all whole = subst (λ fs. Along (LooksForMark told) (folders_from ceiling start) (up_to ceiling fs)) (sym whole) (along_start (LooksForMark told) (folders_from ceiling start))

pub marks_next : (told now : Option World) (ceiling : Option (List ℕ)) (items old new : List (List ℕ)) (folder : List ℕ) → now ≡ told → Along (LooksForMark told) items (up_to ceiling old) → old ≡ folder ∷ new
    → LooksForMark now folder None → is_ceiling ceiling folder ≡ false → Along (LooksForMark told) items (up_to ceiling new)
marks_next told now ceiling items old new folder same so is looked below =
    climb_next (LooksForMark told) ceiling items old new folder so is (subst (λ t. LooksForMark t folder None) same looked) below

pub marks_found : (told now : Option World) (ceiling : Option (List ℕ)) (items old new : List (List ℕ)) (folder start root : List ℕ) → now ≡ told → Along (LooksForMark told) items (up_to ceiling old) → old ≡ folder ∷ new
    → LooksForMark now folder (Some (Ok root)) → First (LooksForMark told) items (Ok start) (Ok root)
marks_found told now ceiling items old new folder start root same so is looked =
    climb_decided (LooksForMark told) ceiling items old new folder (Ok start) (Ok root) so is (subst (λ t. LooksForMark t folder (Some (Ok root))) same looked)

pub marks_refused : (told now : Option World) (ceiling : Option (List ℕ)) (items old new : List (List ℕ)) (folder start : List ℕ) (e : SearchError) → now ≡ told → Along (LooksForMark told) items (up_to ceiling old) → old ≡ folder ∷ new
    → (e ≡ error.NoMemory) ⊎ LooksForMark now folder (Some (Err e)) → (e ≡ error.NoMemory) ⊎ First (LooksForMark told) items (Ok start) (Err e)
marks_refused told now ceiling items old new folder start e same so is (inl memory) = inl memory
marks_refused told now ceiling items old new folder start e same so is (inr looked) =
    inr (climb_decided (LooksForMark told) ceiling items old new folder (Ok start) (Err e) so is (subst (λ t. LooksForMark t folder (Some (Err e))) same looked))

pub marks_top : (told now : Option World) (ceiling : Option (List ℕ)) (items old new : List (List ℕ)) (folder start root : List ℕ) → now ≡ told → Along (LooksForMark told) items (up_to ceiling old) → old ≡ folder ∷ new
    → LooksForMark now folder None → is_ceiling ceiling folder ≡ true → root ≡ start → First (LooksForMark told) items (Ok start) (Ok root)
marks_top told now ceiling items old new folder start root same so is looked top at_start =
    subst (λ x. First (LooksForMark told) items (Ok start) (Ok x)) (sym at_start)
    (climb_top (LooksForMark told) ceiling items old new folder (Ok start) so is (subst (λ t. LooksForMark t folder None) same looked) top)

pub marks_over : (told : Option World) (ceiling : Option (List ℕ)) (items old : List (List ℕ)) (start root : List ℕ) → Along (LooksForMark told) items (up_to ceiling old) → old ≡ [] → root ≡ start → First (LooksForMark told) items (Ok start) (Ok root)
marks_over told ceiling items old start root so is at_start =
    subst (λ x. First (LooksForMark told) items (Ok start) (Ok x)) (sym at_start) (climb_over (LooksForMark told) ceiling items old (Ok start) so is)

-- ---- above a folder

above_is : (ceiling : Option (List ℕ)) (folder : List ℕ) (all rest : List (List ℕ)) (first : List ℕ) (b : Bool) → all ≡ ancestors_of folder → all ≡ first ∷ rest → is_ceiling ceiling first ≡ b
    → folders_above ceiling folder ≡ (if b then [] else up_to ceiling rest)
above_is ceiling folder all rest first b whole parts top = ap (λ fs. behind_first fs) (left_behind ceiling (ancestors_of folder) rest first b (sym whole ∙ parts) top)

pub above_next : (told : Option World) (wanted : List (List ℕ)) (ceiling : Option (List ℕ)) (folder : List ℕ) (all rest : List (List ℕ)) (first : List ℕ) (r : Result (List ℕ) SearchError) → all ≡ ancestors_of folder → all ≡ first ∷ rest → is_ceiling ceiling first ≡ false
    → Answers (FindsIn told wanted (up_to ceiling rest)) r → Answers (FindsIn told wanted (folders_above ceiling folder)) r
above_next told wanted ceiling folder all rest first r whole parts below found = subst (λ fs. Answers (FindsIn told wanted fs) r) (sym (above_is ceiling folder all rest first false whole parts below)) found

pub above_top : (told : Option World) (wanted : List (List ℕ)) (ceiling : Option (List ℕ)) (folder : List ℕ) (all rest : List (List ℕ)) (first : List ℕ) → all ≡ ancestors_of folder → all ≡ first ∷ rest → is_ceiling ceiling first ≡ true
    → FindsIn told wanted (folders_above ceiling folder) (Err error.NotFound)
above_top told wanted ceiling folder all rest first whole parts top =
    subst (λ fs. FindsIn told wanted fs (Err error.NotFound)) (sym (above_is ceiling folder all rest first true whole parts top)) (First.undecided tt refl)

pub above_none : (told : Option World) (wanted : List (List ℕ)) (ceiling : Option (List ℕ)) (folder : List ℕ) (all : List (List ℕ)) → all ≡ ancestors_of folder → all ≡ [] → FindsIn told wanted (folders_above ceiling folder) (Err error.NotFound)
above_none told wanted ceiling folder all whole none =
    subst (λ fs. FindsIn told wanted fs (Err error.NotFound)) (sym (ap (λ fs. behind_first (up_to ceiling fs)) (sym whole ∙ none))) (First.undecided tt refl)
