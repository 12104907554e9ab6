-- A climb as a loop comes to it.
use Rattle.std.proofs.Common.{◌≡◌, ℕ, Bool, true, false, List, [], ◌∷◌, Option, Some, None, refl, ap, ◌∙◌}
use Rattle.std.specs.Prelude.{if◌then◌else◌}
use Rattle.just_search.specs.Climb.{is_ceiling, up_to}
use Rattle.just_search.specs.First.{First}
use Rattle.just_search.proofs.Along.{Along, along_next, along_decided, along_undecided}

-- what is left behind a folder
pub left_behind : (ceiling : Option (List ℕ)) (old new : List (List ℕ)) (folder : List ℕ) (b : Bool) → old ≡ folder ∷ new → is_ceiling ceiling folder ≡ b → up_to ceiling old ≡ folder ∷ (if b then [] else up_to ceiling new)
left_behind ceiling old new folder b is top = ap (λ fs. up_to ceiling fs) is ∙ ap (λ c. folder ∷ (if c then [] else up_to ceiling new)) top

-- a folder below the ceiling is passed
pub climb_next : {R : Type 0} (looks : List ℕ → Option R → Type 0) (ceiling : Option (List ℕ)) (items old new : List (List ℕ)) (folder : List ℕ) → Along looks items (up_to ceiling old) → old ≡ folder ∷ new → looks folder None → is_ceiling ceiling folder ≡ false → Along looks items (up_to ceiling new)
climb_next looks ceiling items old new folder so is looked below =
    along_next looks items (up_to ceiling old) (up_to ceiling new) folder None so (left_behind ceiling old new folder false is below) looked refl

-- a folder decides
pub climb_decided : {R : Type 0} (looks : List ℕ → Option R → Type 0) (ceiling : Option (List ℕ)) (items old new : List (List ℕ)) (folder : List ℕ) (otherwise r : R) → Along looks items (up_to ceiling old) → old ≡ folder ∷ new → looks folder (Some r) → First looks items otherwise r
climb_decided looks ceiling items old new folder otherwise r so is looked =
    along_decided looks items (up_to ceiling old) (if is_ceiling ceiling folder then [] else up_to ceiling new) folder (Some r) otherwise r so (left_behind ceiling old new folder (is_ceiling ceiling folder) is refl) looked refl

-- the ceiling is passed
pub climb_top : {R : Type 0} (looks : List ℕ → Option R → Type 0) (ceiling : Option (List ℕ)) (items old new : List (List ℕ)) (folder : List ℕ) (otherwise : R) → Along looks items (up_to ceiling old) → old ≡ folder ∷ new → looks folder None → is_ceiling ceiling folder ≡ true → First looks items otherwise otherwise
climb_top looks ceiling items old new folder otherwise so is looked top =
    along_undecided looks items [] otherwise (along_next looks items (up_to ceiling old) [] folder None so (left_behind ceiling old new folder true is top) looked refl) refl

-- no folder is left
pub climb_over : {R : Type 0} (looks : List ℕ → Option R → Type 0) (ceiling : Option (List ℕ)) (items old : List (List ℕ)) (otherwise : R) → Along looks items (up_to ceiling old) → old ≡ [] → First looks items otherwise otherwise
climb_over looks ceiling items old otherwise so is = along_undecided looks items (up_to ceiling old) otherwise so (ap (λ fs. up_to ceiling fs) is)
