-- The first of some things that decides.
use Rattle.std.specs.Prelude.{◌≡◌, List, ◌∷◌, ◌++◌, Option, Some, None, Result, Ok, Err}
use Rattle.std.specs.List.{AllByRecursion}

-- nothing is decided at any of some things
abbrev pub AllPassed : {A R : Type 0} → (A → Option R → Type 0) → List A → Type 0
AllPassed {A} {R} looks items = AllByRecursion (λ x. looks x None) items

-- What a look at each of some things comes to: the answer at the first that decides one, where none is decided at those before; else the
-- answer that is told where none decides.
pub data First {A R : Type 0} (looks : A → Option R → Type 0) (items : List A) (otherwise r : R) : Type 0 where
  decided : (before : List A) (x : A) (behind : List A) → items ≡ before ++ x ∷ behind → AllPassed looks before → looks x (Some r) → First looks items otherwise r
  undecided : AllPassed looks items → r ≡ otherwise → First looks items otherwise r

-- the answer that a look gives, where it decides
abbrev pub answer_of : {A E : Type 0} → Result (Option A) E → Option (Result A E)
answer_of (Ok None) = None
answer_of (Ok (Some x)) = Some (Ok x)
answer_of (Err e) = Some (Err e)
