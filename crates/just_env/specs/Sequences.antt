-- What things give: each of them, and the first that has something.
use Rattle.std.specs.Prelude.{◌≡◌, List, [], ◌∷◌, ◌++◌, Option, Some, None, Result, Ok, Err}
use Rattle.std.specs.List.{AllByRecursion}

-- what each of some things gives, in their order, or the first refusal
pub data Each {A B E : Type 0} (gives : A → Result B E → Type 0) : List A → Result (List B) E → Type 0 where
  none : Each gives [] (Ok [])
  more : (x : A) (xs : List A) (y : B) (ys : List B) → gives x (Ok y) → Each gives xs (Ok ys) → Each gives (x ∷ xs) (Ok (y ∷ ys))
  refused_first : (x : A) (xs : List A) (e : E) → gives x (Err e) → Each gives (x ∷ xs) (Err e)
  refused_later : (x : A) (xs : List A) (y : B) (e : E) → gives x (Ok y) → Each gives xs (Err e) → Each gives (x ∷ xs) (Err e)

-- some things have nothing
abbrev pub HaveNothing : {A B E : Type 0} → (A → Result (Option B) E → Type 0) → List A → Type 0
HaveNothing {A} {B} {E} gives items = AllByRecursion (λ x. gives x (Ok None)) items

-- what the first of some things gives that has something, or is refused: those before it have nothing
pub data First {A B E : Type 0} (gives : A → Result (Option B) E → Type 0) (items : List A) : Result (Option B) E → Type 0 where
  found : (before : List A) (x : A) (behind : List A) (y : B) → items ≡ before ++ x ∷ behind → HaveNothing gives before → gives x (Ok (Some y)) → First gives items (Ok (Some y))
  refused : (before : List A) (x : A) (behind : List A) (e : E) → items ≡ before ++ x ∷ behind → HaveNothing gives before → gives x (Err e) → First gives items (Err e)
  nowhere : HaveNothing gives items → First gives items (Ok None)
