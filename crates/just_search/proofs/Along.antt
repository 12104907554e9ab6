-- A search as a loop comes to it.
use Rattle.std.proofs.Common.{◌≡◌, ℕ, suc, ◌+◌, ◌<◌, ◌≤◌, List, [], ◌∷◌, ◌++◌, drop, length, get_or, Option, Some, None, refl, ap, sym, ◌∙◌, subst, append_assoc, add-one}
use Rattle.std.proofs.Math.ListN.{drop_of_length-le}
use Rattle.std.proofs.Math.Seq.{drop-cons}
use Rattle.std.proofs.lemmas.List.{append-nil}
use Rattle.just_search.specs.First.{AllPassed, First}

-- nothing was decided at those before the ones that are left
pub record Along {A R : Type 0} (looks : A → Option R → Type 0) (items left : List A) : Type 0 where
  pub before : List A
  pub parts : items ≡ before ++ left
  pub passed : AllPassed looks before

pub along_start : {A R : Type 0} (looks : A → Option R → Type 0) (items : List A) → Along looks items items
along_start looks items = record { before = []; parts = refl; passed = tt }

all_passed : {A R : Type 0} (looks : A → Option R → Type 0) (xs : List A) (x : A) → AllPassed looks xs → looks x None → AllPassed looks (xs ++ x ∷ [])
all_passed looks [] x h g = (g, tt)
all_passed looks (y ∷ ys) x h g = (h.0, all_passed looks ys x h.1 g)

-- one more is passed
pub along_next : {A R : Type 0} (looks : A → Option R → Type 0) (items left more : List A) (x : A) (o : Option R) → Along looks items left → left ≡ x ∷ more → looks x o → o ≡ None → Along looks items more
along_next looks items left more x o so is looked passed =
    record {
      before = so.before ++ x ∷ [];
      parts = so.parts ∙ ap (λ xs. so.before ++ xs) is ∙ sym (append_assoc so.before (x ∷ []) more);
      passed = all_passed looks so.before x so.passed (subst (λ p. looks x p) passed looked);
    }

-- one decides
pub along_decided : {A R : Type 0} (looks : A → Option R → Type 0) (items left more : List A) (x : A) (o : Option R) (otherwise r : R) → Along looks items left → left ≡ x ∷ more → looks x o → o ≡ Some r → First looks items otherwise r
along_decided looks items left more x o otherwise r so is looked decided =
    First.decided so.before x more (so.parts ∙ ap (λ xs. so.before ++ xs) is) so.passed (subst (λ p. looks x p) decided looked)

-- nothing is left
pub along_undecided : {A R : Type 0} (looks : A → Option R → Type 0) (items left : List A) (otherwise : R) → Along looks items left → left ≡ [] → First looks items otherwise otherwise
along_undecided looks items left otherwise so is =
    First.undecided (subst (λ xs. AllPassed looks xs) (sym (so.parts ∙ ap (λ xs. so.before ++ xs) is ∙ append-nil so.before)) so.passed) refl

-- ---- the same over a list by its places

pub here : {A : Type 0} (all : List A) (i : ℕ) (x : A) → i < length all → x ≡ get_or all i x → drop i all ≡ x ∷ drop (i + 1) all
here all i x less is = rw (add-one, drop-cons all i x less) (ap (λ y. y ∷ drop (suc i) all) (sym is))

pub along_item : {A R : Type 0} (looks : A → Option R → Type 0) (items : List A) (i : ℕ) (x : A) (o : Option R) → i < length items → x ≡ get_or items i x → Along looks items (drop i items) → looks x o → o ≡ None → Along looks items (drop (i + 1) items)
along_item looks items i x o less is so looked passed = along_next looks items (drop i items) (drop (i + 1) items) x o so (here items i x less is) looked passed

pub along_item_decided : {A R : Type 0} (looks : A → Option R → Type 0) (items : List A) (i : ℕ) (x : A) (o : Option R) (otherwise r : R) → i < length items → x ≡ get_or items i x → Along looks items (drop i items) → looks x o → o ≡ Some r → First looks items otherwise r
along_item_decided looks items i x o otherwise r less is so looked decided =
    along_decided looks items (drop i items) (drop (i + 1) items) x o otherwise r so (here items i x less is) looked decided

pub along_all : {A R : Type 0} (looks : A → Option R → Type 0) (items : List A) (i : ℕ) (otherwise : R) → length items ≤ i → Along looks items (drop i items) → First looks items otherwise otherwise
along_all looks items i otherwise over so = along_undecided looks items (drop i items) otherwise so (drop_of_length-le items over)
