-- Absolute paths that end in a name: none of them asks for a folder.
use Rattle.std.proofs.Common.{◌≡◌, ℕ, Bool, true, false, true≢false, cond, not, ◌&&◌, ◌||◌, ◌==◌, List, [], ◌∷◌, ◌++◌, length, take, ◌-◌, refl, ap, sym, ◌∙◌, subst, append_assoc}
use Rattle.std.specs.Prelude.{nat_eq}
use Rattle.std.specs.List.{list_any, ends_with}
use Rattle.std.specs.Str.{bytes_eq}
use Rattle.std.proofs.lemmas.Bool.Decides.{Decides-eqb}
use Rattle.std.proofs.lemmas.Slice.Eq.{bytes_eq-Decides, ends_is}
use Rattle.just_path.specs.Path.{is_absolute, ends_open, pushed}
use Rattle.just_path.specs.Comps.{is_empty, dot, dots, slash}
use Rattle.just_path.specs.View.{asks_folder, is_name}
use Rattle.just_path.proofs.Laws.{absolute-pushed}
use Rattle.just_path.proofs.Pushes.{by_last, ends_last}
use Rattle.just_path.proofs.Truths.{and_left, and_right}
use Rattle.just_search.specs.Removals.{is_plain, IsWithin}
use Rattle.just_search.specs.Places.{NamesItem}

-- ---- texts without a slash

abbrev LacksSlash : List ℕ → Type 0
LacksSlash [] = Unit {0}
LacksSlash (b ∷ bs) = ((b ≡ 47) → ⊥) × LacksSlash bs

lacks_not : (a b : List ℕ) → LacksSlash (a ++ 47 ∷ b) → ⊥
lacks_not [] b l = l.0 refl
lacks_not (x ∷ a) b l = lacks_not a b l.1

-- a text is split at its last slash in one way
split_last : (a b n t : List ℕ) → LacksSlash n → LacksSlash t → a ++ 47 ∷ n ≡ b ++ 47 ∷ t → n ≡ t
split_last [] [] n t l m e = cc
split_last [] (y ∷ b) n t l m e =
    let same : n ≡ b ++ 47 ∷ t = cc in
    absurd (lacks_not b t (subst LacksSlash same l))
split_last (x ∷ a) [] n t l m e =
    let same : a ++ 47 ∷ n ≡ t = cc in
    absurd (lacks_not a n (subst LacksSlash (sym same) m))
split_last (x ∷ a) (y ∷ b) n t l m e = split_last a b n t l m cc

pub or_left : (a b : Bool) → (a || b) ≡ false → a ≡ false
or_left true b e = cc
or_left false b e = refl

pub or_right : (a b : Bool) → (a || b) ≡ false → b ≡ false
or_right true b e = cc
or_right false b e = e

pub not_true : (b : Bool) → not b ≡ true → b ≡ false
not_true true e = cc
not_true false e = refl

lacks_slash : (n : List ℕ) → list_any (λ b. b == 47) n ≡ false → LacksSlash n
lacks_slash [] e = tt
lacks_slash (b ∷ n) e =
    ((λ is. true≢false (sym ((Decides-eqb b 47).1 is) ∙ or_left (b == 47) (list_any (λ c. c == 47) n) e)), lacks_slash n (or_right (b == 47) (list_any (λ c. c == 47) n) e))

-- ---- names

plain_name : (n : List ℕ) → is_plain n ≡ true → is_name n ≡ true
plain_name n h = and_left (is_name n) (not (bytes_eq n dot) && not (bytes_eq n dots)) h

pub plain_lacks : (n : List ℕ) → is_plain n ≡ true → list_any (λ b. b == 47) n ≡ false
plain_lacks n h = not_true (list_any (λ b. b == 47) n) (and_right (not (is_empty n)) (not (list_any (λ b. b == 47) n)) (plain_name n h))

pub plain_slashless : (n : List ℕ) → is_plain n ≡ true → LacksSlash n
plain_slashless n h = lacks_slash n (plain_lacks n h)

pub plain_filled : (n : List ℕ) → is_plain n ≡ true → n ≡ [] → ⊥
plain_filled n h e = true≢false (sym (subst (λ (t : List ℕ). is_name t ≡ true) e (plain_name n h)))

pub plain_no_dot : (n : List ℕ) → is_plain n ≡ true → n ≡ dot → ⊥
plain_no_dot n h e =
    true≢false (sym ((bytes_eq-Decides n dot).1 e) ∙ not_true (bytes_eq n dot) (and_left (not (bytes_eq n dot)) (not (bytes_eq n dots)) (and_right (is_name n) (not (bytes_eq n dot) && not (bytes_eq n dots)) h)))

pub plain_no_dots : (n : List ℕ) → is_plain n ≡ true → n ≡ dots → ⊥
plain_no_dots n h e =
    true≢false (sym ((bytes_eq-Decides n dots).1 e) ∙ not_true (bytes_eq n dots) (and_right (not (bytes_eq n dot)) (not (bytes_eq n dots)) (and_right (is_name n) (not (bytes_eq n dot) && not (bytes_eq n dots)) h)))

relative_name : (n : List ℕ) → list_any (λ b. b == 47) n ≡ false → is_absolute n ≡ false
relative_name [] e = refl
relative_name (b ∷ n) e = or_left (b == 47) (list_any (λ c. c == 47) n) e

pub plain_relative : (n : List ℕ) → is_plain n ≡ true → is_absolute n ≡ false
plain_relative n h = relative_name n (plain_lacks n h)

-- ---- paths that end in a name

-- a path ends in that text, with a slash in front of it
abbrev pub EndsIn : List ℕ → List ℕ → Type 0
EndsIn path n = (a : List ℕ) × (path ≡ a ++ 47 ∷ n)

pub one_end : (path n t : List ℕ) → LacksSlash n → LacksSlash t → EndsIn path n → EndsIn path t → n ≡ t
one_end path n t l m e f = split_last e.0 f.0 n t l m (sym e.1 ∙ f.1)

no_end : (path n t : List ℕ) (b : Bool) → ends_with nat_eq path (47 ∷ t) ≡ b → LacksSlash n → LacksSlash t → EndsIn path n → (n ≡ t → ⊥) → b ≡ false
no_end path n t true e l m ends apart =
    absurd (apart (one_end path n t l m ends (take (length path - length (47 ∷ t)) path, (ends_is Decides-eqb path (47 ∷ t) true (sym e)).0 refl)))
no_end path n t false e l m ends apart = refl

no_text : (path t : List ℕ) (b : Bool) → bytes_eq path t ≡ b → is_absolute path ≡ true → is_absolute t ≡ false → b ≡ false
no_text path t true e h k = absurd (true≢false (sym h ∙ ap is_absolute ((bytes_eq-Decides path t).0 e) ∙ k))
no_text path t false e h k = refl

pub asks_none : (path n : List ℕ) → is_absolute path ≡ true → is_plain n ≡ true → EndsIn path n → asks_folder path ≡ false
asks_none path n h plain ends =
    let l = plain_slashless n plain in
    let one : bytes_eq path dot ≡ false = no_text path dot (bytes_eq path dot) refl h refl in
    let two : bytes_eq path dots ≡ false = no_text path dots (bytes_eq path dots) refl h refl in
    let three : ends_with nat_eq path slash ≡ false = no_end path n [] (ends_with nat_eq path slash) refl l tt ends (plain_filled n plain) in
    let four : ends_with nat_eq path (47 ∷ dot) ≡ false = no_end path n dot (ends_with nat_eq path (47 ∷ dot)) refl l ((λ e. cc), tt) ends (plain_no_dot n plain) in
    let five : ends_with nat_eq path (47 ∷ dots) ≡ false = no_end path n dots (ends_with nat_eq path (47 ∷ dots)) refl l ((λ e. cc), ((λ e. cc), tt)) ends (plain_no_dots n plain) in
    rw one (rw two (rw three (rw four (rw five refl))))

not_false : (b : Bool) → not b ≡ false → b ≡ true
not_false true e = refl
not_false false e = cc

ends_case : (v : Bool) (base n ys : List ℕ) (y : ℕ) → base ≡ ys ++ y ∷ [] → ends_open base ≡ v → EndsIn (cond v (base ++ 47 ∷ n) (base ++ n)) n
ends_case true base n ys y is e = (base, refl)
ends_case false base n ys y is e =
    let last : (y == 47) ≡ true = not_false (y == 47) (sym (ends_last ys y) ∙ ap ends_open (sym is) ∙ e) in
    (ys, ap (λ l. l ++ n) is ∙ append_assoc ys (y ∷ []) n ∙ ap (λ z. ys ++ z ∷ n) ((Decides-eqb y 47).0 last))

pushed_relative : (base n : List ℕ) → is_absolute n ≡ false → pushed base n ≡ cond (ends_open base) (base ++ 47 ∷ n) (base ++ n)
pushed_relative base n h = rw h refl

pub pushed_ends : (base n : List ℕ) → is_absolute base ≡ true → is_absolute n ≡ false → EndsIn (pushed base n) n
pushed_ends [] n h k = absurd cc
pushed_ends (x ∷ b) n h k =
    let last = by_last b x in
    subst (λ (t : List ℕ). EndsIn t n) (sym (pushed_relative (x ∷ b) n k)) (ends_case (ends_open (x ∷ b)) (x ∷ b) n last.0 last.1 last.2 refl)

-- ---- what stands within a folder

pub pushed_item : (base n : List ℕ) → is_absolute base ≡ true → is_plain n ≡ true → NamesItem (pushed base n)
pushed_item base n h plain = (absolute-pushed base n h, asks_none (pushed base n) n (absolute-pushed base n h) plain (pushed_ends base n h (plain_relative n plain)))

pub within_item : (folder path : List ℕ) → NamesItem folder → IsWithin folder path → NamesItem path
within_item folder path named IsWithin.itself = named
within_item folder path named (IsWithin.item p n within plain) = pushed_item p n (within_item folder p named within).0 plain
