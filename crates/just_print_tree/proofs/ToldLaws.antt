-- Recipes beside what is written of them, one more at a time.
use Rattle.std.proofs.Common.{◌≡◌, ℕ, zero, suc, ◌+◌, ◌<◌, Bool, true, false, cond, List, [], ◌∷◌, ◌++◌, map, length, drop, get_or, Bor, refl, sym, ap, ◌∙◌, append_assoc, append-nil, add-one, arith}
use Rattle.std.specs.Prelude.{Option, Some, None, find, option_map}
use Rattle.std.specs.List.{cons_option, flat_map}
use Rattle.std.proofs.lemmas.List.{map-append, length-map, drop_all}
use Rattle.just_lang_types.specs.declared.project.Justfile.{Justfile}
use Rattle.just_lang_types.specs.declared.recipe.Modulepath.{Modulepath}
use Rattle.just_lang_layout.specs.declared.layout.File.{File}
use Rattle.just_lang_layout.specs.declared.layout.Module.{Module}
use Rattle.just_lang_spots.specs.Standing.{Wins}
use Rattle.just_lang_spots.proofs.ListLaws.{drop_here}
use Rattle.just_lang_types.specs.Keys.{same_path}
use Rattle.just_print_tree.specs.declared.told.Told.{Told}
use Rattle.just_print_tree.specs.Kept.{told, tolds}
use Rattle.just_print_tree.specs.Told.{ToldRecipe, told_of, told_each, found_told}

-- one more where there is one, as it is told
map_option : {A B : Type 0} (f : A → B) (o : Option A) → map f (cons_option o []) ≡ cons_option (option_map f o) []
map_option f None = refl
map_option f (Some x) = refl

pub tolds_option : (old new : List Told) (o : Option Told) → new ≡ old ++ cons_option o [] → tolds new ≡ tolds old ++ cons_option (option_map told o) []
tolds_option old new o e =
    ap (λ (xs : List Told). tolds xs) e ∙ map-append told old (cons_option o []) ∙ ap (λ (xs : List ToldRecipe). tolds old ++ xs) (map_option told o)

-- what is read of a list is read of what is made of it
pub read_map : {A B : Type 0} (f : A → B) (xs : List A) (i : ℕ) (x : A) → i < length xs → x ≡ get_or xs i x → f x ≡ get_or (map f xs) i (f x)
read_map f [] i x lt is = absurd (omega (arith, lt))
read_map f (y ∷ ys) zero x lt is = ap f is
read_map f (y ∷ ys) (suc i) x lt is = read_map f ys i x (omega (arith, lt)) is

-- the recipes of the module at a place
pub told_here : (wins : Wins) (files : List File) (ms : List Module) (js : List Justfile) (n : ℕ) (m : Module) (j : Justfile) (d : List ToldRecipe) → n < length ms → length ms ≡ length js
    → m ≡ get_or ms n m → j ≡ get_or js n j → get_or (told_each wins files ms js) n d ≡ told_of wins files m j
told_here wins files [] js n m j d lt same a b = absurd (omega (arith, lt))
told_here wins files (x ∷ ms) [] n m j d lt same a b = absurd (omega (arith, same))
told_here wins files (x ∷ ms) (y ∷ js) zero m j d lt same a b = ap (λ z. told_of wins files z y) (sym a) ∙ ap (told_of wins files m) (sym b)
told_here wins files (x ∷ ms) (y ∷ js) (suc n) m j d lt same a b = told_here wins files ms js n m j d (omega (arith, lt)) (omega (arith, same)) a b

told_long : (wins : Wins) (files : List File) (ms : List Module) (js : List Justfile) → length ms ≡ length js → length (told_each wins files ms js) ≡ length ms
told_long wins files [] js same = refl
told_long wins files (m ∷ ms) [] same = absurd (omega (arith, same))
told_long wins files (m ∷ ms) (j ∷ js) same = ap suc (told_long wins files ms js (omega (arith, same)))

-- the same by what the code keeps
pub kept_long : (wins : Wins) (files : List File) (ms : List Module) (js : List Justfile) (kept : List (List Told)) → length ms ≡ length js → map tolds kept ≡ told_each wins files ms js → length kept ≡ length ms
kept_long wins files ms js kept so_many are = sym (length-map kept tolds) ∙ ap (λ (l : List (List ToldRecipe)). length l) are ∙ told_long wins files ms js so_many

pub told_at_place : (wins : Wins) (files : List File) (ms : List Module) (js : List Justfile) (n : ℕ) (m : Module) (j : Justfile) (kept : List (List Told)) (own same : List Told) → n < length ms → length ms ≡ length js
    → m ≡ get_or ms n m → j ≡ get_or js n j → map tolds kept ≡ told_each wins files ms js → own ≡ get_or kept n own → same ≡ own → tolds same ≡ told_of wins files m j
told_at_place wins files ms js n m j kept own same lt so_many is there are here so =
    let less : n < length kept = omega (arith, lt, kept_long wins files ms js kept so_many are) in
    ap tolds so ∙ read_map tolds kept n own less here ∙ ap (λ (l : List (List ToldRecipe)). get_or l n (tolds own)) are ∙ told_here wins files ms js n m j (tolds own) lt so_many is there

-- those from a place on
pub told_from : (wins : Wins) (files : List File) (ms : List Module) (js : List Justfile) (n : ℕ) (m : Module) (j : Justfile) → n < length ms → length ms ≡ length js → m ≡ get_or ms n m → j ≡ get_or js n j
    → told_each wins files (drop n ms) (drop n js) ≡ told_of wins files m j ∷ told_each wins files (drop (suc n) ms) (drop (suc n) js)
told_from wins files [] js n m j lt same a b = absurd (omega (arith, lt))
told_from wins files (x ∷ ms) [] n m j lt same a b = absurd (omega (arith, same))
told_from wins files (x ∷ ms) (y ∷ js) zero m j lt same a b =
    ap (λ z. told_of wins files z y ∷ told_each wins files ms js) (sym a) ∙ ap (λ z. told_of wins files m z ∷ told_each wins files ms js) (sym b)
told_from wins files (x ∷ ms) (y ∷ js) (suc n) m j lt same a b = told_from wins files ms js n m j (omega (arith, lt)) (omega (arith, same)) a b

-- what the code lists of justfiles
abbrev pub justfiles : List (Bor Justfile) → List Justfile
justfiles js = map (λ (j : Bor Justfile). j.now) js

-- one more module
pub told_step : (wins : Wins) (files : List File) (ms : List Module) (js : List (Bor Justfile)) (n : ℕ) (m : Module) (j : Bor Justfile) (old new : List (List Told)) (own : List Told) (whole : List (List ToldRecipe))
    → n < length ms → length ms ≡ length js → m ≡ get_or ms n m → j ≡ get_or js n j → tolds own ≡ told_of wins files m j.now → new ≡ old ++ own ∷ []
    → map tolds old ++ told_each wins files (drop n ms) (drop n (justfiles js)) ≡ whole → map tolds new ++ told_each wins files (drop (n + 1) ms) (drop (n + 1) (justfiles js)) ≡ whole
told_step wins files ms js n m j old new own whole lt same is there own_is new_is h =
    let so_many : length ms ≡ length (justfiles js) = same ∙ sym (length-map js (λ (i : Bor Justfile). i.now)) in
    let further : List (List ToldRecipe) = told_each wins files (drop (n + 1) ms) (drop (n + 1) (justfiles js)) in
    let less : n < length js = omega (arith, lt, same) in
    let here : told_each wins files (drop n ms) (drop n (justfiles js)) ≡ told_of wins files m j.now ∷ told_each wins files (drop (suc n) ms) (drop (suc n) (justfiles js)) =
    told_from wins files ms (justfiles js) n m j.now lt so_many is (read_map (λ (i : Bor Justfile). i.now) js n j less there) in
    let next : told_each wins files (drop n ms) (drop n (justfiles js)) ≡ told_of wins files m j.now ∷ further = here ∙ ap (λ (k : ℕ). told_of wins files m j.now ∷ told_each wins files (drop k ms) (drop k (justfiles js))) (sym (add-one n)) in
    ap (λ (l : List (List Told)). map tolds l ++ further) new_is ∙ ap (λ (l : List (List ToldRecipe)). l ++ further) (map-append tolds old (own ∷ []))
    ∙ append_assoc (map tolds old) (tolds own ∷ []) further ∙ ap (λ (x : List ToldRecipe). map tolds old ++ (x ∷ further)) own_is
    ∙ ap (λ (l : List (List ToldRecipe)). map tolds old ++ l) (sym next) ∙ h

-- all modules
pub told_end : (wins : Wins) (files : List File) (ms : List Module) (js : List Justfile) (n : ℕ) (all : List (List ToldRecipe)) (whole : List (List ToldRecipe)) → n ≡ length ms
    → all ++ told_each wins files (drop n ms) js ≡ whole → all ≡ whole
told_end wins files ms js n all whole e h =
    let none : drop n ms ≡ [] = drop_all n ms (omega (arith, e)) in
    sym (append-nil all) ∙ ap (λ (l : List Module). all ++ told_each wins files l js) (sym none) ∙ h

-- ---- the first of a path

-- where one of some has the path, it is the first of all; else the first of all is one of the others
pub find_there : {A : Type 0} (p : A → Bool) (xs ys : List A) (x : A) → find p xs ≡ Some x → find p (xs ++ ys) ≡ Some x
find_there p [] ys x h = absurd (let no : ⊥ = cc in no)
find_there p (z ∷ xs) ys x h =
    elim (p z) as (λ b. cond b (Some z) (find p xs) ≡ Some x → cond b (Some z) (find p (xs ++ ys)) ≡ Some x) [ true ↦ λ k. k | false ↦ λ k. find_there p xs ys x k ] h

pub find_behind : {A : Type 0} (p : A → Bool) (xs ys : List A) → find p xs ≡ None → find p (xs ++ ys) ≡ find p ys
find_behind p [] ys h = refl
find_behind p (z ∷ xs) ys h =
    elim (p z) as (λ b. cond b (Some z) (find p xs) ≡ None → cond b (Some z) (find p (xs ++ ys)) ≡ find p ys) [ true ↦ λ k. absurd (let no : ⊥ = cc in no) | false ↦ λ k. find_behind p xs ys k ] h

abbrev is_of : Modulepath → ToldRecipe → Bool
is_of path x = same_path x.recipe.path path

abbrev joined : List (List Told) → List ToldRecipe
joined all = flat_map (λ (xs : List ToldRecipe). xs) (map tolds all)

-- one of the recipes of a module has the path
pub found_here : (all : List (List Told)) (i : ℕ) (xs ys : List Told) (path : Modulepath) (x : ToldRecipe) → i < length all → xs ≡ get_or all i xs → ys ≡ xs → Some x ≡ find (is_of path) (tolds ys) → Some x ≡ found_told (map tolds (drop i all)) path
found_here all i xs ys path x lt is same h =
    let here : drop i all ≡ xs ∷ drop (i + 1) all = drop_here all i xs lt is in
    sym (ap (λ (l : List (List Told)). found_told (map tolds l) path) here
    ∙ find_there (is_of path) (tolds xs) (joined (drop (i + 1) all)) x (ap (λ (l : List Told). find (is_of path) (tolds l)) (sym same) ∙ sym h))

-- none of them has it
pub found_later : (all : List (List Told)) (i : ℕ) (xs ys : List Told) (path : Modulepath) → i < length all → xs ≡ get_or all i xs → ys ≡ xs → None ≡ find (is_of path) (tolds ys)
    → found_told (map tolds (drop (i + 1) all)) path ≡ found_told (map tolds (drop i all)) path
found_later all i xs ys path lt is same h =
    let here : drop i all ≡ xs ∷ drop (i + 1) all = drop_here all i xs lt is in
    sym (ap (λ (l : List (List Told)). found_told (map tolds l) path) here
    ∙ find_behind (is_of path) (tolds xs) (joined (drop (i + 1) all)) (ap (λ (l : List Told). find (is_of path) (tolds l)) (sym same) ∙ sym h))
