-- The modules of a project, one after the other.
use Rattle.std.proofs.Common.{◌≡◌, ℕ, suc, ◌+◌, ◌<◌, ◌≤◌, Bool, not, List, [], ◌∷◌, ◌++◌, map, append-nil, append_assoc, reverse, refl, sym, ap, ◌∙◌, subst, arith}
use Rattle.std.proofs.lemmas.List.{reverse-append, reverse-reverse}
use Rattle.just_print_lists.specs.declared.listed.ListedModule.{ListedModule}
use Rattle.just_print_lists.specs.declared.listed.ListedModule.TheOpen.{ListedModule-F}
use Rattle.just_print_lists.specs.declared.listed.ListedModule.TheFolds.{fold-ListedModule, fold_out-ListedModule}
use Rattle.just_print_lists.specs.Listed.{name_of, is_private, modules_of}
use Rattle.just_print_lists.specs.Order.{in_order}
use Rattle.just_print_lists.specs.Summaries.{public_modules, AreInTurn}
use Rattle.just_print_lists.proofs.Weights.{total, total_append, total_reverse, total_filter, total_in_order}

-- ---- how many modules are left

abbrev pub sum_of : List ℕ → ℕ
sum_of [] = 0
sum_of (n ∷ ns) = n + sum_of ns

abbrev pub weight_step : ListedModule-F ℕ → ℕ
weight_step f = suc (sum_of f.modules)

-- a module with all within it
abbrev pub weight : ListedModule → ℕ
weight = fold-ListedModule ℕ weight_step

abbrev pub weights : List ListedModule → ℕ
weights = total weight

summed : (ms : List ListedModule) → sum_of (map weight ms) ≡ weights ms
summed [] = refl
summed (m ∷ ms) = ap (λ n. weight m + n) (summed ms)

weight_is : (m : ListedModule) → weight m ≡ suc (weights (modules_of m))
weight_is m = fold_out-ListedModule ℕ weight_step m ∙ ap (λ n. suc n) (summed (modules_of m))

pub weights_public : (unsorted : Bool) (m : ListedModule) → weights (public_modules unsorted m) < weight m
weights_public unsorted m =
    let ordered : List ListedModule = in_order name_of unsorted (modules_of m) in
    let some : weights (public_modules unsorted m) ≤ weights ordered = total_filter weight (λ n. not (is_private n)) ordered in
    let same : weights ordered ≡ weights (modules_of m) = total_in_order weight name_of unsorted (modules_of m) in
    let whole : weight m ≡ suc (weights (modules_of m)) = weight_is m in
    omega (arith, some, same, whole)

less : (a b c d e : ℕ) → a ≡ c + e → b ≡ c + (d + 0) → e < d → a < b
less a b c d e h g k = omega (arith, h, g, k)

-- the public modules within one are fewer than it with them
pub fewer : (unsorted : Bool) (ps us qs : List ListedModule) (m : ListedModule) → ps ≡ us ++ m ∷ [] → qs ≡ us ++ reverse (public_modules unsorted m) → weights qs < weights ps
fewer unsorted ps us qs m is are =
    less (weights qs) (weights ps) (weights us) (weight m) (weights (public_modules unsorted m))
    (ap weights are ∙ total_append weight us (reverse (public_modules unsorted m)) ∙ ap (λ n. weights us + n) (total_reverse weight (public_modules unsorted m))) (ap weights is ∙ total_append weight us (m ∷ [])) (weights_public unsorted m)

-- ---- what is left

-- whatever the modules that are pending come to, comes behind those that are done
abbrev pub Leaves : Bool → List ListedModule → List ListedModule → List ListedModule → Type 0
Leaves unsorted first pending done = (rest : List ListedModule) → AreInTurn unsorted (reverse pending) rest → AreInTurn unsorted first (done ++ rest)

pub one_more : (unsorted : Bool) (first ps us qs done : List ListedModule) (m : ListedModule) → ps ≡ us ++ m ∷ [] → qs ≡ us ++ reverse (public_modules unsorted m)
    → Leaves unsorted first ps done → Leaves unsorted first qs (done ++ m ∷ [])
one_more unsorted first ps us qs done m is are leaves rest more =
    let inner : List ListedModule = public_modules unsorted m in
    let within : reverse qs ≡ inner ++ reverse us = ap reverse are ∙ reverse-append us (reverse inner) ∙ ap (λ ms. ms ++ reverse us) (reverse-reverse inner) in
    let turned_round : reverse ps ≡ m ∷ reverse us = ap reverse is ∙ reverse-append us (m ∷ []) in
    subst (λ all. AreInTurn unsorted first all) (sym (append_assoc done (m ∷ []) rest))
    (leaves (m ∷ rest) (subst (λ ms. AreInTurn unsorted ms (m ∷ rest)) (sym turned_round) (AreInTurn.first m (reverse us) rest (subst (λ ms. AreInTurn unsorted ms rest) within more))))

pub nothing_left : (unsorted : Bool) (first ps done : List ListedModule) → ps ≡ [] → Leaves unsorted first ps done → AreInTurn unsorted first done
nothing_left unsorted first ps done none leaves =
    subst (λ all. AreInTurn unsorted first all) (append-nil done) (leaves [] (subst (λ ms. AreInTurn unsorted ms []) (sym (ap reverse none)) AreInTurn.none))

pub at_first : (unsorted : Bool) (first : List ListedModule) (m : ListedModule) → first ≡ m ∷ [] → Leaves unsorted first (m ∷ []) []
at_first unsorted first m is rest more = subst (λ ms. AreInTurn unsorted ms rest) (sym is) more

-- ---- the modules are determined

none_are : (unsorted : Bool) (ms all : List ListedModule) → AreInTurn unsorted ms all → ms ≡ [] → all ≡ []
none_are unsorted ms all AreInTurn.none h = refl
none_are unsorted ms all (AreInTurn.first m more rest a) h = absurd (let no : ⊥ = cc in no)

same_by : (unsorted : Bool) (ms all : List ListedModule) → AreInTurn unsorted ms all → (ns others : List ListedModule) → AreInTurn unsorted ns others → ms ≡ ns → all ≡ others
same_by unsorted ms all AreInTurn.none ns others b h = sym (none_are unsorted ns others b (sym h))
same_by unsorted ms all (AreInTurn.first m left more a) ns others AreInTurn.none h = absurd (let no : ⊥ = cc in no)
same_by unsorted ms all (AreInTurn.first m left more a) ns others (AreInTurn.first n right rest b) h =
    let one : m ≡ n = cc in
    let more_are : left ≡ right = cc in
    ap (λ k. k ∷ more) one
    ∙ ap (λ l. n ∷ l) (same_by unsorted (public_modules unsorted m ++ left) more a (public_modules unsorted n ++ right) rest b (ap (λ k. public_modules unsorted k ++ left) one ∙ ap (λ l. public_modules unsorted n ++ l) more_are))

pub same_modules : (unsorted : Bool) (ms all others : List ListedModule) → AreInTurn unsorted ms all → AreInTurn unsorted ms others → all ≡ others
same_modules unsorted ms all others a b = same_by unsorted ms all a ms others b refl
