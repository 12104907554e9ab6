-- The modules of a justfile, one after the other.
use Rattle.std.proofs.Common.{◌≡◌, ℕ, zero, suc, ◌+◌, ◌<◌, List, [], ◌∷◌, ◌++◌, map, append-nil, append_assoc, reverse, refl, sym, ap, ◌∙◌, subst, arith}
use Rattle.std.proofs.lemmas.List.{reverse-append, reverse-reverse}
use Rattle.just_lang_types.specs.declared.project.Justfile.{Justfile}
use Rattle.just_lang_types.specs.declared.project.Justfile.TheOpen.{Justfile-F}
use Rattle.just_lang_types.specs.declared.project.Justfile.TheFolds.{fold-Justfile, fold_out-Justfile}
use Rattle.just_lang_types.specs.Modules.{modules_of, AreModules}

-- nothing follows from no modules
none_are : (ms js all : List Justfile) → AreModules ms all → ms ≡ [] → all ≡ []
none_are ms js all AreModules.none h = refl
none_are ms js all (AreModules.first j ks more a) h = absurd (let no : ⊥ = cc in no)

-- the modules are determined
same_by : (ms all : List Justfile) → AreModules ms all → (ns others : List Justfile) → AreModules ns others → ms ≡ ns → all ≡ others
same_by ms all AreModules.none ns others b h = sym (none_are ns [] others b (sym h))
same_by ms all (AreModules.first j js more a) ns others AreModules.none h = absurd (let no : ⊥ = cc in no)
same_by ms all (AreModules.first j js more a) ns others (AreModules.first k ks rest b) h =
    let one : j ≡ k = cc in
    let more_are : js ≡ ks = cc in
    ap (λ m. m ∷ more) one ∙ ap (λ l. k ∷ l) (same_by (modules_of j ++ js) more a (modules_of k ++ ks) rest b (ap (λ m. modules_of m ++ js) one ∙ ap (λ l. modules_of k ++ l) more_are))

pub same_modules : (ms all others : List Justfile) → AreModules ms all → AreModules ms others → all ≡ others
same_modules ms all others a b = same_by ms all a ms others b refl

-- ---- how many modules are left

abbrev pub sum_of : List ℕ → ℕ
sum_of [] = 0
sum_of (n ∷ ns) = n + sum_of ns

abbrev pub weight_step : Justfile-F ℕ → ℕ
weight_step f = suc (sum_of f.modules)

-- a module with all within it
abbrev pub weight : Justfile → ℕ
weight = fold-Justfile ℕ weight_step

abbrev pub weights : List Justfile → ℕ
weights js = sum_of (map weight js)

weight_is : (j : Justfile) → weight j ≡ suc (weights (modules_of j))
weight_is j = fold_out-Justfile ℕ weight_step j

added : (a b c : ℕ) → a + (b + c) ≡ (a + b) + c
added a b c = omega arith

weights_append : (js ks : List Justfile) → weights (js ++ ks) ≡ weights js + weights ks
weights_append [] ks = none_more (weights ks)
  where
    none_more : (n : ℕ) → n ≡ 0 + n
    none_more n = omega arith
weights_append (j ∷ js) ks = ap (λ n. weight j + n) (weights_append js ks) ∙ added (weight j) (weights js) (weights ks)

turned : (a b : ℕ) → a + (b + 0) ≡ b + a
turned a b = omega arith

weights_reverse : (js : List Justfile) → weights (reverse js) ≡ weights js
weights_reverse [] = refl
weights_reverse (j ∷ js) = ap weights (reverse-append (j ∷ []) js) ∙ weights_append (reverse js) (j ∷ []) ∙ ap (λ n. n + weights (j ∷ [])) (weights_reverse js) ∙ turned (weights js) (weight j)

less : (a b c d e : ℕ) → a ≡ c + e → b ≡ c + (d + 0) → d ≡ suc e → a < b
less a b c d e h g k = omega (arith, h, g, k)

-- the modules within one are fewer than it with them
pub fewer : (ps us qs : List Justfile) (m : Justfile) → ps ≡ us ++ m ∷ [] → qs ≡ us ++ reverse (modules_of m) → weights qs < weights ps
fewer ps us qs m is are =
    less (weights qs) (weights ps) (weights us) (weight m) (weights (modules_of m)) (ap weights are ∙ weights_append us (reverse (modules_of m)) ∙ ap (λ n. weights us + n) (weights_reverse (modules_of m))) (ap weights is ∙ weights_append us (m ∷ [])) (weight_is m)

-- ---- what is left

-- whatever the modules that are pending come to, comes behind those that are done
abbrev pub Leaves : List Justfile → List Justfile → List Justfile → Type 0
Leaves first pending done = (rest : List Justfile) → AreModules (reverse pending) rest → AreModules first (done ++ rest)

pub one_more : (first ps us qs done : List Justfile) (m : Justfile) → ps ≡ us ++ m ∷ [] → qs ≡ us ++ reverse (modules_of m) → Leaves first ps done → Leaves first qs (done ++ m ∷ [])
one_more first ps us qs done m is are leaves rest more =
    let within : reverse qs ≡ modules_of m ++ reverse us = ap reverse are ∙ reverse-append us (reverse (modules_of m)) ∙ ap (λ js. js ++ reverse us) (reverse-reverse (modules_of m)) in
    let turned_round : reverse ps ≡ m ∷ reverse us = ap reverse is ∙ reverse-append us (m ∷ []) in
    subst (λ all. AreModules first all) (sym (append_assoc done (m ∷ []) rest)) (leaves (m ∷ rest) (subst (λ js. AreModules js (m ∷ rest)) (sym turned_round) (AreModules.first m (reverse us) rest (subst (λ js. AreModules js rest) within more))))

pub nothing_left : (first ps done : List Justfile) → ps ≡ [] → Leaves first ps done → AreModules first done
nothing_left first ps done none leaves =
    subst (λ all. AreModules first all) (append-nil done) (leaves [] (subst (λ js. AreModules js []) (sym (ap reverse none)) AreModules.none))

pub at_first : (first : List Justfile) (j : Justfile) → first ≡ j ∷ [] → Leaves first (j ∷ []) []
at_first first j is rest more = subst (λ js. AreModules js rest) (sym is) more
