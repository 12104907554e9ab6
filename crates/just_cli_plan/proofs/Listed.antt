-- A justfile has a list of its modules.
use Rattle.std.proofs.Common.{ℕ, zero, suc, ◌<◌, ◌++◌, List, [], ◌∷◌, reverse, arith}
use Rattle.std.proofs.lemmas.List.{reverse-append}
use Rattle.just_lang_types.specs.declared.project.Justfile.{Justfile}
use Rattle.just_lang_types.specs.Modules.{modules_of, AreModules}
use Rattle.just_lang_types.proofs.Nesting.{weights, fewer}

listed_by : (n : ℕ) (js : List Justfile) → weights (reverse js) < n → (all : List Justfile) × AreModules js all
listed_by zero js small = absurd (omega (arith, small))
listed_by (suc n) [] small = ([], AreModules.none)
listed_by (suc n) (j ∷ js) small =
    let less : weights (reverse (modules_of j ++ js)) < weights (reverse (j ∷ js)) = fewer (reverse (j ∷ js)) (reverse js) (reverse (modules_of j ++ js)) j (reverse-append (j ∷ []) js) (reverse-append (modules_of j) js) in
    let rest = listed_by n (modules_of j ++ js) (omega (arith, less, small)) in
    (j ∷ rest.0, AreModules.first j js rest.0 rest.1)

pub modules_listed : (j : Justfile) → (modules : List Justfile) × AreModules (j ∷ []) modules
modules_listed j = listed_by (suc (weights (reverse (j ∷ [])))) (j ∷ []) (omega arith)
