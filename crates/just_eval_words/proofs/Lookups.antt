-- Recipes by their paths, module by module.
use Rattle.std.proofs.Common.{◌≡◌, ℕ, suc, ◌+◌, ◌<◌, ◌≤◌, cond, true, false, Bor, List, [], ◌∷◌, ◌++◌, map, length, get_or, drop, drop-cons, Some, None, refl, sym, ap, ◌∙◌, arith}
use Rattle.std.proofs.lemmas.List.{drop_all}
use Rattle.just_path_text.specs.Environ.{or_else}
use Rattle.just_lang_types.specs.declared.recipe.Modulepath.{Modulepath}
use Rattle.just_lang_types.specs.declared.project.Justfile.{Justfile}
use Rattle.just_lang_types.specs.Keys.{same_path}
use Rattle.just_lang_types.specs.Modules.{recipes_of, Located, located, located_at}

abbrev pub seen : List (Bor Justfile) → List Justfile
seen ms = map (λ m. m.now) ms

abbrev pub those_of : Justfile → List Located
those_of j = map (λ r. record { parent = j; recipe = r }) (recipes_of j)

located_joined : (xs ys : List Located) (path : Modulepath) → located_at (xs ++ ys) path ≡ or_else (located_at xs path) (located_at ys path)
located_joined [] ys path = refl
located_joined (x ∷ xs) ys path = elim (same_path x.recipe.path path) as (λ b. cond b (Some x) (located_at (xs ++ ys) path) ≡ or_else (cond b (Some x) (located_at xs path)) (located_at ys path)) [ true ↦ refl | false ↦ located_joined xs ys path ]

module _ (ms : List (Bor Justfile)) (n : ℕ) (path : Modulepath) where
  here : (m : Bor Justfile) → n < length ms → m ≡ get_or ms n m → located_at (located (seen (drop n ms))) path ≡ or_else (located_at (those_of m.now) path) (located_at (located (seen (drop (suc n) ms))) path)
  here m lt is =
      ap (λ js. located_at (located (seen js)) path) (drop-cons ms n m lt ∙ ap (λ z. z ∷ drop (suc n) ms) (sym is)) ∙ located_joined (those_of m.now) (located (seen (drop (suc n) ms))) path

  pub in_module : (m : Bor Justfile) (l : Located) → n < length ms → m ≡ get_or ms n m → located_at (those_of m.now) path ≡ Some l → located_at (located (seen (drop n ms))) path ≡ Some l
  in_module m l lt is h = here m lt is ∙ ap (λ o. or_else o (located_at (located (seen (drop (suc n) ms))) path)) h

  pub in_others : (m : Bor Justfile) → n < length ms → m ≡ get_or ms n m → located_at (those_of m.now) path ≡ None → located_at (located (seen (drop (n + 1) ms))) path ≡ located_at (located (seen (drop n ms))) path
  in_others m lt is h =
      let one : n + 1 ≡ suc n = omega arith in
      ap (λ k. located_at (located (seen (drop k ms))) path) one ∙ sym (here m lt is ∙ ap (λ o. or_else o (located_at (located (seen (drop (suc n) ms))) path)) h)

  pub in_none : length ms ≤ n → located_at (located (seen (drop n ms))) path ≡ None
  in_none le = ap (λ js. located_at (located (seen js)) path) (drop_all n ms le)
