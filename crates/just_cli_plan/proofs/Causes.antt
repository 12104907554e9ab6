-- In a graph without a cycle each node's quality comes from one node.
use Rattle.std.proofs.Common.{◌≡◌, ℕ, zero, suc, ◌<◌, Bool, true, false, cond, List, [], ◌∷◌, length, map, get_or, Option, Some, None, refl, sym, ap, ◌∙◌, subst, arith, Contains, ext_get_or}
use Rattle.just_lang_layout.specs.declared.layout.Layout.{Layout}
use Rattle.just_lang_spots.specs.Standing.{Wins}
use Rattle.just_lang_spots.specs.Chains.{ends_within}
use Rattle.just_lang_spots.specs.Graph.{targets, IsGraph, IsAcyclic}
use Rattle.just_lang_spots.specs.Origins.{first_there, AreOrigins}
use Rattle.just_lang_spots.proofs.Chains.{nodes_end, passed_by}
use Rattle.just_lang_spots.proofs.Levels.{target_within}
use Rattle.just_lang.specs.Cycles.{Standing, IsFirstSpot, IsCircularRecipe, all_recipes, recipe_graph}
use Rattle.just_lang.specs.Disabling.{own_absent, is_filled, AreCauses}
use Rattle.just_lang.proofs.RecipeGraphs.{recipes_graph}
use Rattle.just_lang.proofs.CauseLaws.{recipes_acyclic}

-- two functions that are alike at each thing of a list
map_alike : {A B : Type 0} (f g : A → B) (xs : List A) → ((x : A) → Contains xs x → f x ≡ g x) → map f xs ≡ map g xs
map_alike f g [] h = refl
map_alike f g (x ∷ xs) h =
    ap (λ y. y ∷ map f xs) (h x (0, omega arith, refl)) ∙ ap (λ ys. g x ∷ ys) (map_alike f g xs (λ y c. h y (suc c.0, omega (arith, c.1), c.2)))

module _ (edges : List (List ℕ)) (graph : IsGraph edges) (own : List Bool) (xs ys : List (Option ℕ)) (p : AreOrigins edges own xs) (q : AreOrigins edges own ys) where
  -- behind a node from which chains end
  same_at : (n v : ℕ) → v < length edges → ends_within (targets edges) n v ≡ true → get_or xs v None ≡ get_or ys v None
  same_at zero v h e = absurd (cc)
  same_at (suc n) v h e =
      let behind : map (λ w. get_or xs w None) (targets edges v) ≡ map (λ w. get_or ys w None) (targets edges v) =
      map_alike (λ w. get_or xs w None) (λ w. get_or ys w None) (targets edges v)
      (λ w c. same_at n w (target_within edges v w graph h c) (passed_by (ends_within (targets edges) n) (targets edges v) w e c)) in
      p.each v h ∙ ap (λ (os : List (Option ℕ)). cond (get_or own v false) (Some v) (first_there os)) behind ∙ sym (q.each v h)

  pub one_origins : IsAcyclic edges → xs ≡ ys
  one_origins acyclic =
      ext_get_or None xs ys (p.size ∙ sym q.size)
      (λ v l. let h : v < length edges = subst (λ n. v < n) p.size l in same_at (length edges) v h (nodes_end edges graph acyclic v h))

-- for recipes none of which lies on a cycle there is one list of causes
pub one_causes : (wins : Wins) (layout : Layout) (xs ys : List (Option ℕ)) → IsFirstSpot (IsCircularRecipe wins layout) None → AreCauses wins layout xs → AreCauses wins layout ys → xs ≡ ys
one_causes wins layout xs ys none p q =
    one_origins (recipe_graph wins layout) (recipes_graph wins layout) (map (λ (x : Standing). is_filled (own_absent layout x)) (all_recipes wins layout)) xs ys p q (recipes_acyclic wins layout none)
