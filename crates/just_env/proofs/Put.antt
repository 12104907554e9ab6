-- Changes are put one behind the other.
use Rattle.std.proofs.Common.{◌≡◌, ℕ, suc, ◌+◌, ◌-◌, ◌<◌, Bool, false, List, [], ◌∷◌, ◌++◌, length, get_or, take, drop, drop-cons, map, refl, sym, ap, ◌∙◌, arith}
use Rattle.std.specs.BTreeMap.{insert_entry}
use Rattle.std.specs.List.{flat_map}
use Rattle.just_lang_types.specs.declared.key.Value.{Value}
use Rattle.just_lang_types.specs.declared.recipe.Parameter.{Parameter}
use Rattle.just_lang_types.specs.declared.scope.Level.{Level}
use Rattle.just_eval_closure.specs.Scopes.{parameter_bindings, levels_within}
use Rattle.just_env.specs.Changes.{Change, text_cmp, exports, put_all, gets, goes, level_changes, outer, module_levels, changes}

-- ---- the levels without the innermost one

front_more : (l : Level) (ls : List Level) (n k : ℕ) → n ≡ suc k → take n (l ∷ ls) ≡ l ∷ take k ls
front_more l ls n k is = ap (λ m. take m (l ∷ ls)) is

pub outer_is : (ls : List Level) → take (length ls - 1) ls ≡ outer ls
outer_is [] = refl
outer_is (l ∷ []) = refl
outer_is (l ∷ m ∷ ms) =
    let one : suc (suc (length ms)) - 1 ≡ suc (suc (length ms) - 1) = omega arith in
    front_more l (m ∷ ms) (suc (suc (length ms)) - 1) (suc (length ms) - 1) one ∙ ap (λ zs. l ∷ zs) (outer_is (m ∷ ms))

-- a recipe's own level is the innermost
outer_end : (ls : List Level) (p own : Level) → outer (ls ++ p ∷ own ∷ []) ≡ ls ++ p ∷ []
outer_end [] p own = refl
outer_end (l ∷ []) p own = refl
outer_end (l ∷ k ∷ ls) p own = ap (λ zs. l ∷ zs) (outer_end (k ∷ ls) p own)

-- and so is that of a module
module_end : (ls : List Level) (own : Level) → outer (ls ++ own ∷ []) ≡ ls
module_end [] own = refl
module_end (l ∷ []) own = refl
module_end (l ∷ k ∷ ls) own = ap (λ zs. l ∷ zs) (module_end (k ∷ ls) own)

-- ---- changes

-- changes behind others
pub put_behind : (done cs ds : List Change) → put_all done (cs ++ ds) ≡ put_all (put_all done cs) ds
put_behind done [] ds = refl
put_behind done (c ∷ cs) ds = put_behind (insert_entry text_cmp done c.0 c.1) cs ds

-- a level's
pub level_put_all : (all : Bool) (unexports : List (List ℕ)) (level : Level) (old mid new : List Change) (pairs : List (List ℕ × List ℕ)) → pairs ≡ exports all level → mid ≡ put_all old (map goes unexports) → new ≡ put_all mid (map gets pairs)
    → new ≡ put_all old (level_changes all unexports level)
level_put_all all unexports level old mid new pairs pairs_are outs ins =
    ins ∙ ap (λ ps. put_all mid (map gets ps)) pairs_are ∙ ap (λ m. put_all m (map gets (exports all level))) outs ∙ sym (put_behind old (map goes unexports) (map gets (exports all level)))

-- a level more
pub level_put_more : (all : Bool) (unexports : List (List ℕ)) (levels : List Level) (n : ℕ) (l : Level) → n < length levels → l ≡ get_or levels n l → (first old new : List Change) → new ≡ put_all old (level_changes all unexports l)
    → put_all old (flat_map (level_changes all unexports) (drop n levels)) ≡ put_all first (flat_map (level_changes all unexports) levels)
    → put_all new (flat_map (level_changes all unexports) (drop (n + 1) levels)) ≡ put_all first (flat_map (level_changes all unexports) levels)
level_put_more all unexports levels n l lt is first old new put before =
    let one : n + 1 ≡ suc n = omega arith in
    let here : drop n levels ≡ l ∷ drop (suc n) levels = drop-cons levels n l lt ∙ ap (λ z. z ∷ drop (suc n) levels) (sym is) in
    ap (λ k. put_all new (flat_map (level_changes all unexports) (drop k levels))) one
    ∙ ap (λ d. put_all d (flat_map (level_changes all unexports) (drop (suc n) levels))) put
    ∙ sym (put_behind old (level_changes all unexports l) (flat_map (level_changes all unexports) (drop (suc n) levels)))
    ∙ sym (ap (λ ls. put_all old (flat_map (level_changes all unexports) ls)) here) ∙ before

module _ (dotenv : List (List ℕ × List ℕ)) (all : Bool) (unexports : List (List ℕ)) (none mid : List Change) (empty : none ≡ []) (pairs : mid ≡ put_all none (map gets dotenv)) where
  -- the pairs and all levels
  pub all_put : (levels outside : List Level) (m list : List Change) → outside ≡ outer levels → m ≡ put_all mid (flat_map (level_changes all unexports) outside) → list ≡ m → list ≡ changes dotenv all unexports levels
  all_put levels outside m list outside_is put is =
      is ∙ put ∙ ap (λ ls. put_all mid (flat_map (level_changes all unexports) ls)) outside_is ∙ ap (λ d. put_all d (flat_map (level_changes all unexports) (outer levels))) (pairs ∙ ap (λ d. put_all d (map gets dotenv)) empty)
      ∙ sym (put_behind [] (map gets dotenv) (flat_map (level_changes all unexports) (outer levels)))

  -- those of a module's scope
  pub all_module_put : (levels : List Level) (m list : List Change) → m ≡ put_all mid (flat_map (level_changes all unexports) levels) → list ≡ m → list ≡ changes dotenv all unexports (module_levels levels)
  all_module_put levels m list put is = all_put (module_levels levels) levels m list (sym (module_end levels (record { bindings = []; prelude = false }))) put is

  end_empty : (cs : List Change) → cs ++ [] ≡ cs
  end_empty [] = refl
  end_empty (c ∷ cs) = ap (λ ds. c ∷ ds) (end_empty cs)

  assoc : (a b c : List Change) → (a ++ b) ++ c ≡ a ++ (b ++ c)
  assoc [] b c = refl
  assoc (x ∷ a) b c = ap (λ ds. x ∷ ds) (assoc a b c)

  flat_end : (ls : List Level) (p : Level) → flat_map (level_changes all unexports) (ls ++ p ∷ []) ≡ flat_map (level_changes all unexports) ls ++ level_changes all unexports p
  flat_end [] p = end_empty (level_changes all unexports p)
  flat_end (l ∷ ls) p = ap (λ ds. level_changes all unexports l ++ ds) (flat_end ls p) ∙ sym (assoc (level_changes all unexports l) (flat_map (level_changes all unexports) ls) (level_changes all unexports p))

  -- those of a recipe's scope
  pub all_recipe_put : (levels : List Level) (parameters : List Parameter) (values : List Value) (level : Level) (near m list : List Change) → level ≡ record { bindings = parameter_bindings parameters values; prelude = false }
      → near ≡ put_all mid (flat_map (level_changes all unexports) levels) → m ≡ put_all near (level_changes all unexports level) → list ≡ m → list ≡ changes dotenv all unexports (levels_within levels parameters values)
  all_recipe_put levels parameters values level near m list level_is put own is =
      let p : Level = record { bindings = parameter_bindings parameters values; prelude = false } in
      let q : Level = record { bindings = []; prelude = false } in
      is ∙ own ∙ ap (λ l. put_all near (level_changes all unexports l)) level_is ∙ ap (λ d. put_all d (level_changes all unexports p)) put
      ∙ sym (put_behind mid (flat_map (level_changes all unexports) levels) (level_changes all unexports p)) ∙ ap (λ ds. put_all mid ds) (sym (flat_end levels p))
      ∙ ap (λ ls. put_all mid (flat_map (level_changes all unexports) ls)) (sym (outer_end levels p q))
      ∙ ap (λ d. put_all d (flat_map (level_changes all unexports) (outer (levels_within levels parameters values)))) (pairs ∙ ap (λ d. put_all d (map gets dotenv)) empty)
      ∙ sym (put_behind [] (map gets dotenv) (flat_map (level_changes all unexports) (outer (levels_within levels parameters values))))
