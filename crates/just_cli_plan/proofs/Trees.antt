-- A justfile is determined by what its modules say, one after the other.
use Rattle.std.proofs.Common.{◌≡◌, ℕ, suc, ◌≤◌, ◌&&◌, Bool, true, false, List, [], ◌∷◌, ◌++◌, length, refl, sym, ap, ◌∙◌, subst, arith}
use Rattle.std.specs.Prelude.{All, Option, bytes_eq}
use Rattle.std.specs.List.{enumerate_from}
use Rattle.std.specs.Cmp.Lexicographic.{pointwise}
use Rattle.std.proofs.lemmas.List.Elements.{All-head, All-tail}
use Rattle.just_lang_syntax.specs.declared.ast.StringLiteral.{StringLiteral}
use Rattle.just_lang_types.specs.declared.project.Justfile.{Justfile, out-Justfile}
use Rattle.just_lang_types.specs.declared.project.Justfile.TheOpen.{Justfile-F}
use Rattle.just_lang_types.specs.declared.project.Justfile.TheViews.{roll-Justfile, roll-out-Justfile}
use Rattle.just_lang_types.specs.declared.recipe.Modulepath.{Modulepath}
use Rattle.just_lang_layout.specs.declared.layout.Layout.{Layout}
use Rattle.just_lang_layout.specs.declared.layout.Module.{Module}
use Rattle.just_lang_spots.specs.Standing.{Wins}
use Rattle.just_lang_types.specs.Modules.{path_of, modules_of, AreModules}
use Rattle.just_lang_justfile.specs.Links.{Links}
use Rattle.just_lang_justfile.specs.Modules.{IsModuleOf}
use Rattle.just_lang_justfile.specs.Trees.{front, is_within, IsAround, AreModulesOf, IsJustfileOf}

-- ---- how deep modules are

abbrev depth : Justfile → ℕ
depth j = length (path_of j).components

-- each of some modules is so deep
abbrev AreDeep : ℕ → List Justfile → Type 0
AreDeep n [] = Unit {0}
AreDeep n (j ∷ js) = (depth j ≡ n) × AreDeep n js

-- the first of some modules is so deep at most
abbrev IsFirstUpTo : ℕ → List Justfile → Type 0
IsFirstUpTo n [] = Unit {0}
IsFirstUpTo n (j ∷ js) = depth j ≤ n

-- none of some modules is deeper than the one before it
abbrev AreFalling : List Justfile → Type 0
AreFalling [] = Unit {0}
AreFalling (j ∷ js) = IsFirstUpTo (depth j) js × AreFalling js

and_second : (b c : Bool) → (b && c) ≡ true → c ≡ true
and_second true c h = h
and_second false c h = absurd (cc)

as_long : (xs ys : List (List ℕ)) → pointwise bytes_eq xs ys ≡ true → length xs ≡ length ys
as_long [] [] h = refl
as_long [] (y ∷ ys) h = absurd (cc)
as_long (x ∷ xs) [] h = absurd (cc)
as_long (x ∷ xs) (y ∷ ys) h = ap suc (as_long xs ys (and_second (bytes_eq x y) (pointwise bytes_eq xs ys) h))

front_long : (x : List ℕ) (xs : List (List ℕ)) → length (front x xs) ≡ length xs
front_long x [] = refl
front_long x (y ∷ ys) = ap suc (front_long y ys)

-- a path within another is longer by one name
within_long : (path inner : List (List ℕ)) → is_within path inner ≡ true → length inner ≡ suc (length path)
within_long path [] h = absurd (cc)
within_long path (x ∷ xs) h = ap suc (sym (as_long path (front x xs) h ∙ front_long x xs))

deep_within : (path : List (List ℕ)) (js : List Justfile) → All (λ (i : Justfile). is_within path (path_of i).components ≡ true) js → AreDeep (suc (length path)) js
deep_within path [] h = tt
deep_within path (j ∷ js) h =
    let P : Justfile → Type 0 = λ i. is_within path (path_of i).components ≡ true in
    (within_long path (path_of j).components (All-head P j js h), deep_within path js (All-tail P j js h))

up_to_more : (n : ℕ) (j : Justfile) (js ks : List Justfile) → depth j ≡ suc n → AreDeep (suc n) js → IsFirstUpTo n ks → IsFirstUpTo (depth j) (js ++ ks)
up_to_more n j [] [] e h k = tt
up_to_more n j [] (y ∷ ks) e h k = omega (arith, e, k)
up_to_more n j (x ∷ js) ks e h k = let same : depth x ≡ suc n = h.0 in omega (arith, e, same)

-- modules of one depth before others that aren't as deep
falling_more : (n : ℕ) (js ks : List Justfile) → AreDeep (suc n) js → IsFirstUpTo n ks → AreFalling ks → AreFalling (js ++ ks)
falling_more n [] ks h k f = f
falling_more n (j ∷ js) ks h k f = (up_to_more n j js ks h.0 h.1 k, falling_more n js ks h.1 k f)

deep_or_not : (n : ℕ) (j : Justfile) (js : List Justfile) → depth j ≡ suc n → IsFirstUpTo n (j ∷ js) → ⊥
deep_or_not n j js e h = omega (arith, e, h)

-- which of a list are those in front is determined
same_parts : (n : ℕ) (xs ys us vs : List Justfile) → AreDeep (suc n) xs → IsFirstUpTo n ys → AreDeep (suc n) us → IsFirstUpTo n vs → xs ++ ys ≡ us ++ vs → (xs ≡ us) × (ys ≡ vs)
same_parts n [] ys [] vs a b c d e = (refl, e)
same_parts n [] ys (u ∷ us) vs a b c d e = absurd (deep_or_not n u (us ++ vs) c.0 (subst (λ (ks : List Justfile). IsFirstUpTo n ks) e b))
same_parts n (x ∷ xs) ys [] vs a b c d e = absurd (deep_or_not n x (xs ++ ys) a.0 (subst (λ (ks : List Justfile). IsFirstUpTo n ks) (sym e) d))
same_parts n (x ∷ xs) ys (u ∷ us) vs a b c d e =
    let first : x ≡ u = cc in
    let rest : xs ++ ys ≡ us ++ vs = cc in
    let h = same_parts n xs ys us vs a.1 b c.1 d rest in
    (ap (λ (z : Justfile). z ∷ xs) first ∙ ap (λ (zs : List Justfile). u ∷ zs) h.0, h.1)

-- ---- trees

-- two modules are the same but for those within them
abbrev AreAlike : Justfile → Justfile → Type 0
AreAlike j k = (path_of j ≡ path_of k) × (modules_of j ≡ modules_of k → j ≡ k)

-- so are those of two lists, one for one, and each has those within it directly within its path
abbrev AllAlike : List Justfile → List Justfile → Type 0
AllAlike [] [] = Unit {0}
AllAlike [] (k ∷ ks) = ⊥
AllAlike (j ∷ js) [] = ⊥
AllAlike (j ∷ js) (k ∷ ks) = (AreAlike j k × IsAround j × IsAround k) × AllAlike js ks

module _ (j : Justfile) (js : List Justfile) (k : Justfile) (ks : List Justfile) (alike : AreAlike j k) (around : IsAround j) (around' : IsAround k) (falling : AreFalling (j ∷ js)) (falling' : AreFalling (k ∷ ks)) where
  within : AreDeep (suc (depth j)) (modules_of j)
  within = deep_within (path_of j).components (modules_of j) around

  within' : AreDeep (suc (depth k)) (modules_of k)
  within' = deep_within (path_of k).components (modules_of k) around'

  falls : AreFalling (modules_of j ++ js)
  falls = falling_more (depth j) (modules_of j) js within falling.0 falling.1

  falls' : AreFalling (modules_of k ++ ks)
  falls' = falling_more (depth k) (modules_of k) ks within' falling'.0 falling'.1

  one_more : modules_of j ++ js ≡ modules_of k ++ ks → j ∷ js ≡ k ∷ ks
  one_more e =
      let deep : depth k ≡ depth j = ap (λ (p : Modulepath). length p.components) (sym alike.0) in
      let h = same_parts (depth j) (modules_of j) js (modules_of k) ks within falling.0 (subst (λ n. AreDeep (suc n) (modules_of k)) deep within') (subst (λ n. IsFirstUpTo n ks) deep falling'.0) e in
      ap (λ (x : Justfile). x ∷ js) (alike.1 h.0) ∙ ap (λ (xs : List Justfile). k ∷ xs) h.1

-- modules that are alike, one after the other, stand in one tree
same_trees : (js all : List Justfile) → AreModules js all → (ks others : List Justfile) → AreModules ks others → AllAlike all others → AreFalling js → AreFalling ks → js ≡ ks
same_trees js all AreModules.none ks others AreModules.none h f g = refl
same_trees js all AreModules.none ks others (AreModules.first k more rest b) h f g = absurd h
same_trees js all (AreModules.first j more rest a) ks others AreModules.none h f g = absurd h
same_trees js all (AreModules.first j more rest a) ks others (AreModules.first k more' rest' b) h f g =
    one_more j more k more' h.0.0 h.0.1 h.0.2 f g
    (same_trees (modules_of j ++ more) rest a (modules_of k ++ more') rest' b h.1 (falls j more k more' h.0.0 h.0.1 h.0.2 f g) (falls' j more k more' h.0.0 h.0.1 h.0.2 f g))

-- ---- what modules say

same_layers : (f g : Justfile-F Justfile) → f.module_path ≡ g.module_path → f.source ≡ g.source → f.settings ≡ g.settings → f.assignments ≡ g.assignments → f.unexports ≡ g.unexports
    → f.recipes ≡ g.recipes → f.recipe_aliases ≡ g.recipe_aliases → f.modules ≡ g.modules → f.module_aliases ≡ g.module_aliases → f.absent_modules ≡ g.absent_modules
    → f.disabled_recipes ≡ g.disabled_recipes → f.disabled_aliases ≡ g.disabled_aliases → f.groups ≡ g.groups → f.doc ≡ g.doc → f ≡ g
same_layers f g path source settings assignments unexports recipes recipe_aliases modules module_aliases absent disabled_recipes disabled_aliases groups doc =
    rw (path, source, settings, assignments, unexports, recipes, recipe_aliases, modules, module_aliases, absent, disabled_recipes, disabled_aliases, groups, doc)

rolled : (j k : Justfile) → out-Justfile j ≡ out-Justfile k → j ≡ k
rolled j k e = sym (roll-out-Justfile j) ∙ ap (λ (f : Justfile-F Justfile). roll-Justfile f) e ∙ roll-out-Justfile k

module _ (text_of : StringLiteral → Option (List ℕ)) (links : Links) (wins : Wins) (layout : Layout) where
  said_alike : (n : ℕ) (m : Module) (j k : Justfile) → IsModuleOf text_of links wins layout.files n m j → IsModuleOf text_of links wins layout.files n m k → AreAlike j k
  said_alike n m j k h g = (
    h.module_path ∙ sym g.module_path,
    λ inner.
        rolled j k
        (same_layers (out-Justfile j) (out-Justfile k) (h.module_path ∙ sym g.module_path) (h.source ∙ sym g.source) (h.settings ∙ sym g.settings) (h.assignments ∙ sym g.assignments)
        (h.unexports ∙ sym g.unexports) (h.recipes ∙ sym g.recipes) (h.recipe_aliases ∙ sym g.recipe_aliases) inner (h.module_aliases ∙ sym g.module_aliases)
        (h.absent_modules ∙ sym g.absent_modules) (h.disabled_recipes ∙ sym g.disabled_recipes) (h.disabled_aliases ∙ sym g.disabled_aliases) (h.groups ∙ sym g.groups) (h.doc ∙ sym g.doc)),
  )

  all_alike : (xs : List (ℕ × Module)) (js ks : List Justfile) → AreModulesOf text_of links wins layout xs js → AreModulesOf text_of links wins layout xs ks → AllAlike js ks
  all_alike [] [] [] h g = tt
  all_alike [] [] (k ∷ ks) h g = absurd g
  all_alike [] (j ∷ js) ks h g = absurd h
  all_alike (x ∷ xs) [] ks h g = absurd h
  all_alike (x ∷ xs) (j ∷ js) [] h g = absurd g
  all_alike (x ∷ xs) (j ∷ js) (k ∷ ks) h g = ((said_alike x.0 x.1 j k h.0.0 g.0.0, h.0.1, g.0.1), all_alike xs js ks h.1 g.1)

  -- a layout makes one justfile
  pub one_justfile_of : (j k : Justfile) → IsJustfileOf text_of links wins layout j → IsJustfileOf text_of links wins layout k → j ≡ k
  one_justfile_of j k h g =
      let same : j ∷ [] ≡ k ∷ [] =
      same_trees (j ∷ []) h.all h.in_order (k ∷ []) g.all g.in_order (all_alike (enumerate_from 0 layout.modules) h.all g.all h.each g.each) (tt, tt) (tt, tt) in
      cc
