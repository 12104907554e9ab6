-- A tree of modules is made from the last one to the first.
use Rattle.std.proofs.Common.{◌≡◌, ℕ, zero, suc, ◌+◌, ◌<◌, ◌≤◌, List, [], ◌∷◌, ◌++◌, map, length, drop, get_or, reverse, length-append, Bor, refl, sym, ap, ◌∙◌, subst, arith}
use Rattle.std.specs.Prelude.{Option}
use Rattle.std.proofs.lemmas.List.{map-append, length-map, drop_all}
use Rattle.just_lang_syntax.specs.declared.ast.StringLiteral.{StringLiteral}
use Rattle.just_lang_types.specs.declared.project.Justfile.{Justfile}
use Rattle.just_lang_types.specs.Modules.{modules_of, AreModules}
use Rattle.just_lang_types.proofs.Nesting.{same_modules}
use Rattle.just_lang_layout.specs.declared.layout.File.{File}
use Rattle.just_lang_layout.specs.declared.layout.Layout.{Layout}
use Rattle.just_lang_layout.specs.declared.layout.Module.{Module}
use Rattle.just_lang_spots.specs.declared.spot.Spot.{Spot}
use Rattle.just_lang_spots.specs.Standing.{Wins}
use Rattle.just_lang_spots.proofs.ListLaws.{drop_here}
use Rattle.just_print_lists.specs.declared.listed.ListedModule.{ListedModule}
use Rattle.just_print_lists.specs.Listed.{modules_of as inner_of}
use Rattle.just_print_tree.specs.declared.branch.Built.{Built}
use Rattle.just_print_tree.specs.declared.told.Told.{Told}
use Rattle.just_print_tree.specs.Told.{ToldRecipe, told_of, told_each}
use Rattle.just_print_tree.specs.Branches.{Branch, module_spots, IsListed, IsBranch, AreListed, IsTreeOf, HasModulesOf}
use Rattle.just_print_tree.specs.Kept.{branch, branches, tolds, AreTaken, IsGrown, AreGrown}
use Rattle.just_print_tree.proofs.Branching.{long, branches_turned}
use Rattle.just_print_tree.proofs.ToldLaws.{justfiles}

abbrev justfile_of : Branch → Justfile
justfile_of b = b.justfile

-- ---- lists in two parts

same_front : {A : Type 0} (xs ys zs ws : List A) → length xs ≡ length ys → xs ++ zs ≡ ys ++ ws → (xs ≡ ys) × (zs ≡ ws)
same_front [] [] zs ws h e = (refl, e)
same_front [] (y ∷ ys) zs ws h e = absurd (omega (arith, h))
same_front (x ∷ xs) [] zs ws h e = absurd (omega (arith, h))
same_front {A} (x ∷ xs) (y ∷ ys) zs ws h e =
    let one : x ≡ y = cc in
    let more : xs ++ zs ≡ ys ++ ws = cc in
    let both : (xs ≡ ys) × (zs ≡ ws) = same_front xs ys zs ws (omega (arith, h)) more in
    (ap (λ (z : A). z ∷ xs) one ∙ ap (λ (l : List A). y ∷ l) both.0, both.1)

-- ---- the modules of a justfile from a number on

-- some modules stand in none of the others
suffix : (n : ℕ) (js all : List Justfile) → AreModules js all → (ks : List Justfile) × AreModules ks (drop n all)
suffix zero js all a = (js, a)
suffix (suc n) js all AreModules.none = ([], AreModules.none)
suffix (suc n) js all (AreModules.first j ks more a) = suffix n (modules_of j ++ ks) more a

-- those in front of a module are it and others
in_front : (ks all more : List Justfile) (j : Justfile) → AreModules ks all → all ≡ j ∷ more → (js : List Justfile) × (ks ≡ j ∷ js) × AreModules (modules_of j ++ js) more
in_front ks all more j AreModules.none e = absurd (let no : ⊥ = cc in no)
in_front ks all more j (AreModules.first k js rest a) e =
    let one : k ≡ j = cc in
    let same : rest ≡ more = cc in
    (js, ap (λ (i : Justfile). i ∷ js) one, subst (λ (l : List Justfile). AreModules (modules_of j ++ js) l) same (subst (λ (i : Justfile). AreModules (modules_of i ++ js) rest) one a))

-- they are determined
same_roots : (js all : List Justfile) → AreModules js all → (ks others : List Justfile) → AreModules ks others → all ≡ others → js ≡ ks
same_roots js all AreModules.none ks others AreModules.none e = refl
same_roots js all AreModules.none ks others (AreModules.first k is more b) e = absurd (let no : ⊥ = cc in no)
same_roots js all (AreModules.first j is more a) ks others AreModules.none e = absurd (let no : ⊥ = cc in no)
same_roots js all (AreModules.first j is more a) ks others (AreModules.first k ls rest b) e =
    let one : j ≡ k = cc in
    let same : more ≡ rest = cc in
    let within : modules_of j ++ is ≡ modules_of k ++ ls = same_roots (modules_of j ++ is) more a (modules_of k ++ ls) rest b same in
    let inner : modules_of j ≡ modules_of k = ap (λ (i : Justfile). modules_of i) one in
    let both : (modules_of j ≡ modules_of k) × (is ≡ ls) = same_front (modules_of j) (modules_of k) is ls (ap (λ (l : List Justfile). length l) inner) within in
    ap (λ (i : Justfile). i ∷ is) one ∙ ap (λ (l : List Justfile). k ∷ l) both.1

-- the modules made so far are those within the next one, and others
pub others : (root : Justfile) (js : List Justfile) (n : ℕ) (j : Justfile) (bs : List Branch) → AreModules (root ∷ []) js → n < length js → j ≡ get_or js n j → AreModules (map justfile_of bs) (drop (n + 1) js)
    → (ks : List Justfile) × (map justfile_of bs ≡ modules_of j ++ ks)
others root js n j bs whole lt is old =
    let (ms, a) = suffix n (root ∷ []) js whole in
    let here : drop n js ≡ j ∷ drop (n + 1) js = drop_here js n j lt is in
    let (ks, front, b) = in_front ms (drop n js) (drop (n + 1) js) j a here in
    (ks, same_roots (map justfile_of bs) (drop (n + 1) js) old (modules_of j ++ ks) (drop (n + 1) js) b refl)

-- so there are enough of them
pub enough : (root : Justfile) (js : List Justfile) (n : ℕ) (j : Justfile) (outer : List Built) → AreModules (root ∷ []) js → n < length js → j ≡ get_or js n j
    → AreModules (map justfile_of (reverse (branches outer))) (drop (n + 1) js) → length (modules_of j) ≤ length outer
enough root js n j outer whole lt is old =
    let (ks, are) = others root js n j (reverse (branches outer)) whole lt is old in
    let so_many : length outer ≡ length (modules_of j) + length ks =
    sym (long outer) ∙ sym (length-map (reverse (branches outer)) justfile_of) ∙ ap (λ (l : List Justfile). length l) are ∙ length-append (modules_of j) ks in
    omega (arith, so_many)

-- ---- branches

module _ (text_of : StringLiteral → Option (List ℕ)) (wins : Wins) (files : List File) (all : List (List ToldRecipe)) where
  pub grown_none : (ms : List Module) (js : List Justfile) (n : ℕ) → n ≡ length ms → length js ≡ length ms → AreGrown text_of wins files all (drop n ms) (drop n js) []
  grown_none ms js n e same =
      let no_more : drop n ms ≡ [] = drop_all n ms (omega (arith, e)) in
      let none : drop n js ≡ [] = drop_all n js (omega (arith, e, same)) in
      (subst (λ (l : List Module). AreListed text_of wins files all l []) (sym no_more) AreListed.none, subst (λ (l : List Justfile). AreModules [] l) (sym none) AreModules.none)

  pub grown_more : (ms : List Module) (js : List Justfile) (root : Justfile) (n : ℕ) (m : Module) (j : Justfile) (own : List ToldRecipe) (bs cs : List Branch) → AreModules (root ∷ []) js
      → n < length ms → n < length js → m ≡ get_or ms n m → j ≡ get_or js n j → own ≡ told_of wins files m j
      → AreGrown text_of wins files all (drop (n + 1) ms) (drop (n + 1) js) bs → IsGrown text_of files all own m j bs cs → AreGrown text_of wins files all (drop n ms) (drop n js) cs
  grown_more ms js root n m j own bs cs whole lt less is there own_is old g =
      let b : Branch = record { laid = m; justfile = j; listed = g.listed } in
      let (ks, are) = others root js n j bs whole less there old.1 in
      let parts : map justfile_of g.inner ++ map justfile_of g.rest ≡ modules_of j ++ ks = sym (map-append justfile_of g.inner g.rest) ∙ ap (λ (l : List Branch). map justfile_of l) (sym g.parts) ∙ are in
      let both : (map justfile_of g.inner ≡ modules_of j) × (map justfile_of g.rest ≡ ks) = same_front (map justfile_of g.inner) (modules_of j) (map justfile_of g.rest) ks (length-map g.inner justfile_of ∙ g.count) parts in
      let said : IsListed text_of files all (told_of wins files m j) (module_spots files g.inner) m j g.listed = subst (λ (l : List ToldRecipe). IsListed text_of files all l (module_spots files g.inner) m j g.listed) own_is g.said in
      let branch_is : IsBranch text_of wins files all b g.inner = record { justfiles = sym both.0; modules = g.modules; listed = said } in
      let listed : AreListed text_of wins files all (m ∷ drop (n + 1) ms) (b ∷ g.rest) =
      AreListed.first b g.inner g.rest (drop (n + 1) ms) branch_is (subst (λ (l : List Branch). AreListed text_of wins files all (drop (n + 1) ms) l) g.parts old.0) in
      let modules : AreModules (j ∷ map justfile_of g.rest) (j ∷ drop (n + 1) js) =
      AreModules.first j (map justfile_of g.rest) (drop (n + 1) js)
      (subst (λ (l : List Justfile). AreModules l (drop (n + 1) js)) (are ∙ ap (λ (l : List Justfile). modules_of j ++ l) (sym both.1)) old.1) in
      let here : m ∷ drop (n + 1) ms ≡ drop n ms = sym (drop_here ms n m lt is) in
      let so : j ∷ drop (n + 1) js ≡ drop n js = sym (drop_here js n j less there) in
      let first : b ∷ g.rest ≡ cs = sym g.grown in (
        subst (λ (l : List Branch). AreListed text_of wins files all (drop n ms) l) first (subst (λ (l : List Module). AreListed text_of wins files all l (b ∷ g.rest)) here listed),
        subst (λ (l : List Branch). AreModules (map justfile_of l) (drop n js)) first (subst (λ (l : List Justfile). AreModules (map justfile_of (b ∷ g.rest)) l) so modules),
      )

-- one more is made of those within it
pub grown_so : (text_of : StringLiteral → Option (List ℕ)) (files : List File) (all : List (List ToldRecipe)) (own : List ToldRecipe) (m : Module) (j : Justfile) (count : ℕ) (before : List Branch) (middle new : List Built)
    (trees : List ListedModule) (spots : List Spot) (built : Built) → AreTaken files count before (reverse (branches middle)) trees spots → count ≡ length (modules_of j)
    → IsListed text_of files all own spots m j built.listed → inner_of built.listed ≡ trees → built.laid.now ≡ m → built.justfile.now ≡ j → new ≡ middle ++ built ∷ []
    → IsGrown text_of files all own m j before (reverse (branches new))
grown_so text_of files all own m j count before middle new trees spots built taken so_many said inner laid justfile new_is = record {
  inner = taken.taken;
  rest = reverse (branches middle);
  listed = built.listed;
  parts = taken.parts;
  count = taken.count_is ∙ so_many;
  grown =
      branches_turned new middle built new_is
      ∙ ap (λ (k : Module). record { laid = k; justfile = built.justfile.now; listed = built.listed } ∷ reverse (branches middle)) laid
      ∙ ap (λ (k : Justfile). record { laid = m; justfile = k; listed = built.listed } ∷ reverse (branches middle)) justfile;
  modules = inner ∙ taken.trees_are;
  said = subst (λ (l : List Spot). IsListed text_of files all own l m j built.listed) taken.spots_are said;
}

-- ---- the whole tree

-- the modules of a slice are those that were listed
pub sliced : (j : Justfile) (found js : List (Bor Justfile)) → js ≡ found → AreModules (j ∷ []) (justfiles found) → AreModules (j ∷ []) (justfiles js)
sliced j found js same are = subst (λ (l : List (Bor Justfile)). AreModules (j ∷ []) (justfiles l)) (sym same) are

-- a layout has as many modules as were listed
pub as_many : (layout : Layout) (ms : List Module) (j : Justfile) (js : List (Bor Justfile)) → HasModulesOf layout.modules j → ms ≡ layout.modules → AreModules (j ∷ []) (justfiles js) → length ms ≡ length js
as_many layout ms j js has ms_are are =
    let so_many : length has.0 ≡ length (justfiles js) = ap (λ (l : List Justfile). length l) (same_modules (j ∷ []) has.0 (justfiles js) has.1 are) in
    ap (λ (l : List Module). length l) ms_are ∙ sym has.2 ∙ so_many ∙ length-map js (λ (i : Bor Justfile). i.now)

no_more : (bs : List Branch) → map justfile_of bs ≡ [] → bs ≡ []
no_more [] h = refl
no_more (b ∷ bs) h = absurd (let no : ⊥ = cc in no)

module _ (text_of : StringLiteral → Option (List ℕ)) (wins : Wins) (layout : Layout) where
  -- the same of what the layout has
  pub grown_there : (files : List File) (ms : List Module) (js : List Justfile) (all : List (List ToldRecipe)) (bs : List Branch) → files ≡ layout.files → ms ≡ layout.modules
      → AreGrown text_of wins files all ms js bs → AreGrown text_of wins layout.files all layout.modules js bs
  grown_there files ms js all bs files_are ms_are g =
      subst (λ (l : List File). AreGrown text_of wins l all layout.modules js bs) files_are (subst (λ (l : List Module). AreGrown text_of wins files all l js bs) ms_are g)

  pub told_there : (files : List File) (ms : List Module) (js : List Justfile) (kept all : List (List Told)) → files ≡ layout.files → ms ≡ layout.modules → all ≡ kept
      → map tolds kept ≡ told_each wins files ms js → map tolds all ≡ told_each wins layout.files layout.modules js
  told_there files ms js kept all files_are ms_are same all_is =
      ap (λ (l : List (List Told)). map tolds l) same ∙ all_is ∙ ap (λ (l : List File). told_each wins l ms js) files_are ∙ ap (λ (l : List Module). told_each wins layout.files l js) ms_are

  -- the last branch that was made is that of the root, and there is no other one
  pub tree_is : (js : List Justfile) (all : List (List ToldRecipe)) (j : Justfile) (b : Branch) (bs : List Branch) → AreModules (j ∷ []) js → all ≡ told_each wins layout.files layout.modules js
      → AreGrown text_of wins layout.files all layout.modules js (b ∷ bs) → IsTreeOf text_of wins layout j b.listed
  tree_is js all j b bs whole all_is g =
      let same : b.justfile ∷ map justfile_of bs ≡ j ∷ [] = same_roots (map justfile_of (b ∷ bs)) js g.1 (j ∷ []) js whole refl in
      let one : b.justfile ≡ j = cc in
      let none : bs ≡ [] = no_more bs (cc) in
      let alone : AreListed text_of wins layout.files all layout.modules (b ∷ []) = subst (λ (l : List Branch). AreListed text_of wins layout.files all layout.modules (b ∷ l)) none g.0 in
      record {
        modules = js;
        in_order = whole;
        root = b;
        justfile = one;
        listed = refl;
        within = subst (λ (l : List (List ToldRecipe)). AreListed text_of wins layout.files l layout.modules (b ∷ [])) all_is alone;
      }

  -- there is such a one
  pub some_tree : (js : List Justfile) (all : List (List ToldRecipe)) (j : Justfile) → AreModules (j ∷ []) js → AreGrown text_of wins layout.files all layout.modules js [] → ⊥
  some_tree js all j whole g = let same : [] ≡ j ∷ [] = same_roots [] js g.1 (j ∷ []) js whole refl in cc

  -- the last one that was made is the tree
  pub listed_so : (js : List Justfile) (all : List (List ToldRecipe)) (j : Justfile) (outer rest : List Built) (root : Built) → AreModules (j ∷ []) js → all ≡ told_each wins layout.files layout.modules js
      → AreGrown text_of wins layout.files all layout.modules js (reverse (branches outer)) → outer ≡ rest ++ root ∷ [] → IsTreeOf text_of wins layout j root.listed
  listed_so js all j outer rest root whole all_is g is =
      tree_is js all j (branch root) (reverse (branches rest)) whole all_is (subst (λ (bs : List Branch). AreGrown text_of wins layout.files all layout.modules js bs) (branches_turned outer rest root is) g)

  pub not_none : (js : List Justfile) (all : List (List ToldRecipe)) (j : Justfile) (outer : List Built) → AreModules (j ∷ []) js → AreGrown text_of wins layout.files all layout.modules js (reverse (branches outer)) → outer ≡ [] → ⊥
  not_none js all j outer whole g none = some_tree js all j whole (subst (λ (bs : List Built). AreGrown text_of wins layout.files all layout.modules js (reverse (branches bs))) none g)
