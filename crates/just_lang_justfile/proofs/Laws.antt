-- Of the modules of a project only the root stands in no other.
use Rattle.std.proofs.Common.{◌≡◌, ℕ, zero, suc, ◌+◌, ◌<◌, ◌≤◌, ◌&&◌, Bool, true, false, List, [], ◌∷◌, ◌++◌, map, length, length-append, append_assoc, append-nil, refl, sym, ap, ◌∙◌, subst, arith}
use Rattle.std.specs.Prelude.{bytes_eq}
use Rattle.std.specs.List.{flat_map}
use Rattle.std.specs.Cmp.Lexicographic.{pointwise, nat_list_eq_equiv, lists_equiv}
use Rattle.just_lang_types.specs.declared.source.Source.{Source}
use Rattle.just_lang_layout.specs.declared.layout.File.{File}
use Rattle.just_lang_layout.specs.declared.layout.Layout.{Layout}
use Rattle.just_lang_layout.specs.declared.layout.Module.{Module}
use Rattle.just_lang_layout.specs.declared.pending.Pending.{Pending}
use Rattle.just_lang_layout.specs.declared.pending.Declaration.{Declaration}
use Rattle.just_lang_layout.specs.declared.target.Target.{Target}
use Rattle.just_lang_layout.specs.Laid.{IsLayoutOf}
use Rattle.just_lang_layout.specs.Modules.{own_visits, declarations, there, child, modules_from, modules_of, root_module}
use Rattle.just_lang_layout.specs.Paths.{Pairs}
use Rattle.just_lang_justfile.specs.Trees.{front, is_within, behind_those_within, outermost}
use Rattle.just_lang_justfile.proofs.Paths.{within_is}

-- the first of some paths has no more names than that
abbrev pub IsFirstUpTo : ℕ → List (List (List ℕ)) → Type 0
IsFirstUpTo n [] = Unit {0}
IsFirstUpTo n (p ∷ ps) = length p ≤ n

unlike : (xs ys : List (List ℕ)) → length ys < length xs → pointwise bytes_eq xs ys ≡ false
unlike [] ys h = absurd (omega (arith, h))
unlike (x ∷ xs) [] h = refl
unlike (x ∷ xs) (y ∷ ys) h = ap (λ b. bytes_eq x y && b) (unlike xs ys (omega (arith, h))) ∙ and_false (bytes_eq x y)
  where
    and_false : (b : Bool) → b && false ≡ false
    and_false true = refl
    and_false false = refl

front_long : (x : List ℕ) (xs : List (List ℕ)) → length (front x xs) ≡ length xs
front_long x [] = refl
front_long x (y ∷ ys) = ap suc (front_long y ys)

-- a path that isn't longer isn't within
not_within : (path p : List (List ℕ)) → length p ≤ length path → is_within path p ≡ false
not_within path [] h = refl
not_within path (x ∷ xs) h = unlike path (front x xs) (omega (arith, front_long x xs, h))

stops : (path : List (List ℕ)) (ps : List (List (List ℕ))) → IsFirstUpTo (length path) ps → behind_those_within path ps ≡ ps
stops path [] h = refl
stops path (p ∷ ps) h = let no : is_within path p ≡ false = not_within path p h in rw no refl

within_child : (path : List (List ℕ)) (name : List ℕ) → is_within path (path ++ name ∷ []) ≡ true
within_child path name = within_is path (path ++ name ∷ []) path name refl ∙ (lists_equiv nat_list_eq_equiv).refl path

-- the path of the module that a declaration makes in a module
abbrev child_path : Pending → Declaration → List (List ℕ)
child_path p d = p.path ++ d.name ∷ []

passed : (p : Pending) (ds : List Declaration) (ps : List (List (List ℕ))) → behind_those_within p.path (map (child_path p) ds ++ ps) ≡ behind_those_within p.path ps
passed p [] ps = refl
passed p (d ∷ ds) ps = let yes : is_within p.path (child_path p d) ≡ true = within_child p.path d.name in rw yes (passed p ds ps)

child_long : (p : Pending) (d : Declaration) → length (child_path p d) ≡ length p.path + 1
child_long p d = length-append p.path (d.name ∷ [])

up_to : (n m : ℕ) (ps : List (List (List ℕ))) → n ≤ m → IsFirstUpTo n ps → IsFirstUpTo m ps
up_to n m [] l h = tt
up_to n m (p ∷ ps) l h = omega (arith, h, l)

siblings : (p : Pending) (d : Declaration) (ds : List Declaration) (ps : List (List (List ℕ))) → IsFirstUpTo (length p.path) ps → IsFirstUpTo (length (child_path p d)) (map (child_path p) ds ++ ps)
siblings p d [] ps h = up_to (length p.path) (length (child_path p d)) ps (omega (arith, child_long p d)) h
siblings p d (e ∷ ds) ps h = omega (arith, child_long p d, child_long p e)

module _ (files : List File) (table : List (List Target)) where
  -- the outermost ones of a module with those within it are its own path and the others
  abbrev AreOut : ℕ → Type 0
  AreOut depth = (p : Pending) (ms : List Module) → IsFirstUpTo (length p.path) (outermost ms) → outermost (modules_from files table depth p ++ ms) ≡ p.path ∷ outermost ms

  outer_all : (depth : ℕ) → AreOut depth → (p : Pending) (ds : List Declaration) (ms : List Module) → IsFirstUpTo (length p.path) (outermost ms)
      → outermost (flat_map (modules_from files table depth) (map (child p) ds) ++ ms) ≡ map (child_path p) ds ++ outermost ms
  outer_all depth one p [] ms h = refl
  outer_all depth one p (d ∷ ds) ms h =
      let rest : List Module = flat_map (modules_from files table depth) (map (child p) ds) ++ ms in
      let rest_is : outermost rest ≡ map (child_path p) ds ++ outermost ms = outer_all depth one p ds ms h in
      ap outermost (append_assoc (modules_from files table depth (child p d)) (flat_map (modules_from files table depth) (map (child p) ds)) ms)
      ∙ one (child p d) rest (subst (λ (ps : List (List (List ℕ))). IsFirstUpTo (length (child_path p d)) ps) (sym rest_is) (siblings p d ds (outermost ms) h))
      ∙ ap (λ (ps : List (List (List ℕ))). child_path p d ∷ ps) rest_is

  outer_from : (depth : ℕ) → AreOut depth
  outer_from zero p ms h = ap (λ (ps : List (List (List ℕ))). p.path ∷ ps) (stops p.path (outermost ms) h)
  outer_from (suc depth) p ms h =
      let ds : List Declaration = there (declarations files (own_visits table p.file)) in
      ap (λ (ps : List (List (List ℕ))). p.path ∷ behind_those_within p.path ps) (outer_all depth (outer_from depth) p ds ms h)
      ∙ ap (λ (ps : List (List (List ℕ))). p.path ∷ ps) (passed p ds (outermost ms) ∙ stops p.path (outermost ms) h)

  outer_root : outermost (modules_of files table) ≡ [] ∷ []
  outer_root =
      ap outermost (sym (append-nil (modules_from files table (length table) (root_module (length table)))))
      ∙ outer_from (length table) (root_module (length table)) [] tt

-- only the root of the layout of sources stands in no other module
pub root_alone : (sources : List Source) (environ : Pairs) (layout : Layout) → IsLayoutOf sources environ layout → outermost layout.modules ≡ [] ∷ []
root_alone sources environ layout h = ap outermost h.laid.modules_are ∙ outer_root layout.files h.table
