-- Each module of a layout but the root stands within one before it.
use Rattle.std.proofs.Common.{◌≡◌, ℕ, zero, suc, ◌+◌, ◌≤◌, inl, inr, Bool, true, false, ◌&&◌, List, [], ◌∷◌, ◌++◌, length, map, refl, sym, ap, ◌∙◌, subst, arith, append_assoc, length-append}
use Rattle.std.specs.Prelude.{bytes_eq}
use Rattle.std.specs.List.{flat_map}
use Rattle.std.specs.Cmp.Lexicographic.{pointwise}
use Rattle.std.proofs.lemmas.Bool.{cases_Bool}
use Rattle.std.proofs.lemmas.List.{append-nil}
use Rattle.just_lang_types.specs.declared.source.Source.{Source}
use Rattle.just_lang_layout.specs.declared.layout.File.{File}
use Rattle.just_lang_layout.specs.declared.layout.Layout.{Layout}
use Rattle.just_lang_layout.specs.declared.layout.Module.{Module}
use Rattle.just_lang_layout.specs.declared.pending.Declaration.{Declaration}
use Rattle.just_lang_layout.specs.declared.pending.Pending.{Pending}
use Rattle.just_lang_layout.specs.declared.target.Target.{Target}
use Rattle.just_lang_layout.specs.Laid.{IsLayoutOf}
use Rattle.just_lang_layout.specs.Modules.{child, there, declarations, own_visits, modules_from, modules_of, root_module}
use Rattle.just_lang_layout.specs.Paths.{Pairs}
use Rattle.just_lang_names.proofs.PathLaws.{equal_to_same}
use Rattle.just_lang_justfile.specs.Trees.{front, is_within, behind_those_within, outermost}
use Rattle.just_lang_justfile.proofs.Paths.{within_is}

-- ---- paths

and_behind : (b c : Bool) → (b && c) ≡ true → c ≡ true
and_behind true c h = h
and_behind false c h = absurd (cc)

same_length : (xs ys : List (List ℕ)) → pointwise bytes_eq xs ys ≡ true → length xs ≡ length ys
same_length [] [] h = refl
same_length [] (y ∷ ys) h = absurd (cc)
same_length (x ∷ xs) [] h = absurd (cc)
same_length (x ∷ xs) (y ∷ ys) h = ap suc (same_length xs ys (and_behind (bytes_eq x y) (pointwise bytes_eq xs ys) h))

front_length : (x : List ℕ) (xs : List (List ℕ)) → length (front x xs) ≡ length xs
front_length x [] = refl
front_length x (y ∷ ys) = ap suc (front_length y ys)

-- a path that isn't longer isn't within
not_longer : (path q : List (List ℕ)) → length q ≤ length path → is_within path q ≡ false
not_longer path [] h = refl
not_longer path (x ∷ xs) h =
    elim (cases_Bool (pointwise bytes_eq path (front x xs))) [
      | inl t ↦ absurd (let size = same_length path (front x xs) t in let short = front_length x xs in omega (arith, size, short, h))
      | inr f ↦ f
    ]

-- a path with one more name is
one_more : (path : List (List ℕ)) (name : List ℕ) → is_within path (path ++ name ∷ []) ≡ true
one_more path name = within_is path (path ++ name ∷ []) path name refl ∙ equal_to_same path path refl

-- the first of some paths isn't longer than that
abbrev IsShort : ℕ → List (List (List ℕ)) → Type 0
IsShort n [] = Unit {0}
IsShort n (q ∷ qs) = length q ≤ n

longer : (n : ℕ) (qs : List (List (List ℕ))) → IsShort n qs → IsShort (suc n) qs
longer n [] h = tt
longer n (q ∷ qs) h = omega (arith, h)

none_behind : (path : List (List ℕ)) (qs : List (List (List ℕ))) → IsShort (length path) qs → behind_those_within path qs ≡ qs
none_behind path [] h = refl
none_behind path (q ∷ qs) h = rw (not_longer path q h) refl

-- the paths of the modules that are declared in one
abbrev inner : List (List ℕ) → List Declaration → List (List (List ℕ))
inner path ds = map (λ (d : Declaration). path ++ d.name ∷ []) ds

behind_inner : (path : List (List ℕ)) (ds : List Declaration) (qs : List (List (List ℕ))) → behind_those_within path (inner path ds ++ qs) ≡ behind_those_within path qs
behind_inner path [] qs = refl
behind_inner path (d ∷ ds) qs = rw (one_more path d.name) (behind_inner path ds qs)

inner_short : (path : List (List ℕ)) (ds : List Declaration) (qs : List (List (List ℕ))) → IsShort (suc (length path)) qs → IsShort (suc (length path)) (inner path ds ++ qs)
inner_short path [] qs h = h
inner_short path (d ∷ ds) qs h = let size : length (path ++ d.name ∷ []) ≡ length path + 1 = length-append path (d.name ∷ []) in omega (arith, size)

-- ---- modules

module _ (files : List File) (table : List (List Target)) where
  -- a module and those within it, so many deep, in front of others
  abbrev AreWithin : ℕ → Type 0
  AreWithin depth = (p : Pending) (ms : List Module) → IsShort (length p.path) (outermost ms) → outermost (modules_from files table depth p ++ ms) ≡ p.path ∷ outermost ms

  inner_are : (depth : ℕ) → AreWithin depth → (p : Pending) (ds : List Declaration) (ms : List Module) → IsShort (suc (length p.path)) (outermost ms)
      → outermost (flat_map (modules_from files table depth) (map (child p) ds) ++ ms) ≡ inner p.path ds ++ outermost ms
  inner_are depth within p [] ms h = refl
  inner_are depth within p (d ∷ ds) ms h =
      let rest : List Module = flat_map (modules_from files table depth) (map (child p) ds) ++ ms in
      let further : outermost rest ≡ inner p.path ds ++ outermost ms = inner_are depth within p ds ms h in
      let size : length (p.path ++ d.name ∷ []) ≡ suc (length p.path) = length-append p.path (d.name ∷ []) ∙ let e : length p.path + 1 ≡ suc (length p.path) = omega arith in e in
      let short : IsShort (length (p.path ++ d.name ∷ [])) (outermost rest) =
      subst (λ n. IsShort n (outermost rest)) (sym size) (subst (λ (qs : List (List (List ℕ))). IsShort (suc (length p.path)) qs) (sym further) (inner_short p.path ds (outermost ms) h)) in
      ap outermost (append_assoc (modules_from files table depth (child p d)) (flat_map (modules_from files table depth) (map (child p) ds)) ms)
      ∙ within (child p d) rest short ∙ ap (λ (qs : List (List (List ℕ))). (p.path ++ d.name ∷ []) ∷ qs) further

  are_within : (depth : ℕ) → AreWithin depth
  are_within zero p ms h = ap (λ (qs : List (List (List ℕ))). p.path ∷ qs) (none_behind p.path (outermost ms) h)
  are_within (suc depth) p ms h =
      let ds : List Declaration = there (declarations files (own_visits table p.file)) in
      ap (λ (qs : List (List (List ℕ))). p.path ∷ qs)
      (ap (behind_those_within p.path) (inner_are depth (are_within depth) p ds ms (longer (length p.path) (outermost ms) h)) ∙ behind_inner p.path ds (outermost ms) ∙ none_behind p.path (outermost ms) h)

  root_outermost : outermost (modules_of files table) ≡ [] ∷ []
  root_outermost = ap outermost (sym (append-nil (modules_of files table))) ∙ are_within (length table) (root_module (length table)) [] tt

pub layout_outermost : (sources : List Source) (environ : Pairs) (layout : Layout) → IsLayoutOf sources environ layout → outermost layout.modules ≡ [] ∷ []
layout_outermost sources environ layout h = ap outermost h.laid.modules_are ∙ root_outermost layout.files h.table
