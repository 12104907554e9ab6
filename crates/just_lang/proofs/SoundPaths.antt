-- No two modules of a project have one path.
use Rattle.std.proofs.Common.{◌≡◌, ◌≢◌, ℕ, zero, suc, Bool, true, false, cond, List, [], ◌∷◌, ◌++◌, map, length, append_assoc, append-nil, refl, sym, ◌∙◌, subst}
use Rattle.std.specs.Prelude.{filter}
use Rattle.std.specs.List.{AllByRecursion, flat_map, list_any}
use Rattle.just_lang_types.specs.declared.source.Source.{Source}
use Rattle.just_lang_layout.specs.declared.layout.File.{File}
use Rattle.just_lang_layout.specs.declared.layout.Layout.{Layout}
use Rattle.just_lang_layout.specs.declared.layout.Module.{Module}
use Rattle.just_lang_layout.specs.declared.pending.Pending.{Pending}
use Rattle.just_lang_layout.specs.declared.pending.Declaration.{Declaration}
use Rattle.just_lang_layout.specs.declared.target.Target.{Target}
use Rattle.just_lang_layout.specs.Laid.{IsLayoutOf}
use Rattle.just_lang_layout.specs.Modules.{own_visits, declarations, there, last_of_each, has_name, is_there, child, modules_from, root_module}
use Rattle.just_lang_layout.specs.Paths.{Pairs}
use Rattle.just_lang.proofs.Lists.{left_false, right_false, differs, all_append, all_weaker}

-- ---- names of declarations

abbrev AreNamed : List Declaration → Type 0
AreNamed [] = Unit {0}
AreNamed (d ∷ ds) = AllByRecursion (λ (e : Declaration). e.name ≢ d.name) ds × AreNamed ds

named_apart : (q : List ℕ) (ds : List Declaration) → list_any (has_name q) ds ≡ false → AllByRecursion (λ (e : Declaration). e.name ≢ q) (last_of_each ds)
named_apart q [] h = tt
named_apart q (d ∷ ds) h = kept (list_any (has_name d.name) ds) (differs d.name q (left_false (has_name q d) (list_any (has_name q) ds) h)) (named_apart q ds (right_false (has_name q d) (list_any (has_name q) ds) h))
  where
    kept : (b : Bool) → d.name ≢ q → AllByRecursion (λ (e : Declaration). e.name ≢ q) (last_of_each ds) → AllByRecursion (λ (e : Declaration). e.name ≢ q) (cond b (last_of_each ds) (d ∷ last_of_each ds))
    kept true n k = k
    kept false n k = (n, k)

named_once : (ds : List Declaration) → AreNamed (last_of_each ds)
named_once [] = tt
named_once (d ∷ ds) = kept (list_any (has_name d.name) ds) refl (named_once ds)
  where
    kept : (b : Bool) → list_any (has_name d.name) ds ≡ b → AreNamed (last_of_each ds) → AreNamed (cond b (last_of_each ds) (d ∷ last_of_each ds))
    kept true e k = k
    kept false e k = (named_apart d.name ds e, k)

-- ---- paths

abbrev path : Module → List (List ℕ)
path m = m.path.components

-- a path that begins with another one
abbrev IsBelow : List (List ℕ) → List (List ℕ) → Type 0
IsBelow p q = (rest : List (List ℕ)) × (q ≡ p ++ rest)

same_name : (p : List (List ℕ)) (a b : List ℕ) (r s : List (List ℕ)) → (p ++ a ∷ []) ++ r ≡ (p ++ b ∷ []) ++ s → a ≡ b
same_name [] a b r s h = cc
same_name (x ∷ p) a b r s h = same_name p a b r s (let tails : (p ++ a ∷ []) ++ r ≡ (p ++ b ∷ []) ++ s = cc in tails)

no_longer : (p : List (List ℕ)) (a : List ℕ) (r : List (List ℕ)) → (p ++ a ∷ []) ++ r ≢ p
no_longer [] a r h = cc
no_longer (x ∷ p) a r h = no_longer p a r (let tails : (p ++ a ∷ []) ++ r ≡ p = cc in tails)

-- the path of a module begins with another one and a name that isn't this one
abbrev IsBeside : List (List ℕ) → List ℕ → Module → Type 0
IsBeside p a m = (b : List ℕ) × (b ≢ a) × IsBelow (p ++ b ∷ []) (path m)

-- ---- modules

-- no two of them have one path
abbrev pub AreApart : List Module → Type 0
AreApart [] = Unit {0}
AreApart (m ∷ ms) = AllByRecursion (λ (n : Module). path n ≢ path m) ms × AreApart ms

apart_append : (xs ys : List Module) → AreApart xs → AreApart ys → AllByRecursion (λ (x : Module). AllByRecursion (λ (y : Module). path y ≢ path x) ys) xs → AreApart (xs ++ ys)
apart_append [] ys h k l = k
apart_append (x ∷ xs) ys h k l = (all_append (λ (n : Module). path n ≢ path x) xs ys h.0 l.0, apart_append xs ys h.1 k l.1)

module _ (files : List File) (table : List (List Target)) where
  -- what each of these declarations makes in a module, so many deep at most
  abbrev within : ℕ → Pending → List Declaration → List Module
  within depth p ds = flat_map (modules_from files table depth) (map (child p) ds)

  abbrev declared_in : Pending → List Declaration
  declared_in p = there (declarations files (own_visits table p.file))

  below_declared : (depth : ℕ) → ((p : Pending) → AllByRecursion (λ (m : Module). IsBelow p.path (path m)) (modules_from files table depth p)) → (p : Pending) (ds : List Declaration)
      → AllByRecursion (λ (m : Module). IsBelow p.path (path m)) (within depth p ds)
  below_declared depth one p [] = tt
  below_declared depth one p (d ∷ ds) =
      all_append (λ (m : Module). IsBelow p.path (path m)) (modules_from files table depth (child p d)) (within depth p ds)
      (all_weaker (λ (m : Module). IsBelow (p.path ++ d.name ∷ []) (path m)) (λ (m : Module). IsBelow p.path (path m)) (λ m below. (d.name ∷ below.0, below.1 ∙ append_assoc p.path (d.name ∷ []) below.0)) (modules_from files table depth (child p d)) (one (child p d)))
      (below_declared depth one p ds)

  below_from : (depth : ℕ) (p : Pending) → AllByRecursion (λ (m : Module). IsBelow p.path (path m)) (modules_from files table depth p)
  below_from zero p = (([], sym (append-nil p.path)), tt)
  below_from (suc depth) p = (([], sym (append-nil p.path)), below_declared depth (below_from depth) p (declared_in p))

  not_outer : (depth : ℕ) (p : Pending) (ds : List Declaration) → AllByRecursion (λ (m : Module). path m ≢ p.path) (within depth p ds)
  not_outer depth p [] = tt
  not_outer depth p (d ∷ ds) =
      all_append (λ (m : Module). path m ≢ p.path) (modules_from files table depth (child p d)) (within depth p ds)
      (all_weaker (λ (m : Module). IsBelow (p.path ++ d.name ∷ []) (path m)) (λ (m : Module). path m ≢ p.path) (λ m below. λ same. no_longer p.path d.name below.0 (sym below.1 ∙ same)) (modules_from files table depth (child p d)) (below_from depth (child p d)))
      (not_outer depth p ds)

  beside : (depth : ℕ) (p : Pending) (a : List ℕ) (ds : List Declaration) → AllByRecursion (λ (e : Declaration). e.name ≢ a) ds → AllByRecursion (IsBeside p.path a) (within depth p ds)
  beside depth p a [] h = tt
  beside depth p a (d ∷ ds) h =
      all_append (IsBeside p.path a) (modules_from files table depth (child p d)) (within depth p ds)
      (all_weaker (λ (m : Module). IsBelow (p.path ++ d.name ∷ []) (path m)) (IsBeside p.path a) (λ m below. (d.name, h.0, below)) (modules_from files table depth (child p d)) (below_from depth (child p d)))
      (beside depth p a ds h.1)

  apart_beside : (p : List (List ℕ)) (a : List ℕ) (m n : Module) → IsBelow (p ++ a ∷ []) (path m) → IsBeside p a n → path n ≢ path m
  apart_beside p a m n below other = λ same. other.1 (same_name p other.0 a other.2.0 below.0 (sym other.2.1 ∙ same ∙ below.1))

  apart_declared : (depth : ℕ) → ((p : Pending) → AreApart (modules_from files table depth p)) → (p : Pending) (ds : List Declaration) → AreNamed ds → AreApart (within depth p ds)
  apart_declared depth one p [] h = tt
  apart_declared depth one p (d ∷ ds) h =
      apart_append (modules_from files table depth (child p d)) (within depth p ds) (one (child p d)) (apart_declared depth one p ds h.1)
      (all_weaker (λ (m : Module). IsBelow (p.path ++ d.name ∷ []) (path m)) (λ (m : Module). AllByRecursion (λ (n : Module). path n ≢ path m) (within depth p ds))
      (λ m below. all_weaker (IsBeside p.path d.name) (λ (n : Module). path n ≢ path m) (λ n other. apart_beside p.path d.name m n below other) (within depth p ds) (beside depth p d.name ds h.0))
      (modules_from files table depth (child p d)) (below_from depth (child p d)))

  apart_from : (depth : ℕ) (p : Pending) → AreApart (modules_from files table depth p)
  apart_from zero p = (tt, tt)
  apart_from (suc depth) p = (not_outer depth p (declared_in p), apart_declared depth (apart_from depth) p (declared_in p) (named_once (filter is_there (declarations files (own_visits table p.file)))))

-- no two modules of the layout of sources have one path
pub apart : (sources : List Source) (environ : Pairs) (layout : Layout) → IsLayoutOf sources environ layout → AreApart layout.modules
apart sources environ layout h = subst AreApart (sym h.laid.modules_are) (apart_from layout.files h.table (length h.table) (root_module (length h.table)))
