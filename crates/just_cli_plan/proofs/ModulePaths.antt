-- No two modules of a layout have one path.
use Rattle.std.proofs.Common.{◌≡◌, ℕ, zero, suc, ◌+◌, inl, inr, Bool, true, false, ◌||◌, cond, List, [], ◌∷◌, ◌++◌, length, map, refl, sym, ap, ◌∙◌, subst, arith, append_assoc, length-append}
use Rattle.std.specs.Prelude.{bytes_eq, filter}
use Rattle.std.specs.List.{flat_map, list_any}
use Rattle.std.specs.Cmp.Lexicographic.{bytes_decides}
use Rattle.std.proofs.lemmas.List.{append-nil, map-append, append_cancel_left}
use Rattle.just_eval_closure.proofs.Items.{In}
use Rattle.just_lang_types.specs.declared.source.Source.{Source}
use Rattle.just_lang_layout.specs.declared.layout.File.{File}
use Rattle.just_lang_layout.specs.declared.layout.Layout.{Layout}
use Rattle.just_lang_layout.specs.declared.layout.Module.{Module}
use Rattle.just_lang_layout.specs.declared.pending.Declaration.{Declaration}
use Rattle.just_lang_layout.specs.declared.pending.Pending.{Pending}
use Rattle.just_lang_layout.specs.declared.target.Target.{Target}
use Rattle.just_lang_layout.specs.Laid.{IsLayoutOf}
use Rattle.just_lang_layout.specs.Modules.{has_name, is_there, last_of_each, there, child, declarations, own_visits, modules_from, root_module}
use Rattle.just_lang_layout.specs.Paths.{Pairs}
use Rattle.just_cli_plan.proofs.Apart.{in_parts, AreApart, apart_append}

abbrev pub paths : List Module → List (List (List ℕ))
paths ms = map (λ (m : Module). m.path.components) ms

-- ---- the names of the modules that stand in one

last_in : (ds : List Declaration) (e : Declaration) → In e (last_of_each ds) → In e ds
last_in [] e i = i
last_in (d ∷ ds) e i =
    elim (list_any (has_name d.name) ds) as (λ b. In e (cond b (last_of_each ds) (d ∷ last_of_each ds)) → In e (d ∷ ds)) [
      | true ↦ λ j. inr (last_in ds e j)
      | false ↦ λ j. elim j [
        | inl s ↦ inl s
        | inr k ↦ inr (last_in ds e k)
      ]
    ] i

or_second : (b c : Bool) → b || c ≡ false → c ≡ false
or_second true c h = absurd (cc)
or_second false c h = h

-- none of some declarations has a name
none_named : (ds : List Declaration) (e : Declaration) (name : List ℕ) → list_any (has_name name) ds ≡ false → In e ds → name ≡ e.name → ⊥
none_named [] e name h i s = i
none_named (d ∷ ds) e name h (inl is) s =
    let t : bytes_eq d.name name ≡ true = (bytes_decides d.name name).1 (ap (λ (x : Declaration). x.name) is ∙ sym s) in
    let no : true ≡ false = subst (λ b. (b || list_any (has_name name) ds) ≡ false) t h in
    absurd (cc)
none_named (d ∷ ds) e name h (inr i) s = none_named ds e name (or_second (has_name name d) (list_any (has_name name) ds) h) i s

abbrev AreNamesApart : List Declaration → Type 0
AreNamesApart [] = Unit {0}
AreNamesApart (d ∷ ds) = ((e : Declaration) → In e ds → d.name ≡ e.name → ⊥) × AreNamesApart ds

names_apart : (ds : List Declaration) → AreNamesApart (last_of_each ds)
names_apart [] = tt
names_apart (d ∷ ds) =
    elim (list_any (has_name d.name) ds) as (λ b. list_any (has_name d.name) ds ≡ b → AreNamesApart (cond b (last_of_each ds) (d ∷ last_of_each ds))) [
      | true ↦ λ t. names_apart ds
      | false ↦ λ f. ((λ e i s. none_named ds e d.name f (last_in ds e i) s), names_apart ds)
    ] refl

-- ---- modules

module _ (files : List File) (table : List (List Target)) where
  -- the path of a module within one begins with its path
  abbrev IsBehind : ℕ → Type 0
  IsBehind depth = (p : Pending) (q : List (List ℕ)) → In q (paths (modules_from files table depth p)) → (rest : List (List ℕ)) × (q ≡ p.path ++ rest)

  abbrev IsInner : Pending → List Declaration → List (List ℕ) → Type 0
  IsInner p ds q = (d : Declaration) × In d ds × ((rest : List (List ℕ)) × (q ≡ p.path ++ (d.name ∷ rest)))

  inner_one : (p : Pending) (d : Declaration) (ds : List Declaration) (q : List (List ℕ)) → (rest : List (List ℕ)) × (q ≡ (p.path ++ d.name ∷ []) ++ rest) → IsInner p (d ∷ ds) q
  inner_one p d ds q h = (d, inl refl, (h.0, h.1 ∙ append_assoc p.path (d.name ∷ []) h.0))

  inner_is : (depth : ℕ) → IsBehind depth → (p : Pending) (ds : List Declaration) (q : List (List ℕ)) → In q (paths (flat_map (modules_from files table depth) (map (child p) ds))) → IsInner p ds q
  inner_is depth behind p [] q i = absurd i
  inner_is depth behind p (d ∷ ds) q i =
      let one : List Module = modules_from files table depth (child p d) in
      let more : List Module = flat_map (modules_from files table depth) (map (child p) ds) in
      elim (in_parts (paths one) (paths more) q (subst (λ (l : List (List (List ℕ))). In q l) (map-append (λ (m : Module). m.path.components) one more) i)) [
        | inl a ↦ inner_one p d ds q (behind (child p d) q a)
        | inr b ↦ let h = inner_is depth behind p ds q b in (h.0, inr h.1, h.2)
      ]

  behind_is : (depth : ℕ) → IsBehind depth
  behind_is zero p q (inl e) = ([], sym e ∙ sym (append-nil p.path))
  behind_is zero p q (inr i) = absurd i
  behind_is (suc depth) p q (inl e) = ([], sym e ∙ sym (append-nil p.path))
  behind_is (suc depth) p q (inr i) =
      let h = inner_is depth (behind_is depth) p (there (declarations files (own_visits table p.file))) q i in
      (h.0.name ∷ h.2.0, h.2.1)

  longer : (path rest : List (List ℕ)) (name : List ℕ) → path ≡ path ++ (name ∷ rest) → ⊥
  longer path rest name e =
      let size : length path ≡ length path + suc (length rest) = ap length e ∙ length-append path (name ∷ rest) in
      omega (arith, size)

  same_name : (path : List (List ℕ)) (a b : List ℕ) (xs ys : List (List ℕ)) → path ++ (a ∷ xs) ≡ path ++ (b ∷ ys) → a ≡ b
  same_name path a b xs ys e = let h : a ∷ xs ≡ b ∷ ys = append_cancel_left path (a ∷ xs) (b ∷ ys) e in cc

  inner_apart : (depth : ℕ) → ((p : Pending) → AreApart (paths (modules_from files table depth p))) → (p : Pending) (ds : List Declaration) → AreNamesApart ds
      → AreApart (paths (flat_map (modules_from files table depth) (map (child p) ds)))
  inner_apart depth apart p [] names = tt
  inner_apart depth apart p (d ∷ ds) names =
      let one : List Module = modules_from files table depth (child p d) in
      let more : List Module = flat_map (modules_from files table depth) (map (child p) ds) in
      subst (λ (l : List (List (List ℕ))). AreApart l) (sym (map-append (λ (m : Module). m.path.components) one more))
      (apart_append (paths one) (paths more) (apart (child p d)) (inner_apart depth apart p ds names.1) (λ q a b.
      let x = behind_is depth (child p d) q a in
      let y = inner_is depth (behind_is depth) p ds q b in
      names.0 y.0 y.1 (same_name p.path d.name y.0.name x.0 y.2.0 (sym (append_assoc p.path (d.name ∷ []) x.0) ∙ sym x.1 ∙ y.2.1))))

  modules_apart : (depth : ℕ) (p : Pending) → AreApart (paths (modules_from files table depth p))
  modules_apart zero p = ((λ i. i), tt)
  modules_apart (suc depth) p =
      let ds : List Declaration = there (declarations files (own_visits table p.file)) in (
        (λ i. let h = inner_is depth (behind_is depth) p ds p.path i in longer p.path h.2.0 h.0.name h.2.1),
        inner_apart depth (λ x. modules_apart depth x) p ds (names_apart (filter is_there (declarations files (own_visits table p.file)))),
      )

pub layout_apart : (sources : List Source) (environ : Pairs) (layout : Layout) → IsLayoutOf sources environ layout → AreApart (paths layout.modules)
layout_apart sources environ layout h =
    subst (λ (ms : List Module). AreApart (paths ms)) (sym h.laid.modules_are) (modules_apart layout.files h.table (length h.table) (root_module (length h.table)))
