-- Clean paths: three rewrites of component lists, and the list that they lead to.
use Rattle.std.specs.Prelude.{◌≡◌, ℕ, Bool, true, false, ◌&&◌, List, [], ◌∷◌, ◌++◌, map, fold}
use Rattle.std.specs.Str.{bytes_eq}
use Rattle.just_path.specs.Path.{is_absolute, pushed}
use Rattle.just_path.specs.Comps.{Comp, prefix, root, current, parent, normal, comp_text, comps}

-- one rewrite: a `.` goes; a name goes with the `..` directly behind it; a `..` directly behind the root goes
pub data Rewrites (c d : List Comp) : Type 0 where
  current_goes : (xs ys : List Comp) → c ≡ xs ++ current ∷ ys → d ≡ xs ++ ys → Rewrites c d
  pair_goes : (xs ys : List Comp) (n : List ℕ) → c ≡ xs ++ normal n ∷ parent ∷ ys → d ≡ xs ++ ys → Rewrites c d
  parent_goes : (xs ys : List Comp) → c ≡ xs ++ root ∷ parent ∷ ys → d ≡ xs ++ root ∷ ys → Rewrites c d

-- any number of rewrites
pub data RewritesTo (d : List Comp) : List Comp → Type 0 where
  stays : RewritesTo d d
  goes : (c e : List Comp) → Rewrites c e → RewritesTo d e → RewritesTo d c

-- no rewrite applies
abbrev pub IsNormal : List Comp → Type 0
IsNormal c = (d : List Comp) → Rewrites c d → ⊥

-- the second list is a normal form of the first
abbrev pub IsNormalForm : List Comp → List Comp → Type 0
IsNormalForm c n = RewritesTo n c × IsNormal n

-- the normal form, from the last component on: what a component makes of the normal form of those behind it
abbrev pub without_parents : List Comp → List Comp
without_parents [] = []
without_parents (prefix t ∷ cs) = prefix t ∷ cs
without_parents (root ∷ cs) = root ∷ cs
without_parents (current ∷ cs) = current ∷ cs
without_parents (parent ∷ cs) = without_parents cs
without_parents (normal n ∷ cs) = normal n ∷ cs

-- a name in front of a normal form: it goes with a `..` directly behind it
abbrev pub after_name : List ℕ → List Comp → List Comp
after_name n [] = normal n ∷ []
after_name n (prefix t ∷ cs) = normal n ∷ prefix t ∷ cs
after_name n (root ∷ cs) = normal n ∷ root ∷ cs
after_name n (current ∷ cs) = normal n ∷ current ∷ cs
after_name n (parent ∷ cs) = cs
after_name n (normal m ∷ cs) = normal n ∷ normal m ∷ cs

-- any component in front of a normal form
abbrev pub normal_form_with : Comp → List Comp → List Comp
normal_form_with (prefix t) cs = prefix t ∷ cs
normal_form_with root cs = root ∷ without_parents cs
normal_form_with current cs = cs
normal_form_with parent cs = parent ∷ cs
normal_form_with (normal n) cs = after_name n cs

-- the normal form of a list
abbrev pub normal_form : List Comp → List Comp
normal_form [] = []
normal_form (c ∷ cs) = normal_form_with c (normal_form cs)

-- an empty list becomes `.`
abbrev pub or_current : List Comp → List Comp
or_current [] = current ∷ []
or_current (c ∷ cs) = c ∷ cs

-- the path of components: their texts, pushed one behind the other on the empty path
abbrev pub path_from : List Comp → List ℕ
path_from cs = fold pushed [] (map comp_text cs)

-- a clean path
unfoldable pub cleaned : List ℕ → List ℕ
cleaned t = path_from (or_current (normal_form (comps t)))

-- whether a text is absolute and its own clean form
abbrev pub is_clean_absolute : List ℕ → Bool
is_clean_absolute t = is_absolute t && bytes_eq (cleaned t) t

-- a path is made of a normal form of the text's components
abbrev pub IsCleanOf : List ℕ → List ℕ → Type 0
IsCleanOf t p = (n : List Comp) × IsNormalForm (comps t) n × (p ≡ path_from (or_current n))

-- whether no component is `..`
abbrev pub no_parent : List Comp → Bool
no_parent [] = true
no_parent (parent ∷ cs) = false
no_parent (prefix t ∷ cs) = no_parent cs
no_parent (root ∷ cs) = no_parent cs
no_parent (current ∷ cs) = no_parent cs
no_parent (normal n ∷ cs) = no_parent cs

-- whether each `..` stands in front
abbrev pub parents_first : List Comp → Bool
parents_first (parent ∷ cs) = parents_first cs
parents_first cs = no_parent cs
