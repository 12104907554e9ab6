-- Targets of items and files, one more.
use Rattle.std.proofs.Common.{◌≡◌, ℕ, ◌+◌, ◌<◌, List, [], ◌∷◌, ◌++◌, length, take, get_or, subst}
use Rattle.just_lang_syntax.specs.declared.ast.AstItem.{AstItem}
use Rattle.just_lang_layout.specs.declared.layout.File.{File}
use Rattle.just_lang_layout.specs.declared.target.Target.{Target}
use Rattle.just_lang_layout.specs.Paths.{Pairs}
use Rattle.just_lang_layout.proofs.Lists.{front_more}
use Rattle.just_lang_layout.specs.Targets.{IsTarget, AreItemTargets, AreFileTargets}

-- the targets of items, and that of one more
more_items : (e : Pairs) (paths : List (List ℕ)) (root : List ℕ) (xs : List AstItem) (ts : List Target) (x : AstItem) (t : Target)
    → AreItemTargets e paths root xs ts → IsTarget e paths root x t → AreItemTargets e paths root (xs ++ x ∷ []) (ts ++ t ∷ [])
more_items e paths root [] [] x t h k = (k, tt)
more_items e paths root [] (u ∷ us) x t h k = absurd h
more_items e paths root (y ∷ ys) [] x t h k = absurd h
more_items e paths root (y ∷ ys) (u ∷ us) x t h k = (h.0, more_items e paths root ys us x t h.1 k)

-- the targets of files, and those of one more
more_files : (e : Pairs) (paths : List (List ℕ)) (fs : List File) (rows : List (List Target)) (f : File) (ts : List Target)
    → AreFileTargets e paths fs rows → AreItemTargets e paths f.root f.items ts → AreFileTargets e paths (fs ++ f ∷ []) (rows ++ ts ∷ [])
more_files e paths [] [] f ts h k = (k, tt)
more_files e paths [] (r ∷ rs) f ts h k = absurd h
more_files e paths (g ∷ gs) [] f ts h k = absurd h
more_files e paths (g ∷ gs) (r ∷ rs) f ts h k = (h.0, more_files e paths gs rs f ts h.1 k)

-- the targets of the items so far, and that of the next
pub next_item : (e : Pairs) (paths : List (List ℕ)) (root : List ℕ) (xs : List AstItem) (i : ℕ) (ts : List Target) (x : AstItem) (t : Target)
    → i < length xs → x ≡ get_or xs i x → AreItemTargets e paths root (take i xs) ts → IsTarget e paths root x t → AreItemTargets e paths root (take (i + 1) xs) (ts ++ t ∷ [])
next_item e paths root xs i ts x t h is so k =
    subst (λ (ys : List AstItem). AreItemTargets e paths root ys (ts ++ t ∷ [])) (front_more xs i x h is) (more_items e paths root (take i xs) ts x t so k)

-- the targets of the files so far, and those of the next
pub next_file : (e : Pairs) (paths : List (List ℕ)) (fs : List File) (i : ℕ) (rows : List (List Target)) (f : File) (ts : List Target)
    → i < length fs → f ≡ get_or fs i f → AreFileTargets e paths (take i fs) rows → AreItemTargets e paths f.root f.items ts → AreFileTargets e paths (take (i + 1) fs) (rows ++ ts ∷ [])
next_file e paths fs i rows f ts h is so k =
    subst (λ (gs : List File). AreFileTargets e paths gs (rows ++ ts ∷ [])) (front_more fs i f h is) (more_files e paths (take i fs) rows f ts so k)
