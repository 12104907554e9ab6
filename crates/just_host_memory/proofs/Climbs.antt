-- The way up from a place, by which lacking folders are gathered, and how they are put.
use Rattle.std.proofs.Common.{◌≡◌, ℕ, zero, suc, ◌+◌, ◌-◌, ◌<◌, Bool, true, false, cond, List, [], ◌∷◌, ◌++◌, is_none, Result, Ok, Err, refl, ap, ap₂, sym, ◌∙◌, arith}
use Rattle.std.specs.FinMap.{get, insert}
use Rattle.just_path.specs.declared.host.Miss.{Miss}
use Rattle.just_path.specs.declared.host.Miss.TheVariants as miss
use Rattle.just_host_record.specs.declared.tree.Thing.TheVariants as things
use Rattle.just_host_record.specs.Sights.{Tree}
use Rattle.just_host_record.specs.Changes.{folder_of, holds_folder}
use Rattle.just_host_record.specs.NewFolders.{and_folder, with_folders}
use Rattle.just_host_memory.specs.declared.place.Place.{Place}
use Rattle.just_host_memory.specs.Trees.{with_folders_at}

-- to put the last folder first, and the others behind it
pub put_last : (tree : Tree) (ps : List Place) (p : Place) → with_folders_at (insert tree p.path things.Folder) ps ≡ with_folders_at tree (ps ++ p ∷ [])
put_last tree [] p = refl
put_last tree (q ∷ qs) p = ap (λ t. insert t q.path things.Folder) (put_last tree qs p)

-- the files with more folders, where there are such files
abbrev pub and_folders : List Place → Result Tree Miss → Result Tree Miss
and_folders ps (Ok tree) = Ok (with_folders_at tree ps)
and_folders ps (Err m) = Err m

and_last : (ps : List Place) (p : Place) (r : Result Tree Miss) → and_folders ps (and_folder p.path r) ≡ and_folders (ps ++ p ∷ []) r
and_last ps p (Ok tree) = ap (λ t. Ok t) (put_last tree ps p)
and_last ps p (Err m) = refl

-- one folder more above a place
higher : (tree : Tree) (n : ℕ) (at : List ℕ) → holds_folder tree at ≡ false → is_none (get tree at) ≡ true → with_folders tree (suc n) at ≡ and_folder at (with_folders tree n (folder_of at))
higher tree n at lacks free =
    ap (λ b. cond b (Ok tree) (cond (is_none (get tree at)) (and_folder at (with_folders tree n (folder_of at))) (Err miss.NotFound))) lacks
    ∙ ap (λ b. cond b (and_folder at (with_folders tree n (folder_of at))) (Err miss.NotFound)) free

here : (tree : Tree) (n : ℕ) (at : List ℕ) → holds_folder tree at ≡ true → with_folders tree (suc n) at ≡ Ok tree
here tree n at holds =
    ap (λ b. cond b (Ok tree) (cond (is_none (get tree at)) (and_folder at (with_folders tree n (folder_of at))) (Err miss.NotFound))) holds

blocked : (tree : Tree) (n : ℕ) (at : List ℕ) → holds_folder tree at ≡ false → is_none (get tree at) ≡ false → with_folders tree (suc n) at ≡ Err miss.NotFound
blocked tree n at lacks stands =
    ap (λ b. cond b (Ok tree) (cond (is_none (get tree at)) (and_folder at (with_folders tree n (folder_of at))) (Err miss.NotFound))) lacks
    ∙ ap (λ b. cond b (and_folder at (with_folders tree n (folder_of at))) (Err miss.NotFound)) stands

-- the folders that may lack from a place up, where k steps of n were gone
abbrev pub left_up : Tree → ℕ → ℕ → List Place → List ℕ → Result Tree Miss
left_up tree n k ps at = and_folders ps (with_folders tree (n - k) at)

fewer : (n k : ℕ) → k < n → n - k ≡ suc (n - (k + 1))
fewer n k h = omega (arith, h)

-- a folder stands there: those above it are there
pub climb_there : (tree : Tree) (n k : ℕ) (ps : List Place) (at : List ℕ) (whole : Result Tree Miss) → k < n → holds_folder tree at ≡ true → left_up tree n k ps at ≡ whole → whole ≡ Ok (with_folders_at tree ps)
climb_there tree n k ps at whole h holds is =
    sym is ∙ ap (λ m. and_folders ps (with_folders tree m at)) (fewer n k h) ∙ ap (λ r. and_folders ps r) (here tree (n - (k + 1)) at holds)

-- something else stands there
pub climb_blocked : (tree : Tree) (n k : ℕ) (ps : List Place) (at : List ℕ) (whole : Result Tree Miss) → k < n → holds_folder tree at ≡ false → is_none (get tree at) ≡ false → left_up tree n k ps at ≡ whole → whole ≡ Err miss.NotFound
climb_blocked tree n k ps at whole h lacks stands is =
    sym is ∙ ap (λ m. and_folders ps (with_folders tree m at)) (fewer n k h) ∙ ap (λ r. and_folders ps r) (blocked tree (n - (k + 1)) at lacks stands)

-- nothing stands there: a folder lacks, and maybe one above it
pub climb_up : (tree : Tree) (n k : ℕ) (ps : List Place) (p : Place) (higher_up : List ℕ) (whole : Result Tree Miss) → k < n → holds_folder tree p.path ≡ false → is_none (get tree p.path) ≡ true → higher_up ≡ folder_of p.path → left_up tree n k ps p.path ≡ whole → left_up tree n (k + 1) (ps ++ p ∷ []) higher_up ≡ whole
climb_up tree n k ps p higher_up whole h lacks free is_above is =
    ap (λ q. left_up tree n (k + 1) (ps ++ p ∷ []) q) is_above
    ∙ sym (and_last ps p (with_folders tree (n - (k + 1)) (folder_of p.path)))
    ∙ sym (ap (λ r. and_folders ps r) (higher tree (n - (k + 1)) p.path lacks free))
    ∙ sym (ap (λ m. and_folders ps (with_folders tree m p.path)) (fewer n k h))
    ∙ is

none_left : (n k : ℕ) → (k < n → ⊥) → n - k ≡ 0
none_left n k h = omega (arith, h)

-- all steps were gone
pub climb_end : (tree : Tree) (n k : ℕ) (ps : List Place) (at : List ℕ) (whole : Result Tree Miss) → (k < n → ⊥) → left_up tree n k ps at ≡ whole → whole ≡ Ok (with_folders_at tree ps)
climb_end tree n k ps at whole h is =
    sym is ∙ ap (λ m. and_folders ps (with_folders tree m at)) (none_left n k h)
