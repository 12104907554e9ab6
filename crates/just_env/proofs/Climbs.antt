-- The climb, as its loop comes to it, and what it is a part of.
use Rattle.std.proofs.Common.{◌≡◌, ◌⊎◌, inl, inr, ℕ, List, [], ◌∷◌, ◌++◌, Option, Some, None, ap, sym, ◌∙◌, subst, append_assoc}
use Rattle.std.specs.Prelude.{Result, Ok, Err}
use Rattle.std.proofs.lemmas.List.{append-nil}
use Rattle.just_path.specs.Ancestors.{ancestors_of}
use Rattle.just_host_record.specs.World.{World}
use Rattle.just_dotenv.specs.Meaning.{Pairs}
use Rattle.just_env.specs.declared.env_error.EnvError.{EnvError}
use Rattle.just_env.specs.declared.env_error.EnvError.TheVariants as error
use Rattle.just_env.specs.DotenvAnswers.{Answers}
use Rattle.just_env.specs.Files.{LoadsUnder}
use Rattle.just_env.specs.Loads.{FindsFiles}
use Rattle.just_env.specs.Sequences.{HaveNothing, First}

-- those before the ones that are left have nothing
pub record Along (gives : List ℕ → Result (Option Pairs) EnvError → Type 0) (items left : List (List ℕ)) : Type 0 where
  pub before : List (List ℕ)
  pub parts : items ≡ before ++ left
  pub nothing : HaveNothing gives before

along_start : (gives : List ℕ → Result (Option Pairs) EnvError → Type 0) (items left : List (List ℕ)) → left ≡ items → Along gives items left
along_start gives items left is = record { before = []; parts = sym is; nothing = tt }

one_more : (gives : List ℕ → Result (Option Pairs) EnvError → Type 0) (xs : List (List ℕ)) (x : List ℕ) → HaveNothing gives xs → gives x (Ok None) → HaveNothing gives (xs ++ x ∷ [])
one_more gives [] x h g = (g, tt)
one_more gives (y ∷ ys) x h g = (h.0, one_more gives ys x h.1 g)

-- one more has nothing
along_next : (gives : List ℕ → Result (Option Pairs) EnvError → Type 0) (items left more : List (List ℕ)) (x : List ℕ) → Along gives items left → left ≡ x ∷ more → gives x (Ok None) → Along gives items more
along_next gives items left more x so is none = record {
  before = so.before ++ x ∷ [];
  parts = so.parts ∙ ap (λ xs. so.before ++ xs) is ∙ sym (append_assoc so.before (x ∷ []) more);
  nothing = one_more gives so.before x so.nothing none;
}

-- one has something
along_found : (gives : List ℕ → Result (Option Pairs) EnvError → Type 0) (items left more : List (List ℕ)) (x : List ℕ) (pairs : Pairs) → Along gives items left → left ≡ x ∷ more → gives x (Ok (Some pairs)) → First gives items (Ok (Some pairs))
along_found gives items left more x pairs so is given = First.found so.before x more pairs (so.parts ∙ ap (λ xs. so.before ++ xs) is) so.nothing given

-- one is refused, or memory is wanting
along_refused : (gives : List ℕ → Result (Option Pairs) EnvError → Type 0) (items left more : List (List ℕ)) (x : List ℕ) (e : EnvError) → Along gives items left → left ≡ x ∷ more → (e ≡ error.NoMemory) ⊎ gives x (Err e)
    → (e ≡ error.NoMemory) ⊎ First gives items (Err e)
along_refused gives items left more x e so is (inl memory) = inl memory
along_refused gives items left more x e so is (inr given) = inr (First.refused so.before x more e (so.parts ∙ ap (λ xs. so.before ++ xs) is) so.nothing given)

-- nothing is left
along_nowhere : (gives : List ℕ → Result (Option Pairs) EnvError → Type 0) (items left : List (List ℕ)) → Along gives items left → left ≡ [] → First gives items (Ok None)
along_nowhere gives items left so is =
    First.nowhere (subst (λ xs. HaveNothing gives xs) (sym (so.parts ∙ ap (λ xs. so.before ++ xs) is ∙ append-nil so.before)) so.nothing)

-- ---- for the files of some names, over a host whose world stays

module _ (told now : Option World) (environ : Pairs) (names : List (List ℕ)) where
  pub climb_start : (start : List ℕ) (all : List (List ℕ)) → all ≡ ancestors_of start → Along (LoadsUnder told environ names) (ancestors_of start) all
  climb_start start all is = along_start (LoadsUnder told environ names) (ancestors_of start) all is

  module _ (items old new : List (List ℕ)) (folder : List ℕ) (same : now ≡ told) (so : Along (LoadsUnder told environ names) items old) (is : old ≡ folder ∷ new) where
    here : (r : Result (Option Pairs) EnvError) → LoadsUnder now environ names folder r → LoadsUnder told environ names folder r
    here r given = subst (λ t. LoadsUnder t environ names folder r) same given

    as_found : (found x : Option Pairs) → LoadsUnder now environ names folder (Ok found) → found ≡ x → LoadsUnder told environ names folder (Ok x)
    as_found found x given are = here (Ok x) (subst (λ y. LoadsUnder now environ names folder (Ok y)) are given)

    pub climb_next : (found : Option Pairs) → LoadsUnder now environ names folder (Ok found) → found ≡ None → Along (LoadsUnder told environ names) items new
    climb_next found given none = along_next (LoadsUnder told environ names) items old new folder so is (as_found found None given none)

    pub climb_found : (found : Option Pairs) (pairs : Pairs) → LoadsUnder now environ names folder (Ok found) → found ≡ Some pairs → First (LoadsUnder told environ names) items (Ok (Some pairs))
    climb_found found pairs given some = along_found (LoadsUnder told environ names) items old new folder pairs so is (as_found found (Some pairs) given some)

    pub climb_refused : (e : EnvError) → (e ≡ error.NoMemory) ⊎ LoadsUnder now environ names folder (Err e) → (e ≡ error.NoMemory) ⊎ First (LoadsUnder told environ names) items (Err e)
    climb_refused e (inl memory) = inl memory
    climb_refused e (inr given) = along_refused (LoadsUnder told environ names) items old new folder e so is (inr (here (Err e) given))

  pub climb_over : (items old : List (List ℕ)) → Along (LoadsUnder told environ names) items old → old ≡ [] → First (LoadsUnder told environ names) items (Ok None)
  climb_over items old so is = along_nowhere (LoadsUnder told environ names) items old so is

-- ---- by paths, and then by names

module _ (told : Option World) (environ : Pairs) (paths names : List (List ℕ)) (folder : List ℕ) where
  pub files_by_paths : (pairs : Pairs) → LoadsUnder told environ paths folder (Ok (Some pairs)) → FindsFiles told environ paths names folder (Ok (Some pairs))
  files_by_paths pairs given = FindsFiles.by_paths pairs given

  pub files_refused : (e : EnvError) → (e ≡ error.NoMemory) ⊎ LoadsUnder told environ paths folder (Err e) → (e ≡ error.NoMemory) ⊎ FindsFiles told environ paths names folder (Err e)
  files_refused e (inl memory) = inl memory
  files_refused e (inr given) = inr (FindsFiles.refused e given)

  by_names : (r : Result (Option Pairs) EnvError) → LoadsUnder told environ paths folder (Ok None) → Answers (First (LoadsUnder told environ names) (ancestors_of folder)) r → Answers (FindsFiles told environ paths names folder) r
  by_names (Ok found) none first = FindsFiles.by_names (Ok found) none first
  by_names (Err e) none (inl memory) = inl memory
  by_names (Err e) none (inr first) = inr (FindsFiles.by_names (Err e) none first)

  pub files_by_names : (now : Option World) (r : Result (Option Pairs) EnvError) → now ≡ told → LoadsUnder told environ paths folder (Ok None) → Answers (First (LoadsUnder now environ names) (ancestors_of folder)) r → Answers (FindsFiles told environ paths names folder) r
  files_by_names now r same none first = by_names r none (subst (λ t. Answers (First (LoadsUnder t environ names) (ancestors_of folder)) r) same first)
