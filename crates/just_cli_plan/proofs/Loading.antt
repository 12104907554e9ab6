-- The dotenv pairs of a project, as an answer of a run.
use Rattle.std.proofs.Common.{◌≡◌, ◌⊎◌, inl, inr, ◌++◌, ℕ, false, true≢false, List, [], ◌∷◌, Option, Result, Ok, Err, refl, sym, ◌∙◌, ap, subst}
use Rattle.just_path_text.specs.declared.environ.Environ.{Environ}
use Rattle.just_host_record.specs.World.{World, Moment}
use Rattle.just_host_record.specs.declared.entry.Entry.{Entry}
use Rattle.just_host_record.specs.declared.entry.Entry.TheVariants as entry
use Rattle.just_host_record.specs.declared.entry.HostFault.TheVariants as fault
use Rattle.just_lang_types.specs.declared.project.Justfile.{Justfile}
use Rattle.just_lang_types.specs.declared.scope.DotenvOf.{DotenvOf}
use Rattle.just_env.specs.declared.env_error.EnvError.{EnvError}
use Rattle.just_env.specs.declared.env_error.EnvError.TheVariants as env
use Rattle.just_env.specs.declared.env_error.OutputError.TheVariants as output
use Rattle.just_env.specs.DotenvAnswers.{ErrorLeaves as env_leaves, Runs as RunsEnv, EndsBy, entries_of as env_entries}
use Rattle.just_env.specs.Captures.{Capture, told_behind}
use Rattle.just_env.specs.Loads.{LoadsProject, IsShellOf}
use Rattle.just_exec.specs.Refusals.{error_of_env}
use Rattle.just_exec.specs.declared.error.Error.{Error}
use Rattle.just_exec.specs.declared.error.Error.TheVariants as error
use Rattle.just_cli_plan.specs.Own.{OrMemory, is_uncaptured, IsOwn}
use Rattle.just_cli_plan.specs.Pairs.{LoadsPairs, BeginsLoading, Runs, Leaves, ErrorLeaves, entries_of}
use Rattle.just_cli_plan.specs.declared.wanted.Wanted.{Wanted}

-- a refusal of pairs has the entry of its call
same_entries : (path : List ℕ) (f : EnvError) → env_entries path f ≡ entries_of path (error_of_env f)
same_entries path env.DotenvRequired = refl
same_entries path (env.Dotenv file line) = refl
same_entries path env.DotenvArgumentsRequireLists = refl
same_entries path (env.DotenvCommand command (output.Code code)) = refl
same_entries path (env.DotenvCommand command (output.Io io)) = refl
same_entries path (env.DotenvCommand command (output.Signal number)) = refl
same_entries path (env.DotenvCommand command output.Unknown) = refl
same_entries path (env.DotenvCommand command output.Utf8) = refl
same_entries path (env.Io io file) = refl
same_entries path env.NoMemory = refl

-- and leaves the same world
same_world : (old new : Option World) (f : EnvError) → env_leaves old new f → ErrorLeaves old new (error_of_env f)
same_world old new env.DotenvRequired left = left
same_world old new (env.Dotenv file line) left = left
same_world old new env.DotenvArgumentsRequireLists left = left
same_world old new (env.DotenvCommand command (output.Code code)) left = left
same_world old new (env.DotenvCommand command (output.Io io)) left = left
same_world old new (env.DotenvCommand command (output.Signal number)) left = left
same_world old new (env.DotenvCommand command output.Unknown) left = left
same_world old new (env.DotenvCommand command output.Utf8) left = left
same_world old new (env.Io io file) left = left
same_world old new env.NoMemory left = left

-- the entry that stands last in a record is one
no_end : (xs : List Entry) (x : Entry) → [] ≡ xs ++ x ∷ [] → ⊥
no_end [] x is = let no : ⊥ = cc in no
no_end (y ∷ xs) x is = let no : ⊥ = cc in no

one_last : (xs ys : List Entry) (x y : Entry) → xs ++ x ∷ [] ≡ ys ++ y ∷ [] → x ≡ y
one_last [] [] x y is = let whole : x ∷ [] ≡ y ∷ [] = is in cc
one_last [] (z ∷ ys) x y is = let whole : x ∷ [] ≡ z ∷ (ys ++ y ∷ []) = is in let rests : [] ≡ ys ++ y ∷ [] = cc in absurd (no_end ys y rests)
one_last (z ∷ xs) [] x y is = let whole : z ∷ (xs ++ x ∷ []) ≡ y ∷ [] = is in let rests : [] ≡ xs ++ x ∷ [] = cc in absurd (no_end xs x rests)
one_last (v ∷ xs) (w ∷ ys) x y is = let whole : v ∷ (xs ++ x ∷ []) ≡ w ∷ (ys ++ y ∷ []) = is in let rests : xs ++ x ∷ [] ≡ ys ++ y ∷ [] = cc in one_last xs ys x y rests

-- so two programs of which that of a refused child is told are one
same_program : (one other : List ℕ) (f : EnvError) (middle late : List Entry) → middle ++ env_entries one f ≡ late ++ env_entries other f → env_entries one f ≡ env_entries other f
same_program one other (env.DotenvCommand command (output.Io (fault.Missed m))) middle late same =
    ap (λ (x : Entry). x ∷ []) (one_last middle late (entry.Missed one m) (entry.Missed other m) same)
same_program one other (env.DotenvCommand command (output.Io (fault.Failed c))) middle late same = refl
same_program one other (env.DotenvCommand command (output.Io fault.NoMemory)) middle late same = refl
same_program one other (env.DotenvCommand command (output.Code code)) middle late same = refl
same_program one other (env.DotenvCommand command (output.Signal number)) middle late same = refl
same_program one other (env.DotenvCommand command output.Unknown) middle late same = refl
same_program one other (env.DotenvCommand command output.Utf8) middle late same = refl
same_program one other env.DotenvRequired middle late same = refl
same_program one other (env.Dotenv file line) middle late same = refl
same_program one other env.DotenvArgumentsRequireLists middle late same = refl
same_program one other (env.Io io file) middle late same = refl
same_program one other env.NoMemory middle late same = refl

module _ (before after : Moment) (wanted : Wanted) (environ : Environ) (j : Justfile) where
  -- the programs of the shells of its modules
  abbrev Shells : List ℕ → Type 0
  Shells = IsShellOf wanted.flags j

  abbrev Loads : List Capture → Result (List DotenvOf) EnvError → Type 0
  Loads cs r = LoadsProject before.world wanted.dotenv wanted.flags environ.pairs j cs r

  -- the pairs
  pub pairs_loaded : (pairs : List DotenvOf) → RunsEnv Loads (BeginsLoading before.world wanted environ j) before after (Ok pairs)
      → Runs (LoadsPairs before.world wanted environ j) (BeginsLoading before.world wanted environ j) Shells before after (Ok pairs)
  pairs_loaded pairs runs = runs

  why : (cs : List Capture) (f : EnvError) (e : Error) → e ≡ error_of_env f → (f ≡ env.NoMemory) ⊎ Loads cs (Err f) → OrMemory (λ x. LoadsPairs before.world wanted environ j cs (Err x)) e
  why cs f e is (inl wants) = inl (is ∙ ap (λ x. error_of_env x) wants)
  why cs f e is (inr loads) = inr (f, loads, is)

  -- or why there are none
  pub pairs_refused : (f : EnvError) (e : Error) → e ≡ error_of_env f
      → RunsEnv {A = List DotenvOf} Loads (BeginsLoading before.world wanted environ j) before after (Err f) → EndsBy {A = List DotenvOf} Shells after.entries (Err f)
      → Runs {A = List DotenvOf} (LoadsPairs before.world wanted environ j) (BeginsLoading before.world wanted environ j) Shells before after (Err e)
  pairs_refused f e is (cs, answer, (middle, path, gains, grew), left, begun) (program, shells, late, ends) = (
    cs,
    why cs f e is answer,
    (
      middle,
      program,
      shells,
      gains,
      grew ∙ ap (λ es. middle ++ es) (same_program path program f middle late (sym grew ∙ ends) ∙ (same_entries program f ∙ sym (ap (λ x. entries_of program x) is))),
    ),
    subst (λ x. ErrorLeaves (told_behind before.world cs) after.world x) (sym is) (same_world (told_behind before.world cs) after.world f left),
    begun,
  )

-- ---- what the world determines

error_world : (old new : Option World) (e : Error) → is_uncaptured e ≡ false → ErrorLeaves old new e → new ≡ old
error_world old new (error.DotenvCommand command (output.Io io)) own left = absurd (true≢false own)
error_world old new (error.ChooserInvoke shell arguments chooser io) own left = absurd (true≢false own)
error_world old new (error.ChooserRead chooser io) own left = absurd (true≢false own)
error_world old new (error.ChooserWrite chooser io) own left = absurd (true≢false own)
error_world old new _ own left = left

-- behind an answer that is its own the world is told that is behind the last child
pub own_world : {A : Type 0} (old new : Option World) (cs : List Capture) (r : Result A Error) → IsOwn r → Leaves old cs new r → new ≡ told_behind old cs
own_world old new cs (Ok x) own left = left
own_world old new cs (Err e) own left = error_world (told_behind old cs) new e own.2 left
