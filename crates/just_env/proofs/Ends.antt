-- The program of a refused child, by the entry that stands last in a record.
use Rattle.std.proofs.Common.{◌≡◌, ◌⊎◌, inl, inr, ℕ, suc, Bool, true, false, true≢false, List, [], ◌∷◌, ◌++◌, reverse, refl, ap, sym, ◌∙◌, subst, arith}
use Rattle.std.specs.Prelude.{Option, Result, Ok, Err, IfErr, IsErrAnd}
use Rattle.std.specs.List.{AllByRecursion, Contains}
use Rattle.std.proofs.lemmas.List.{append-nil, reverse-append}
use Rattle.just_host_record.specs.declared.entry.Entry.{Entry}
use Rattle.just_host_record.specs.declared.entry.HostFault.TheVariants as fault
use Rattle.just_host_record.specs.World.{World}
use Rattle.just_dotenv.specs.Meaning.{Pairs}
use Rattle.just_lang_types.specs.declared.project.Justfile.{Justfile}
use Rattle.just_lang_types.specs.declared.settings.Settings.{Settings}
use Rattle.just_lang_types.specs.Modules.{modules_of}
use Rattle.just_exec_work.specs.declared.run_flags.RunFlags.{RunFlags}
use Rattle.just_env.specs.declared.ask.DotenvAsk.{DotenvAsk}
use Rattle.just_env.specs.declared.env_error.EnvError.{EnvError}
use Rattle.just_env.specs.declared.env_error.EnvError.TheVariants as error
use Rattle.just_env.specs.declared.env_error.OutputError.TheVariants as output
use Rattle.just_env.specs.Agree.{tells_uncaptured}
use Rattle.just_env.specs.DotenvAnswers.{Answers, Gains, EndsBy, entries_of}
use Rattle.just_env.specs.Loads.{FoundPairs, Following, following, shell_program, IsModuleOf, IsShellOf}
use Rattle.just_env.proofs.Alone.{pairs_reads}

-- for want of memory
pub ends_short : {A : Type 0} (P : List ℕ → Type 0) (program : List ℕ) → P program → (new : List Entry) (r : Result A EnvError) → IsErrAnd r (λ e. e ≡ error.NoMemory) → EndsBy P new r
ends_short P program is new (Ok x) memory = absurd memory
ends_short P program is new (Err e) memory = (program, is, new, sym (append-nil new) ∙ ap (λ z. new ++ entries_of program z) (sym memory))

-- an error that tells no entry tells none of any program
unheard_by : (program : List ℕ) (e : EnvError) → entries_of [] e ≡ [] → entries_of program e ≡ []
unheard_by program (error.Io io path) none = none
unheard_by program (error.DotenvCommand command (output.Io (fault.Missed m))) none = absurd (let no : ⊥ = cc in no)
unheard_by program (error.DotenvCommand command (output.Io (fault.Failed c))) none = absurd (let no : ⊥ = cc in no)
unheard_by program (error.DotenvCommand command (output.Io fault.NoMemory)) none = refl
unheard_by program (error.DotenvCommand command (output.Code n)) none = refl
unheard_by program (error.DotenvCommand command (output.Signal n)) none = refl
unheard_by program (error.DotenvCommand command output.Unknown) none = refl
unheard_by program (error.DotenvCommand command output.Utf8) none = refl
unheard_by program error.DotenvRequired none = refl
unheard_by program (error.Dotenv path line) none = refl
unheard_by program error.DotenvArgumentsRequireLists none = refl
unheard_by program error.NoMemory none = refl

pub ends_unheard : {A : Type 0} (P : List ℕ → Type 0) (program : List ℕ) → P program → (new : List Entry) (r : Result A EnvError) → IfErr r (λ e. entries_of [] e ≡ []) → EndsBy P new r
ends_unheard P program is new (Ok x) none = tt
ends_unheard P program is new (Err e) none = (program, is, new, sym (append-nil new) ∙ ap (λ z. new ++ z) (sym (unheard_by program e none)))

-- ---- where files are read

same_entry : (program : List ℕ) (e : EnvError) → tells_uncaptured e ≡ false → entries_of [] e ≡ entries_of program e
same_entry program (error.Io io path) read = refl
same_entry program (error.DotenvCommand command (output.Io io)) read = absurd (true≢false read)
same_entry program (error.DotenvCommand command (output.Code n)) read = refl
same_entry program (error.DotenvCommand command (output.Signal n)) read = refl
same_entry program (error.DotenvCommand command output.Unknown) read = refl
same_entry program (error.DotenvCommand command output.Utf8) read = refl
same_entry program error.DotenvRequired read = refl
same_entry program (error.Dotenv path line) read = refl
same_entry program error.DotenvArgumentsRequireLists read = refl
same_entry program error.NoMemory read = refl

module _ (told : Option World) (ask : DotenvAsk) (environ : Pairs) (folder : List ℕ) (s : Settings) (P : List ℕ → Type 0) (program : List ℕ) (is : P program) (old new : List Entry) where
  found_by : (e : EnvError) (b : Bool) → tells_uncaptured e ≡ b → FoundPairs told ask environ folder s (Err e) → entries_of [] e ≡ entries_of program e
  found_by e true lost found = absurd (pairs_reads told environ ask folder s (Err e) found lost)
  found_by e false read found = same_entry program e read

  entry_of_found : (e : EnvError) → (e ≡ error.NoMemory) ⊎ FoundPairs told ask environ folder s (Err e) → entries_of [] e ≡ entries_of program e
  entry_of_found e (inl memory) = ap (λ x. entries_of [] x) memory ∙ sym (ap (λ x. entries_of program x) memory)
  entry_of_found e (inr found) = found_by e (tells_uncaptured e) refl found

  pub ends_found : (r : Result Pairs EnvError) → Answers (λ x. FoundPairs told ask environ folder s x) r → Gains old new r → EndsBy P new r
  ends_found (Ok pairs) found gains = tt
  ends_found (Err e) found (middle, gained, grew) = (program, is, middle, grew ∙ ap (λ es. middle ++ es) (entry_of_found e found))

-- ---- all modules

-- each module on a stack is one of the project's
abbrev pub AreWithin : Justfile → Following → Type 0
AreWithin root pending = AllByRecursion (λ (p : Justfile × Pairs). IsModuleOf root p.0) pending

within_append : (root : Justfile) (ps qs : Following) → AreWithin root ps → AreWithin root qs → AreWithin root (ps ++ qs)
within_append root [] qs g h = h
within_append root (p ∷ ps) qs g h = (g.0, within_append root ps qs g.1 h)

within_front : (root : Justfile) (ps qs : Following) → AreWithin root (ps ++ qs) → AreWithin root ps
within_front root [] qs h = tt
within_front root (p ∷ ps) qs h = (h.0, within_front root ps qs h.1)

within_back : (root : Justfile) (ps qs : Following) → AreWithin root (ps ++ qs) → AreWithin root qs
within_back root [] qs h = h
within_back root (p ∷ ps) qs h = within_back root ps qs h.1

within_reverse : (root : Justfile) (ps : Following) → AreWithin root ps → AreWithin root (reverse ps)
within_reverse root [] h = tt
within_reverse root (p ∷ ps) h = subst (λ qs. AreWithin root qs) (sym (reverse-append (p ∷ []) ps)) (within_append root (reverse ps) (p ∷ []) (within_reverse root ps h.1) (h.0, tt))

within_following : (root : Justfile) (pairs : Pairs) (js : List Justfile) → ((m : Justfile) → Contains js m → IsModuleOf root m) → AreWithin root (following pairs js)
within_following root pairs [] each = tt
within_following root pairs (j ∷ js) each = (each j (0, omega arith, refl), within_following root pairs js (λ m has. each m (suc has.0, omega (arith, has.1), has.2)))

module _ (root : Justfile) (ps us : Following) (j : Justfile) (before : Pairs) (is : ps ≡ us ++ (j, before) ∷ []) (within : AreWithin root ps) where
  top_within : IsModuleOf root j
  top_within = (within_back root us ((j, before) ∷ []) (subst (λ qs. AreWithin root qs) is within)).0

  -- with those within the last one in its place
  pub next_within : (qs : Following) (pairs : Pairs) → qs ≡ us ++ reverse (following pairs (modules_of j)) → AreWithin root qs
  next_within qs pairs so =
      subst (λ rs. AreWithin root rs) (sym so)
      (within_append root us (reverse (following pairs (modules_of j))) (within_front root us ((j, before) ∷ []) (subst (λ rs. AreWithin root rs) is within))
      (within_reverse root (following pairs (modules_of j)) (within_following root pairs (modules_of j) (λ m has. IsModuleOf.within j m top_within has))))

  pub ends_module : (flags : RunFlags) (new : List Entry) (e : EnvError) → EndsBy {A = Pairs} (λ p. p ≡ shell_program flags j) new (Err e) → EndsBy {A = Pairs} (IsShellOf flags root) new (Err e)
  ends_module flags new e (program, shell_is, middle, grew) = (program, (j, top_within, shell_is), middle, grew)

pub ends_root : {A : Type 0} (flags : RunFlags) (root : Justfile) (new : List Entry) (r : Result A EnvError) → IsErrAnd r (λ e. e ≡ error.NoMemory) → EndsBy (IsShellOf flags root) new r
ends_root flags root new r memory = ends_short (IsShellOf flags root) (shell_program flags root) (root, IsModuleOf.itself, refl) new r memory
