-- A run that only shows its commands runs no child for dotenv pairs.
use Rattle.std.proofs.Common.{◌≡◌, ◌++◌, inl, inr, ℕ, Bool, true, false, true≢false, List, [], ◌∷◌, Result, Ok, Err, refl, sym, ◌∙◌, ap, subst}
use Rattle.std.specs.Prelude.{◌&&◌, ◌||◌, not, Option, if◌then◌else◌}
use Rattle.just_host_record.specs.World.{World}
use Rattle.just_dotenv.specs.Meaning.{Pairs}
use Rattle.just_lang_types.specs.declared.project.Justfile.{Justfile}
use Rattle.just_lang_types.specs.declared.scope.DotenvOf.{DotenvOf}
use Rattle.just_lang_types.specs.Modules.{settings_of}
use Rattle.just_exec_work.specs.declared.run_flags.RunFlags.{RunFlags}
use Rattle.just_env.specs.declared.ask.DotenvAsk.{DotenvAsk}
use Rattle.just_env.specs.declared.ask.Sources.{Sources}
use Rattle.just_env.specs.declared.ask.Sources.TheVariants as sources
use Rattle.just_env.specs.declared.env_error.EnvError.{EnvError}
use Rattle.just_env.specs.declared.env_error.EnvError.TheVariants as error
use Rattle.just_env.specs.Agree.{tells_uncaptured, IsUnrun}
use Rattle.just_env.specs.Asked.{is_any, commands_of, has_several, has_flag, has_given, sources_of}
use Rattle.just_env.specs.Captures.{Capture}
use Rattle.just_env.specs.Loads.{LoadsFrom, LoadsModules, LoadsProject, BeginsModules, BeginsProject, Following, following, before_others, folder_of}
use Rattle.just_env.proofs.Alone.{pairs_reads}

-- ---- from where pairs come

-- without commands they come from files, or there are none
abbrev FromFiles : Bool → Bool → Result Sources EnvError
FromFiles several files = if several then Err error.DotenvArgumentsRequireLists else (if files then Ok sources.Files else Ok sources.Nothing)

abbrev From : Bool → Bool → Bool → Bool → Bool → Result Sources EnvError
From load commands dry several files = if not load then Ok sources.Nothing else (if commands then (if dry then Ok sources.Nothing else Ok sources.Commands) else FromFiles several files)

no_commands : (load commands dry several files : Bool) → dry ≡ true → From load commands dry several files ≡ Ok sources.Commands → ⊥
no_commands false commands dry several files so is = let no : ⊥ = cc in no
no_commands true true true several files so is = let no : ⊥ = cc in no
no_commands true true false several files so is = let no : ⊥ = cc in no
no_commands true false dry true files so is = let no : ⊥ = cc in no
no_commands true false dry false true so is = let no : ⊥ = cc in no
no_commands true false dry false false so is = let no : ⊥ = cc in no

-- a refusal before anything is run tells of no child
refused_quietly : (load commands dry several files : Bool) (e : EnvError) → From load commands dry several files ≡ Err e → tells_uncaptured e ≡ false
refused_quietly false commands dry several files e is = absurd (let no : ⊥ = cc in no)
refused_quietly true true true several files e is = absurd (let no : ⊥ = cc in no)
refused_quietly true true false several files e is = absurd (let no : ⊥ = cc in no)
refused_quietly true false dry true files e is = let one : error.DotenvArgumentsRequireLists ≡ e = cc in ap (λ x. tells_uncaptured x) (sym one)
refused_quietly true false dry false true e is = absurd (let no : ⊥ = cc in no)
refused_quietly true false dry false false e is = absurd (let no : ⊥ = cc in no)

-- ---- modules

module _ (ask : DotenvAsk) (flags : RunFlags) (environ : Pairs) (dry : ask.dry_run ≡ true) where
  from_none : (told : Option World) (folder : List ℕ) (j : Justfile) (x : Result Sources EnvError) → sources_of ask j ≡ x → (cs : List Capture) (r : Result Pairs EnvError) → LoadsFrom told ask flags environ folder j x cs r → (cs ≡ []) × (IsUnrun r → ⊥)
  from_none told folder j (Ok sources.Nothing) is cs r p = (p.0, λ lost. subst (λ (z : Result Pairs EnvError). IsUnrun z) p.1 lost)
  from_none told folder j (Ok sources.Files) is cs r p = (p.0, λ lost. pairs_reads told environ ask folder (settings_of j) r p.1 lost)
  from_none told folder j (Ok sources.Commands) is cs r p = absurd (no_commands ask.load (is_any (commands_of ask j)) ask.dry_run (has_several ask && not (settings_of j).lists) (has_flag (settings_of j) || has_given ask (settings_of j)) dry is)
  from_none told folder j (Err e) is cs r p = (p.0, λ lost. true≢false (sym (subst (λ (z : Result Pairs EnvError). IsUnrun z) p.1 lost) ∙ refused_quietly ask.load (is_any (commands_of ask j)) ask.dry_run (has_several ask && not (settings_of j).lists) (has_flag (settings_of j) || has_given ask (settings_of j)) e is))

  unrun_rest : (one : DotenvOf) (r : Result (List DotenvOf) EnvError) → IsUnrun (before_others one r) → IsUnrun r
  unrun_rest one (Ok ds) lost = lost
  unrun_rest one (Err e) lost = lost

  modules_none : (told : Option World) (left : Following) (cs : List Capture) (r : Result (List DotenvOf) EnvError) → LoadsModules ask flags environ told left cs r → (cs ≡ []) × (IsUnrun r → ⊥)
  modules_none told left cs r (LoadsModules.none t) = (refl, λ lost. lost)
  modules_none told left cs r (LoadsModules.refused t j before others es e p) = from_none t (folder_of flags.folder j) j (sources_of ask j) refl es (Err e) p
  modules_none told left cs r (LoadsModules.more t j before own others es ds x p rest) =
      let first = from_none t (folder_of flags.folder j) j (sources_of ask j) refl es (Ok own) p in
      let second = modules_none _ _ ds x rest in
      (ap (λ (l : List Capture). l ++ ds) first.0 ∙ second.0, λ lost. second.1 (unrun_rest _ x lost))

  pub loads_none : (told : Option World) (j : Justfile) (cs : List Capture) (r : Result (List DotenvOf) EnvError) → LoadsProject told ask flags environ j cs r → (cs ≡ []) × (IsUnrun r → ⊥)
  loads_none told j cs r loads = modules_none told (following [] (j ∷ [])) cs r loads

  -- nor was one begun
  unbegun : (told : Option World) (left : Following) (cs : List Capture) → BeginsModules ask flags environ told left cs → cs ≡ []
  unbegun told left cs (BeginsModules.nothing_more t l) = refl
  unbegun told left cs (BeginsModules.the_last t j before others es (inl none)) = none
  unbegun told left cs (BeginsModules.the_last t j before others es (inr (is, begins))) = absurd (no_commands ask.load (is_any (commands_of ask j)) ask.dry_run (has_several ask && not (settings_of j).lists) (has_flag (settings_of j) || has_given ask (settings_of j)) dry is)
  unbegun told left cs (BeginsModules.one_before t j before own others es ds p rest) =
      let first = from_none t (folder_of flags.folder j) j (sources_of ask j) refl es (Ok own) p in
      ap (λ (l : List Capture). l ++ ds) first.0 ∙ unbegun _ _ ds rest

  pub begins_none : (told : Option World) (j : Justfile) (cs : List Capture) → BeginsProject told ask flags environ j cs → cs ≡ []
  begins_none told j cs begins = unbegun told (following [] (j ∷ [])) cs begins
