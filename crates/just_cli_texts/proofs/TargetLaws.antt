-- What commands print of what words lead to, from what was printed, or refused.
use Rattle.std.proofs.Common.{◌≡◌, ◌≢◌, ◌⊎◌, inl, inr, ℕ, List, [], Option, Some, None, Ok, Err, unwrap_or, refl, ap, ◌∙◌, subst}
use Rattle.just_lang_types.specs.declared.project.LangError.{LangError}
use Rattle.just_lang_types.specs.declared.project.LangError.TheVariants as lang
use Rattle.just_config.specs.declared.config.Config.{Config}
use Rattle.just_config.specs.ModulePaths.{module_path}
use Rattle.just_print_entries.specs.declared.options.ListOptions.{ListOptions}
use Rattle.just_print_commands.specs.declared.error.ListTextError.{ListTextError}
use Rattle.just_print_commands.specs.declared.error.ListTextError.TheVariants as list_error
use Rattle.just_print_commands.specs.declared.error.ShowError.{ShowError}
use Rattle.just_print_commands.specs.declared.error.ShowError.TheVariants as show_error
use Rattle.just_print_commands.specs.Projects.{Parts}
use Rattle.just_print_commands.specs.Refusals.{IsUnlisted, IsUnshown}
use Rattle.just_print_commands.specs.Texts.{IsListOf, IsShownOf, IsUsageOf}
use Rattle.just_exec.specs.Refusals.{error_of_lang}
use Rattle.just_exec.specs.declared.error.Error.{Error}
use Rattle.just_exec.specs.declared.error.Error.TheVariants as error
use Rattle.just_cli_plan.specs.Own.{OrMemory}
use Rattle.just_cli_texts.specs.ListOptions.{AreOptionsOf}
use Rattle.just_cli_texts.specs.Targets.{names_of, error_of_list, error_of_show, UnshownBy, Lists, Shows, Uses}

-- an error of a project is want of memory or isn't
lang_known : (e : LangError) → (error_of_lang e ≡ error.NoMemory) ⊎ ((error_of_lang e ≢ error.NoMemory) × (e ≢ lang.NoMemory))
lang_known lang.NoMemory = inl refl
lang_known _ = inr (λ is. let no : ⊥ = cc in no, λ is. let no : ⊥ = cc in no)

-- ---- names

pub path_named : (words names : List (List ℕ)) → Some names ≡ module_path words → names ≡ names_of words
path_named words names is = ap (λ (o : Option (List (List ℕ))). unwrap_or o []) is

pub path_unnamed : (words names : List (List ℕ)) → None ≡ module_path words → names ≡ [] → names ≡ names_of words
path_unnamed words names none is = is ∙ ap (λ (o : Option (List (List ℕ))). unwrap_or o []) none

-- ---- listings

module _ (c : Config) (p : Parts) (o : ListOptions) (names : List (List ℕ)) (are : AreOptionsOf c o) where
  pub listed : (text other : List ℕ) → IsListOf p o names other → text ≡ other → Lists c p names (Ok text)
  listed text other is same = (o, are, rw same is)

  unlisted_by : (x : ListTextError) → IsUnlisted p o names x → (error_of_list x ≡ error.NoMemory) ⊎ (error_of_list x ≢ error.NoMemory) → OrMemory (λ e. Lists c p names (Err e)) (error_of_list x)
  unlisted_by x why (inl wants) = inl wants
  unlisted_by x why (inr known) = inr (o, are, record { why = x; unlisted = why; error_is = refl; known = known })

  known_list : (x : ListTextError) → (error_of_list x ≡ error.NoMemory) ⊎ (error_of_list x ≢ error.NoMemory)
  known_list (list_error.Path e) = elim (lang_known e) [ inl wants ↦ inl wants | inr known ↦ inr known.0 ]
  known_list (list_error.UnknownGroup group) = inr (λ is. let no : ⊥ = cc in no)
  known_list list_error.NoMemory = inl refl

  pub unlisted : (x : ListTextError) (e : Error) → IsUnlisted p o names x → e ≡ error_of_list x → OrMemory (λ f. Lists c p names (Err f)) e
  unlisted x e why is = rw is (unlisted_by x why (known_list x))

-- ---- recipes

pub shown_so : (c : Config) (p : Parts) (names : List (List ℕ)) (given : Option (List ℕ)) (text other : List ℕ) → IsShownOf p given names other → given ≡ c.indentation → text ≡ other → Shows c p names (Ok text)
shown_so c p names given text other is at same = subst (λ (g : Option (List ℕ)). IsShownOf p g names text) at (rw same is)

pub used_so : (p : Parts) (names : List (List ℕ)) (text other : List ℕ) → IsUsageOf p names other → text ≡ other → Uses p names (Ok text)
used_so p names text other is same = rw same is

module _ (p : Parts) (name : List ℕ) (names : List (List ℕ)) where
  known_show : (x : ShowError) → (error_of_show name x ≡ error.NoMemory) ⊎ (error_of_show name x ≢ error.NoMemory)
  known_show show_error.Required = inr (λ is. let no : ⊥ = cc in no)
  known_show (show_error.Path e) = elim (lang_known e) [ inl wants ↦ inl wants | inr known ↦ inr known.0 ]
  known_show show_error.NoMemory = inl refl

  unshown_by : (x : ShowError) → IsUnshown p names x → (error_of_show name x ≡ error.NoMemory) ⊎ (error_of_show name x ≢ error.NoMemory) → OrMemory (UnshownBy p name names) (error_of_show name x)
  unshown_by x why (inl wants) = inl wants
  unshown_by x why (inr known) = inr (record { why = x; unshown = why; error_is = refl; known = known })

  pub unshown : (x : ShowError) (e : Error) → IsUnshown p names x → OrMemory (λ f. f ≡ error_of_show name x) e → OrMemory (UnshownBy p name names) e
  unshown x e why (inl wants) = inl wants
  unshown x e why (inr is) = rw is (unshown_by x why (known_show x))
