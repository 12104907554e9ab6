-- What loading a project leaves in the record: misses, and the entry of the call for which it is refused.
use Rattle.std.proofs.Common.{◌≡◌, ◌++◌, ◌⊎◌, inl, inr, ℕ, true, List, [], ◌∷◌, Option, Result, Err, refl, sym, ◌∙◌, ap, subst, append_assoc}
use Rattle.just_host_record.specs.World.{World}
use Rattle.just_host_record.specs.declared.entry.Entry.{Entry}
use Rattle.just_lang_types.specs.declared.project.LangError.{LangError}
use Rattle.just_lang_types.specs.declared.project.LangError.TheVariants as lang
use Rattle.just_lang_types.specs.declared.source.Source.{Source}
use Rattle.just_env.specs.declared.search_error.SearchError.{SearchError}
use Rattle.just_env.specs.declared.search_error.SearchError.TheVariants as search
use Rattle.just_env.specs.Answers.{Gains, entries_of as search_entries}
use Rattle.just_search_load.specs.Loads.{Loads}
use Rattle.just_exec.specs.Refusals.{error_of_lang, error_of_search}
use Rattle.just_exec.specs.declared.error.Error.{Error}
use Rattle.just_cli_children.specs.Faults.{entries_of}
use Rattle.just_cli_plan.specs.Own.{OrMemory}
use Rattle.just_cli.specs.Preparing.{EndsWith}
use Rattle.just_cli.proofs.PlainSearch.{is_plain}

-- a broken rule has no entry
no_entries : (l : LangError) → entries_of (error_of_lang l) ≡ []
no_entries lang.NoMemory = refl
no_entries _ = refl

-- a refusal of a search has the entry of its call
pub same_entries : (f : SearchError) → is_plain f ≡ true → entries_of (error_of_search f) ≡ search_entries f
same_entries (search.StdinIo io) plain = absurd (cc)
same_entries (search.TempdirIo io) plain = absurd (cc)
same_entries (search.Lang l) plain = no_entries l
same_entries _ plain = refl

pub ends_load : (old new : List Entry) (f : SearchError) (e : Error) → is_plain f ≡ true → Gains {A = Unit {0}} old new (Err f) → e ≡ error_of_search f → (es : List Entry) × (new ≡ old ++ es) × EndsWith [] e es
ends_load old new f e plain gains is = (
  gains.1.0 ++ entries_of e,
  gains.2 ∙ (ap (λ es. es ++ search_entries f) gains.1.1 ∙ (append_assoc old gains.1.0 (search_entries f) ∙ ap (λ es. old ++ (gains.1.0 ++ es)) (sym (ap (λ x. entries_of x) is ∙ same_entries f plain)))),
  (gains.1.0, gains.1.2, refl),
)

-- ---- the project of a justfile

-- what is loaded from the path of a justfile, behind no source
module _ (told : Option World) (environ : List (List ℕ × List ℕ)) (before : List Source) (root : List ℕ) (nothing : before ≡ []) where
  pub loads_here : (r : Result (List Source) SearchError) → Loads told environ before (root ∷ []) r → Loads told environ [] (root ∷ []) r
  loads_here r loads = subst (λ (sources : List Source). Loads told environ sources (root ∷ []) r) nothing loads

  pub load_refused_by : (f : SearchError) (e : Error) → (f ≡ search.NoMemory) ⊎ Loads told environ before (root ∷ []) (Err f) → e ≡ error_of_search f
      → OrMemory (λ x. (g : SearchError) × Loads told environ [] (root ∷ []) (Err g) × (x ≡ error_of_search g)) e
  load_refused_by f e (inl wants) is = inl (is ∙ ap (λ g. error_of_search g) wants)
  load_refused_by f e (inr loads) is = inr (f, loads_here (Err f) loads, is)
