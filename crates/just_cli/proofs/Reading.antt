-- The source of one file, from what the loader answers.
use Rattle.std.proofs.Common.{◌≡◌, ◌++◌, ◌⊎◌, inl, inr, ℕ, true, List, [], ◌∷◌, Option, Some, None, Ok, Err, refl, sym, ◌∙◌, ap}
use Rattle.just_host_record.specs.World.{World}
use Rattle.just_host_record.specs.declared.entry.Entry.{Entry}
use Rattle.just_lang_types.specs.declared.source.Source.{Source}
use Rattle.just_env.specs.declared.search_error.SearchError.{SearchError}
use Rattle.just_env.specs.declared.search_error.SearchError.TheVariants as search
use Rattle.just_env.specs.Answers.{entries_of as search_entries}
use Rattle.just_search_load.specs.Loads.{LoadsOne, source_at}
use Rattle.just_search_load.specs.Numbers.{number_of}
use Rattle.just_search_load.specs.Shown.{ReadsText}
use Rattle.just_exec.specs.Refusals.{error_of_search}
use Rattle.just_exec.specs.declared.error.Error.{Error}
use Rattle.just_cli_children.specs.Faults.{entries_of}
use Rattle.just_cli_plan.specs.Own.{OrMemory}
use Rattle.just_cli.specs.Preparing.{AreMisses, EndsWith}
use Rattle.just_cli.proofs.Loading.{same_entries}
use Rattle.just_cli.proofs.PlainSearch.{is_plain}

-- what one that is loaded leaves
pub read_gains : (old new : List Entry) → new ≡ old ++ [] → (es : List Entry) × (new ≡ old ++ es) × AreMisses es
read_gains old new grew = ([], grew, tt)

module _ (told : Option World) (path : List ℕ) where
  abbrev IsReadTo : List Source → Type 0
  IsReadTo sources = (text : List ℕ) × ReadsText told path (Ok text) × (sources ≡ source_at path text ∷ [])

  -- behind no source stands its own alone
  pub one_source : (before after : List Source) → before ≡ [] → LoadsOne told before path after → IsReadTo after
  one_source before _ nothing (LoadsOne.loaded_before n found) = absurd (let none : Some n ≡ number_of [] path = sym found ∙ ap (λ (l : List Source). number_of l path) nothing in let no : ⊥ = cc in no)
  one_source before _ nothing (LoadsOne.loaded_now text none reads) = (text, reads, ap (λ (l : List Source). l ++ source_at path text ∷ []) nothing)

  -- one that isn't read
  abbrev Unread : List Source → SearchError → Type 0
  Unread before f = (f ≡ search.NoMemory) ⊎ ((number_of before path ≡ None) × ReadsText told path (Err f))

  unread_plain : (before : List Source) (f : SearchError) → Unread before f → is_plain f ≡ true
  unread_plain before f (inl wants) = ap (λ x. is_plain x) wants
  unread_plain before f (inr (none, (io, is, fits))) = ap (λ x. is_plain x) is

  pub no_source : (before : List Source) (old new : List Entry) (f : SearchError) (e : Error) → Unread before f → new ≡ old ++ search_entries f → e ≡ error_of_search f → (es : List Entry) × (new ≡ old ++ es) × EndsWith [] e es
  no_source before old new f e why grew is =
      (entries_of e, grew ∙ ap (λ es. old ++ es) (sym (ap (λ x. entries_of x) is ∙ same_entries f (unread_plain before f why))), ([], tt, refl))

  pub unread_source : (before : List Source) (f : SearchError) (e : Error) → Unread before f → e ≡ error_of_search f → OrMemory (λ x. (g : SearchError) × ReadsText told path (Err g) × (x ≡ error_of_search g)) e
  unread_source before f e (inl wants) is = inl (is ∙ ap (λ g. error_of_search g) wants)
  unread_source before f e (inr (none, reads)) is = inr (f, reads, is)
