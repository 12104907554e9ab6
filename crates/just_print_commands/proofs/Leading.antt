-- What a path leads to, and why it leads nowhere.
use Rattle.std.proofs.Common.{◌≡◌, ◌≢◌, ℕ, List, [], ◌∷◌, ◌++◌, length, Option, Some, None, Ok, Err, sym, ap, ◌∙◌, subst}
use Rattle.std.specs.Prelude.{MatchOption}
use Rattle.just_lang_types.specs.declared.project.Justfile.{Justfile}
use Rattle.just_lang_types.specs.declared.project.LangError.{LangError}
use Rattle.just_lang_types.specs.declared.project.LangError.TheVariants as lang_error
use Rattle.just_lang_types.specs.Modules.{path_of, Located}
use Rattle.just_eval_words.specs.Names.{Target}
use Rattle.just_eval_words.proofs.Commanded.{named_none, named_refused}
use Rattle.just_print_lists.specs.declared.listed.ListedModule.{ListedModule}
use Rattle.just_print_lists.specs.LongUsages.{usage_text}
use Rattle.just_print_entries.specs.declared.lists.ListError.{ListError}
use Rattle.just_print_entries.specs.declared.lists.ListError.TheVariants as listing_error
use Rattle.just_print_entries.specs.declared.options.ListOptions.{ListOptions}
use Rattle.just_print_entries.specs.Listings.{IsListing, unknown_group}
use Rattle.just_print_tree.specs.Told.{ToldRecipe, found_told}
use Rattle.just_print_commands.specs.declared.error.ShowError.{ShowError}
use Rattle.just_print_commands.specs.declared.error.ShowError.TheVariants as show_error
use Rattle.just_print_commands.specs.declared.error.ListTextError.{ListTextError}
use Rattle.just_print_commands.specs.declared.error.ListTextError.TheVariants as list_error
use Rattle.just_print_commands.specs.Places.{listed_at}
use Rattle.just_print_commands.specs.Projects.{Parts}
use Rattle.just_print_commands.specs.Texts.{inner_of, named_of, alias_text, written_text, IsListedAt, IsListOf, IsLineAt, IsFound, IsShownOf, IsUsageOf}
use Rattle.just_print_commands.specs.Refusals.{IsUnshown, IsUnlisted, error_of_listing}

module _ (p : Parts) (names : List (List ℕ)) where
  -- ---- why no recipe is shown

  pub unshown_path : (refused : LangError) (e : ShowError) → e ≡ show_error.Path refused → (refused ≢ lang_error.NoMemory → named_of p names ≡ Err refused) → IsUnshown p names e
  unshown_path refused e is h = subst (λ (x : ShowError). IsUnshown p names x) (sym is) h

  pub unshown_memory : (e : ShowError) → e ≡ show_error.NoMemory → IsUnshown p names e
  unshown_memory e is = subst (λ (x : ShowError). IsUnshown p names x) (sym is) tt

  pub unshown_none : length names ≡ 0 → IsUnshown p names show_error.Required
  unshown_none none = (p.root, named_none p.modules names p.root none)

  pub unshown_module : (m : Justfile) → named_of p names ≡ Ok (Target.to_module m) → IsUnshown p names show_error.Required
  unshown_module m h = (m, h)

  -- the names in front of the last one lead nowhere
  pub unshown_front : (front : List (List ℕ)) (last : List ℕ) (refused : LangError) (e : ShowError) → names ≡ front ++ last ∷ [] → e ≡ show_error.Path refused
      → (refused ≢ lang_error.NoMemory → inner_of p front ≡ Err refused) → IsUnshown p names e
  unshown_front front last refused e is told h = unshown_path refused e told (λ no. named_refused p.modules names front last p.root refused is (h no))

  -- ---- recipes

  pub line_so : (last line : List ℕ) (inner : Justfile) → inner_of p names ≡ Ok inner → line ≡ alias_text p.layout inner last → IsLineAt p names last line
  line_so last line inner leads is = record { inner = inner; leads = leads; line_is = is }

  pub found_so : (front : List (List ℕ)) (last line : List ℕ) (l : Located) → named_of p names ≡ Ok (Target.to_recipe l) → names ≡ front ++ last ∷ [] → IsLineAt p front last line → IsFound p names l line
  found_so front last line l recipe split named = record { recipe = recipe; front = front; last = last; split = split; named = named }

  pub shown_so : (given : Option (List ℕ)) (l : Located) (line text whole : List ℕ) (o : Option ToldRecipe) (x : ToldRecipe) → IsFound p names l line → o ≡ found_told p.recipes l.recipe.path → o ≡ Some x
      → text ≡ written_text given l.parent x → whole ≡ line ++ text → IsShownOf p given names whole
  shown_so given l line text whole o x found there is text_is e = record {
    located = l;
    line = line;
    found = found;
    told = x;
    written = sym there ∙ is;
    text_is = e ∙ ap (λ (t : List ℕ). line ++ t) text_is;
  }

  pub usage_so : (l : Located) (line text whole : List ℕ) → IsFound p names l line → text ≡ usage_text names l.recipe.parameters → whole ≡ line ++ text → IsUsageOf p names whole
  usage_so l line text whole found text_is e = record { located = l; line = line; found = found; text_is = e ∙ ap (λ (t : List ℕ). line ++ t) text_is }

  -- ---- a listing

  pub listed_there : (inner : Justfile) (o : Option ListedModule) (l : ListedModule) → inner_of p names ≡ Ok inner → o ≡ listed_at (path_of inner).components p.tree → o ≡ Some l → IsListedAt p names l
  listed_there inner o l leads there is = record { inner = inner; leads = leads; shown = sym there ∙ is }

  module _ (o : ListOptions) where
    pub listed_so : (l : ListedModule) (text : List ℕ) → IsListedAt p names l → unknown_group o.groups.now l ≡ None → IsListing o l text → IsListOf p o names text
    listed_so l text there known listing = record { listed = l; there = there; known = known; listing = listing }

    pub unlisted_path : (refused : LangError) (e : ListTextError) → e ≡ list_error.Path refused → (refused ≢ lang_error.NoMemory → inner_of p names ≡ Err refused) → IsUnlisted p o names e
    unlisted_path refused e is h = subst (λ (x : ListTextError). IsUnlisted p o names x) (sym is) h

    group_is : (u : Option (List ℕ)) (group : List ℕ) → MatchOption u ⊥ (λ g. listing_error.UnknownGroup group ≡ listing_error.UnknownGroup g) → u ≡ Some group
    group_is None group h = absurd h
    group_is (Some g) group h = let same : group ≡ g = cc in ap Some (sym same)

    unlisted : (l : ListedModule) (refused : ListError) → IsListedAt p names l
        → (refused ≢ listing_error.NoMemory → MatchOption (unknown_group o.groups.now l) ⊥ (λ g. refused ≡ listing_error.UnknownGroup g)) → IsUnlisted p o names (error_of_listing refused)
    unlisted l (listing_error.UnknownGroup group) there h = (l, there, group_is (unknown_group o.groups.now l) group (h (λ same. let no : ⊥ = cc in no)))
    unlisted l listing_error.NoMemory there h = tt

    pub unlisted_by : (l : ListedModule) (refused : ListError) (e : ListTextError) → IsListedAt p names l → e ≡ error_of_listing refused
        → (refused ≢ listing_error.NoMemory → MatchOption (unknown_group o.groups.now l) ⊥ (λ g. refused ≡ listing_error.UnknownGroup g)) → IsUnlisted p o names e
    unlisted_by l refused e there is h = subst (λ (x : ListTextError). IsUnlisted p o names x) (sym is) (unlisted l refused there h)
